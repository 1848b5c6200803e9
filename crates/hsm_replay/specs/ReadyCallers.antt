-- Whose access may go on, by the entries alone.
use Rattle.std.specs.Prelude.{◌≢◌, ℕ, List, Bool, true, false, None}
use Rattle.hsm_types.specs.declared.calls.Reply.TheVariants.{Blocked, Still}
use Rattle.hsm_types.specs.declared.keys.Token.{Token}
use Rattle.hsm_types.specs.declared.stores.Superblock.{Superblock}
use Rattle.plain_model.specs.Exact.{state_by}
use Rattle.plain_model.specs.State.{State, just_opened}
use Rattle.plain_model.specs.Verdict.{reply_to}
use Rattle.plain_model.specs.declared.entries.Action.TheVariants.{Resume}
use Rattle.plain_model.specs.declared.entries.Entry.{Entry}
use Rattle.dm_service.specs.Tables.{Tables, waiting}
use Rattle.file_store.specs.Stores.{Store as FileStore, superblock_of}
use Rattle.hsm_core.specs.Store.{Store}

-- an access of the caller waits, neither for a token without a response nor kept by the right of another
pub record CanGoOn (s : Superblock) (st : State) (caller : ℕ) : Type 0 where
  pub waits : st.ledger.pending caller ≢ None
  pub still : (t : Token) → reply_to s st caller Resume ≢ Still t
  pub blocked : (t : Token) → reply_to s st caller Resume ≢ Blocked t

-- it may behind these entries, the first of them over that store
abbrev pub MayGoOnBehind : Superblock → State → List Entry → ℕ → Type 0
MayGoOnBehind s first entries caller = CanGoOn s (state_by s first entries) caller

-- whether the store was closed; a closed one tells each access that waits that its disk failed
abbrev pub may_go_on_by : {D : Type 0} → Bool → Tables → FileStore D → List Entry → ℕ → Type 0
may_go_on_by false tables opened = MayGoOnBehind (superblock_of opened) (just_opened opened.meta.number opened.held)
may_go_on_by true tables opened = λ entries caller. waiting tables caller ≢ None

abbrev pub MayGoOn : {D : Type 0} → Store D → List Entry → ℕ → Type 0
MayGoOn s = may_go_on_by s.files.failed s.tables s.opened
