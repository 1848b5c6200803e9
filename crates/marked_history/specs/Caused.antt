-- When answers that name a fault of a medium are caused: their session was told that bytes of the parked file are away in that object.
use Rattle.std.specs.Prelude.{◌≡◌, ℕ, List, [], ◌∷◌, ◌++◌, Some, Contains}
use Rattle.hsm_types.specs.declared.dm.DmCall.TheVariants.{Respond, GetAllocInfo}
use Rattle.hsm_types.specs.declared.dm.DmReply.TheVariants.{Done, Alloc}
use Rattle.hsm_types.specs.declared.dm.Response.TheVariants.{Media}
use Rattle.hsm_types.specs.declared.calls.Reply.TheVariants.{Parked}
use Rattle.hsm_types.specs.declared.keys.Handle.{Handle}
use Rattle.hsm_types.specs.declared.keys.Sid.{Sid}
use Rattle.hsm_types.specs.declared.keys.Token.{Token}
use Rattle.hsm_types.specs.declared.media.Fault.{Fault}
use Rattle.hsm_types.specs.declared.stores.Superblock.{Superblock}
use Rattle.hsm_types.specs.declared.stubs.Segment.{Segment}
use Rattle.hsm_types.specs.declared.stubs.Segment.TheVariants.{Offline}
use Rattle.hsm_types.specs.declared.stubs.StubEntry.{StubEntry}
use Rattle.plain_model.specs.declared.entries.Action.{Action}
use Rattle.plain_model.specs.declared.entries.Action.TheVariants.{Dm}
use Rattle.plain_model.specs.declared.entries.Actor.TheVariants.{Caller, Session}
use Rattle.plain_model.specs.declared.entries.Answer.TheVariants.{Call as Replied, Dm as Told}
use Rattle.plain_model.specs.declared.entries.Entry.{Entry}
use Rattle.plain_model.specs.Ledger.{Access}
use Rattle.plain_model.specs.State.{State}
use Rattle.plain_model.specs.Exact.{state_by}
use Rattle.hsm_core.specs.Answers.{entry_of}
use Rattle.marked_history.specs.Served.{IsOf}

-- ---- accesses that were parked

-- the caller's access waits for the token, on the file of the handle
pub record WaitsOn (s : Superblock) (st : State) (caller : ℕ) (t : Token) (h : Handle) : Type 0 where
  pub access : Access
  pub waits : st.ledger.pending caller ≡ Some access
  pub token : access.token ≡ Some t
  pub handle : h ≡ record { fsid = s.fsid; key = access.key }

-- One of the entries is the answer that an access was parked on the token. In the state behind it that access waits, on the file of the handle.
pub record WasParked (s : Superblock) (st : State) (es : List Entry) (t : Token) (h : Handle) : Type 0 where
  pub before : List Entry
  pub caller : ℕ
  pub action : Action
  pub rest : List Entry
  pub parted : es ≡ before ++ entry_of (Caller caller) action (Replied (Parked t)) ∷ rest
  pub waits : WaitsOn s (state_by s st (before ++ entry_of (Caller caller) action (Replied (Parked t)) ∷ [])) caller t h

-- ---- causes

-- After the access was parked on the token the session was told of the segments of its file. One of them is away, in the object of the fault.
pub record IsCausedBy (s : Superblock) (st : State) (es : List Entry) (sid : Sid) (t : Token) (fault : Fault) : Type 0 where
  pub before : List Entry
  pub token : Token
  pub handle : Handle
  pub segments : List Segment
  pub rest : List Entry
  pub entry : StubEntry
  pub parted : es ≡ before ++ entry_of (Session sid) (Dm (GetAllocInfo token handle)) (Told (Alloc segments)) ∷ rest
  pub parked : WasParked s st before t handle
  pub away : Contains segments (Offline entry)
  pub names : IsOf entry fault

-- by the entries before it, each response with a fault of a medium that was done
abbrev pub Caused : Superblock → State → List Entry → Type 0
Caused s st es = (before : List Entry) (sid : Sid) (t : Token) (fault : Fault) (rest : List Entry) → es ≡ before ++ entry_of (Session sid) (Dm (Respond t (Media fault))) (Told Done) ∷ rest → IsCausedBy s st before sid t fault
