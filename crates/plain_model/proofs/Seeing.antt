-- What an event leaves goes by what was told; after an answer that is the store's own it is what the store leaves.
use Rattle.std.proofs.Common.{◌≡◌, ◌+◌, ℕ, Bool, true, false, Option, Some, None, List, [], ◌∷◌, inl, inr, refl, ◌∙◌, ap, subst}
use Rattle.std.specs.Prelude.{if◌then◌else◌}
use Rattle.hsm_types.specs.declared.keys.Sid.{Sid}
use Rattle.hsm_types.specs.declared.stores.Superblock.{Superblock}
use Rattle.hsm_types.specs.declared.dm.DmCall.{DmCall}
use Rattle.hsm_types.specs.declared.dm.DmCall.TheVariants.{CreateSession}
use Rattle.hsm_types.specs.declared.dm.DmRefusal.{DmRefusal}
use Rattle.hsm_types.specs.declared.dm.DmReply.{DmReply}
use Rattle.hsm_types.specs.declared.dm.DmReply.TheVariants as told
use Rattle.plain_model.specs.declared.entries.Entry.{Entry}
use Rattle.plain_model.specs.declared.entries.Actor.{Actor}
use Rattle.plain_model.specs.declared.entries.Actor.TheVariants.{Session}
use Rattle.plain_model.specs.declared.entries.Action.{Action}
use Rattle.plain_model.specs.declared.entries.Action.TheVariants.{Dm}
use Rattle.plain_model.specs.declared.entries.Answer.{Answer}
use Rattle.plain_model.specs.Effects.{Change, Nothing, OfFile, OfSessions, OfRights, Closes, change_of}
use Rattle.plain_model.specs.Ledger.{Ledger, ledger_told}
use Rattle.plain_model.specs.State.{Held, State, just_opened, noted, changed}
use Rattle.plain_model.specs.Services.{service, dm_judged, dm_reply_where, dm_state_where, dm_reply_to, dm_state_after}
use Rattle.plain_model.specs.Faults.{is_fault}
use Rattle.plain_model.specs.Exact.{IsOwn, IsAnswer, IsAnswerSeen, left_own, left_told, left_answered, left_by, Exact, ExactSeen}
use Rattle.plain_model.specs.Laws.{TellsAll}
use Rattle.plain_model.proofs.Faultless.{fault_is}

-- ---- the store's own answer

-- it isn't told a refusal
told_done : (s : Superblock) (st : State) (sid : Sid) (call : DmCall) → left_told st sid call (service s st sid call).reply ≡ dm_state_where None s st sid call
told_done s st sid (CreateSession old info) = refl
told_done s st sid call = refl

told_where : (why : Option DmRefusal) (s : Superblock) (st : State) (sid : Sid) (call : DmCall) → left_told st sid call (dm_reply_where why s st sid call) ≡ dm_state_where why s st sid call
told_where None s st sid call = told_done s st sid call
told_where (Some why) s st sid call = refl

-- the store's reply to a session's call leaves what the store leaves
pub told_own : (s : Superblock) (st : State) (sid : Sid) (call : DmCall) → left_told st sid call (dm_reply_to s st sid call) ≡ dm_state_after s st sid call
told_own s st sid call = told_where (dm_judged s st sid call) s st sid call

pub left_own_by : (s : Superblock) (st : State) (who : Actor) (what : Action) (answer : Answer) → IsOwn s st who what answer → left_answered s st who what answer ≡ left_own s st who what
left_own_by s st (Session sid) (Dm call) answer is = rw is.1 (told_own s st sid call)
left_own_by s st who what answer is = refl

faulty : (fault : Bool) (st own other : State) → fault ≡ true → (if fault then noted st else own) ≡ (if fault then noted st else other)
faulty true st own other is = refl
faulty false st own other is = cc

-- after an exact answer
pub exact_left : (s : Superblock) (st : State) (who : Actor) (what : Action) (answer : Answer) → IsAnswer s st who what answer
    → left_by s st who what answer ≡ (if is_fault answer then noted st else left_own s st who what)
exact_left s st who what answer (inl is) = faulty (is_fault answer) st (left_answered s st who what answer) (left_own s st who what) (ap is_fault is.1 ∙ fault_is what)
exact_left s st who what answer (inr is) = ap (λ (x : State). if is_fault answer then noted st else x) (left_own_by s st who what answer is)

-- ---- any answer

-- an entry more, which leaves the stamps and the flags
pub record IsApart (st left : State) : Type 0 where
  pub number : left.number ≡ st.number + 1
  pub stamps : left.stamps ≡ st.stamps
  pub flags : left.flags ≡ st.flags

changed_apart : (change : Change) (st : State) (L : Ledger) → IsApart st (record (noted (changed change st)) { ledger = L })
changed_apart Nothing st L = record { number = refl; stamps = refl; flags = refl }
changed_apart (OfFile k effect) st L = record { number = refl; stamps = refl; flags = refl }
changed_apart (OfSessions to) st L = record { number = refl; stamps = refl; flags = refl }
changed_apart (OfRights to) st L = record { number = refl; stamps = refl; flags = refl }
changed_apart (Closes sid token) st L = record { number = refl; stamps = refl; flags = refl }

-- whatever a session was told
pub left_told_apart : (st : State) (sid : Sid) (call : DmCall) (reply : DmReply) → IsApart st (left_told st sid call reply)
left_told_apart st sid call (told.Refused why) = record { number = refl; stamps = refl; flags = refl }
left_told_apart st sid call reply = changed_apart (change_of sid call) st (ledger_told st.ledger call reply)

-- ---- where the disk tells what it holds

answer_told : (s : Superblock) (st : State) (who : Actor) (what : Action) (answer : Answer) → IsAnswerSeen (Unit {0}) s st who what answer → IsAnswer s st who what answer
answer_told s st who what answer (inl is) = inl is
answer_told s st who what answer (inr is) = inr (subst (λ (seen : Held). IsOwn s (record st { held = seen }) who what answer) (is.1.told tt) is.2)

exact_told : (s : Superblock) (st : State) (es : List Entry) → ExactSeen (Unit {0}) s st es → Exact s st es
exact_told s st [] exact = tt
exact_told s st (e ∷ es) exact = (answer_told s st e.actor e.action e.answer exact.0, exact.1, exact_told s (left_by s st e.actor e.action e.answer) es exact.2)

pub tells_all : (s : Superblock) (base : ℕ) (h : Held) (es : List Entry) → TellsAll s base h es
tells_all s base h es run = record { opening = run.opening; exact = exact_told s (just_opened base h) es run.exact }
