-- Each event of a history on any disk: an entry alike to it may come, and what it leaves stands for the world after it but for bytes.
use Rattle.std.proofs.Common.{◌≡◌, ◌+◌, ℕ, List, Bool, true, false, inl, inr, refl, sym, ◌∙◌, ap, subst}
use Rattle.std.specs.Prelude.{if◌then◌else◌}
use Rattle.hsm_types.specs.declared.calls.Call.TheVariants.{Read}
use Rattle.hsm_types.specs.declared.calls.Reply.{Reply}
use Rattle.hsm_types.specs.declared.calls.Reply.TheVariants.{Data}
use Rattle.hsm_types.specs.declared.keys.FileKey.{FileKey}
use Rattle.hsm_types.specs.declared.stores.Superblock.{Superblock}
use Rattle.plain_model.specs.declared.entries.Entry.{Entry}
use Rattle.plain_model.specs.declared.entries.Actor.{Actor}
use Rattle.plain_model.specs.declared.entries.Actor.TheVariants.{Caller, Session, Store}
use Rattle.plain_model.specs.declared.entries.Action.{Action}
use Rattle.plain_model.specs.declared.entries.Action.TheVariants.{Issue, Resume, Dm, Commit}
use Rattle.plain_model.specs.declared.entries.Answer.{Answer}
use Rattle.plain_model.specs.declared.entries.Answer.TheVariants.{Call as Replied}
use Rattle.plain_model.specs.Exact.{IsOwn, IsAnswerSeen, left_answered, left_by}
use Rattle.plain_model.specs.Faults.{is_fault, IsFault}
use Rattle.plain_model.specs.Ledger.{Meant, Means}
use Rattle.plain_model.specs.Seen.{blanked}
use Rattle.plain_model.specs.Services.{dm_judged}
use Rattle.plain_model.specs.Side.{Side, sides_of, side_given}
use Rattle.plain_model.specs.Stamps.{accesses}
use Rattle.plain_model.specs.Stands.{InOrder}
use Rattle.plain_model.specs.State.{Held, State, no_flags, noted}
use Rattle.plain_model.specs.Step.{World, meant_for, replied, MayAnswer, MayGive, given, after}
use Rattle.plain_model.specs.Verdict.{reply_to}
use Rattle.plain_model.proofs.AnyDisk.{seen_faultless}
use Rattle.plain_model.proofs.Faultless.{fault_is}
use Rattle.plain_model.proofs.Stamping.{fault_accesses}
use Rattle.seen_history.specs.Alike.{blank_action, blank_answer, blank_entry}
use Rattle.seen_history.specs.Outlines.{StandsButBytes}
use Rattle.seen_history.proofs.Calling.{call_step}
use Rattle.seen_history.proofs.Leaving.{Leaves, SameButBytes, same_world, stands_same}
use Rattle.seen_history.proofs.Likening.{liken_reply, liken_action, liken_answer, likened, faulty_so, same_fault}
use Rattle.seen_history.proofs.Telling.{tell_step}

-- what a reply leaves goes by no bytes that it tells
replied_same : (W : World) (c : ℕ) (m : Meant) (reply : Reply) → SameButBytes (replied W c m (liken_reply W m reply)) (replied W c m reply)
replied_same W c (Means k (Read name offset len)) (Data bytes) = record { files = refl; last = refl; ledger = refl }
replied_same W c m reply = same_world (replied W c m reply)

module _ (s : Superblock) (st : State) (W : World) where
  -- of the store's own answer over what is seen
  record OwnStep (who : Actor) (what : Action) (answer : Answer) : Type 0 where
    may : InOrder st → MayAnswer s W who (liken_action W what answer) (liken_answer W who what answer)
    same_action : blank_action (liken_action W what answer) (liken_answer W who what answer) ≡ blank_action what answer
    same_answer : blank_answer (liken_action W what answer) (liken_answer W who what answer) ≡ blank_answer what answer
    world : SameButBytes (given W who (liken_action W what answer) (liken_answer W who what answer)) (given W who what answer)
    leaves : Leaves (left_answered s st who what answer) (given W who what answer) (side_given W who what answer (sides_of st.held.files)) (λ k. if accesses W k who what answer then st.number + 1 else st.stamps k)

  -- of any
  pub record EventStep (e : Entry) : Type 0 where
    pub may : InOrder st → MayGive s W e.actor (likened W e).action (likened W e).answer
    pub like : blank_entry (likened W e) ≡ blank_entry e
    pub leaves : Leaves (left_by s st e.actor e.action e.answer) (after W e) (if is_fault e.answer then sides_of st.held.files else side_given W e.actor e.action e.answer (sides_of st.held.files))
        (λ k. if accesses W k e.actor e.action e.answer then st.number + 1 else st.stamps k)
    pub stands : StandsButBytes (left_by s st e.actor e.action e.answer) (after W (likened W e))

  own_step : (seen : Held) → blanked seen ≡ blanked st.held → StandsButBytes st W → (who : Actor) (what : Action) (answer : Answer) → IsOwn s (record st { held = seen }) who what answer → OwnStep who what answer
  own_step seen alike stands (Caller c) (Issue call) answer is =
      let step = call_step s st seen alike W stands c no_flags (Issue call) in
      subst (OwnStep (Caller c) (Issue call)) (sym is.1)
      (record {
        may = step.may;
        same_action = refl;
        same_answer = ap Replied step.like;
        world = replied_same W c (meant_for W c (Issue call)) (reply_to s (record st { held = seen }) c (Issue call));
        leaves = step.leaves;
      })
  own_step seen alike stands (Caller c) Resume answer is =
      let step = call_step s st seen alike W stands c (st.flags c) Resume in
      subst (OwnStep (Caller c) Resume) (sym is.1)
      (record {
        may = step.may;
        same_action = refl;
        same_answer = ap Replied step.like;
        world = replied_same W c (meant_for W c Resume) (reply_to s (record st { held = seen }) c Resume);
        leaves = step.leaves;
      })
  own_step seen alike stands (Session sid) (Dm call) answer is =
      let step = tell_step s st seen alike W stands sid call (dm_judged s (record st { held = seen }) sid call) refl in
      subst (OwnStep (Session sid) (Dm call)) (sym is.1) (record { may = step.may; same_action = step.action; same_answer = step.answer; world = step.world; leaves = step.leaves })
  own_step seen alike stands Store Commit answer is =
      subst (OwnStep Store Commit) (sym is.1)
      (record {
        may = λ ordered. refl;
        same_action = refl;
        same_answer = refl;
        world = same_world W;
        leaves = record { stands = record { files = stands.files; stubs = stands.stubs; newer = stands.newer; ledger = stands.ledger }; beside = refl; stamped = λ k. refl };
      })
  own_step seen alike stands who what answer is = absurd is.0

  -- ---- a fault

  still : StandsButBytes st W → StandsButBytes (noted st) W
  still stands = record { files = stands.files; stubs = stands.stubs; newer = stands.newer; ledger = stands.ledger }

  faulty : (b : Bool) → b ≡ true → (left : State) (V : World) (Y : List Side) (used : FileKey → Bool) → ((k : FileKey) → used k ≡ false) → StandsButBytes st W
      → Leaves (if b then noted st else left) (if b then W else V) (if b then sides_of st.held.files else Y) (λ k. if used k then st.number + 1 else st.stamps k)
  faulty true is left V Y used none stands = record { stands = still stands; beside = refl; stamped = λ k. sym (ap (λ (u : Bool). if u then st.number + 1 else st.stamps k) (none k)) }
  faulty false is left V Y used none stands = cc

  both : (b c : Bool) (n : Bool) → b ≡ n → c ≡ n → (left : State) (V : World) → (n ≡ true → StandsButBytes (noted st) W) → (n ≡ false → StandsButBytes left V) → StandsButBytes (if b then noted st else left) (if c then W else V)
  both true true n is same left V on off = on (sym is)
  both false false n is same left V on off = off (sym is)
  both true false n is same left V on off = cc
  both false true n is same left V on off = cc

  fault_step : (e : Entry) → StandsButBytes st W → IsFault e.actor e.action e.answer → EventStep e
  fault_step e stands is =
      let so = faulty_so W e.actor e.action e.answer is in
      let fault : is_fault e.answer ≡ true = ap is_fault is.1 ∙ fault_is e.action in
      record {
        may = λ ordered. inl (subst (λ (action : Action). IsFault e.actor action (likened W e).answer) (sym so.0) (subst (λ (answer : Answer). IsFault e.actor e.action answer) (sym so.1) is));
        like = λ i. record { actor = e.actor; action = blank_action (so.0 i) (so.1 i); answer = blank_answer (so.0 i) (so.1 i) };
        leaves = faulty (is_fault e.answer) fault (left_answered s st e.actor e.action e.answer) (given W e.actor e.action e.answer) (side_given W e.actor e.action e.answer (sides_of st.held.files))
            (λ k. accesses W k e.actor e.action e.answer) (λ k. ap (accesses W k e.actor e.action) is.1 ∙ fault_accesses s st k W e.actor e.action) stands;
        stands = both (is_fault e.answer) (is_fault (likened W e).answer) true fault (same_fault W e.actor e.action e.answer ∙ fault) (left_answered s st e.actor e.action e.answer)
            (given W e.actor (likened W e).action (likened W e).answer) (λ on. still stands) (λ off. absurd cc);
      }

  -- ---- any event

  pub event_step : (Tells : Type 0) (e : Entry) → StandsButBytes st W → IsAnswerSeen Tells s st e.actor e.action e.answer → EventStep e
  event_step Tells e stands (inl is) = fault_step e stands is
  event_step Tells e stands (inr is) =
      let step : OwnStep e.actor e.action e.answer = own_step is.0 is.1.alike stands e.actor e.action e.answer is.2 in
      let none : is_fault e.answer ≡ false = seen_faultless Tells s st e.actor e.action e.answer is in
      record {
        may = λ ordered. inr (step.may ordered);
        like = λ i. record { actor = e.actor; action = step.same_action i; answer = step.same_answer i };
        leaves = subst (λ (b : Bool). Leaves (if b then noted st else left_answered s st e.actor e.action e.answer) (if b then W else given W e.actor e.action e.answer)
            (if b then sides_of st.held.files else side_given W e.actor e.action e.answer (sides_of st.held.files)) (λ k. if accesses W k e.actor e.action e.answer then st.number + 1 else st.stamps k)) (sym none) step.leaves;
        stands = both (is_fault e.answer) (is_fault (likened W e).answer) false none (same_fault W e.actor e.action e.answer ∙ none) (left_answered s st e.actor e.action e.answer)
            (given W e.actor (likened W e).action (likened W e).answer) (λ on. absurd cc) (λ off. stands_same (left_answered s st e.actor e.action e.answer) _ (given W e.actor e.action e.answer) step.world step.leaves.stands);
      }
