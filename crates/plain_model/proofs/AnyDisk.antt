-- What holds of a history on any disk: its answers alone use each token once, and keep the tables in order.
use Rattle.std.proofs.Common.{◌≡◌, ℕ, List, [], ◌∷◌, take, false, inl, inr, sym, subst}
use Rattle.hsm_types.specs.declared.stores.Superblock.{Superblock}
use Rattle.plain_model.specs.declared.entries.Entry.{Entry}
use Rattle.plain_model.specs.declared.entries.Actor.{Actor}
use Rattle.plain_model.specs.declared.entries.Action.{Action}
use Rattle.plain_model.specs.declared.entries.Answer.{Answer}
use Rattle.plain_model.specs.Exact.{IsOwnSeen, IsAnswerSeen, left_by, ExactSeen, state_by}
use Rattle.plain_model.specs.Faults.{is_fault}
use Rattle.plain_model.specs.Laws.{IsRunSeen, SeenIsOrderly}
use Rattle.plain_model.specs.Stands.{InOrder}
use Rattle.plain_model.specs.State.{Held, State, just_opened}
use Rattle.plain_model.proofs.Alike.{left_alike}
use Rattle.plain_model.proofs.Faultless.{is_undone, own_done, own_faultless}
use Rattle.plain_model.proofs.Histories.{ExactSeen-take}
use Rattle.plain_model.proofs.Ledgers.{Moves, event_moves}
use Rattle.plain_model.proofs.Onces.{Runs, run_once}
use Rattle.plain_model.proofs.Orders.{still_ordered, event_ordered, ordered_at_first}

module _ (Tells : Type 0) where
  -- the store's own answer is for no fault and for no want of memory
  pub seen_done : (s : Superblock) (st : State) (who : Actor) (what : Action) (answer : Answer) → IsOwnSeen Tells s st who what answer → is_undone answer ≡ false
  seen_done s st who what answer is = own_done s (record st { held = is.0 }) who what answer is.2

  pub seen_faultless : (s : Superblock) (st : State) (who : Actor) (what : Action) (answer : Answer) → IsOwnSeen Tells s st who what answer → is_fault answer ≡ false
  seen_faultless s st who what answer is = own_faultless s (record st { held = is.0 }) who what answer is.2

  pub seen_ordered : (s : Superblock) (st : State) (e : Entry) → InOrder st → IsAnswerSeen Tells s st e.actor e.action e.answer → InOrder (left_by s st e.actor e.action e.answer)
  seen_ordered s st e ordered (inl is) = event_ordered s st e ordered (inl is)
  seen_ordered s st e ordered (inr is) =
      let over : State = record st { held = is.0 } in
      let left : State = left_by s over e.actor e.action e.answer in
      let kept : InOrder left = event_ordered s over e (still_ordered st is.0 st.stamps st.number st.flags ordered) (inr is.2) in
      subst InOrder (sym (left_alike s st is.0 is.1.alike e.actor e.action e.answer is.2)) (still_ordered left (left_by s st e.actor e.action e.answer).held left.stamps left.number left.flags kept)

  pub seen_moves : (s : Superblock) (st : State) (who : Actor) (what : Action) (answer : Answer) → InOrder st → IsAnswerSeen Tells s st who what answer → Moves st.ledger (left_by s st who what answer).ledger who what answer
  seen_moves s st who what answer ordered (inl is) = event_moves s st who what answer ordered (inl is)
  seen_moves s st who what answer ordered (inr is) =
      subst (λ (left : State). Moves st.ledger left.ledger who what answer) (sym (left_alike s st is.0 is.1.alike who what answer is.2))
      (event_moves s (record st { held = is.0 }) who what answer (still_ordered st is.0 st.stamps st.number st.flags ordered) (inr is.2))

  pub state_seen_ordered : (s : Superblock) (st : State) (es : List Entry) → InOrder st → ExactSeen Tells s st es → InOrder (state_by s st es)
  state_seen_ordered s st [] ordered exact = ordered
  state_seen_ordered s st (e ∷ es) ordered exact = state_seen_ordered s (left_by s st e.actor e.action e.answer) es (seen_ordered s st e ordered exact.0) exact.2

  seen_runs : (s : Superblock) (st : State) (es : List Entry) → InOrder st → ExactSeen Tells s st es → Runs st.ledger es
  seen_runs s st [] ordered exact = tt
  seen_runs s st (e ∷ es) ordered exact =
      let left : State = left_by s st e.actor e.action e.answer in
      (left.ledger, (seen_moves s st e.actor e.action e.answer ordered exact.0, seen_runs s left es (seen_ordered s st e ordered exact.0) exact.2))

  -- a disk that tells less
  less_told : (s : Superblock) (st : State) (who : Actor) (what : Action) (answer : Answer) → IsAnswerSeen Tells s st who what answer → IsAnswerSeen ⊥ s st who what answer
  less_told s st who what answer (inl is) = inl is
  less_told s st who what answer (inr is) = inr (is.0, record { alike = is.1.alike; told = λ never. absurd never }, is.2)

  exact_less_told : (s : Superblock) (st : State) (es : List Entry) → ExactSeen Tells s st es → ExactSeen ⊥ s st es
  exact_less_told s st [] exact = tt
  exact_less_told s st (e ∷ es) exact = (less_told s st e.actor e.action e.answer exact.0, exact.1, exact_less_told s (left_by s st e.actor e.action e.answer) es exact.2)

  pub run_on_any : (s : Superblock) (base : ℕ) (h : Held) (es : List Entry) → IsRunSeen Tells s base h es → IsRunSeen ⊥ s base h es
  run_on_any s base h es run = record { opening = run.opening; exact = exact_less_told s (just_opened base h) es run.exact }

pub seen_is_orderly : (s : Superblock) (base : ℕ) (h : Held) (es : List Entry) → SeenIsOrderly s base h es
seen_is_orderly s base h es run = record {
  once = run_once (just_opened base h).ledger es (seen_runs ⊥ s (just_opened base h) es (ordered_at_first base h) run.exact);
  ordered = λ i. state_seen_ordered ⊥ s (just_opened base h) (take i es) (ordered_at_first base h) (ExactSeen-take ⊥ s (just_opened base h) es i run.exact);
}
