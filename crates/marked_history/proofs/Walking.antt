-- What each entry of a served run keeps is so behind all of them.
use Rattle.std.proofs.Common.{◌≡◌, ℕ, List, [], ◌∷◌, ◌++◌, sym, subst, append_assoc, append-nil}
use Rattle.hsm_types.specs.declared.stores.Superblock.{Superblock}
use Rattle.plain_model.specs.declared.entries.Entry.{Entry}
use Rattle.plain_model.specs.State.{Held, State, just_opened}
use Rattle.plain_model.specs.Stands.{InOrder}
use Rattle.plain_model.specs.Exact.{IsAnswerSeen, left_by, ExactSeen, state_by}
use Rattle.plain_model.specs.Laws.{IsRunSeen}
use Rattle.plain_model.proofs.AnyDisk.{seen_ordered}
use Rattle.plain_model.proofs.Orders.{ordered_at_first}
use Rattle.hsm_policy.specs.Settings.{Numbers}
use Rattle.hsm_core.specs.Packed.{HandsBy, ArePacked}
use Rattle.marked_history.specs.Marks.{Mark, entries_of}
use Rattle.marked_history.specs.Served.{Shown, nothing_shown, learned, shown, IsServedBy, ServedFrom, Served}

-- of the entries so far, of the state behind them, and of what they show
abbrev pub Kept : Type 1
Kept = List Mark → State → Shown → Type 0

-- one entry keeps it
abbrev pub KeptBy : Numbers → Superblock → Kept → Type 0
KeptBy limits s P = (done : List Mark) (now : State) (k : Shown) (m : Mark) → InOrder now → IsAnswerSeen ⊥ s now m.entry.actor m.entry.action m.entry.answer → HandsBy now m.entry.actor m.entry.action m.entry.answer → IsServedBy m.by k m
    → P done now k → P (done ++ m ∷ []) (left_by s now m.entry.actor m.entry.action m.entry.answer) (learned limits k m)

module _ (limits : Numbers) (s : Superblock) (P : Kept) (step : KeptBy limits s P) where
  kept_on : (done : List Mark) (now : State) (k : Shown) (marks : List Mark) → ExactSeen ⊥ s now (entries_of marks) → ArePacked s now (entries_of marks) → InOrder now → ServedFrom limits k marks
      → P done now k → P (done ++ marks) (state_by s now (entries_of marks)) (shown limits k marks)
  kept_on done now k [] exact packed ordered served is = subst (λ (l : List Mark). P l now k) (sym (append-nil done)) is
  kept_on done now k (m ∷ marks) exact packed ordered served is =
      subst (λ (l : List Mark). P l (state_by s now (entries_of (m ∷ marks))) (shown limits k (m ∷ marks))) (append_assoc done (m ∷ []) marks)
      (kept_on (done ++ m ∷ []) (left_by s now m.entry.actor m.entry.action m.entry.answer) (learned limits k m) marks exact.2 packed.1 (seen_ordered ⊥ s now m.entry ordered exact.0) served.1
      (step done now k m ordered exact.0 packed.0 served.0 is))

  pub kept_behind : (base : ℕ) (h : Held) (marks : List Mark) (es : List Entry) → entries_of marks ≡ es → Served limits marks → IsRunSeen ⊥ s base h es → ArePacked s (just_opened base h) es → P [] (just_opened base h) nothing_shown
      → P marks (state_by s (just_opened base h) (entries_of marks)) (shown limits nothing_shown marks)
  kept_behind base h marks es same served run packed first =
      kept_on [] (just_opened base h) nothing_shown marks (subst (λ (l : List Entry). ExactSeen ⊥ s (just_opened base h) l) (sym same) run.exact) (subst (λ (l : List Entry). ArePacked s (just_opened base h) l) (sym same) packed)
      (ordered_at_first base h) served first
