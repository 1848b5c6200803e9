-- What is left of a list of batches, from a store on.
use Rattle.std.proofs.Common.{◌≡◌, inl, inr, ℕ, suc, ap, ◌+◌, ◌<◌, List, [], ◌∷◌, length, drop, get_or, refl, sym, subst, add-one, drop-cons}
use Rattle.meta_journal.specs.declared.lists.Batch.{Batch}
use Rattle.snapshot_text.specs.Snapshots.{Snapshot}
use Rattle.journal_fold.specs.Folds.{LeadsTo, LeadsNowhere, Folds, FailsAt}

pub record IsGoing (geometry : ℕ) (s : Snapshot) (all : List Batch) (t : Snapshot) (left : List Batch) : Type 0 where
  pub folds : (u : Snapshot) → Folds geometry t left u → Folds geometry s all u
  pub fails : (place : ℕ) → FailsAt geometry t left place → FailsAt geometry s all place

pub begins : (geometry : ℕ) (s : Snapshot) (all : List Batch) → IsGoing geometry s all s all
begins geometry s all = record { folds = λ u h. h; fails = λ place h. h }

module _ (geometry : ℕ) (s : Snapshot) (all : List Batch) (t v : Snapshot) (i : ℕ) (b : Batch) (lt : i < length all) (is : b ≡ get_or all i b) (going : IsGoing geometry s all t (drop i all)) where
  next : drop i all ≡ b ∷ drop (i + 1) all
  next = rw (add-one, drop-cons all i b) (ap (λ (x : Batch). x ∷ drop (suc i) all) (sym is))

  at : IsGoing geometry s all t (b ∷ drop (i + 1) all)
  at = subst (IsGoing geometry s all t) next going

  pub goes_on : LeadsTo geometry t b v → IsGoing geometry s all v (drop (i + 1) all)
  goes_on leads = record { folds = λ u h. at.folds u (v, leads, h); fails = λ place h. at.fails place (inr (v, leads, h)) }

  pub stops : LeadsNowhere geometry t b → FailsAt geometry s all b.place
  stops nowhere = at.fails b.place (inl (refl, nowhere))

pub ended : (geometry : ℕ) (s : Snapshot) (all : List Batch) (t : Snapshot) (i : ℕ) → drop i all ≡ [] → IsGoing geometry s all t (drop i all) → Folds geometry s all t
ended geometry s all t i none going = going.folds t (subst (λ (l : List Batch). Folds geometry t l t) (sym none) refl)
