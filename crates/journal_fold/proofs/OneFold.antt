-- Batches behind a store lead to one store, or fail at one place.
use Rattle.std.proofs.Common.{◌≡◌, inl, inr, ℕ, ◌<◌, ◌^◌, List, [], ◌∷◌, ◌++◌, length, refl, sym, ◌∙◌, ap, subst}
use Rattle.std.specs.Prelude.{Option, Some, None}
use Rattle.journal_records.specs.declared.records.Record.{Record}
use Rattle.journal_records.proofs.StandingRecords.{no_other}
use Rattle.meta_journal.specs.declared.lists.Batch.{Batch}
use Rattle.meta_journal.proofs.Readings.{one_reading}
use Rattle.snapshot_text.specs.Snapshots.{Snapshot}
use Rattle.meta_store.specs.Batches.{after_batch, IsLawful}
use Rattle.journal_fold.specs.Folds.{LeadsTo, Folds, FailsAt, IsFolded, IsFaultyAt}
use Rattle.journal_fold.specs.Laws.{HasOneFold, HasOneMeaning}

module _ (geometry : ℕ) where
  follows_once : (s : Snapshot) (b : Batch) (t u : Snapshot) → LeadsTo geometry s b t → LeadsTo geometry s b u → t ≡ u
  follows_once s b t u h k = h.leaves ∙ ap (λ (rs : List Record). after_batch b.number rs s) (no_other b.records b.count k.records h.records k.are h.are) ∙ sym k.leaves

  folds_once : (s : Snapshot) (bs : List Batch) (t u : Snapshot) → Folds geometry s bs t → Folds geometry s bs u → t ≡ u
  folds_once s [] t u h k = h ∙ sym k
  folds_once s (b ∷ bs) t u h k = folds_once h.0 bs t u h.2 (subst (λ (m : Snapshot). Folds geometry m bs u) (follows_once s b k.0 h.0 k.1 h.1) k.2)

  never_both : (s : Snapshot) (bs : List Batch) (t : Snapshot) (p : ℕ) → Folds geometry s bs t → FailsAt geometry s bs p → ⊥
  never_both s [] t p h f = f
  never_both s (b ∷ bs) t p h (inl f) = f.1 h.0 h.1
  never_both s (b ∷ bs) t p h (inr f) = never_both h.0 bs t p h.2 (subst (λ (m : Snapshot). FailsAt geometry m bs p) (follows_once s b f.0 h.0 f.1 h.1) f.2)

  fails_once : (s : Snapshot) (bs : List Batch) (p q : ℕ) → FailsAt geometry s bs p → FailsAt geometry s bs q → p ≡ q
  fails_once s [] p q f g = absurd f
  fails_once s (b ∷ bs) p q (inl f) (inl g) = f.0 ∙ sym g.0
  fails_once s (b ∷ bs) p q (inl f) (inr g) = absurd (f.1 g.0 g.1)
  fails_once s (b ∷ bs) p q (inr f) (inl g) = absurd (g.1 f.0 f.1)
  fails_once s (b ∷ bs) p q (inr f) (inr g) = fails_once f.0 bs p q f.2 (subst (λ (m : Snapshot). FailsAt geometry m bs q) (follows_once s b g.0 f.0 g.1 f.1) g.2)

  pub one_fold : (s : Snapshot) (bs : List Batch) → HasOneFold geometry s bs
  one_fold s bs = record { one = folds_once s bs; place = fails_once s bs; never_both = never_both s bs }

  pub folds_more : (s t u : Snapshot) (bs : List Batch) (b : Batch) → Folds geometry s bs t → LeadsTo geometry t b u → Folds geometry s (bs ++ b ∷ []) u
  folds_more s t u [] b h k = (u, subst (λ (m : Snapshot). LeadsTo geometry m b u) h k, refl)
  folds_more s t u (a ∷ bs) b h k = (h.0, h.1, folds_more h.0 t u bs b h.2 k)

  pub folds_lawfully : (s t : Snapshot) (bs : List Batch) → IsLawful geometry s → Folds geometry s bs t → IsLawful geometry t
  folds_lawfully s t [] is h = subst (IsLawful geometry) (sym h) is
  folds_lawfully s t (b ∷ bs) is h = folds_lawfully h.0 t bs (subst (IsLawful geometry) (sym h.1.leaves) h.1.can.lawful) h.2

  -- ---- a journal

  module _ (s : Snapshot) (at : ℕ) (journal : List ℕ) (short : length journal < 2 ^ 32) where
    same_bad : (p q : ℕ) → ◌≡◌ {A = Option ℕ} (Some p) (Some q) → p ≡ q
    same_bad p q is = cc

    open_is_closed : (p : ℕ) → ◌≡◌ {A = Option ℕ} None (Some p) → ⊥
    open_is_closed p is = cc

    folded_once : (used end : ℕ) (t u : Snapshot) → IsFolded geometry s at journal used t → IsFolded geometry s at journal end u → (used ≡ end) × (t ≡ u)
    folded_once used end t u h k =
        let same = one_reading journal short at s.number h.batches k.batches used end None None h.reading k.reading in
        (same.1, folds_once s k.batches t u (subst (λ (bs : List Batch). Folds geometry s bs t) same.0 h.folds) k.folds)

    folded_or_faulty : (used : ℕ) (t : Snapshot) (p : ℕ) → IsFolded geometry s at journal used t → IsFaultyAt geometry s at journal p → ⊥
    folded_or_faulty used t p h f =
        let same = one_reading journal short at s.number h.batches f.batches used f.used None f.bad h.reading f.reading in
        elim (f.fault) [
          | inl fails ↦ never_both s f.batches t p (subst (λ (bs : List Batch). Folds geometry s bs t) same.0 h.folds) fails
          | inr frame ↦ open_is_closed p (same.2 ∙ frame.0)
        ]

    faulty_once : (p q : ℕ) → IsFaultyAt geometry s at journal p → IsFaultyAt geometry s at journal q → p ≡ q
    faulty_once p q f g =
        let same = one_reading journal short at s.number f.batches g.batches f.used g.used f.bad g.bad f.reading g.reading in
        elim (f.fault) [
          | inl fails ↦
              let there : FailsAt geometry s g.batches p = subst (λ (bs : List Batch). FailsAt geometry s bs p) same.0 fails in
              elim (g.fault) [
                | inl others ↦ fails_once s g.batches p q there others
                | inr frame ↦ absurd (never_both s g.batches frame.1.0 p frame.1.1 there)
              ]
          | inr frame ↦
              let there : Folds geometry s g.batches frame.1.0 = subst (λ (bs : List Batch). Folds geometry s bs frame.1.0) same.0 frame.1.1 in
              elim (g.fault) [
                | inl others ↦ absurd (never_both s g.batches frame.1.0 q there others)
                | inr other ↦ same_bad p q (sym frame.0 ∙ same.2 ∙ other.0)
              ]
        ]

    pub one_meaning : HasOneMeaning geometry s at journal
    one_meaning = record { one = folded_once; place = faulty_once; never_both = folded_or_faulty }
