-- Views by their places.
use Rattle.std.proofs.Common.{◌≡◌, ◌≢◌, ◌⊎◌, inl, inr, ⊎_elim, ℕ, zero, suc, ◌<◌, true, List, [], ◌∷◌, ◌++◌, length, set, refl, ap, sym, ◌∙◌, subst, arith}
use mathlib.Core.Option.{some, some-ne-none, some-injective}
use lib.ListN.{get_elem?}
use Rattle.atomic_table.proofs.Lists.{at_set}
use Rattle.call_seats.specs.declared.views.View.{View}
use Rattle.call_seats.specs.Rule.{Apart}

-- a view stands at a place of the list
pub there : (views : List View) (id : ℕ) (v : View) → get_elem? views id ≡ some v → id < length views
there [] id v e = absurd (some-ne-none v (sym e))
there (x ∷ xs) zero v e = omega arith
there (x ∷ xs) (suc id) v e = let h = there xs id v e in omega arith

pub all_set : (P : ℕ → View → Type 0) (views : List View) (id : ℕ) (w : View) → ((j : ℕ) (u : View) → j ≢ id → get_elem? views j ≡ some u → P j u) → P id w
    → (j : ℕ) (u : View) → get_elem? (set views id w) j ≡ some u → P j u
all_set P views id w others mine j u e =
    ⊎_elim
    (λ (x : (j ≡ id) × (w ≡ u)). subst (λ (y : ℕ × View). P y.0 y.1) (λ i. (sym x.0 i, x.1 i)) mine)
    (λ (x : (j ≢ id) × (get_elem? views j ≡ some u)). others j u x.0 x.1)
    (at_set views id j w u e)

at_end : (views : List View) (w u : View) (j : ℕ) → get_elem? (views ++ w ∷ []) j ≡ some u → (get_elem? views j ≡ some u) ⊎ ((j ≡ length views) × (w ≡ u))
at_end [] w u zero e = inr (refl, some-injective w u e)
at_end [] w u (suc j) e = absurd (some-ne-none u (sym e))
at_end (x ∷ xs) w u zero e = inl e
at_end (x ∷ xs) w u (suc j) e = ⊎_elim (λ t. inl t) (λ t. inr (ap suc t.0, t.1)) (at_end xs w u j e)

pub all_snoc : (P : ℕ → View → Type 0) (views : List View) (w : View) → ((j : ℕ) (u : View) → get_elem? views j ≡ some u → P j u) → P (length views) w
    → (j : ℕ) (u : View) → get_elem? (views ++ w ∷ []) j ≡ some u → P j u
all_snoc P views w others mine j u e =
    ⊎_elim
    (λ (x : get_elem? views j ≡ some u). others j u x)
    (λ (x : (j ≡ length views) × (w ≡ u)). subst (λ (y : ℕ × View). P y.0 y.1) (λ i. (sym x.0 i, x.1 i)) mine)
    (at_end views w u j e)

-- the view at the place has a number only where the one before had that one
module _ (views : List View) (id : ℕ) (v w : View) (at : get_elem? views id ≡ some v) (same : w.named ≡ true → (v.named ≡ true) × (v.number ≡ w.number)) where
  Old : ℕ → View → Type 0
  Old k u = (u' : View) × (get_elem? views k ≡ some u') × (u'.named ≡ true) × (u'.number ≡ u.number)

  old : (k : ℕ) (u : View) → get_elem? (set views id w) k ≡ some u → u.named ≡ true → Old k u
  unfolding Old
  old k u e named =
      ⊎_elim
      (λ (x : (k ≡ id) × (w ≡ u)).
      let n = same (ap (λ (y : View). y.named) x.1 ∙ named) in
      (v, subst (λ (i : ℕ). get_elem? views i ≡ some v) (sym x.0) at, n.0, n.1 ∙ ap (λ (y : View). y.number) x.1))
      (λ (x : (k ≢ id) × (get_elem? views k ≡ some u)). (u, x.1, named, refl))
      (at_set views id k w u e)

  pub apart_set : Apart views → Apart (set views id w)
  unfolding Old
  apart_set apart i j a b at_i at_j na nb e =
      let x = old i a at_i na in
      let y = old j b at_j nb in
      apart i j x.0 y.0 x.1 y.1 x.2 y.2 (x.3 ∙ (e ∙ sym y.3))

-- a view is added whose number no other has
pub apart_snoc : (views : List View) (w : View) → Apart views → (w.named ≡ true → (j : ℕ) (u : View) → get_elem? views j ≡ some u → u.named ≡ true → u.number ≢ w.number) → Apart (views ++ w ∷ [])
apart_snoc views w apart new i j a b at_i at_j na nb e =
    ⊎_elim
    (λ (x : get_elem? views i ≡ some a).
    ⊎_elim
    (λ (y : get_elem? views j ≡ some b). apart i j a b x y na nb e)
    (λ (y : (j ≡ length views) × (w ≡ b)). absurd (new (ap (λ (t : View). t.named) y.1 ∙ nb) i a x na (e ∙ sym (ap (λ (t : View). t.number) y.1))))
    (at_end views w b j at_j))
    (λ (x : (i ≡ length views) × (w ≡ a)).
    ⊎_elim
    (λ (y : get_elem? views j ≡ some b). absurd (new (ap (λ (t : View). t.named) x.1 ∙ na) j b y nb (sym (ap (λ (t : View). t.number) x.1 ∙ e))))
    (λ (y : (j ≡ length views) × (w ≡ b)). x.0 ∙ sym y.0)
    (at_end views w b j at_j))
    (at_end views w a i at_i)
