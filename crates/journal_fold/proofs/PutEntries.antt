-- Where an entry is put among those that stand in the order of their keys.
use Rattle.std.proofs.Common.{◌≡◌, ℕ, suc, ◌<◌, ◌≤◌, Bool, true, false, not, cond, length, List, [], ◌∷◌, set, get_or, refl, sym, ◌∙◌, ap, subst, arith}
use Rattle.std.specs.Prelude.{slice_get, insert, remove}
use Rattle.std.specs.BTreeMap.{insert_entry}
use Rattle.std.specs.List.{prefix_len}
use Rattle.std.specs.Map.{remove_entry}
use Rattle.std.specs.Option.{option_map_or}
use Rattle.std.specs.Ordering.{is_gt, is_eq}
use Rattle.std.specs.declared.cmp.Ordering.{Ordering}
use Rattle.std.specs.declared.cmp.Ordering.TheVariants.{Less, Equal, Greater}

three : {P : Type 0} (o : Ordering) → (o ≡ Less → P) → (o ≡ Equal → P) → (o ≡ Greater → P) → P
three Less less equal greater = less refl
three Equal less equal greater = equal refl
three Greater less equal greater = greater refl

either : {P : Type 0} (b : Bool) → (b ≡ true → P) → (b ≡ false → P) → P
either true this other = this refl
either false this other = other refl

module _ {K V : Type 0} (cmp : K → K → Ordering) (k : K) (v : V) where
  abbrev below : K × V → Bool
  below e = is_gt (cmp k e.0)

  abbrev under : K × V → Bool
  under e = is_eq (cmp k e.0)

  put_there : (xs : List (K × V)) (e : K × V) → option_map_or under (slice_get xs (prefix_len below xs)) false ≡ true → e ≡ get_or xs (prefix_len below xs) e → set xs (prefix_len below xs) (e.0, v) ≡ insert_entry cmp xs k v
  put_there [] e is there = absurd cc
  put_there (x ∷ xs) e is there = three (cmp k x.0) (λ less. grind arith) (λ equal. grind arith) (λ greater. grind (arith, put_there xs e))

  put_new : (xs : List (K × V)) → option_map_or under (slice_get xs (prefix_len below xs)) false ≡ false → insert xs (prefix_len below xs) (k, v) ≡ insert_entry cmp xs k v
  put_new [] is = refl
  put_new (x ∷ xs) is = three (cmp k x.0) (λ less. grind arith) (λ equal. grind arith) (λ greater. grind (arith, put_new xs))

  -- the same of a list that was read twice
  module _ (xs ys zs : List (K × V)) (i : ℕ) (r : Bool) (first : ys ≡ xs) (second : zs ≡ xs) (place : i ≡ prefix_len below ys) (is : r ≡ option_map_or under (slice_get zs i) false) where
    here : i ≡ prefix_len below xs
    here = place ∙ ap (prefix_len below) first

    told : (b : Bool) → r ≡ b → option_map_or under (slice_get xs (prefix_len below xs)) false ≡ b
    told b r_is = ap (λ (j : ℕ). option_map_or under (slice_get xs j) false) (sym here) ∙ ap (λ (l : List (K × V)). option_map_or under (slice_get l i) false) (sym second) ∙ sym is ∙ r_is

    pub set_there : (e : K × V) → r ≡ true → e ≡ get_or xs i e → set xs i (e.0, v) ≡ insert_entry cmp xs k v
    set_there e r_is at = subst (λ (j : ℕ). e ≡ get_or xs j e → set xs j (e.0, v) ≡ insert_entry cmp xs k v) (sym here) (put_there xs e (told true r_is)) at

    pub inserted : r ≡ false → insert xs i (k, v) ≡ insert_entry cmp xs k v
    inserted r_is = ap (λ (j : ℕ). insert xs j (k, v)) here ∙ put_new xs (told false r_is)

module _ {K V : Type 0} (test : K → Bool) where
  abbrev apart : K × V → Bool
  apart e = not (test e.0)

  drop_later : (x : K × V) (xs : List (K × V)) → test x.0 ≡ false → (prefix_len apart xs < length xs → remove xs (prefix_len apart xs) ≡ remove_entry test xs) → prefix_len apart (x ∷ xs) < length (x ∷ xs)
      → remove (x ∷ xs) (prefix_len apart (x ∷ xs)) ≡ remove_entry test (x ∷ xs)
  drop_later x xs other rest lt =
      let further : prefix_len apart (x ∷ xs) ≡ suc (prefix_len apart xs) = grind arith in
      ap (λ (j : ℕ). remove (x ∷ xs) j) further ∙ ap (λ (l : List (K × V)). x ∷ l) (rest (omega (arith, lt, further))) ∙ sym (ap (λ (b : Bool). cond b xs (x ∷ remove_entry test xs)) other)

  drop_there : (xs : List (K × V)) → prefix_len apart xs < length xs → remove xs (prefix_len apart xs) ≡ remove_entry test xs
  drop_there [] lt = absurd (omega (arith, lt))
  drop_there (x ∷ xs) lt = either (test x.0) (λ there. grind arith) (λ other. drop_later x xs other (drop_there xs) lt)

  drop_none : (xs : List (K × V)) → length xs ≤ prefix_len apart xs → xs ≡ remove_entry test xs
  drop_none [] le = refl
  drop_none (x ∷ xs) le = either (test x.0) (λ there. absurd (grind arith)) (λ other. grind (arith, drop_none xs))

  module _ (xs ys : List (K × V)) (i : ℕ) (first : ys ≡ xs) (place : i ≡ prefix_len apart ys) where
    at : i ≡ prefix_len apart xs
    at = place ∙ ap (prefix_len apart) first

    pub removed : i < length xs → remove xs i ≡ remove_entry test xs
    removed lt = ap (remove xs) at ∙ drop_there xs (subst (λ (j : ℕ). j < length xs) at lt)

    pub none_removed : length xs ≤ i → xs ≡ remove_entry test xs
    none_removed le = drop_none xs (subst (λ (j : ℕ). length xs ≤ j) at le)
