-- What files use together, with one more and one less.
use Rattle.std.proofs.Common.{◌≡◌, ℕ, zero, suc, ◌+◌, ◌<◌, ◌≤◌, List, [], ◌∷◌, ◌++◌, length, map, set, get_or, Bool, true, false, eqb, refl, sym, ◌∙◌, ap, subst, arith, length-set, append-nil}
use Rattle.std.specs.Prelude.{if◌then◌else◌}
use Rattle.std.specs.List.{AllByRecursion, list_any}
use Rattle.std.proofs.lemmas.Grind.{common_steps}
use Rattle.std.proofs.lemmas.List.Folds.{list_any-append}
use Rattle.std.proofs.lemmas.List.Sums.{sum_by-cons}
use Rattle.hsm_types.specs.declared.stores.Geometry.{Geometry}
use Rattle.std.specs.Map.{values_of}
use Rattle.hsm_types.specs.declared.attributes.AttrName.{AttrName}
use Rattle.hsm_types.specs.Limits.{attribute_cost}
use Rattle.hsm_types.specs.Attributes.{bytes_of_attributes, cost_of_value}
use Rattle.plain_model.specs.Blocks.{with_mapped}
use Rattle.plain_model.specs.Distinct.{Distinct}
use Rattle.snapshot_text.specs.declared.snapshot.Mapping.{Mapping}
use Rattle.snapshot_text.specs.FileValidity.{are_free, places_of}
use Rattle.snapshot_text.specs.Snapshots.{SnapshotFile}
use Rattle.snapshot_text.proofs.BlockUses.{uses, uses-append, absent-unused, distinct-uses, uses-distinct}
use Rattle.snapshot_text.proofs.EachOf.{each-map}
use Rattle.meta_store.specs.Validity.{places_in, attribute_total_in, stub_total_in, Flags, are_unused}
use Rattle.meta_store.proofs.StandOnce.{free-is, unused-joins, unused-from, length-mapped}
use Rattle.journal_fold.specs.declared.uses.Uses.{Uses}
use Rattle.journal_fold.specs.FoldedFiles.{mapping_of}
use Rattle.journal_fold.specs.Counted.{with_free, FitTogether, IsCounted}

-- ---- flags

pub length-free : (ps : List ℕ) (flags : List Bool) → length (with_free ps flags) ≡ length flags
length-free [] flags = refl
length-free (p ∷ ps) flags = length-free ps (set flags p false) ∙ length-set flags p false

-- what was unset isn't set
free_at : (ps : List ℕ) (flags : List Bool) (n : ℕ) → n < length flags → get_or (with_free ps flags) n false ≡ (if list_any (λ p. eqb p n) ps then false else get_or flags n false)
free_at [] flags n lt = refl
free_at (p ∷ ps) flags n lt = let rest = free_at ps (set flags p false) n (omega (arith, lt, length-set flags p false)) in grind (arith, common_steps, rest)

swapped : (flags : List Bool) (xs bs : List ℕ) → Flags flags (xs ++ bs) → Flags flags (bs ++ xs)
swapped flags xs bs f = λ n lt. f n lt ∙ either_way n
  where
    either_way : (n : ℕ) → list_any (λ q. eqb q n) (xs ++ bs) ≡ list_any (λ q. eqb q n) (bs ++ xs)
    either_way n = grind (arith, list_any-append (λ q. eqb q n) xs bs, list_any-append (λ q. eqb q n) bs xs)

swapped_distinct : (xs bs : List ℕ) → Distinct (xs ++ bs) → Distinct (bs ++ xs)
swapped_distinct xs bs d = uses-distinct (bs ++ xs) (λ n. omega (arith, uses-append n xs bs, uses-append n bs xs, distinct-uses (xs ++ bs) d n))

-- what stands in front doesn't stand behind
apart : (n : ℕ) (ps used : List ℕ) → Distinct (ps ++ used) → list_any (λ q. eqb q n) ps ≡ true → list_any (λ q. eqb q n) used ≡ false
apart n ps used d here = absent-unused n used (omega (arith, uses-append n ps used, distinct-uses (ps ++ used) d n, some n ps here))
  where
    some : (n : ℕ) (ps : List ℕ) → list_any (λ q. eqb q n) ps ≡ true → 1 ≤ uses n ps
    some n [] here = absurd cc
    some n (p ∷ ps) here = grind (arith, some n ps)

distinct_behind : (ps used : List ℕ) → Distinct (ps ++ used) → Distinct used
distinct_behind ps used d = uses-distinct used (λ n. omega (arith, uses-append n ps used, distinct-uses (ps ++ used) d n))

freed : (ps used : List ℕ) (flags : List Bool) → Distinct (ps ++ used) → Flags flags (ps ++ used) → Flags (with_free ps flags) used
freed ps used flags d f = λ n lt.
    let low : n < length flags = omega (arith, lt, length-free ps flags) in
    let told : get_or flags n false ≡ list_any (λ q. eqb q n) (ps ++ used) = f n low in
    let both = list_any-append (λ q. eqb q n) ps used in
    free_at ps flags n low ∙ grind (arith, told, both, apart n ps used d)

-- ---- one file more, and one less

module _ (g : Geometry) (u v : Uses) (f : SnapshotFile) (fs : List SnapshotFile) where
  abbrev ps : List ℕ
  ps = places_of f.extents

  abbrev bytes : ℕ
  bytes = bytes_of_attributes f.kept.attributes

  total : attribute_total_in (f ∷ fs) ≡ bytes + attribute_total_in fs
  total = sum_by-cons (λ (x : SnapshotFile). bytes_of_attributes x.kept.attributes) f fs

  stub_total : stub_total_in (f ∷ fs) ≡ length f.kept.stubs + stub_total_in fs
  stub_total = sum_by-cons (λ (x : SnapshotFile). length x.kept.stubs) f fs

  module _ (is : IsCounted g u fs) (within : AllByRecursion (λ (e : Mapping). e.place < length u.flags.items) f.extents) where
    told : (are_free ps u.flags.items ≡ are_unused (places_in fs) ps) × Flags (with_mapped ps u.flags.items) (places_in fs ++ ps)
    told = free-is ps u.flags.items (places_in fs) (each-map (λ p. p < length u.flags.items) (λ e. e.place) f.extents within) is.flagged

    pub joined : are_free ps u.flags.items ≡ true → v.flags.items ≡ with_mapped ps u.flags.items → v.attributes ≡ u.attributes + bytes → v.stubs ≡ u.stubs + length f.kept.stubs → v.attributes ≤ g.attributes → v.stubs ≤ g.stubs → IsCounted g v (f ∷ fs)
    joined free flags attributes stubs few few_stubs = record {
      fit = record {
        distinct = unused-joins (places_in fs) ps (sym told.0 ∙ free) is.fit.distinct;
        few = omega (arith, total, attributes, is.attributes, few);
        few_stubs = omega (arith, stub_total, stubs, is.stubs, few_stubs);
      };
      count = ap length flags ∙ length-mapped ps u.flags.items ∙ is.count;
      flagged = subst (λ (l : List Bool). Flags l (ps ++ places_in fs)) (sym flags) (swapped (with_mapped ps u.flags.items) (places_in fs) ps told.1);
      attributes = omega (arith, total, attributes, is.attributes);
      stubs = omega (arith, stub_total, stubs, is.stubs);
    }

    pub not_free : are_free ps u.flags.items ≡ false → FitTogether g (f ∷ fs) → ⊥
    not_free taken fit =
        let unused : are_unused (places_in fs) ps ≡ true = unused-from (places_in fs) ps [] (subst (λ (l : List ℕ). Distinct (places_in fs ++ l)) (sym (append-nil ps)) (swapped_distinct ps (places_in fs) fit.distinct)) in
        cc (told.0)

    pub too_many : v.attributes ≡ u.attributes + bytes → v.stubs ≡ u.stubs + length f.kept.stubs → (v.attributes ≤ g.attributes → v.stubs ≤ g.stubs → ⊥) → FitTogether g (f ∷ fs) → ⊥
    too_many attributes stubs many fit = many (omega (arith, total, attributes, is.attributes, fit.few)) (omega (arith, stub_total, stubs, is.stubs, fit.few_stubs))

  pub left : IsCounted g u (f ∷ fs) → v.flags.items ≡ with_free ps u.flags.items → v.attributes + bytes ≡ u.attributes → v.stubs + length f.kept.stubs ≡ u.stubs → IsCounted g v fs
  left is flags attributes stubs = record {
    fit = record {
      distinct = distinct_behind ps (places_in fs) is.fit.distinct;
      few = omega (arith, total, is.fit.few);
      few_stubs = omega (arith, stub_total, is.fit.few_stubs);
    };
    count = ap length flags ∙ length-free ps u.flags.items ∙ is.count;
    flagged = subst (λ (l : List Bool). Flags l (places_in fs)) (sym flags) (freed ps (places_in fs) u.flags.items is.fit.distinct is.flagged);
    attributes = omega (arith, total, attributes, is.attributes);
    stubs = omega (arith, stub_total, stubs, is.stubs);
  }

-- ---- loops over extents and attributes

pub place_at : (es : List (ℕ × ℕ)) (i n : ℕ) → AllByRecursion (λ (e : Mapping). e.place < n) (map mapping_of es) → i < length es → (get_or es i (0, 0)).1 < n
place_at [] i n each lt = absurd (omega (arith, lt))
place_at (e ∷ es) zero n each lt = each.0
place_at (e ∷ es) (suc i) n each lt = place_at es i n each.1 (omega (arith, lt))

pub bytes_cons : (a : AttrName × List ℕ) (others : List (AttrName × List ℕ)) → bytes_of_attributes (a ∷ others) ≡ (attribute_cost + length a.1) + bytes_of_attributes others
bytes_cons a others = sum_by-cons cost_of_value a.1 (values_of others)
