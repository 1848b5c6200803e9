-- Files and names that are lent stand in the order of their values.
use Rattle.std.proofs.Common.{◌≡◌, ℕ, ◌+◌, ◌<◌, Bool, List, [], ◌∷◌, length, map, get_or, refl, sym, ap, ◌∙◌, arith, inl, inr}
use Rattle.std.proofs.Math.ListN.{length-map}
use Rattle.std.proofs.lemmas.Bool.{cases_Bool}
use Rattle.std.proofs.lemmas.List.{get_or-map}
use Rattle.std.specs.Cmp.Lexicographic.{slice_cmp}
use Rattle.std.specs.List.{filter}
use Rattle.std.specs.List.Sorted.{IsSortedByKey, IsStableByKey}
use Rattle.std.specs.Ordering.{nat_cmp}
use Rattle.hsm_types.specs.declared.tables.FileRow.{FileRow}
use Rattle.store_summary.specs.Named.{named}
use Rattle.store_summary.specs.declared.named.Named.{Named}

filter-map : {X Y : Type 0} (f : X → Y) (p : Y → Bool) (xs : List X) → filter p (map f xs) ≡ map f (filter (λ x. p (f x)) xs)
filter-map f p [] = refl
filter-map f p (x ∷ xs) = elim (cases_Bool (p (f x))) [ inl passes ↦ rw passes (ap (λ l. f x ∷ l) (filter-map f p xs)) | inr fails ↦ rw fails (filter-map f p xs) ]

-- some reference to each of both
abbrev lent : FileRow × List ℕ → Named
lent f = record { row = record { ref_ptr = (0, 0); now = f.0 }; name = record { ref_ptr = (0, 0); now = f.1 } }

pub names_ascend : (files : List Named) → IsSortedByKey (λ f. f.name.now) (slice_cmp nat_cmp) files → IsSortedByKey (λ f. f.1) (slice_cmp nat_cmp) (map named files)
names_ascend files up = λ k d low high.
    let within : k + 1 < length files = simp length-map at high in
    let later : get_or (map named files) (k + 1) d ≡ named (get_or files (k + 1) (lent d)) = get_or-map named files (k + 1) (lent d) d within in
    let earlier : get_or (map named files) k d ≡ named (get_or files k (lent d)) = get_or-map named files k (lent d) d (omega arith) in
    rw (later, earlier) (up k (lent d) low within)

pub names_stay : (files sorted : List Named) → IsStableByKey (λ f. f.name.now) (slice_cmp nat_cmp) files sorted → IsStableByKey (λ f. f.1) (slice_cmp nat_cmp) (map named files) (map named sorted)
names_stay files sorted stable = λ f. filter-map named _ sorted ∙ ap (map named) (stable (lent f)) ∙ sym (filter-map named _ files)
