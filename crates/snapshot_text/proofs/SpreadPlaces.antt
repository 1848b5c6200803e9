-- Places of blocks, and the extents that say them.
use Rattle.std.proofs.Common.{◌≡◌, ℕ, zero, suc, ◌+◌, ◌-◌, ◌<◌, ◌≤◌, List, [], ◌∷◌, ◌++◌, length, map, set, replicate, true, Option, Some, None, inl}
use Rattle.std.proofs.Common.{inr, refl, sym, ◌∙◌, ap, arith, append_assoc}
use Rattle.std.specs.List.{AllByRecursion}
use Rattle.std.proofs.lemmas.Bool.{cases_lt}
use Rattle.std.proofs.lemmas.List.{length_push, set-append_right}
use Rattle.hsm_types.specs.declared.stores.Geometry.{Geometry}
use Rattle.snapshot_text.specs.declared.snapshot.Mapping.{Mapping}
use Rattle.plain_model.specs.Blocks.{blocks_in}
use Rattle.snapshot_text.specs.Files.{CatalogFile, IsCatalogFile, present}
use Rattle.snapshot_text.specs.FileRecords.{places_set}
use Rattle.snapshot_text.specs.Snapshots.{SnapshotFile, extents_from, snapshot_file}
use Rattle.snapshot_text.specs.FileValidity.{are_extents, places_of, places_by}

-- behind a front
again : (ps front : List (Option ℕ)) → places_set (extents_from (length front) ps) (front ++ replicate (length ps) None) ≡ front ++ ps
again [] front = refl
again (None ∷ ps) front = simp (length_push, append_assoc) at (again ps (front ++ None ∷ []))
again (Some at ∷ ps) front =
    let holes : List (Option ℕ) = replicate (length ps) None in
    let none : length front - length front ≡ 0 = omega arith in
    let here : set (front ++ None ∷ holes) (length front) (Some at) ≡ front ++ Some at ∷ holes = set-append_right front (None ∷ holes) (length front) (length front) (Some at) refl (omega arith) ∙ rw none refl in
    ap (places_set (extents_from (length front + 1) ps)) here ∙ simp (length_push, append_assoc) at (again ps (front ++ Some at ∷ []))

-- the places of so many blocks that these extents say
laid : (count low n blocks : ℕ) (ms : List Mapping) → low + count ≡ n → are_extents low n blocks ms ≡ true → (places : List (Option ℕ)) × (length places ≡ count) × (extents_from low places ≡ ms)
laid zero low n blocks [] all h = ([], refl, refl)
laid zero low n blocks (x ∷ ms) all h = absurd (grind arith)
laid (suc count) low n blocks [] all h = let l = laid count (low + 1) n blocks [] (omega arith) refl in (None ∷ l.0, omega (arith, l.1), l.2)
laid (suc count) low n blocks (x ∷ ms) all h =
    elim (cases_lt low x.block) [
      | inl later ↦ let l = laid count (low + 1) n blocks (x ∷ ms) (omega arith) (grind arith) in (None ∷ l.0, omega (arith, l.1), l.2)
      | inr past ↦ let l = laid count (low + 1) n blocks ms (omega arith) (grind arith) in (Some x.place ∷ l.0, omega (arith, l.1), grind (arith, l.2))
    ]

-- the blocks of these extents say them again
pub spread-holes : (ms : List Mapping) (n blocks : ℕ) → are_extents 0 n blocks ms ≡ true → extents_from 0 (places_set ms (replicate n None)) ≡ ms
spread-holes ms n blocks h =
    let l = laid n 0 n blocks ms (omega arith) h in
    rw (rw (l.2, l.1) at (again l.0 [])) l.2

-- the file of a catalog that a snapshot says
abbrev pub filled : SnapshotFile → CatalogFile
filled f = record { key = f.key; name = f.name; size = f.size; places = places_by f; kept = f.kept }

pub places-again : (f : CatalogFile) → length f.places ≡ blocks_in f.size → places_by (snapshot_file f) ≡ f.places
places-again f size = rw size at (again f.places [])

pub filled-again : (g : Geometry) (fs : List CatalogFile) → AllByRecursion (IsCatalogFile g) fs → map filled (map snapshot_file fs) ≡ fs
filled-again g [] each = refl
filled-again g (f ∷ fs) each =
    rw (places-again f each.0.places, filled-again g fs each.1) refl

pub present-few : (places : List (Option ℕ)) → length (present places) ≤ length places
present-few [] = omega arith
present-few (p ∷ places) = grind (arith, present-few places)

pub length-extents : (n : ℕ) (places : List (Option ℕ)) → length (extents_from n places) ≡ length (present places)
length-extents n [] = refl
length-extents n (p ∷ places) = grind (arith, length-extents (n + 1) places)

pub places_of-extents : (k : ℕ) (places : List (Option ℕ)) → places_of (extents_from k places) ≡ present places
places_of-extents k [] = refl
places_of-extents k (p ∷ places) = grind (arith, places_of-extents (k + 1) places)

-- the blocks of these extents lie at their places
pub present-spread : (ms : List Mapping) (n blocks : ℕ) → are_extents 0 n blocks ms ≡ true → present (places_set ms (replicate n None)) ≡ places_of ms
present-spread ms n blocks h = sym (places_of-extents 0 (places_set ms (replicate n None))) ∙ ap places_of (spread-holes ms n blocks h)

pub are_extents-from : (k low n blocks : ℕ) (places : List (Option ℕ)) → low ≤ k → k + length places ≡ n → AllByRecursion (λ b. b < blocks) (present places) → are_extents low n blocks (extents_from k places) ≡ true
are_extents-from k low n blocks [] le e all = refl
are_extents-from k low n blocks (None ∷ places) le e all = are_extents-from (k + 1) low n blocks places (omega arith) (omega arith) all
are_extents-from k low n blocks (Some at ∷ places) le e all = grind (arith, all.0, are_extents-from (k + 1) (k + 1) n blocks places (omega arith) (omega arith) all.1)

-- what are_extents tells
pub extents-tell : (low n blocks : ℕ) (ms : List Mapping) → are_extents low n blocks ms ≡ true → AllByRecursion (λ m. m.block < n) ms × AllByRecursion (λ m. m.place < blocks) ms
extents-tell low n blocks [] h = (tt, tt)
extents-tell low n blocks (x ∷ ms) h = let rest = extents-tell (x.block + 1) n blocks ms (grind arith) in ((grind arith, rest.0), (grind arith, rest.1))
