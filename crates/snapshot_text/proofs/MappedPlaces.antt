-- The places of one file's blocks, after a new size and after mappings.
use Rattle.std.proofs.Common.{◌≡◌, ℕ, zero, suc, ◌+◌, ◌-◌, ◌<◌, ◌≤◌, List, [], ◌∷◌, ◌++◌, length, take, drop, set, get_or, Option, Some, None, false}
use Rattle.std.proofs.Common.{eqb, inl, ◌⊎◌, refl, ◌∙◌, ap, arith, length-append, length-set, length-take}
use Rattle.std.specs.Prelude.{replicate}
use Rattle.std.specs.List.{list_any, AllByRecursion}
use Rattle.std.proofs.lemmas.List.{length-replicate, drop_more}
use Rattle.plain_model.specs.Blocks.{blocks_in}
use Rattle.snapshot_text.specs.Files.{present}
use Rattle.snapshot_text.specs.FileRecords.{places_fitted, places_set, mappings_from}
use Rattle.snapshot_text.specs.declared.snapshot.Mapping.{Mapping}
use Rattle.snapshot_text.proofs.SpreadPlaces.{present-few}
use Rattle.snapshot_text.proofs.BlockUses.{is_one, uses, uses-append, uses-absent}

pub present-holes : (n : ℕ) → present (replicate n None) ≡ []
present-holes zero = refl
present-holes (suc n) = present-holes n

pub length-fitted : (size : ℕ) (ps : List (Option ℕ)) → length (places_fitted size ps) ≡ blocks_in size
length-fitted size ps = omega (arith, length-append {A = Option ℕ}, length-take {A = Option ℕ}, length-replicate {A = Option ℕ})

present-kept : (k holes : ℕ) (ps : List (Option ℕ)) → present (take k ps ++ replicate holes None) ++ present (drop k ps) ≡ present ps
present-kept zero holes ps = rw (present-holes holes) refl
present-kept (suc k) holes [] = rw (present-holes holes) refl
present-kept (suc k) holes (p ∷ ps) = grind (arith, present-kept k holes ps)

-- the blocks that stay, and those that a new size cuts
pub present-fitted : (size : ℕ) (ps : List (Option ℕ)) → present (places_fitted size ps) ++ present (drop (blocks_in size) ps) ≡ present ps
present-fitted size ps = present-kept (blocks_in size) (blocks_in size - length ps) ps

pub count-fitted : (size : ℕ) (ps : List (Option ℕ)) → length (present (places_fitted size ps)) + length (present (drop (blocks_in size) ps)) ≡ length (present ps)
count-fitted size ps = simp length-append at (ap (λ (bs : List ℕ). length bs) (present-fitted size ps))

pub uses-fitted : (n size : ℕ) (ps : List (Option ℕ)) → uses n (present (places_fitted size ps)) ≤ uses n (present ps)
uses-fitted n size ps = omega (arith, simp uses-append at (ap (uses n) (present-fitted size ps)))

pub length-places_set : (ms : List Mapping) (ps : List (Option ℕ)) → length (places_set ms ps) ≡ length ps
length-places_set [] ps = refl
length-places_set (m ∷ ms) ps = length-places_set ms (set ps m.block (Some m.place)) ∙ length-set ps m.block (Some m.place)

uses-set : (n i at : ℕ) (ps : List (Option ℕ)) → uses n (present (set ps i (Some at))) ≤ is_one at n + uses n (present ps)
uses-set n i at [] = omega arith
uses-set n zero at (p ∷ ps) = grind arith
uses-set n (suc i) at (p ∷ ps) = grind (arith, uses-set n i at ps)

-- what a new place adds
pub present-set : (i at : ℕ) (d : Option ℕ) (ps : List (Option ℕ)) → i < length ps → length (present (set ps i (Some at))) + length (present (get_or ps i d ∷ [])) ≡ 1 + length (present ps)
present-set i at d [] within = absurd (omega arith)
present-set zero at d (p ∷ ps) within = grind arith
present-set (suc i) at d (p ∷ ps) within = grind (arith, present-set i at d ps)

pub uses-mapped : (n block : ℕ) (new : List ℕ) (ps : List (Option ℕ)) → uses n (present (places_set (mappings_from block new) ps)) ≤ uses n new + uses n (present ps)
uses-mapped n block [] ps = omega arith
uses-mapped n block (p ∷ new) ps = omega (arith, uses-set n block p ps, uses-mapped n (block + 1) new (set ps block (Some p)))

-- a number that is a new place wasn't in use
pub new_or_used : (n : ℕ) (new used : List ℕ) → AllByRecursion (λ p. list_any (λ b. eqb b p) used ≡ false) new → (uses n new ≡ 0) ⊎ (uses n used ≡ 0)
new_or_used n [] used unused = inl refl
new_or_used n (p ∷ new) used unused = grind (arith, uses-absent p used unused.0, new_or_used n new used unused.1)

-- the places of the blocks that follow
pub run-more : (first i : ℕ) (new : List ℕ) (d : ℕ) (ps : List (Option ℕ)) → i < length new
    → places_set (mappings_from (first + i) (drop i new)) ps ≡ places_set (mappings_from (first + (i + 1)) (drop (i + 1) new)) (set ps (first + i) (Some (get_or new i d)))
run-more first i new d ps within = rw (drop_more new i d within) (ap (λ (b : ℕ). places_set (mappings_from b (drop (i + 1) new)) (set ps (first + i) (Some (get_or new i d)))) (omega arith))

pub ruleset mapped_steps = (present-set, present-few, run-more, drop_more, length-set, length-places_set)

pub ruleset new_steps = (present-holes, length-replicate, length-places_set)

pub ruleset fit_steps = (length-fitted, count-fitted)
