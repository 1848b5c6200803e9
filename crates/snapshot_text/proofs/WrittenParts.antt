-- Parts of a file are written one after the other.
use Rattle.std.proofs.Common.{◌≡◌, ℕ, ◌+◌, ◌<◌, List, ◌++◌, length, get_or, drop, refl, append_assoc}
use Rattle.std.specs.List.{flat_map}
use Rattle.std.proofs.lemmas.List.{drop_more}
use Rattle.snapshot_text.proofs.SpreadPlaces.{length-extents}

pub each-written : {X : Type 0} (text : X → List ℕ) (out : List ℕ) (xs : List X) (i : ℕ) (d : X) → i < length xs → (out ++ text (get_or xs i d)) ++ flat_map text (drop (i + 1) xs) ≡ out ++ flat_map text (drop i xs)
each-written text out xs i d within = rw (drop_more xs i d, append_assoc) refl

pub ruleset written = (append_assoc, length-extents)
