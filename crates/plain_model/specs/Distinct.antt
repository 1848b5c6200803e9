-- Lists in which no number stands twice.
use Rattle.std.specs.Prelude.{◌≡◌, ℕ, List, [], ◌∷◌, false, ◌==◌}
use Rattle.std.specs.List.{list_any}

abbrev pub Distinct : List ℕ → Type 0
Distinct [] = Unit {0}
Distinct (n ∷ ns) = (list_any (λ m. m == n) ns ≡ false) × Distinct ns
