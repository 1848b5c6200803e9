use Rattle.std.proofs.Common.{◌≡◌, ◌∷◌, ◌++◌, drop}
use Rattle.std.specs.Fmt.{decimal}
use Rattle.std.specs.List.{flat_map}
use Rattle.store_summary.proofs.lines.push_numbers.Given as goal

abbrev pub invariant-loop-n : goal.invariant-loop-n
invariant-loop-n l = l.out.items ++ flat_map (λ n. 32 ∷ decimal n) (drop l.n-index l.numbers) ≡ l.fn.out.items ++ flat_map (λ n. 32 ∷ decimal n) l.numbers
