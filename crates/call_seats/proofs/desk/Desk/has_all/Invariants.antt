use Rattle.std.proofs.Common.{ℕ, ◌<◌, ◌≤◌, IsTrue}
use Rattle.call_seats.specs.Passes.{has_number}
use Rattle.call_seats.proofs.desk.Desk.has_all.Given as goal

abbrev pub invariant-loop-count : goal.invariant-loop-count
invariant-loop-count l = (number : ℕ) → 0 < number → number ≤ l.count → IsTrue (has_number number l.passes)
