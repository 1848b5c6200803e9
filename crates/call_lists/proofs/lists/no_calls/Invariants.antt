use Rattle.std.proofs.Common.{◌≡◌, ℕ, [], length}
use Rattle.call_lists.specs.Lines.{left_of}
use Rattle.call_lists.proofs.lists.no_calls.Given as goal

abbrev pub invariant-loop : goal.invariant-loop
invariant-loop l = record {
  empty : (c : ℕ) → left_of l.lists.items c ≡ [];
  count : length l.lists.items ≡ l.counter;
}
