use Rattle.std.proofs.Common.{◌≡◌, ◌-◌, ◌+◌, ◌≤◌, length}
use Rattle.meta_journal.specs.Texts.{Lead, number_after}
use Rattle.meta_journal.proofs.scanning.front_of.Given as goal

abbrev pub invariant-loop-used : goal.invariant-loop-used
invariant-loop-used l = record {
  lead : Lead l.journal l.at 0 l.fn.number l.batches.items l.used;
  last : l.last ≡ number_after l.fn.number l.batches.items;
  room : l.used + 1 ≤ length l.journal;
}

abbrev pub decreases-loop-used : goal.decreases-loop-used
decreases-loop-used l = length l.journal - l.used
