use Rattle.std.proofs.Common.{◌≡◌, ◌++◌, map}
use Rattle.std.specs.List.{zip}
use Rattle.store_summary.specs.Named.{named}
use Rattle.store_summary.proofs.named.push_named.Given as goal

abbrev pub invariant-loop-row : goal.invariant-loop-row
invariant-loop-row l = map named l.files.items ++ zip l.row-iterator.a.rest.now l.row-iterator.b.rest.now ≡ map named l.fn.files.items ++ zip l.rows l.names
