use Rattle.std.proofs.Common.{◌≡◌, ◌≤◌, ◌*◌, take}
use Rattle.std.specs.Prelude.{sum_by}
use Rattle.hsm_core.specs.Summaries.{offline_by}
use Rattle.hsm_core.proofs.totals.offline_of.Given as goal

abbrev pub invariant-loop-index : goal.invariant-loop-index
invariant-loop-index l = record {
  sum : l.offline ≡ sum_by (λ f. offline_by f.kept.stubs) (take l.index l.catalog.files);
  few : l.offline ≤ 4294967295 * l.index;
}
