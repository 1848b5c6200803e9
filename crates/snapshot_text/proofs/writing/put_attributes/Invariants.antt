use Rattle.std.proofs.Common.{◌≡◌, ◌≤◌, ◌++◌, length}
use Rattle.std.specs.List.{flat_map, AllByRecursion}
use Rattle.hsm_types.specs.Limits.{value_bytes}
use Rattle.snapshot_text.specs.Snapshots.{attribute_bytes}
use Rattle.snapshot_text.proofs.writing.put_attributes.Given as goal

abbrev pub invariant-loop-name : goal.invariant-loop-name
invariant-loop-name l = record {
  written : l.out.items ++ flat_map attribute_bytes l.name-iterator ≡ l.fn.out.items ++ flat_map attribute_bytes l.attributes;
  short : AllByRecursion (λ a. length a.1 ≤ value_bytes) l.name-iterator;
}
