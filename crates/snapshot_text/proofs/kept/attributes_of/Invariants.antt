use Rattle.std.proofs.Common.{◌≡◌, ◌≤◌, ◌++◌, None, length}
use Rattle.std.specs.List.{AllByRecursion}
use Rattle.std.specs.Vec.Iter.{into_iter_items, into_iter_len}
use Rattle.hsm_types.specs.Attributes.{bytes_of_attributes}
use Rattle.snapshot_text.specs.FileValidity.{are_attributes}
use Rattle.snapshot_text.proofs.KeptAttributes.{EndWith}
use Rattle.snapshot_text.proofs.kept.attributes_of.Given as goal

abbrev pub invariant-loop-name : goal.invariant-loop-name
invariant-loop-name l = record {
  set : l.kept ++ into_iter_items l.name-iterator ≡ l.fn.attributes.items;
  left : into_iter_len l.name-iterator ≡ length (into_iter_items l.name-iterator);
  judged : are_attributes None l.fn.attributes.items ≡ are_attributes l.before (into_iter_items l.name-iterator);
  ends : EndWith l.before l.kept;
  within : bytes_of_attributes l.kept ≤ l.limit;
  eight : AllByRecursion (λ a. length a.0.0 ≡ 8) l.kept;
}
