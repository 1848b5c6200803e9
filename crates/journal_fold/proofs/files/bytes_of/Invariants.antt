use Rattle.std.proofs.Common.{◌≡◌, ◌+◌, drop}
use Rattle.hsm_types.specs.Attributes.{bytes_of_attributes}
use Rattle.journal_fold.proofs.files.bytes_of.Given as goal

abbrev pub invariant-loop-attribute : goal.invariant-loop-attribute
invariant-loop-attribute l = l.bytes + bytes_of_attributes (drop l.attribute-index l.attributes) ≡ bytes_of_attributes l.attributes
