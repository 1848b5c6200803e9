use Rattle.std.proofs.Common.{◌≡◌, ◌*◌, ◌++◌, drop}
use Rattle.hex.specs.Hex.{encode_lower, IsBytes}
use Rattle.script_text.proofs.bodies.bytes_of.Given as goal

abbrev pub invariant-loop-i : goal.invariant-loop-i
invariant-loop-i l = record {
  bytes : IsBytes l.bytes.items;
  read : encode_lower l.bytes.items ++ drop (2 * l.i) l.digits ≡ l.digits;
}
