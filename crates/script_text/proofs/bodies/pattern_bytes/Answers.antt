use Rattle.std.proofs.Common.{sym, zero-add}
use Rattle.std.proofs.lemmas.List.FromFn.{map-range_with_len_more}
use Rattle.script_text.specs.Lines.{pattern_byte}
use Rattle.script_text.proofs.bodies.pattern_bytes.Goals as goal

pub loop-i-preserved : goal.loop-i-preserved
loop-i-preserved c =
    rw (c.in_ok-push.ensures.items, c.loop-i.invariant, c.from.ensures) (sym (map-range_with_len_more (pattern_byte c.args.seed) 0 c.loop-i.i c.loop-i.i (zero-add c.loop-i.i)))
