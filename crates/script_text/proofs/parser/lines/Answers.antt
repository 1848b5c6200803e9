use Rattle.std.proofs.Common.{refl}
use Rattle.std.proofs.lemmas.List.Sums.{sum_by_push}
use Rattle.script_text.specs.Lines.{access_length}
use Rattle.script_text.specs.Scripts.{IsNextLine}
use Rattle.script_text.proofs.NextLines.{reached_more}
use Rattle.script_text.proofs.parser.lines.Goals as goal

pub loop-rest-preserved : goal.loop-rest-preserved
loop-rest-preserved c =
    let g : IsNextLine c.args.allowed c.loop-rest.lines.items c.first_text.result.0.now c.in-Some.line = rw c.as_slice.ensures.value at (rw c.in-Some.is at c.in_ok-line.ensures) in
    record {
      reached = rw c.in_ok-push.ensures.items
          (reached_more c.args.allowed c.args.bytes.now c.loop-rest.rest.now c.first_text.result.0.now c.first_text.result.1.now c.loop-rest.lines.items c.in-Some.line
          c.loop-rest.invariant.reached c.first_text.ensures.texts c.first_text.ensures.whole g);
      sum = rw (c.in_ok-push.ensures.items, sum_by_push access_length c.loop-rest.lines.items c.in-Some.line, c.loop-rest.invariant.sum, c.access_bytes-total.ensures) refl;
      light = rw (c.loop-rest.invariant.sum, c.access_bytes-total.ensures) g.light;
    }
