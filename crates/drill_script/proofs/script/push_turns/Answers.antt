use Rattle.std.proofs.Common.{◌≡◌, ◌-◌, ◌+◌, arith}
use Rattle.std.proofs.lemmas.List.{append-nil}
use Rattle.script_text.specs.declared.lines.Line.TheVariants.{Settle}
use Rattle.drill_script.specs.Drill.{turn_line, turn_from, next_turn, turn_lines}
use Rattle.drill_script.proofs.Turning.{turn_lines_none, turn_lines_left, append_two}
use Rattle.drill_script.proofs.script.push_turns.Goals as goal

pub loop-preserved : goal.loop-preserved
loop-preserved c =
    let x = c.loop.draws.x in
    let left = c.args.count - (c.loop.counter + 1) in
    cc (
      turn_lines_left c.args.count c.loop.counter x (omega arith),
      append_two c.loop.lines.items (turn_line (turn_from x)) Settle (turn_lines left (next_turn x)),
      c.in_ok-push.ensures.items,
      c.in_ok-push-2.ensures.items,
      c.in_ok-turn_line.ensures,
      c.loop.invariant,
    )

pub returns : goal.returns
returns c =
    let x = c.loop.draws.x in
    let none : c.args.count - c.loop.counter ≡ 0 = omega arith in
    cc (turn_lines_none x, append-nil c.loop.lines.items, c.loop.invariant)
