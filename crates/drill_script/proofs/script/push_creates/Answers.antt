use Rattle.std.proofs.Common.{◌∷◌, []}
use Rattle.std.proofs.lemmas.List.{append_assoc, append-nil}
use Rattle.drill_script.specs.Drill.{create_line, create_lines}
use Rattle.drill_script.proofs.Turning.{create_lines_none, create_lines_more}
use Rattle.drill_script.proofs.script.push_creates.Goals as goal

pub loop-file-init : goal.loop-file-init
loop-file-init c = cc (create_lines_none, append-nil c.args.lines.now.items)

pub loop-file-preserved : goal.loop-file-preserved
loop-file-preserved c =
    let file = c.loop-file.file in
    cc (create_lines_more file, append_assoc c.args.lines.now.items (create_lines file) (create_line file ∷ []), c.in_ok-push.ensures.items, c.in_ok-create_line.ensures)
