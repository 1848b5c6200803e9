use Rattle.script_text.proofs.Printed.{read_again}
use Rattle.script_text.proofs.printing.print.Goals as goal

pub returns-clause-script : goal.returns-clause-script
returns-clause-script c =
    rw (c.from.ensures, c.in_ok-text.ensures, c.as_slice.ensures.items) (read_again c.args.script.now c.as_slice.ensures.lawful).script
