use Rattle.script_text.proofs.Printed.{read_again}
use Rattle.script_text.proofs.laws.printed_is_read.Goals as goal

pub returns : goal.returns
returns c = read_again
