use Rattle.script_text.proofs.Printed.{read_again_of}
use Rattle.script_text.proofs.laws.printed_is_read_of.Goals as goal

pub returns : goal.returns
returns c = read_again_of
