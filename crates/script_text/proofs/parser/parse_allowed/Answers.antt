use Rattle.script_text.proofs.Printed.{script_lawful}
use Rattle.script_text.proofs.parser.parse_allowed.Goals as goal

pub new-requires : goal.new-requires
new-requires c = script_lawful c.args.allowed c.args.bytes.now c.in-Ok-Ok.lines.items (rw c.in-Ok-Ok.field-0-is at c.in-Ok-Ok.ensures.exact)
