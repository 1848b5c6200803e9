use Rattle.std.proofs.Common.{refl}
use Rattle.hsm_cli.proofs.streams.write_text.Goals as goal

pub returns-in-Ok-clause-took : goal.returns-in-Ok-clause-took
returns-in-Ok-clause-took g c = (c.args.text.now, refl, c.in-Ok.ensures.all, c.in-Ok.ensures.quiet)

pub returns-in-Err-clause-took : goal.returns-in-Err-clause-took
returns-in-Err-clause-took g c = (c.args.text.now, refl, c.write_all.ensures.first.0, c.write_all.ensures.first.1)
