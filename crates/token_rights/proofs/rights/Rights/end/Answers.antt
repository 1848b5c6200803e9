use Rattle.std.proofs.Common.{◌∙◌}
use Rattle.token_rights.proofs.Looking.{released-without, length-without}
use Rattle.token_rights.proofs.rights.Rights.end.Goals as goal

pub loop-key-smaller : goal.loop-key-smaller
loop-key-smaller c = rw c.release.ensures (length-without c.args.token c.in-Some.key c.loop-key.self c.in-Some.ensures)

pub loop-key-preserved : goal.loop-key-preserved
loop-key-preserved c = rw c.release.ensures (released-without c.args.token c.in-Some.key c.loop-key.self ∙ c.loop-key.invariant)
