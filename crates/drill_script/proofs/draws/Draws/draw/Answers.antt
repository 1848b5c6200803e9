use Rattle.std.proofs.Common.{refl}
use Rattle.drill_script.proofs.Turning.{wraps_to_next}
use Rattle.drill_script.proofs.draws.Draws.draw.Goals as goal

pub returns-clause-next : goal.returns-clause-next
returns-clause-next c = wraps_to_next c.args.self.now.x

pub returns-clause-drawn : goal.returns-clause-drawn
returns-clause-drawn c = rw (wraps_to_next c.args.self.now.x) refl
