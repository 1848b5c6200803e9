use Rattle.drill_script.specs.Drill.{turn_from}
use Rattle.drill_script.proofs.draws.Draws.turn.Goals as goal

pub returns-clause-turn : goal.returns-clause-turn
unfolding turn_from
returns-clause-turn c = cc
