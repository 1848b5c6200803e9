use Rattle.drill_script.proofs.Lawful.{drill_lawful}
use Rattle.drill_script.proofs.laws.drill_is_lawful.Goals as goal

pub returns : goal.returns
returns c = drill_lawful
