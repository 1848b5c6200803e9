use Rattle.script_text.specs.declared.lines.Allowed.TheVariants.{All}
use Rattle.script_text.proofs.NextLines as law
use Rattle.script_text.proofs.laws.one_script.Goals as goal

pub returns-clause-script : goal.returns-clause-script
returns-clause-script c = law.one_script All

pub returns-clause-bad : goal.returns-clause-bad
returns-clause-bad c = law.first_bad_is_one All
