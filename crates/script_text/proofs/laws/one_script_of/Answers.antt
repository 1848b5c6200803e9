use Rattle.script_text.proofs.NextLines as law
use Rattle.script_text.proofs.laws.one_script_of.Goals as goal

pub returns-clause-script : goal.returns-clause-script
returns-clause-script c = law.one_script

pub returns-clause-bad : goal.returns-clause-bad
returns-clause-bad c = law.first_bad_is_one

pub returns-clause-lines : goal.returns-clause-lines
returns-clause-lines c = law.of_allowed
