use Rattle.deed_laws.proofs.KeepingAll as law
use Rattle.deed_laws.proofs.laws.keeps_all.Goals as goal

pub returns : goal.returns
returns c = law.keeps_all
