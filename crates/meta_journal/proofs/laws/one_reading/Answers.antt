use Rattle.meta_journal.proofs.Readings.{one_reading}
use Rattle.meta_journal.proofs.laws.one_reading.Goals as goal

pub returns : goal.returns
returns c = λ journal at number batches others used end bad worse short. one_reading journal short at number batches others used end bad worse
