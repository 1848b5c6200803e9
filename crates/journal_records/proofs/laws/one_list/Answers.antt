use Rattle.journal_records.proofs.RecordReaders.{one_list}
use Rattle.journal_records.proofs.laws.one_list.Goals as goal

pub returns : goal.returns
returns c = λ rs ss fit fits same. one_list rs ss fit fits same
