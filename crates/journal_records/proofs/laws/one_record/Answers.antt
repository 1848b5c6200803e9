use Rattle.journal_records.proofs.RecordReaders.{one_record}
use Rattle.journal_records.proofs.laws.one_record.Goals as goal

pub returns : goal.returns
returns c = λ r s a b fit fits same. one_record r s a b fit fits same
