use Rattle.std.proofs.Common.{List, ℕ, length, ap}
use Rattle.meta_journal.proofs.Pieces.{part_none}
use Rattle.meta_journal.proofs.Framing.{journal}
use Rattle.meta_journal.proofs.journal.MetaJournal.unstaged.Goals as goal

pub returns : goal.returns
returns c = ap (λ (staged : List ℕ). journal c.args.at (length c.args.bytes.items) c.args.used 0 staged) (part_none c.args.bytes.items 16)
