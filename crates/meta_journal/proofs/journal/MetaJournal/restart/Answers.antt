use Rattle.std.proofs.Common.{List, ℕ, length, ◌∙◌, ap, arith}
use Rattle.meta_journal.specs.Steps.{Journal, unstaged}
use Rattle.meta_journal.proofs.Pieces.{part_none}
use Rattle.meta_journal.proofs.Framing.{journal}
use Rattle.meta_journal.proofs.Opening.{empty_holds}
use Rattle.meta_journal.proofs.journal.MetaJournal.restart.Goals as goal

pub returns-clause-restarted : goal.returns-clause-restarted
returns-clause-restarted g c = ap (λ (staged : List ℕ). journal c.args.at (length c.self.inside.bytes.items) 0 0 staged) (part_none c.self.inside.bytes.items 16) ∙ ap (λ (j : Journal). unstaged c.args.at j.len 0) c.self.view_is

pub returns-clause-empty : goal.returns-clause-empty
returns-clause-empty g c = λ number image may. empty_holds c.args.at (length c.self.inside.bytes.items) (omega (arith, c.self.invariant.room)) number image (c.requires.closed image may)
