use Rattle.std.proofs.Common.{sym, ◌∙◌}
use Rattle.migrate_daemon.proofs.machine.turn.Goals as goal

pub returns-then-is_lost-clause-ok : goal.returns-then-is_lost-clause-ok
returns-then-is_lost-clause-ok c = λ asked stands. c.lose.ensures asked c.args.last (sym c.is_lost.ensures ∙ c.if-is_lost.true) stands
