use Rattle.std.proofs.Common.{inr, ap}
use Rattle.migrate_daemon.specs.Passes.{Pass}
use Rattle.migrate_daemon.proofs.passes.end.Goals as goal

pub returns-clause-gives : goal.returns-clause-gives
returns-clause-gives c = λ before asked told not_all.
    c.after.ensures c.end.new.self before asked told (rw (c.sid.ensures, c.end.ensures) c.requires) (inr (c.args.why, ap (λ (p : Pass). p.ended) c.end.ensures)) not_all
