use Rattle.std.proofs.Common.{inl, sym, ◌∙◌}
use Rattle.migrate_daemon.proofs.InPass.{at_end}
use Rattle.migrate_daemon.proofs.passes.take.Goals as goal

pub returns-in-None : goal.returns-in-None
returns-in-None c = λ before asked told anew not_all.
    let over = at_end c.args.pass.now.picks c.args.pass.now.at (sym c.pick.ensures ∙ c.in-None.is) c.requires.within in
    c.after.ensures c.args.pass.now before asked told (rw c.sid.ensures c.requires.seated) (inl over) not_all
