use Rattle.std.proofs.Common.{refl}
use Rattle.atomic_table.specs.Table.{keeps}
use Rattle.call_seats.proofs.Keeping.{looks}
use Rattle.call_seats.proofs.steps.look.Goals as goal

pub load-requires : goal.load-requires
load-requires c =
    let p = c.args.pass.now in
    (c.requires.at.same, c.requires.at.word, λ s kept homes at fits. let l = looks s.words s.views p.id p.me.0 kept at in (p.me.0, keeps, tt, l.0, (refl, l.1, l.2)))
