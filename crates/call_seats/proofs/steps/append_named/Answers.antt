use Rattle.std.proofs.Common.{refl}
use Rattle.atomic_table.specs.Table.{keeps}
use Rattle.call_seats.specs.Views.{appended}
use Rattle.call_seats.proofs.Keeping.{appends}
use Rattle.call_seats.proofs.steps.append_named.Goals as goal

pub fetch_add-requires : goal.fetch_add-requires
fetch_add-requires g c =
    let p = c.args.pass.now in
    let r = c.requires in
    let entry = g.E.Published.entry in
    (r.at.same, r.at.word, λ s kept homes at fits. (appended p.me.0 entry, keeps, tt, appends s.words s.views p.id p.me.0 entry kept at r.right r.named r.room, refl))
