use Rattle.call_seats.proofs.Keeping.{joins}
use Rattle.call_seats.proofs.steps.join.Goals as goal

pub join_seat-requires : goal.join_seat-requires
join_seat-requires c =
    let p = c.args.into.now in
    let w = c.args.other in
    (c.requires.at.0.same, c.requires.at.1.same, c.requires.empty, c.requires.at.0.word, λ s kept at ne at_other. joins s.words s.views p.id p.me.0 w.id w.me.0 kept at ne at_other)
