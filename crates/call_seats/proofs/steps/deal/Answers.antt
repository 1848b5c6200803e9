use Rattle.call_seats.proofs.Keeping.{deals}
use Rattle.call_seats.proofs.steps.deal.Goals as goal

pub split_seat-requires : goal.split_seat-requires
split_seat-requires c =
    let p = c.args.first.now in
    (c.requires.at.same, c.requires.at.word, λ s kept at. deals s.words s.views p.id p.me.0 kept at c.requires.gives)
