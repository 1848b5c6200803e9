use Rattle.call_seats.proofs.Keeping.{notes}
use Rattle.call_seats.proofs.steps.note.Goals as goal

pub split_seat-requires : goal.split_seat-requires
split_seat-requires c =
    let p = c.args.from.now in
    (c.requires.at.same, c.requires.at.word, λ s kept at. notes s.words s.views p.id p.me.0 kept at)
