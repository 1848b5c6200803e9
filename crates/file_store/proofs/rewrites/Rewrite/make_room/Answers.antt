use Rattle.file_store.proofs.Names.{ap, arith, Rewrite, size_after, effect_of, new_size, brings}
use Rattle.file_store.proofs.Rooms.{both_ok, brings-none, grown-room, brought-room}
use Rattle.file_store.proofs.rewrites.Rewrite.make_room.Goals as goal

pub returns-in-Restore-clause-room : goal.returns-in-Restore-clause-room
returns-in-Restore-clause-room c =
    both_ok c.bring.result
    (λ it zeros.
    brought-room c.args.body.now c.bring.new.self (λ j gone. omega (arith, c.len-size.ensures.len, c.len-size.ensures.away j gone)) c.in-Restore.segment c.args.self (λ j. ap (λ (x : Rewrite). brings x j) c.in-Restore.is)
    (ap (λ (x : Rewrite). new_size x c.args.body.now.bytes) c.in-Restore.is) it c.bring.ensures.others zeros)
    c.bring.ensures.ok c.bring.ensures.zeros

pub returns-in_default-clause-room : goal.returns-in_default-clause-room
returns-in_default-clause-room c =
    both_ok c.resize.result
    (λ bytes away.
    grown-room c.args.body.now c.resize.new.self (λ j gone. omega (arith, c.len-size.ensures.len, c.len-size.ensures.away j gone)) c.args.self c.max.result (brings-none c.args.self c.in_default.not-Restore)
    (omega (arith, ap (size_after (effect_of c.args.self)) c.len-size.ensures.len)) bytes away)
    c.resize.ensures.ok c.resize.ensures.away
