use Rattle.std.proofs.Common.{◌≡◌, ◌-◌, length, drop, ◌∙◌, arith, length-take, length-drop}
use Rattle.std.proofs.lemmas.Slice.{take-put_mid_below}
use borrow.Rule.Slice.PartMut.{put_mid, same_len_mid}
use Rattle.hosts.specs.FileCalls.{Stays}
use Rattle.hosts.proofs.Files.{read_none, read_more, stays_idle, stays_on}
use Rattle.hosts.proofs.file_disk.read_whole.Goals as goal
use Rattle.hosts.proofs.file_disk.read_whole.Goals.{in-Ok, in-Err}

pub calls-init : goal.calls-init
calls-init g c = record { within = omega arith; bytes = λ image is. read_none image c.args.at; stays = stays_idle g.F.PositionedFile c.args.file.now }

pub calls-preserved : goal.calls-preserved
calls-preserved g c =
    let call : Stays g.F.PositionedFile c.calls.file c.read_some.new.self = record { given = c.read_some.ensures.given; crash = c.read_some.ensures.crash; time = c.read_some.ensures.time } in
    let so_far : Stays g.F.PositionedFile c.args.file.now c.calls.file = c.calls.invariant.stays in
    let long : length (put_mid c.calls.done (length c.calls.buf - c.calls.done) c.calls.buf c.read_some.new.buf) ≡ length c.calls.buf = same_len_mid c.calls.done (length c.calls.buf - c.calls.done) c.calls.buf c.read_some.new.buf c.read_some.auto.buf in
    elim c.match-read_some.branch [
      | in-Ok w ↦ rw w.done-is (record {
        within = omega (arith, long, w.in-Ok.ensures.bound, c.read_some.auto.buf, c.calls.invariant.within, length-take (length c.calls.buf - c.calls.done) (drop c.calls.done c.calls.buf), length-drop c.calls.done c.calls.buf);
        bytes = λ image is. read_more image c.calls.buf c.read_some.new.buf c.args.at c.calls.done (length c.calls.buf - c.calls.done) w.in-Ok.count c.calls.invariant.within w.in-Ok.ensures.bound.0
            (c.calls.invariant.bytes image is) (w.in-Ok.ensures.bytes image (so_far.given.1 image is));
        stays = stays_on g.F.PositionedFile c.args.file.now c.calls.file c.read_some.new.self so_far call;
      })
      | in-Err w ↦ rw w.done-is (record {
        within = omega (arith, long, c.calls.invariant.within);
        bytes = λ image is. take-put_mid_below c.calls.done (length c.calls.buf - c.calls.done) c.calls.buf c.read_some.new.buf c.calls.done (omega arith) c.calls.invariant.within ∙ c.calls.invariant.bytes image is;
        stays = stays_on g.F.PositionedFile c.args.file.now c.calls.file c.read_some.new.self so_far call;
      })
    ]
