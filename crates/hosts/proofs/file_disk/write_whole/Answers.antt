use Rattle.std.proofs.Common.{◌+◌, length, arith}
use Rattle.hosts.specs.FileCalls.{Frees}
use Rattle.hosts.proofs.Files.{rest, length-rest, front_none, front_more, front_kept, frees_idle, frees_on}
use Rattle.hosts.proofs.file_disk.write_whole.Goals as goal
use Rattle.hosts.proofs.file_disk.write_whole.Given.{Over}
use Rattle.hosts.proofs.file_disk.write_whole.Goals.{After-write_some, in-Ok, in-Err}

-- the calls so far, and one more
frees : (g : Over) (c : After-write_some g) → Frees g.F.PositionedFile c.args.at (length c.args.bytes.now) c.args.file.now c.write_some.new.self
frees g c = frees_on g.F.PositionedFile c.args.at (length c.args.bytes.now) (c.args.at + c.calls.done) (length (rest c.args.bytes.now c.calls.done)) c.args.file.now c.calls.file c.write_some.new.self
    (omega arith) (omega (arith, length-rest c.args.bytes.now c.calls.done, c.calls.invariant.within)) c.calls.invariant.frees
    record { given = c.write_some.ensures.given; crash = c.write_some.ensures.crash; still = c.write_some.ensures.still; time = c.write_some.ensures.time }

pub calls-init : goal.calls-init
calls-init g c = record {
  within = omega arith;
  front = λ image is. (image, is, front_none c.args.at c.args.bytes.now image);
  frees = frees_idle g.F.PositionedFile c.args.at (length c.args.bytes.now) c.args.file.now;
}

pub returns-in-Ok-eq0-clause-frees : goal.returns-in-Ok-eq0-clause-frees
returns-in-Ok-eq0-clause-frees g c = frees g (goal.at.returns-in-Ok-eq0-clause-frees g c).After-write_some

pub returns-in-Err-2-clause-frees : goal.returns-in-Err-2-clause-frees
returns-in-Err-2-clause-frees g c = frees g (goal.at.returns-in-Err-2-clause-frees g c).After-write_some

pub calls-preserved : goal.calls-preserved
calls-preserved g c =
    let at_write = (goal.at.calls-preserved g c).After-write_some in
    elim c.match-write_some.branch [
      | in-Ok w ↦ rw w.done-is (record {
        within = omega (arith, w.in-Ok.ensures.bound, length-rest c.args.bytes.now c.calls.done, c.calls.invariant.within);
        front = front_more c.args.at c.args.bytes.now c.calls.done w.in-Ok.count (g.F.PositionedFile.gives c.args.file.now) (g.F.PositionedFile.gives c.calls.file) (g.F.PositionedFile.gives c.write_some.new.self)
            c.calls.invariant.within w.in-Ok.ensures.bound c.calls.invariant.front w.in-Ok.ensures.written;
        frees = frees g at_write;
      })
      | in-Err w ↦ rw w.done-is (record {
        within = c.calls.invariant.within;
        front = front_kept c.args.at c.args.bytes.now c.calls.done (length (rest c.args.bytes.now c.calls.done)) (g.F.PositionedFile.gives c.args.file.now) (g.F.PositionedFile.gives c.calls.file) (g.F.PositionedFile.gives c.write_some.new.self)
            (omega (arith, length-rest c.args.bytes.now c.calls.done, c.calls.invariant.within)) c.calls.invariant.front c.write_some.ensures.given;
        frees = frees g at_write;
      })
    ]
