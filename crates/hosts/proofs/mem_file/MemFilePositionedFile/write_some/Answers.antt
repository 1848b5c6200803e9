use Rattle.std.proofs.Common.{ℕ, ◌≤◌, length, take, arith, length-take}
use Rattle.disk_model.proofs.Parts.{freed_wider}
use Rattle.disk_model.specs.declared.record.Action.TheVariants.{Write}
use Rattle.hosts.proofs.Noted.{still}
use Rattle.hosts.proofs.mem_file.MemFilePositionedFile.write_some.Goals as goal
use Rattle.hosts.proofs.mem_file.MemFilePositionedFile.write_some.Goals.{in-Ok, in-Err}

pub returns-clause-written : goal.returns-clause-written
returns-clause-written c = rw (← c.self.view_is) (elim c.match-write.branch [ in-Ok w ↦ rw w.result-is w.in-Ok.ensures.written | in-Err w ↦ rw w.result-is tt ])

pub returns-clause-given : goal.returns-clause-given
returns-clause-given c = rw (← c.self.view_is) (λ image is.
    let was = c.write.ensures.given image is in
    let n : ℕ = c.min-count.result in
    let few : length (take n c.args.bytes.now) ≤ length c.args.bytes.now = omega (arith, length-take n c.args.bytes.now) in
    (was.0, was.1, freed_wider c.args.at (length (take n c.args.bytes.now)) c.args.at (length c.args.bytes.now) was.0 image (omega arith) (omega (arith, few)) was.2))

pub returns-clause-still : goal.returns-clause-still
returns-clause-still c = rw (← c.self.view_is) (still c.write.result (Write c.args.at _) c.self.inside.disk c.write.new.self tt c.write.ensures.recorded c.write.ensures.length)
