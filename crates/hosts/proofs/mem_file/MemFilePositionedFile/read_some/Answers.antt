use Rattle.std.proofs.Common.{◌≡◌, ◌∙◌, ℕ, List, length, take, subst, arith, length-take-le}
use Rattle.std.proofs.lemmas.List.{take_at}
use Rattle.disk_model.specs.Images.{part}
use Rattle.disk_model.specs.declared.record.Action.TheVariants.{Read}
use Rattle.hosts.proofs.Noted.{still}
use Rattle.hosts.proofs.mem_file.MemFilePositionedFile.read_some.Goals as goal
use Rattle.hosts.proofs.mem_file.MemFilePositionedFile.read_some.Goals.{in-Ok, in-Err}

pub returns-clause-bytes : goal.returns-clause-bytes
returns-clause-bytes c =
    let n : ℕ = c.min-count.result in
    let got : List ℕ = c.read.new.buf in
    let long : length (take n c.args.buf.now) ≡ n = length-take-le n c.args.buf.now (omega (arith, c.min-count.ensures)) in
    let same : length got ≡ n = omega (arith, long, c.read.auto.buf) in
    rw (← c.self.view_is) (elim c.match-read.branch [
      | in-Ok w ↦ rw w.result-is (λ image is. take_at got _ n same ∙ subst (λ (k : ℕ). got ≡ part image c.args.at k) long (w.in-Ok.ensures.bytes image is))
      | in-Err w ↦ rw w.result-is tt
    ])

pub returns-clause-given : goal.returns-clause-given
returns-clause-given c = rw (← c.self.view_is) c.read.ensures.given

pub returns-clause-crash : goal.returns-clause-crash
returns-clause-crash c = rw (← c.self.view_is) (c.read.ensures.crash, still c.read.result (Read c.args.at _) c.self.inside.disk c.read.new.self tt c.read.ensures.recorded c.read.ensures.length)
