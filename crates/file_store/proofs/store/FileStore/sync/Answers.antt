use Rattle.file_store.proofs.Names.{None, true, refl, sym, ◌∙◌, ap, arith, held_at, held_with, marks_of}
use Rattle.snapshot_text.specs.Refusals.{no_memory}
use Rattle.file_store.proofs.Durable.{Parts, IsDone, after_event, done, stored_meta}
use Rattle.file_store.proofs.Ended.{ends_done, kept_ends, refused_first}
use Rattle.file_store.proofs.Marks.{marks_there}
use Rattle.file_store.proofs.StoreEvents.{all_free}
use Rattle.file_store.proofs.WithBodies.{same-files}
use Rattle.file_store.proofs.store.FileStore.sync.Given.{Over}
use Rattle.file_store.proofs.store.FileStore.sync.Goals.{After-commit, In-Ok}
use Rattle.file_store.proofs.store.FileStore.sync.Goals as goal

abbrev parts : (g : Over) → After-commit g → Parts g.row.D.Denot
parts g c = record { disk = c.self.inside.disk; meta = c.self.inside.meta; bodies = c.self.inside.bodies.items; durable = c.self.inside.durable.value.items; space = c.self.inside.space; failed = c.self.inside.failed }

stored : (g : Over) (c : In-Ok g) → IsDone g.D.Disk (parts g (goal.at.In-Ok g c).After-commit) c.args.number (held_with c.self.inside.bodies.items c.self.inside.meta.current)
    (after_event (parts g (goal.at.In-Ok g c).After-commit) c.commit.new.disk c.commit.new.self true c.self.inside.bodies.items c.self.inside.space.current c.self.inside.space.current)
stored g c =
    let sound = c.self.invariant.1 in
    let same = c.commit.ensures.same in
    let live = sound.live (ap (λ s. s.failed) c.self.view_is ∙ c.requires.working) in
    done g.D.Disk (parts g (goal.at.In-Ok g c).After-commit) sound.meta live c.args.number c.commit.new.disk c.commit.new.self _ _ _ c.in-Ok.ensures.backs _ (ap (held_with c.self.inside.bodies.items) same) (λ d gives. ap (held_at _) same ∙ live.current d gives)
    (live.marks ∙ ap marks_of (sym same)) (rw live.marks (marks_there _ sound.meta.current)) true (λ e. (c.in-Ok.ensures.stored, c.in-Ok.ensures.ok), λ e. absurd cc) (stored_meta _ _ _ sound.meta c.in-Ok.ensures.ok same (omega (arith, c.if-number-gt-LAST_NUMBER.false)))
    c.commit.ensures.any_moment (same-files c.self.inside.bodies.items c.self.inside.meta c.commit.new.self same c.self.invariant.0)

pub invariant_of-self : goal.invariant_of-self
invariant_of-self g c = let is = stored g (goal.at.invariant_of-self g c).In-Ok in rw (c.of.ensures, c.committed.ensures) (is.files, is.sound)

pub returns-in-Ok-clause-ends : goal.returns-in-Ok-clause-ends
returns-in-Ok-clause-ends g c =
    let working = ap (λ s. s.failed) c.self.view_is ∙ c.requires.working in
    rw (c.of.ensures, c.committed.ensures, ← c.self.view_is) (ends_done g.D.Disk _ _ c.args.number None (stored g (goal.at.returns-in-Ok-clause-ends g c).In-Ok).proceeds tt refl working (c.commit.ensures.faults.quiet (λ e. cc)))

pub returns-in-Ok-clause-room : goal.returns-in-Ok-clause-room
returns-in-Ok-clause-room g c =
    let working = ap (λ s. s.failed) c.self.view_is ∙ c.requires.working in
    rw c.committed.ensures (all_free g.D.Disk _ (stored g (goal.at.returns-in-Ok-clause-room g c).In-Ok).sound working refl)

pub returns-in-Err-clause-ends : goal.returns-in-Err-clause-ends
returns-in-Err-clause-ends g c =
    let working = ap (λ s. s.failed) c.self.view_is ∙ c.requires.working in
    rw (c.in-Err.ensures.err, c.is_disk-self-inside.ensures, ← c.self.view_is)
    (kept_ends g.D.Disk (parts g (goal.at.returns-in-Err-clause-ends g c).After-commit) c.commit.new.disk c.args.number None c.commit.result c.in-Err.refusal c.self.invariant.1 working c.in-Err.is c.commit.ensures.any_moment
    (λ part is. absurd (c.commit.ensures.no_part part is)) c.commit.ensures.faults)

pub returns-then-number-gt-LAST_NUMBER-clause-ends : goal.returns-then-number-gt-LAST_NUMBER-clause-ends
returns-then-number-gt-LAST_NUMBER-clause-ends g c = refused_first c.has_failed-failed.ensures.idle c.requires.working _ no_memory refl (λ is. cc) (λ part is. absurd cc)

pub commit-requires-clause-rises : goal.commit-requires-clause-rises
commit-requires-clause-rises g c = rw (← c.self.view_is) at c.requires.rises
