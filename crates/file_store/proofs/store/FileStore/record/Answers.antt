use Rattle.file_store.proofs.Names.{Err, refl, sym, ◌∙◌, ap, unmarked, after_all, held_with, held_after}
use Rattle.snapshot_text.specs.Refusals.{no_memory}
use Rattle.file_store.proofs.Durable.{Parts, IsDone, after_event}
use Rattle.file_store.proofs.StoreEvents.{freed_low, recorded, refused_sound, refusal_alone}
use Rattle.file_store.proofs.EventTexts.{few_alone, few_fit}
use Rattle.file_store.proofs.Ended.{ends_done, kept_ends, lacking}
use Rattle.file_store.proofs.WithBodies.{bodies_after, slot-there}
use Rattle.file_store.proofs.SealedFiles.{lengths-after}
use Rattle.file_store.proofs.store.FileStore.record.Given.{Over}
use Rattle.file_store.proofs.store.FileStore.record.Goals.{After-apply, In-Ok}
use Rattle.file_store.proofs.store.FileStore.record.Goals as goal

pub clear-requires : goal.clear-requires
clear-requires g c = λ is. slot-there c.self.invariant.0 c.args.key c.args.change (sym c.empties-empty.ensures ∙ is) (rw (← c.self.view_is) at c.requires.bodiless) (rw (← c.self.view_is) at c.requires.stands)

-- ---- it was taken

abbrev parts : (g : Over) → After-apply g → Parts g.row.D.Denot
parts g c = record { disk = c.self.inside.disk; meta = c.self.inside.meta; bodies = c.self.inside.bodies.items; durable = c.self.inside.durable.value.items; space = c.self.inside.space; failed = c.self.inside.failed }

taken : (g : Over) (c : In-Ok g) → IsDone g.D.Disk (parts g (goal.at.In-Ok g c).After-apply) c.args.number (held_after c.args.key c.args.change (held_with c.self.inside.bodies.items c.self.inside.meta.current))
    (after_event (parts g (goal.at.In-Ok g c).After-apply) c.apply.new.disk c.apply.new.self c.in-Ok.wrote (bodies_after c.args.key c.args.change c.self.inside.bodies.items) (unmarked c.in_ok-freed.freed.items c.self.inside.space.current) c.self.inside.space.current)
taken g c =
    recorded g.D.Disk c.args.key c.args.change c.in_ok-freed.freed.items (parts g (goal.at.In-Ok g c).After-apply) c.self.invariant.0 c.self.invariant.1 (ap (λ s. s.failed) c.self.view_is ∙ c.requires.working) (rw (← c.self.view_is) at c.requires.bodiless) (rw (← c.self.view_is) at c.requires.stands)
    (rw c.catalog.ensures.catalog at c.in_ok-freed.ensures) c.apply.new.disk c.apply.new.self c.args.number c.in-Ok.wrote (c.in-Ok.ensures.wrote, c.in-Ok.ensures.staged) (c.in-Ok.ensures.taken.current ∙ ap (λ rs. after_all rs c.self.inside.meta.current) c.in_ok-records.ensures)
    c.in-Ok.ensures.lawful c.in-Ok.ensures.backs c.apply.ensures.any_moment

pub release_all-requires : goal.release_all-requires
release_all-requires g c =
    rw (c.deref.ensures.value, c.make_durable.ensures.blocks)
    (freed_low g.D.Disk c.args.key c.args.change c.in_ok-freed.freed.items (parts g (goal.at.release_all-requires g c).After-apply) c.self.invariant.0 c.self.invariant.1 (ap (λ s. s.failed) c.self.view_is ∙ c.requires.working) (rw (← c.self.view_is) at c.requires.bodiless)
    (rw (← c.self.view_is) at c.requires.stands) (rw c.catalog.ensures.catalog at c.in_ok-freed.ensures))

pub invariant_of-self : goal.invariant_of-self
invariant_of-self g c =
    let is = taken g (goal.at.invariant_of-self g c).In-Ok in
    rw (c.release_all.ensures, c.deref.ensures.value, c.clear.ensures, c.empties-empty.ensures, c.make_durable.ensures.bodies, c.of-before.ensures, c.make_durable.ensures.blocks) (is.files, is.sound)

pub returns-in-Ok-clause-held : goal.returns-in-Ok-clause-held
returns-in-Ok-clause-held g c = rw (c.clear.ensures, c.empties-empty.ensures, ← c.self.view_is) (taken g (goal.at.returns-in-Ok-clause-held g c).In-Ok).held

pub returns-in-Ok-clause-ends : goal.returns-in-Ok-clause-ends
returns-in-Ok-clause-ends g c =
    let working = ap (λ s. s.failed) c.self.view_is ∙ c.requires.working in
    rw (c.release_all.ensures, c.deref.ensures.value, c.clear.ensures, c.empties-empty.ensures, c.make_durable.ensures.bodies, c.of-before.ensures, c.make_durable.ensures.blocks, ← c.self.view_is)
    (ends_done g.D.Disk _ _ c.args.number _ (taken g (goal.at.returns-in-Ok-clause-ends g c).In-Ok).proceeds tt (refusal_alone _ c.args.change c.self.inside.meta.current c.in_ok-records.ensures ∙ c.in-Ok.ensures.taken.judged) working (c.apply.ensures.faults.quiet (λ e. cc)))

-- ---- it wasn't taken

pub invariant_of-self-in-Err : goal.invariant_of-self-in-Err
invariant_of-self-in-Err g c =
    let working = ap (λ s. s.failed) c.self.view_is ∙ c.requires.working in
    rw (c.in-Err.ensures.err, c.is_disk-self-inside.ensures) (
      c.self.invariant.0,
      refused_sound g.D.Disk _ c.apply.new.disk _ c.in-Err.refusal c.self.invariant.1 working
          (λ why is. (refl, c.in-Err.ensures.unwritten why (ap (λ e. Err e) is))) (λ is. (refl, c.in-Err.ensures.memory (ap (λ e. Err e) is))),
    )

pub returns-clause-ends : goal.returns-clause-ends
returns-clause-ends g c =
    let working = ap (λ s. s.failed) c.self.view_is ∙ c.requires.working in
    let alone = refusal_alone _ c.args.change c.self.inside.meta.current c.in_ok-records.ensures in
    rw (c.in-Err.ensures.err, c.is_disk-self-inside.ensures, ← c.self.view_is)
    (kept_ends g.D.Disk (parts g (goal.at.returns-clause-ends g c).After-apply) c.apply.new.disk c.args.number _ c.apply.result c.in-Err.refusal c.self.invariant.1 working c.in-Err.is c.apply.ensures.any_moment
    (λ part is. (alone ∙ (c.apply.ensures.refused part).0 is, c.apply.ensures.unwritten part is)) c.apply.ensures.faults)

pub apply-requires-clause-lengths : goal.apply-requires-clause-lengths
apply-requires-clause-lengths g c =
    rw c.in_ok-records.ensures (lengths-after c.args.key c.args.change c.self.inside.meta.current (rw (← c.self.view_is) at c.requires.bodiless) (rw (← c.self.view_is) at c.requires.stands) c.self.invariant.1.meta.stored.now)

pub returns-in_err-freed-clause-ends : goal.returns-in_err-freed-clause-ends
returns-in_err-freed-clause-ends g c = lacking c.has_failed-failed.ensures.idle c.requires.working c.from_residual.result c.from_residual.ensures.1

pub returns-then-number-gt-LAST_NUMBER-clause-ends : goal.returns-then-number-gt-LAST_NUMBER-clause-ends
returns-then-number-gt-LAST_NUMBER-clause-ends g c = lacking c.has_failed-failed.ensures.idle c.requires.working (Err no_memory) refl

pub returns-in_err-records-clause-ends : goal.returns-in_err-records-clause-ends
returns-in_err-records-clause-ends g c = lacking c.has_failed-failed.ensures.idle c.requires.working c.from_residual-in_err-records.result c.from_residual-in_err-records.ensures.1

pub apply-requires-clause-fits : goal.apply-requires-clause-fits
apply-requires-clause-fits g c = λ none.
    let alone = refusal_alone _ c.args.change c.self.inside.meta.current c.in_ok-records.ensures ∙ none in
    rw c.in_ok-records.ensures (few_fit _ _ (few_alone c.args.change ((rw (← c.self.view_is) at c.requires.small) alone)))

pub apply-requires-clause-rises : goal.apply-requires-clause-rises
apply-requires-clause-rises g c = rw (← c.self.view_is) at c.requires.rises
