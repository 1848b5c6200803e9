use Rattle.file_store.proofs.Names.{None, ◌≡◌, ◌-◌, ◌+◌, ◌*◌, ◌&&◌, ◌||◌, ℕ, refl, sym, ◌∙◌, ap, subst, arith, set, length, take, drop}
use Rattle.file_store.proofs.Names.{unmarked, after_all, refusal_of_all, CanStandAll, IsEvent, held_with, affected_held, present, HeldBody, no_body}
use Rattle.file_store.proofs.Names.{is_away, get_or, get_or_read, Kept}
use Rattle.std.specs.Prelude.{nat_le, nat_lt}
use Rattle.plain_model.specs.Effects.{Punches}
use Rattle.hsm_types.specs.Limits.{segment_bytes, segment_blocks}
use Rattle.hsm_types.specs.Segments.{from_on}
use Rattle.meta_store.specs.Batches.{FitEmpty}
use Rattle.meta_store.specs.Catalogs.{AreLengths}
use Rattle.file_store.specs.Punches.{punch_records}
use Rattle.snapshot_text.specs.Refusals.{no_memory}
use Rattle.file_store.proofs.Durable.{Parts, IsDone, after_event}
use Rattle.file_store.proofs.PunchedBodies.{zeroed}
use Rattle.file_store.proofs.EventTexts.{digests_found, few_punched, few_fit}
use Rattle.file_store.proofs.PunchEvents.{IsGoing, few_going, ready, are_going, event, lengths, freed_within, gone, kept_is}
use Rattle.file_store.proofs.Ended.{ends_done, kept_ends, refused_first}
use Rattle.file_store.proofs.WithBodies.{is-body}
use Rattle.file_store.proofs.store.FileStore.let_go.Given.{Over}
use Rattle.file_store.proofs.store.FileStore.let_go.Goals.{After-of-before, After-index_mut, After-leave}
use Rattle.file_store.proofs.store.FileStore.let_go.Goals as goal

-- ---- what is known before the records are taken

abbrev parts : (g : Over) → After-of-before g → Parts g.row.D.Denot
parts g c = record { disk = c.self.inside.disk; meta = c.self.inside.meta; bodies = c.self.inside.bodies.items; durable = c.self.inside.durable.value.items; space = c.self.inside.space; failed = c.self.inside.failed }

given : (g : Over) (c : After-of-before g) → IsGoing g.D.Disk (parts g c) c.args.key c.args.from (c.args.to - c.args.from)
given g c =
    ready g.D.Disk (parts g c) c.args.key c.args.from c.args.to c.self.invariant.0 c.self.invariant.1 (ap (λ s. s.failed) c.self.view_is ∙ c.requires.working) (rw (← c.self.view_is) at c.requires.live) (rw (← c.self.view_is) at c.requires.start) c.requires.order
    (rw (← c.self.view_is) at c.requires.end) (rw (← c.self.view_is) at c.requires.judged)

last : (g : Over) (c : After-of-before g) → c.args.to ≡ c.args.from + (c.args.to - c.args.from)
last g c = omega (arith, c.requires.order)

records_are : (g : Over) (c : After-of-before g) → c.args.punch.records ≡ punch_records c.args.key.ino (given g c).at.file.kept.stubs (from_on c.args.from (c.args.to - c.args.from))
records_are g c =
    let at = (given g c).at in
    (rw (← c.self.view_is) at c.requires.records) ∙ ap (λ (kept : Kept). punch_records c.args.key.ino kept.stubs (from_on c.args.from (c.args.to - c.args.from))) (kept_is c.self.inside.meta.current c.args.key at.file at.found)

freed_are : (g : Over) (c : After-of-before g) → c.args.punch.freed.items ≡ present (take (segment_blocks * (c.args.to - c.args.from)) (drop (segment_blocks * c.args.from) (given g c).at.file.places))
freed_are g c = let at = (given g c).at in (rw (← c.self.view_is) at c.requires.freed) at.file at.found

pub apply-requires-clause-event : goal.apply-requires-clause-event
apply-requires-clause-event g c = let at = (goal.at.apply-requires-clause-event g c).After-of-before in subst IsEvent (sym (records_are g at)) (event (given g at) (last g at))

pub apply-requires-clause-stand : goal.apply-requires-clause-stand
apply-requires-clause-stand g c =
    let at = (goal.at.apply-requires-clause-stand g c).After-of-before in subst (λ rs. CanStandAll rs c.self.inside.meta.current) (sym (records_are g at)) (are_going (given g at) (last g at)).stand

pub apply-requires-clause-lengths : goal.apply-requires-clause-lengths
apply-requires-clause-lengths g c =
    let at = (goal.at.apply-requires-clause-lengths g c).After-of-before in subst (λ rs. AreLengths (after_all rs c.self.inside.meta.current)) (sym (records_are g at)) (lengths (given g at) (last g at))

pub apply-requires-clause-fits : goal.apply-requires-clause-fits
apply-requires-clause-fits g c = λ none.
    let at = (goal.at.apply-requires-clause-fits g c).After-of-before in
    let x = given g at in
    subst (FitEmpty c.self.inside.meta.current.geometry) (sym (records_are g at)) (few_fit _ _ (few_punched c.args.key.ino x.at.file.kept.stubs _ (digests_found _ c.args.key x.at.file x.lawful.current x.at.found) (few_going _ _ _ _ x)))

pub apply-requires-clause-rises : goal.apply-requires-clause-rises
apply-requires-clause-rises g c = rw (← c.self.view_is) at c.requires.rises

-- ---- once they are taken

pub slot-requires : goal.slot-requires
slot-requires g c = (given g (goal.at.slot-requires g c).After-of-before).at.low

pub index_mut-requires : goal.index_mut-requires
index_mut-requires g c = let at = (given g (goal.at.index_mut-requires g c).After-of-before).at in omega (arith, c.slot.ensures, at.low, at.high)

body_is : (g : Over) (c : After-index_mut g) → c.index_mut.result.now ≡ get_or c.self.inside.bodies.items (c.args.key.ino - 1) no_body
body_is g c =
    let at = (given g (goal.at.After-index_mut g c).After-of-before).at in
    get_or_read c.self.inside.bodies.items (c.args.key.ino - 1) c.index_mut.result.now (omega (arith, at.low, at.high)) (rw c.slot.ensures at c.index_mut.ensures.value) no_body

pub leave-requires-clause-within : goal.leave-requires-clause-within
leave-requires-clause-within g c =
    let at = goal.at.leave-requires-clause-within g c in
    let x = given g at.After-of-before in
    rw (body_is g at.After-index_mut, (is-body x.files x.at).size) x.start

taken : (g : Over) (c : After-leave g) → IsDone g.D.Disk (parts g (goal.at.After-leave g c).After-of-before) c.args.number (record (held_with c.self.inside.bodies.items c.self.inside.meta.current) { files = affected_held (Punches c.args.from c.args.to) c.args.key (held_with c.self.inside.bodies.items c.self.inside.meta.current).files })
    (after_event (parts g (goal.at.After-leave g c).After-of-before) c.apply.new.disk c.apply.new.self c.in-Ok.wrote (set c.self.inside.bodies.items c.slot.result c.leave.new.self) (unmarked c.args.punch.freed.items c.self.inside.space.current) c.self.inside.space.current)
taken g c =
    let at = goal.at.After-leave g c in
    let x = given g at.After-of-before in
    let old : HeldBody = get_or c.self.inside.bodies.items (c.args.key.ino - 1) no_body in
    let bytes : c.leave.new.self.bytes ≡ zeroed c.args.from c.args.to old.bytes = rw (body_is g at.After-index_mut) at c.leave.ensures.bytes in
    let away : (j : ℕ) → is_away c.leave.new.self j ≡ (is_away old j || (nat_le c.args.from j && nat_lt j c.args.to && nat_lt (segment_bytes * j) (length old.bytes))) =
    λ j. rw (body_is g at.After-index_mut) at c.leave.ensures.away j in
    let it =
    gone x (last g at.After-of-before) c.leave.new.self bytes away c.apply.new.disk c.apply.new.self c.args.number c.in-Ok.wrote (λ e. c.in-Ok.ensures.wrote e, λ e. c.in-Ok.ensures.staged e) (c.in-Ok.ensures.taken.current ∙ ap (λ rs. after_all rs c.self.inside.meta.current) (records_are g at.After-of-before))
    c.in-Ok.ensures.lawful c.in-Ok.ensures.backs c.apply.ensures.any_moment in
    rw (c.slot.ensures, freed_are g at.After-of-before) it

pub release_all-requires : goal.release_all-requires
release_all-requires g c =
    let at = (goal.at.release_all-requires g c).After-of-before in rw (c.deref.ensures.value, c.make_durable.ensures.blocks, freed_are g at) (freed_within (given g at) (last g at))

pub invariant_of-self : goal.invariant_of-self
invariant_of-self g c =
    let is = taken g (goal.at.invariant_of-self g c).After-leave in
    rw (c.release_all.ensures, c.deref.ensures.value, c.make_durable.ensures.blocks, c.make_durable.ensures.bodies, c.of-before.ensures) (is.files, is.sound)

pub returns-in-Ok : goal.returns-in-Ok
returns-in-Ok g c =
    let working = ap (λ s. s.failed) c.self.view_is ∙ c.requires.working in
    let is = taken g (goal.at.returns-in-Ok g c).After-leave in
    rw (c.release_all.ensures, c.deref.ensures.value, c.make_durable.ensures.blocks, c.make_durable.ensures.bodies, c.of-before.ensures, ← c.self.view_is)
    record { changed = record { held = is.held; ends = ends_done g.D.Disk _ _ c.args.number None is.proceeds tt refl working (c.apply.ensures.faults.quiet (λ e. cc)) } }

-- ---- where they aren't

pub returns-in-Err : goal.returns-in-Err
returns-in-Err g c =
    let working = ap (λ s. s.failed) c.self.view_is ∙ c.requires.working in
    let at = (goal.at.returns-in-Err g c).After-of-before in
    let none = ap (λ rs. refusal_of_all rs c.self.inside.meta.current) (records_are g at) ∙ (are_going (given g at) (last g at)).passed in
    rw (c.in-Err.ensures.err, c.is_disk-self-inside.ensures, ← c.self.view_is) record {
      changed = record {
        held = tt;
        ends = kept_ends g.D.Disk (parts g at) c.apply.new.disk c.args.number None c.apply.result c.in-Err.refusal c.self.invariant.1 working c.in-Err.is c.apply.ensures.any_moment (λ part is. absurd (let some = (c.apply.ensures.refused part).0 is in cc)) c.apply.ensures.faults;
      };
    }

pub returns-then-number-gt-LAST_NUMBER : goal.returns-then-number-gt-LAST_NUMBER
returns-then-number-gt-LAST_NUMBER g c = record { changed = record { held = tt; ends = refused_first c.has_failed-failed.ensures.idle c.requires.working _ no_memory refl (λ is. cc) (λ part is. absurd cc) } }
