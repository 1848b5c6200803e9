use Rattle.file_store.proofs.Names.{None, mappings_of, subst, List, Mapping, CatalogFile, HeldBody, no_body, IsHere, IsAlike, HasEntry, BringsAway}
use Rattle.file_store.proofs.Names.{HasRoom, remapped, bytes_with, ◌≡◌, ◌-◌, refl, sym, ◌∙◌, ap, arith, Err, length, set, marked, unmarked}
use Rattle.file_store.proofs.Names.{affected_held, rebody, effect_of, new_size, touched_of, places_for, layout_of, IsBesideBlocks, IsStaged, Keeps}
use Rattle.file_store.proofs.Names.{held_with, geometry-bounded, get_or_read}
use Rattle.file_store.proofs.Durable.{Parts, IsDone, after_event}
use Rattle.file_store.proofs.ByteChanges.{within-grown, length-grown, changed-grown, grown-enough}
use Rattle.file_store.proofs.RewriteRecords.{is_event}
use Rattle.file_store.proofs.EventTexts.{digests_found, few_rewritten, few_fit}
use Rattle.file_store.proofs.SoundChanges.{brings-away, has-range, here-after}
use Rattle.file_store.proofs.FilesBy.{kept-found}
use Rattle.file_store.proofs.WithBodies.{is-body}
use Rattle.std.proofs.lemmas.Option.{same_Some}
use Rattle.file_store.proofs.StoreEvents.{Given, known, body_of, bytes_in, IsBack, bodies_back, within, lengths_then, passes, fits, stand}
use Rattle.file_store.proofs.StoreEvents.{places_within, freed_within, undone, written_proceeds, written_live, refused_proceeds, rewritten}
use Rattle.file_store.proofs.StoreEvents.{refused_sound}
use Rattle.snapshot_text.specs.Refusals.{no_memory}
use Rattle.file_store.proofs.Ended.{ends_done, ends_refused, refused_first}
use Rattle.file_store.proofs.store.FileStore.rewrite.Given.{Over}
use Rattle.file_store.proofs.store.FileStore.rewrite.Goals.{After-of-before, After-stage, In-Ok, After-apply-in-Ok-apply, After-undo}
use Rattle.file_store.proofs.store.FileStore.rewrite.Goals as goal

-- ---- what is known before the first write

abbrev parts : (g : Over) → After-of-before g → Parts g.row.D.Denot
parts g c = record { disk = c.self.inside.disk; meta = c.self.inside.meta; bodies = c.self.inside.bodies.items; durable = c.self.inside.durable.value.items; space = c.self.inside.space; failed = c.self.inside.failed }

given : (g : Over) (c : After-of-before g) → Given g.D.Disk (parts g c) c.args.key c.args.change
given g c =
    known g.D.Disk (parts g c) c.args.key c.args.change c.self.invariant.0 c.self.invariant.1 (ap (λ s. s.failed) c.self.view_is ∙ c.requires.working) (rw (← c.self.view_is) at c.requires.live) c.requires.lawful
    (rw (← c.self.view_is) at c.requires.limited) (rw (← c.self.view_is) at c.requires.sound) (rw (← c.self.view_is) at c.requires.room) (rw (← c.self.view_is) at c.requires.enough)

pub slot-requires : goal.slot-requires
slot-requires g c = (given g (goal.at.slot-requires g c).After-of-before).at.low

pub index_mut-body-requires : goal.index_mut-body-requires
index_mut-body-requires g c = let at = (given g (goal.at.index_mut-body-requires g c).After-of-before).at in omega arith

-- what comes back is away
away : (g : Over) (c : After-of-before g) → BringsAway c.args.change (body_of c.self.inside.bodies.items c.args.key)
away g c =
    let x = given g c in
    let bodies = c.self.inside.bodies.items in
    let meta = c.self.inside.meta in
    let kept = kept-found (bytes_with bodies) meta.current c.args.key x.at.file x.at.found in
    brings-away c.args.change x.at.file (body_of bodies c.args.key) (is-body x.files x.at).here (rw kept at (rw (← c.self.view_is) at c.requires.offline))

body_is : (g : Over) (c : After-stage g) → c.index_mut-body.result.now ≡ body_of c.self.inside.bodies.items c.args.key
body_is g c =
    let at = (given g (goal.at.After-stage g c).After-of-before).at in
    get_or_read c.self.inside.bodies.items (c.args.key.ino - 1) c.index_mut-body.result.now (omega arith) (rw c.slot.ensures at c.index_mut-body.ensures.value) no_body

-- where it goes by the bytes
bytes_are : (g : Over) (c : After-stage g) → c.index_mut-body.result.now.bytes ≡ bytes_in c.self.inside.bodies.items c.args.key
bytes_are g c = ap (λ (b : HeldBody). b.bytes) (body_is g c)

pub stage-requires : goal.stage-requires
stage-requires g c =
    let x = given g (goal.at.stage-requires g c).After-of-before in
    let at = x.at in
    let is = get_or_read c.self.inside.bodies.items (c.args.key.ino - 1) c.index_mut-body.result.now (omega arith) (rw c.slot.ensures at c.index_mut-body.ensures.value) no_body in
    rw (c.catalog-catalog.ensures.catalog, is) record {
      live = rw x.at.found refl;
      lawful = x.may;
      entry = λ f found. subst (λ (e : CatalogFile). HasEntry c.args.change e.kept.stubs) (same_Some _ _ (sym x.at.found ∙ found)) x.allowed.entry;
      away = away g (goal.at.stage-requires g c).After-of-before;
      within = within x;
      few = omega (arith, x.room, (geometry-bounded c.self.inside.meta.current.geometry).1);
      enough = x.enough;
      fits = fits x;
    }

-- ---- once the blocks are written

moments : (g : Over) (c : After-stage g) → Keeps g.D.Disk c.self.inside.disk c.stage.new.disk (IsBesideBlocks (layout_of c.self.inside.meta.current.geometry).blocks (places_for c.args.change (bytes_in c.self.inside.bodies.items c.args.key) c.self.inside.space))
moments g c = rw (c.catalog-catalog.ensures.catalog, bytes_are g c) at c.stage.ensures.any_moment

staged : (g : Over) (c : In-Ok g) → IsStaged g.D.Disk c.self.inside.disk c.stage.new.disk c.self.inside.meta.current c.args.key c.args.change (bytes_in c.self.inside.bodies.items c.args.key) c.self.inside.space c.in-Ok.staged.plan.records c.in-Ok.staged.plan.freed.items
staged g c = rw (c.catalog-catalog.ensures.catalog, bytes_are g (goal.at.In-Ok g c).After-stage) at c.in-Ok.ensures.staged

space_is : (g : Over) (c : In-Ok g) → c.stage.new.space ≡ record c.self.inside.space { current = marked (places_for c.args.change (bytes_in c.self.inside.bodies.items c.args.key) c.self.inside.space) c.self.inside.space.current }
space_is g c = rw (bytes_are g (goal.at.In-Ok g c).After-stage) at c.in-Ok.ensures.marked

-- where there was no memory for it, or the disk failed: the body is as it was
back : (g : Over) (c : After-stage g) → IsAlike c.index_mut-body.result.now c.stage.new.body → IsBack (parts g (goal.at.After-stage g c).After-of-before) (set c.self.inside.bodies.items c.slot.result c.stage.new.body)
back g c alike =
    let x = given g (goal.at.After-stage g c).After-of-before in
    rw c.slot.ensures (bodies_back x c.stage.new.body (subst (λ (b : HeldBody). IsAlike b c.stage.new.body) (body_is g c) alike))

pub invariant_of-self : goal.invariant_of-self
invariant_of-self g c =
    let at = goal.at.invariant_of-self g c in
    let failed = c.is_disk-self-inside.ensures in
    let same = back g at.After-stage c.in-Err.ensures.err in
    rw (same.1, failed) (
      same.0,
      refused_sound g.D.Disk _ c.stage.new.disk c.stage.new.space c.in-Err.refusal c.self.invariant.1 (ap (λ s. s.failed) c.self.view_is ∙ c.requires.working) (λ why is. absurd (c.in-Err.ensures.no_part why (ap (λ e. Err e) is)))
          (λ is. c.in-Err.ensures.memory (ap (λ e. Err e) is)),
    )

pub returns-in-Err : goal.returns-in-Err
returns-in-Err g c =
    let at = goal.at.returns-in-Err g c in
    rw (← c.self.view_is) record {
      changed = record {
        held = tt;
        ends = ends_refused g.D.Disk _ _ c.args.number None (written_proceeds (given g at.After-of-before) (moments g at.After-stage) c.args.number _ _ _) c.stage.result c.in-Err.refusal c.in-Err.is c.is_disk-self-inside.ensures
            (λ part is. absurd (c.stage.ensures.no_part part is)) (λ is. (back g at.After-stage c.in-Err.ensures.err).1) c.stage.ensures.faults;
      };
    }

pub apply-requires-clause-backs : goal.apply-requires-clause-backs
apply-requires-clause-backs g c = let at = goal.at.apply-requires-clause-backs g c in (written_live (given g at.After-of-before) (moments g at.After-stage) (staged g at.In-Ok)).backs

pub apply-requires-clause-event : goal.apply-requires-clause-event
apply-requires-clause-event g c =
    let at = goal.at.apply-requires-clause-event g c in
    let x = given g at.After-of-before in
    is_event _ _ _ _ _ _ ((staged g at.In-Ok).rewriting x.at.file x.at.found)

pub apply-requires-clause-stand : goal.apply-requires-clause-stand
apply-requires-clause-stand g c =
    let at = goal.at.apply-requires-clause-stand g c in
    let x = given g at.After-of-before in
    stand x ((staged g at.In-Ok).rewriting x.at.file x.at.found)

pub apply-requires-clause-lengths : goal.apply-requires-clause-lengths
apply-requires-clause-lengths g c =
    let at = goal.at.apply-requires-clause-lengths g c in
    let x = given g at.After-of-before in
    lengths_then x ((staged g at.In-Ok).rewriting x.at.file x.at.found)

pub apply-requires-clause-fits : goal.apply-requires-clause-fits
apply-requires-clause-fits g c = λ none.
    let at = goal.at.apply-requires-clause-fits g c in
    let x = given g at.After-of-before in
    few_fit _ _ (few_rewritten c.args.key.ino c.args.change _ x.at.file.kept.stubs _ _ c.requires.lawful c.requires.access (digests_found _ c.args.key x.at.file x.lawful.current x.at.found) ((staged g at.In-Ok).rewriting x.at.file x.at.found))

pub apply-requires-clause-rises : goal.apply-requires-clause-rises
apply-requires-clause-rises g c = rw (← c.self.view_is) at c.requires.rises

-- ---- once the records are taken

new_bytes : (g : Over) (c : After-apply-in-Ok-apply g) → c.apply-in-Ok-apply.new.body.bytes ≡ rebody (effect_of c.args.change) (bytes_in c.self.inside.bodies.items c.args.key)
new_bytes g c =
    c.apply-in-Ok-apply.ensures.bytes
    ∙ ap (rebody (effect_of c.args.change)) c.in-Ok.ensures.room.bytes
    ∙ changed-grown c.args.change c.index_mut-body.result.now.bytes
    ∙ ap (rebody (effect_of c.args.change)) (bytes_are g (goal.at.After-apply-in-Ok-apply g c).After-stage)

room : (g : Over) (c : In-Ok g) → HasRoom c.args.change (body_of c.self.inside.bodies.items c.args.key) c.stage.new.body
room g c = subst (λ (b : HeldBody). HasRoom c.args.change b c.stage.new.body) (body_is g (goal.at.In-Ok g c).After-stage) c.in-Ok.ensures.room

-- what is away of the body is what is offline then
new_here : (g : Over) (c : After-apply-in-Ok-apply g) (ms : List Mapping) → let x = given g (goal.at.After-apply-in-Ok-apply g c).After-of-before in IsHere c.apply-in-Ok-apply.new.body (remapped c.args.change x.at.file.size ms x.at.file)
new_here g c ms =
    let at = goal.at.After-apply-in-Ok-apply g c in
    let x = given g at.After-of-before in
    here-after c.args.change x.at.file x.allowed (body_of c.self.inside.bodies.items c.args.key) c.stage.new.body (is-body x.files x.at).here (room g at.In-Ok)
    c.apply-in-Ok-apply.new.body ms c.apply-in-Ok-apply.ensures.away

taken : (g : Over) (c : After-apply-in-Ok-apply g) → IsDone g.D.Disk (parts g (goal.at.After-apply-in-Ok-apply g c).After-of-before) c.args.number (record (held_with c.self.inside.bodies.items c.self.inside.meta.current) { files = affected_held (effect_of c.args.change) c.args.key (held_with c.self.inside.bodies.items c.self.inside.meta.current).files })
    (after_event (parts g (goal.at.After-apply-in-Ok-apply g c).After-of-before) c.apply.new.disk c.apply.new.self c.in-Ok-apply.wrote (set c.self.inside.bodies.items c.slot.result c.apply-in-Ok-apply.new.body)
    (unmarked c.in-Ok.staged.plan.freed.items (marked (places_for c.args.change (bytes_in c.self.inside.bodies.items c.args.key) c.self.inside.space) c.self.inside.space.current)) (marked (places_for c.args.change (bytes_in c.self.inside.bodies.items c.args.key) c.self.inside.space) c.self.inside.space.current))
taken g c =
    let at = goal.at.After-apply-in-Ok-apply g c in
    rw c.slot.ensures
    (rewritten (given g at.After-of-before) (moments g at.After-stage) (staged g at.In-Ok) c.apply-in-Ok-apply.new.body (new_bytes g c) (new_here g c (mappings_of (touched_of c.args.change (bytes_in c.self.inside.bodies.items c.args.key)) (places_for c.args.change (bytes_in c.self.inside.bodies.items c.args.key) c.self.inside.space))) c.args.number _ _ c.in-Ok-apply.wrote (λ e. c.in-Ok-apply.ensures.wrote e, λ e. c.in-Ok-apply.ensures.staged e)
    c.in-Ok-apply.ensures.taken.current c.in-Ok-apply.ensures.lawful c.in-Ok-apply.ensures.backs c.apply.ensures.any_moment)

pub apply-requires-in-Ok-apply : goal.apply-requires-in-Ok-apply
apply-requires-in-Ok-apply g c =
    let at = goal.at.apply-requires-in-Ok-apply g c in
    let x = given g at.After-of-before in
    let body = c.index_mut-body.result.now.bytes in
    let own = ap length (bytes_are g at.After-stage) ∙ (is-body x.files x.at).size in
    record {
      lawful = c.requires.lawful;
      in_place = rw c.in-Ok.ensures.room.bytes (grown-enough c.args.change body);
      within = rw c.in-Ok.ensures.room.bytes (within-grown c.args.change (new_size c.args.change body) body (rw own x.allowed.within));
      here = has-range c.args.change x.at.file x.allowed (body_of c.self.inside.bodies.items c.args.key) c.stage.new.body (is-body x.files x.at).here (room g at.In-Ok) c.requires.lawful;
    }

pub release_all-requires : goal.release_all-requires
release_all-requires g c =
    let at = goal.at.release_all-requires g c in
    let x = given g at.After-of-before in
    rw (c.deref.ensures.value, c.make_durable.ensures.blocks, space_is g at.In-Ok) (freed_within x ((staged g at.In-Ok).frees x.at.file x.at.found))

pub invariant_of-self-in-Ok-apply : goal.invariant_of-self-in-Ok-apply
invariant_of-self-in-Ok-apply g c =
    let at = goal.at.invariant_of-self-in-Ok-apply g c in
    let is = taken g at.After-apply-in-Ok-apply in
    rw (c.release_all.ensures, c.deref.ensures.value, c.make_durable.ensures.blocks, space_is g at.In-Ok, c.make_durable.ensures.bodies, c.of-before.ensures) (is.files, is.sound)

pub returns-in-Ok-apply : goal.returns-in-Ok-apply
returns-in-Ok-apply g c =
    let at = goal.at.returns-in-Ok-apply g c in
    let working = ap (λ s. s.failed) c.self.view_is ∙ c.requires.working in
    let is = taken g at.After-apply-in-Ok-apply in
    rw (c.release_all.ensures, c.deref.ensures.value, c.make_durable.ensures.blocks, space_is g at.In-Ok, c.make_durable.ensures.bodies, c.of-before.ensures, ← c.self.view_is)
    record { changed = record { held = is.held; ends = ends_done g.D.Disk _ _ c.args.number None is.proceeds tt refl working (c.apply.ensures.faults.quiet (λ e. cc) ∙ c.stage.ensures.faults.quiet (λ e. cc)) } }

-- ---- where they aren't taken

back_again : (g : Over) (c : After-undo g) → IsBack (parts g (goal.at.After-undo g c).After-of-before) (set c.self.inside.bodies.items c.slot.result c.undo.new.body)
back_again g c =
    let at = goal.at.After-undo g c in
    let x = given g at.After-of-before in
    let long = ap (λ (b : HeldBody). length b.bytes) (sym (body_is g at.After-stage)) ∙ sym c.len-old.ensures.len in
    rw c.slot.ensures (bodies_back x c.undo.new.body (c.undo.ensures (body_of c.self.inside.bodies.items c.args.key) (room g at.In-Ok) long (away g at.After-of-before)))

pub undo-requires : goal.undo-requires
undo-requires g c =
    let at = goal.at.undo-requires g c in
    let body = c.index_mut-body.result.now.bytes in
    record {
      lawful = c.requires.lawful;
      file = c.len-old.ensures.limit;
      size = rw (c.in-Ok.ensures.room.bytes, c.len-old.ensures.len) (omega (arith, length-grown (new_size c.args.change body) body));
      within = rw (c.len-old.ensures.len, bytes_are g at.After-stage) (within (given g at.After-of-before));
    }

pub release_all-requires-in-Err-apply : goal.release_all-requires-in-Err-apply
release_all-requires-in-Err-apply g c =
    let at = goal.at.release_all-requires-in-Err-apply g c in
    let body = bytes_in c.self.inside.bodies.items c.args.key in
    rw (c.as_slice.ensures.value, c.in-Ok.ensures.places, space_is g at.In-Ok, bytes_are g at.After-stage) (places_within c.self.inside.space (length (touched_of c.args.change body)))

pub invariant_of-self-in-Err-apply : goal.invariant_of-self-in-Err-apply
invariant_of-self-in-Err-apply g c =
    let at = goal.at.invariant_of-self-in-Err-apply g c in
    let sound = c.self.invariant.1 in
    let body = bytes_in c.self.inside.bodies.items c.args.key in
    let failed = c.is_disk-self-inside-in-Err-apply.ensures in
    let same = back_again g at.After-undo in
    rw (c.in-Err-apply.ensures.err, same.1, c.release_all-in-Err-apply.ensures, c.as_slice.ensures.value, c.in-Ok.ensures.places, space_is g at.In-Ok, bytes_are g at.After-stage, undone c.self.inside.space (length (touched_of c.args.change body)), failed) (
      same.0,
      refused_sound g.D.Disk _ c.apply.new.disk _ c.in-Err-apply.refusal
          (record { meta = sound.meta; live = λ still. written_live (given g at.After-of-before) (moments g at.After-stage) (staged g at.In-Ok) })
          (ap (λ s. s.failed) c.self.view_is ∙ c.requires.working) (λ why is. (refl, c.in-Err-apply.ensures.unwritten why (ap (λ e. Err e) is))) (λ is. (refl, c.in-Err-apply.ensures.memory (ap (λ e. Err e) is))),
    )

pub returns-in-Err-apply : goal.returns-in-Err-apply
returns-in-Err-apply g c =
    let at = goal.at.returns-in-Err-apply g c in
    let x = given g at.After-of-before in
    let none = passes x ((staged g at.In-Ok).rewriting x.at.file x.at.found) in
    rw (c.in-Err-apply.ensures.err, ← c.self.view_is) record {
      changed = record {
        held = tt;
        ends = ends_refused g.D.Disk _ _ c.args.number None (refused_proceeds x (moments g at.After-stage) (staged g at.In-Ok) c.args.number _ c.apply.ensures.any_moment refl refl) c.apply.result c.in-Err-apply.refusal c.in-Err-apply.is
            c.is_disk-self-inside-in-Err-apply.ensures (λ part is. absurd (let some = (c.apply.ensures.refused part).0 is in cc)) (λ is. (back_again g at.After-undo).1) (rw (c.stage.ensures.faults.quiet (λ e. cc)) at c.apply.ensures.faults);
      };
    }

pub returns-then-number-gt-LAST_NUMBER : goal.returns-then-number-gt-LAST_NUMBER
returns-then-number-gt-LAST_NUMBER g c = record { changed = record { held = tt; ends = refused_first c.has_failed-failed.ensures.idle c.requires.working _ no_memory refl (λ is. cc) (λ part is. absurd cc) } }
