use Rattle.std.proofs.Common.{map, sym, ◌∙◌, arith}
use Rattle.plain_model.specs.Blocks.{blocks_in}
use Rattle.snapshot_text.specs.declared.snapshot.ReadRefusal.TheVariants.{Corrupt}
use Rattle.snapshot_text.specs.Snapshots.{raw_file, snapshot_file}
use Rattle.snapshot_text.proofs.SpreadPlaces.{extents-tell}
use Rattle.snapshot_text.proofs.ReadParts.{told_err}
use Rattle.meta_store.proofs.StandOnce.{absent}
use Rattle.meta_store.proofs.PassingFiles.{names_in-snapshot, attribute_total_in-snapshot, stub_total_in-snapshot, may-keep}
use Rattle.meta_store.proofs.TakenFiles.{is-above, within, flags-tell, is-lawful, once-each, taken-more}
use Rattle.meta_store.proofs.validity.take_in.Goals as goal
use Rattle.meta_store.proofs.validity.take_in.Goals.{then-not-can_follow-via-then-not-can_follow, then-not-can_follow-via-else-not-can_follow+then-not-claim}

pub claim-requires : goal.claim-requires
claim-requires c = rw c.as_slice.ensures.value (within c.requires.taken c.if-not-can_follow.ensures.follows)

pub returns-then-not-can_follow-clause-corrupt : goal.returns-then-not-can_follow-clause-corrupt
returns-then-not-can_follow-clause-corrupt c = λ is next.
    let judged = next.judged in
    elim c.then-not-can_follow.branch [
      | then-not-can_follow-via-then-not-can_follow w ↦ grind (arith, c.can_follow.ensures.judged, w.if-not-can_follow.true)
      | then-not-can_follow-via-else-not-can_follow+then-not-claim w ↦
          let free = flags-tell c.requires.taken w.if-not-can_follow.ensures.follows in
          let no = sym free.0 ∙ rw w.as_slice.ensures.value at (sym w.claim.ensures.free ∙ w.if-not-claim.true) in
          grind arith
    ]

pub parts_of-requires-clause-blocks : goal.parts_of-requires-clause-blocks
parts_of-requires-clause-blocks c = (extents-tell 0 (blocks_in c.args.file.size) _ c.args.file.extents.items c.if-not-can_follow.ensures.follows.extents).0

pub returns-in_err-parts-clause-corrupt : goal.returns-in_err-parts-clause-corrupt
returns-in_err-parts-clause-corrupt c = λ is next.
    let may = may-keep c.args.geometry c.args.next (map snapshot_file c.args.catalog.now.files) (raw_file c.args.file) c.attribute_total.result c.stub_total.result (c.attribute_total.ensures ∙ attribute_total_in-snapshot c.args.catalog.now.files) (c.stub_total.ensures ∙ stub_total_in-snapshot c.args.catalog.now.files) next in
    c.in_err-parts.ensures.corrupt (told_err c.from_residual.result c.in_err-parts.field-0.0 Corrupt c.from_residual.ensures.1 is)
    (record { regions = may.regions; attributes = may.attributes; few = omega (arith, may.few, c.from.ensures); stubs = may.stubs; few_stubs = may.few_stubs })

pub put-requires-clause-low : goal.put-requires-clause-low
put-requires-clause-low c = rw c.parts_of.ensures.key (omega (arith, c.if-not-can_follow.ensures.follows.above))

pub put-requires-clause-high : goal.put-requires-clause-high
put-requires-clause-high c = rw (← c.requires.geometry, c.parts_of.ensures.key) c.if-not-can_follow.ensures.follows.high

pub put-requires-clause-early : goal.put-requires-clause-early
put-requires-clause-early c = rw c.parts_of.ensures.key (omega (arith, c.if-not-can_follow.ensures.follows.old, c.geometry-geometry.ensures.valid.next, c.requires.taken.next))

pub put-requires-clause-inode : goal.put-requires-clause-inode
put-requires-clause-inode c = rw c.parts_of.ensures.key (absent 0 c.args.file.key.ino _ c.geometry-geometry.ensures.valid.table.ascend (is-above c.requires.taken c.if-not-can_follow.ensures.follows))

pub put-requires-clause-name : goal.put-requires-clause-name
put-requires-clause-name c = rw (c.parts_of.ensures.name, ← names_in-snapshot c.args.catalog.now.files) c.if-not-can_follow.ensures.follows.fresh

pub put-requires-clause-lawful : goal.put-requires-clause-lawful
put-requires-clause-lawful c =
    let parts = c.in_ok-parts.ensures in
    rw (← c.requires.geometry, c.parts_of.ensures.key, c.parts_of.ensures.name, c.parts_of.ensures.sized, parts.made) (is-lawful c.requires.taken c.if-not-can_follow.ensures.follows parts.lawful parts.kept.stubs parts.numbers)

pub put-requires-clause-distinct : goal.put-requires-clause-distinct
put-requires-clause-distinct c =
    let free = rw c.as_slice.ensures.value at (sym c.claim.ensures.free ∙ c.if-not-claim.false) in
    rw c.in_ok-parts.ensures.made (once-each c.requires.taken c.if-not-can_follow.ensures.follows free c.geometry-geometry.ensures.valid.distinct)

pub put-requires-clause-room : goal.put-requires-clause-room
put-requires-clause-room c =
    let few = rw (← c.requires.geometry) at c.geometry-geometry.ensures.valid.few in
    rw (← c.requires.geometry, c.in_ok-parts.ensures.made) (omega (arith, few, c.in_ok-parts.ensures.kept.few, c.attribute_total.ensures))

pub put-requires-clause-stub_room : goal.put-requires-clause-stub_room
put-requires-clause-stub_room c =
    let few = rw (← c.requires.geometry) at c.geometry-geometry.ensures.valid.few_stubs in
    rw (← c.requires.geometry, c.in_ok-parts.ensures.made) (omega (arith, few, c.in_ok-parts.ensures.kept.few_stubs, c.stub_total.ensures))

pub returns-clause-taken : goal.returns-clause-taken
returns-clause-taken c =
    rw (c.in_ok-put.ensures.ok, c.parts_of.ensures.key, c.parts_of.ensures.name, c.parts_of.ensures.sized, c.in_ok-parts.ensures.made, c.if-not-claim.ensures.flags, c.as_slice.ensures.value)
    (taken-more c.requires.taken c.if-not-can_follow.ensures.follows c.geometry-geometry.ensures.valid.table.ascend c.in_ok-parts.ensures.kept.stubs)
