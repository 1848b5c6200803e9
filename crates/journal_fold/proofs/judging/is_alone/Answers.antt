use Rattle.std.proofs.Common.{◌≡◌, ◌≤◌, ◌^◌, [], true, sym, ◌∙◌, ap, subst, arith}
use Rattle.std.specs.Prelude.{Any, Err}
use Rattle.snapshot_text.specs.declared.snapshot.ReadRefusal.{ReadRefusal}
use Rattle.snapshot_text.specs.declared.snapshot.ReadRefusal.TheVariants.{Corrupt}
use Rattle.snapshot_text.specs.FileValidity.{MayKeep}
use Rattle.plain_model.specs.Blocks.{blocks_in}
use Rattle.snapshot_text.specs.declared.snapshot.Mapping.{Mapping}
use Rattle.snapshot_text.specs.Snapshots.{raw_file}
use Rattle.snapshot_text.proofs.SpreadPlaces.{extents-tell}
use Rattle.meta_store.specs.Validity.{can_follow}
use Rattle.meta_store.proofs.PassingFiles.{follows}
use Rattle.journal_fold.specs.Judged.{IsAlone}
use Rattle.journal_fold.proofs.AloneFiles.{alone_from, alone_passes, none_far, accepted, refused}
use Rattle.journal_fold.proofs.judging.is_alone.Goals as goal

pub returns-in_default : goal.returns-in_default
returns-in_default c =
    let far : Any (λ (e : Mapping). 2 ^ 32 ≤ e.block) c.args.file.now.extents = rw c.in_default.is at c.in_ok-raw.ensures in
    refused (λ is. none_far c.args.geometry c.args.next c.args.file.now c.requires is far)

pub returns-then-not-can_stand : goal.returns-then-not-can_stand
returns-then-not-can_stand c =
    let same : raw_file c.in-Some.raw ≡ c.args.file.now = rw c.in-Some.is at c.in_ok-raw.ensures in
    let differs = c.if-not-can_stand.true in
    refused (λ is. let stands : c.can_stand.result ≡ true = c.can_stand.ensures ∙ ap (can_follow c.args.geometry c.args.next []) same ∙ (alone_passes c.args.geometry c.args.next c.args.file.now is).0 in absurd (cc))

pub parts_of-requires-clause-blocks : goal.parts_of-requires-clause-blocks
parts_of-requires-clause-blocks c =
    let can : can_follow c.args.geometry c.args.next [] (raw_file c.in-Some.raw) ≡ true = sym c.can_stand.ensures ∙ c.if-not-can_stand.false in
    (extents-tell 0 (blocks_in c.in-Some.raw.size) c.args.geometry.blocks c.in-Some.raw.extents.items (follows c.args.geometry c.args.next [] (raw_file c.in-Some.raw) can).extents).0

pub returns-in-Ok : goal.returns-in-Ok
returns-in-Ok c =
    let same : raw_file c.in-Some.raw ≡ c.args.file.now = rw c.in-Some.is at c.in_ok-raw.ensures in
    let can : can_follow c.args.geometry c.args.next [] (raw_file c.in-Some.raw) ≡ true = sym c.can_stand.ensures ∙ c.if-not-can_stand.false in
    let parts = c.in-Ok.ensures in
    let may : MayKeep c.args.geometry.limits c.args.geometry.attributes c.args.geometry.stubs (raw_file c.in-Some.raw) =
    record { regions = parts.kept.regions; attributes = parts.kept.attributes; few = omega (arith, parts.kept.few, c.from-room.ensures); stubs = parts.kept.stubs; few_stubs = parts.kept.few_stubs } in
    accepted (subst (IsAlone c.args.geometry c.args.next) same (alone_from c.args.geometry c.args.next (raw_file c.in-Some.raw) can may parts.lawful parts.numbers))

pub returns-in-Err-Corrupt : goal.returns-in-Err-Corrupt
returns-in-Err-Corrupt c =
    let same : raw_file c.in-Some.raw ≡ c.args.file.now = rw c.in-Some.is at c.in_ok-raw.ensures in
    let corrupt : c.parts_of.result ≡ Err Corrupt = c.in-Err-Corrupt.is ∙ ap (λ (e : ReadRefusal). Err e) c.in-Err-Corrupt.field-0-is in
    refused (λ is.
    let may = (alone_passes c.args.geometry c.args.next (raw_file c.in-Some.raw) (subst (IsAlone c.args.geometry c.args.next) (sym same) is)).1 in
    c.parts_of.ensures.corrupt corrupt (record { regions = may.regions; attributes = may.attributes; few = omega (arith, may.few, c.from-room.ensures); stubs = may.stubs; few_stubs = may.few_stubs }))
