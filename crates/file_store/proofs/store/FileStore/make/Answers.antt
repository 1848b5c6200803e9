use Rattle.file_store.proofs.Names.{Err, None, ◌≡◌, ◌<◌, refl, ◌∙◌, ap, subst, arith, geometry_of, FileKey, next_held, Store, bytes_with, last_generation}
use Rattle.std.proofs.lemmas.Result.{err_from_is_err_and}
use Rattle.snapshot_text.specs.Refusals.{no_memory}
use Rattle.file_store.proofs.Ended.{ends_done, ends_err, lacking}
use Rattle.meta_store.proofs.SnapshotFits.{name-short}
use Rattle.inode_table.specs.Table.{next_key}
use Rattle.file_store.proofs.FilesBy.{key_next, next-listed, next-key_held, new-file, held-made}
use Rattle.file_store.proofs.store.FileStore.make.Given.{Over}
use Rattle.file_store.proofs.store.FileStore.make.Goals.{After-next_key-key}
use Rattle.file_store.proofs.store.FileStore.make.Goals as goal

key_is : (g : Over) (c : After-next_key-key g) → c.next_key-key.result ≡ key_next c.self.inside.meta.current
key_is g c = next-listed (geometry_of c.catalog.result.now.geometry).files c.catalog.result.now c.next_key-key.result (c.next_key-key.ensures ∙ ap next_key c.names.ensures) ∙ ap key_next c.catalog.ensures.catalog

pub record-requires-clause-stands : goal.record-requires-clause-stands
record-requires-clause-stands g c =
    let at = goal.at.record-requires-clause-stands g c in
    let m = c.self.inside.meta in
    let key = key_is g at.After-next_key-key in
    let early : m.current.next < last_generation = omega (arith, ap (λ (k : FileKey). k.igen) key, c.if-key-ge-LAST_GENERATION.false) in
    rw (← c.self.view_is, key, c.in_ok-name.ensures.cases)
    (new-file (bytes_with c.self.inside.bodies.items) m.current c.args.name.now c.self.invariant.0.catalog c.requires.lawful (rw (← c.self.view_is) at c.requires.free) (rw (← c.self.view_is, ← c.self.invariant.1.meta.stored.geometry) at c.requires.left) early)

pub returns-clause-key : goal.returns-clause-key
returns-clause-key g c =
    let at = goal.at.returns-clause-key g c in
    rw (← c.self.view_is) (key_is g at.After-next_key-key ∙ next-key_held (bytes_with c.self.inside.bodies.items) c.self.inside.meta.current)

pub returns-clause-held : goal.returns-clause-held
returns-clause-held g c =
    let at = goal.at.returns-clause-held g c in
    let key = subst (λ (s : Store g.row.D.Denot). c.next_key-key.result ≡ next_held s.held) c.self.view_is (key_is g at.After-next_key-key ∙ next-key_held (bytes_with c.self.inside.bodies.items) c.self.inside.meta.current) in
    c.in_ok-record.ensures.held ∙ held-made c.args.self.now.held c.next_key-key.result c.in_ok-name.name key ∙ rw c.in_ok-name.ensures.cases refl

pub returns-clause-ends : goal.returns-clause-ends
returns-clause-ends g c =
    let ends = c.in_ok-record.ensures.ends in ends_done g.D.Disk _ _ c.args.number None ends.proceeds _ refl ends.working (ends.faults.counts.quiet (λ e. cc))

pub returns-in_err-record-clause-ends : goal.returns-in_err-record-clause-ends
returns-in_err-record-clause-ends g c =
    let p = err_from_is_err_and c.from_residual-in_err-record.result c.from_residual-in_err-record.ensures.1 in
    let ends = c.record.ensures.ends in
    rw (p.1, p.2) (ends_err g.D.Disk _ _ c.args.number _ c.record.result c.in_err-record.field-0.0 c.in_err-record.was (λ part is. absurd (let some = ends.refused part is in cc)) ends)

pub returns-then-key-ge-LAST_GENERATION-clause-ends : goal.returns-then-key-ge-LAST_GENERATION-clause-ends
returns-then-key-ge-LAST_GENERATION-clause-ends g c = lacking c.has_failed-failed.ensures.idle c.requires.working (Err no_memory) refl

pub returns-in_err-name-clause-ends : goal.returns-in_err-name-clause-ends
returns-in_err-name-clause-ends g c = lacking c.has_failed-failed.ensures.idle c.requires.working c.from_residual.result c.from_residual.ensures.1

pub record-requires-clause-small : goal.record-requires-clause-small
record-requires-clause-small g c = λ none. rw c.in_ok-name.ensures.cases (name-short c.args.name.now c.requires.lawful)
