use Rattle.std.proofs.Common.{◌≡◌, ◌+◌, refl, ◌∙◌, ap, arith, length, length-set}
use Rattle.std.proofs.lemmas.Result.{err_from_is_err_and}
use Rattle.inode_table.specs.Table.{entry_of}
use Rattle.journal_records.specs.Texts.{inode_of}
use Rattle.snapshot_text.specs.FileRecords.{file_after}
use Rattle.meta_store.specs.Records.{without_file, with_changed, key_on}
use Rattle.snapshot_text.specs.Files.{geometry_of, IsLawfulKept}
use Rattle.meta_store.specs.Catalogs.{Catalog, blocks_of, attribute_total, stub_total}
use Rattle.snapshot_text.specs.Parts.{kept_in}
use Rattle.meta_store.proofs.HeldCatalogs.{lawful, place-within, after}
use Rattle.meta_store.proofs.FileEdits.{count_of, stubs_of, mapped_of, used-sum, sum-drop, sum-change}
use Rattle.meta_store.proofs.FilesAfter.{fits}
use Rattle.meta_store.proofs.LentParts.{IsLent, lend, stands-on, lawful-file, lawful-regions, room, refusal, changed, stubs-few, new-held}
use Rattle.meta_store.proofs.KeptCatalogs.{IsCatalog-after}
use Rattle.meta_store.proofs.catalog.Catalog.change_file.Goals.{After-index_mut-parts}
use Rattle.meta_store.proofs.catalog.Catalog.change_file.Goals as goal

lent : (c : After-index_mut-parts) → IsLent c.self.inside c.args.self.now c.args.change c.slot.result c.index_mut-parts.result.now c.others-blocks.result.0 c.geometry_of-geometry.result
lent c =
    lend c.self.inside _ c.self.view_is c.self.invariant c.args.change c.requires.about c.requires.stands c.slot.result (rw c.ino-ino.ensures at c.slot.ensures) c.index_mut-parts.result.now c.index_mut-parts.ensures.value
    c.others-blocks.result.0 (rw c.ino-ino.ensures at c.others-blocks.ensures.others) c.geometry_of-geometry.result (c.geometry_of-geometry.ensures.geometry ∙ ap (λ (x : Catalog). geometry_of x.geometry) c.self.view_is)

pub others-blocks-requires : goal.others-blocks-requires
others-blocks-requires c = rw c.ino-ino.ensures (stands-on c.args.change _ c.requires.about c.requires.stands)

pub index_mut-parts-requires : goal.index_mut-parts-requires
index_mut-parts-requires c =
    let within = place-within c.self.inside _ c.self.view_is c.self.invariant (inode_of c.args.change) (stands-on c.args.change _ c.requires.about c.requires.stands) c.slot.result (rw c.ino-ino.ensures at c.slot.ensures) in
    omega (arith, within)

pub apply-requires-clause-fits : goal.apply-requires-clause-fits
apply-requires-clause-fits c = let t = lent (goal.at.apply-requires-clause-fits c).After-index_mut-parts in rw t.same (fits c.args.change t.file _ t.stands)

pub apply-requires-clause-attributes : goal.apply-requires-clause-attributes
apply-requires-clause-attributes c = omega (arith, (room (lent (goal.at.apply-requires-clause-attributes c).After-index_mut-parts)).0)

pub apply-requires-clause-stubs : goal.apply-requires-clause-stubs
apply-requires-clause-stubs c = omega (arith, (room (lent (goal.at.apply-requires-clause-stubs c).After-index_mut-parts)).1)

pub returns-in_err-apply-clause-refused : goal.returns-in_err-apply-clause-refused
returns-in_err-apply-clause-refused c =
    let p = err_from_is_err_and c.from_residual.result c.from_residual.ensures.1 in
    rw (p.1, p.2, refusal (lent (goal.at.returns-in_err-apply-clause-refused c).After-index_mut-parts)) c.in_err-apply.ensures.refused

pub overflow_add-self : goal.overflow_add-self
overflow_add-self c = let few = room (lent (goal.at.overflow_add-self c).After-index_mut-parts) in omega (arith, few.0, few.2, c.in_ok-apply.ensures.within few.0, c.bytes.ensures.count)

pub overflow_add-self-2 : goal.overflow_add-self-2
overflow_add-self-2 c =
    let t = lent (goal.at.overflow_add-self-2 c).After-index_mut-parts in
    omega (arith, (room t).3, stubs-few t c.apply.new.self c.size_in-size.result c.in_ok-apply.ensures.taken c.size_in-size.ensures c.in_ok-apply.ensures.judged, c.len.ensures.count)

pub overflow_add-self-3 : goal.overflow_add-self-3
overflow_add-self-3 c = omega (arith, (room (lent (goal.at.overflow_add-self-3 c).After-index_mut-parts)).4, c.from.ensures, rw c.ino-ino.ensures at c.others-blocks.ensures.used)

pub resize-requires : goal.resize-requires
resize-requires c = let t = lent (goal.at.resize-requires c).After-index_mut-parts in rw (c.ino-ino.ensures, t.at) refl

pub invariant_of-self-2 : goal.invariant_of-self-2
invariant_of-self-2 c =
    let t = lent (goal.at.invariant_of-self-2 c).After-index_mut-parts in
    let v = c.args.self.now in
    let r = c.args.change in
    let key = key_on (inode_of r) v in
    let w : Catalog = with_changed key (file_after r) v in
    let new = changed t c.apply.new.self c.size_in-size.result c.in_ok-apply.ensures.taken c.size_in-size.ensures in
    let few = stubs-few t c.apply.new.self c.size_in-size.result c.in_ok-apply.ensures.taken c.size_in-size.ensures c.in_ok-apply.ensures.judged in
    let held = new-held t c.apply.new.self c.size_in-size.result c.in_ok-apply.ensures.taken c.size_in-size.ensures in
    let kept : IsLawfulKept (geometry_of v.geometry).limits (kept_in c.apply.new.self) = record { regions = rw (← t.bound) (c.in_ok-apply.ensures.regions (lawful-regions t)); attributes = c.bytes.ensures.attributes; eight = c.in_ok-apply.ensures.eight (rw t.same (lawful-file t).kept.eight) } in
    let bytes : c.others-blocks.result.0.attributes + c.bytes.result ≡ attribute_total w.files = grind (arith, sum-change count_of key (file_after r) t.file v.files t.found, sum-drop count_of key t.file v.files t.found, new, t.others, c.bytes.ensures.count) in
    let entries : c.others-blocks.result.0.stubs + c.len.result ≡ stub_total w.files = grind (arith, sum-change stubs_of key (file_after r) t.file v.files t.found, sum-drop stubs_of key t.file v.files t.found, new, t.others, c.len.ensures.count) in
    let blocks : c.others-blocks.result.1 + c.from.result ≡ length (blocks_of w.files) =
    omega (arith, rw c.ino-ino.ensures at c.others-blocks.ensures.used, sum-change mapped_of key (file_after r) t.file v.files t.found, sum-drop mapped_of key t.file v.files t.found, used-sum (without_file key v).files, used-sum w.files, ap mapped_of new, c.from.ensures, c.mapped.ensures) in
    let good = IsCatalog-after r key t.file v _ _ (lawful c.self.inside _ c.self.view_is c.self.invariant) t.found
    (record { stands = t.stands; judged = rw t.same at c.in_ok-apply.ensures.judged; numbers = c.in_ok-apply.ensures.numbers; kept = rw new kept; ascend = rw new c.len.ensures.ascend })
    (rw (← bytes, c.bytes.ensures.count, ← t.bound) (c.in_ok-apply.ensures.within (room t).0)) (rw (← entries, c.len.ensures.count, ← t.bound) few) in
    rw (c.resize.ensures key (entry_of t.file.key t.file.name t.file.size) (rw c.ino-ino.ensures t.at) t.live.entry)
    (after c.self.inside _ c.self.view_is c.self.invariant _ _ w _ _ _ held refl (length-set c.self.inside.parts.items c.slot.result c.apply.new.self) good bytes entries blocks)

pub returns : goal.returns
returns c =
    let t = lent (goal.at.returns c).After-index_mut-parts in
    let none = refusal t ∙ c.in_ok-apply.ensures.judged in
    record {
      judged = none;
      taken = rw (c.resize.ensures _ (entry_of t.file.key t.file.name t.file.size) (rw c.ino-ino.ensures t.at) t.live.entry) (new-held t c.apply.new.self c.size_in-size.result c.in_ok-apply.ensures.taken c.size_in-size.ensures);
      refused = λ why. (λ done. cc, λ some. cc);
      no_disk = λ is. cc;
      sure = λ is. refl;
      err = tt;
    }
