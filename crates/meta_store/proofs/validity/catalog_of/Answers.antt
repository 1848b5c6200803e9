use Rattle.std.proofs.Common.{◌≡◌, List, [], ◌∷◌, ◌++◌, length, map, sym, ◌∙◌, ap, arith, append_assoc, append-nil, ℕ, refl}
use Rattle.std.specs.Vec.Iter.{into_iter_items}
use Rattle.std.proofs.lemmas.List.{map-append, nil_from_length}
use Rattle.snapshot_text.specs.declared.snapshot.ReadRefusal.TheVariants.{Corrupt}
use Rattle.snapshot_text.specs.declared.snapshot.RawFile.{RawFile}
use Rattle.snapshot_text.specs.Snapshots.{raw_file, Snapshot, SnapshotFile, raw_snapshot, snapshot_file}
use Rattle.meta_store.specs.Snapshots.{snapshot_of}
use Rattle.snapshot_text.specs.declared.snapshot.RawSnapshot.{RawSnapshot}
use Rattle.meta_store.specs.Catalogs.{Catalog, IsCatalog, AreLengths}
use Rattle.snapshot_text.specs.Files.{geometry_of}
use Rattle.meta_store.specs.Validity.{listed_in, names_in, last_inode, IsNext}
use Rattle.meta_store.proofs.StandOnce.{last_inode-push}
use Rattle.snapshot_text.proofs.ReadParts.{told_err}
use Rattle.meta_store.proofs.PassingFiles.{passes}
use Rattle.meta_store.proofs.validity.catalog_of.Goals as goal

unfolded : (n : ℕ) (c : Catalog) → snapshot_of n c ≡ record { number = n; next = c.next; files = map snapshot_file c.files }
unfolding snapshot_of
unfolded n c = refl

-- a valid catalog's snapshot has no file that can't stand behind those before it
each-passes : (s : RawSnapshot) (n : ℕ) (c : Catalog) (before : List RawFile) (f : RawFile) (rest : List RawFile) → IsCatalog c → AreLengths c → raw_snapshot s ≡ snapshot_of n c → before ++ f ∷ rest ≡ s.files.items
    → IsNext (geometry_of c.geometry) s.next (map raw_file before) (raw_file f)
each-passes s n c before f rest valid long e cut =
    let says = e ∙ unfolded n c in
    rw (ap (λ (x : Snapshot). x.next) says) (passes c (map raw_file before) (raw_file f) (map raw_file rest) valid long (sym (ap (λ (x : Snapshot). x.files) says) ∙ sym (ap (λ (fs : List RawFile). map raw_file fs) cut) ∙ map-append raw_file before (f ∷ rest)))

last-taken : (before : List SnapshotFile) (f : SnapshotFile) → f.key.ino ≡ last_inode 0 (names_in (before ++ f ∷ []))
last-taken before f = rw (map-append listed_in before (f ∷ []), last_inode-push 0 (names_in before) (listed_in f)) refl

pub returns-then-snapshot-gt-LAST_NUMBER-clause-corrupt : goal.returns-then-snapshot-gt-LAST_NUMBER-clause-corrupt
returns-then-snapshot-gt-LAST_NUMBER-clause-corrupt c = λ is n d kind small valid long same.
    let says = same ∙ unfolded n d in
    grind (arith, valid.first, valid.next, c.then-snapshot-gt-LAST_NUMBER.either)

pub returns-in_err-take_in-clause-corrupt : goal.returns-in_err-take_in-clause-corrupt
returns-in_err-take_in-clause-corrupt c = λ is n d kind small valid long same.
    let cut = sym (ap (λ (fs : List RawFile). c.loop-file.yielded ++ fs) c.in-Some.ensures.steps.0) ∙ c.loop-file.invariant.walked in
    let passes = each-passes c.args.snapshot n d c.loop-file.yielded c.in-Some.file (into_iter_items c.next.new.self) valid long same cut in
    c.in_err-take_in.ensures.corrupt (told_err c.from_residual-in_err-take_in.result c.in_err-take_in.field-0.0 Corrupt c.from_residual-in_err-take_in.ensures.1 is) (rw (kind, ← c.geometry_of-bounds.ensures.geometry, ← c.loop-file.invariant.taken.taken) at passes)

pub loop-file-preserved : goal.loop-file-preserved
loop-file-preserved c =
    let so_far = c.loop-file.invariant in
    let before = c.loop-file.yielded in
    let file = c.in-Some.file in
    let rest = into_iter_items c.next.new.self in
    let next = c.in-Some.ensures.steps in
    let more : map raw_file (before ++ file ∷ []) ≡ map raw_file before ++ raw_file file ∷ [] = map-append raw_file before (file ∷ []) in
    record {
      walked = append_assoc before (file ∷ []) rest ∙ sym (ap (λ (fs : List RawFile). before ++ fs) next.0) ∙ so_far.walked;
      left = omega (arith, so_far.left, next.1, ap length next.0);
      taken = rw (more, ← so_far.taken.taken, ← c.geometry_of-bounds.ensures.geometry, ← so_far.taken.geometry) c.in_ok-take_in.ensures.taken;
      last = rw more (last-taken (map raw_file before) (raw_file file));
    }

pub returns-clause-found : goal.returns-clause-found
returns-clause-found c =
    let so_far = c.loop-file.invariant in
    let none : into_iter_items c.loop-file.file-iterator ≡ [] = nil_from_length _ (omega (arith, so_far.left, c.in-None.ensures.steps.0)) in
    let all = rw (none, append-nil c.loop-file.yielded) at so_far.walked in
    (so_far.taken.geometry, rw (unfolded c.args.snapshot.number c.loop-file.catalog, so_far.taken.next, so_far.taken.taken, all) refl, c.geometry-geometry.ensures.valid)
