-- The stub entries of a file after a record about it.
use Rattle.std.proofs.Common.{◌≡◌, ℕ, ◌+◌, ◌*◌, ◌/◌, ◌<◌, ◌≤◌, length, true, Some, None, ◌⊎◌, inl, inr, refl, ap, ◌∙◌, arith, get_or}
use Rattle.std.specs.List.{AllByRecursion}
use Rattle.std.specs.List.Sorted.{IsStrictlySortedBy}
use Rattle.std.specs.Map.{keys_of}
use Rattle.std.specs.Ordering.{nat_cmp}
use Rattle.std.proofs.lemmas.List.Sums.{length-filter, count_by-le-length}
use Rattle.hsm_types.specs.Limits.{segment_bytes, segment_blocks}
use Rattle.hsm_types.specs.declared.stores.Geometry.{Geometry}
use Rattle.hsm_types.specs.declared.stubs.Stub.{Stub as StubOf}
use Rattle.hsm_types.specs.Segments.{segments_in}
use Rattle.hsm_types.specs.Stubs.{stub_at, is_offline, uncovered}
use Rattle.hsm_types.proofs.Stubbing.{stub_at-without, stub_at-below, all_covered}
use Rattle.snapshot_text.specs.declared.file_parts.Others.{Others}
use Rattle.snapshot_text.specs.declared.file_parts.FileParts.{FileParts}
use Rattle.journal_records.specs.declared.records.Record.{Record}
use Rattle.journal_records.specs.declared.records.Record.TheVariants.{Size, Map, Regions, Stub}
use Rattle.snapshot_text.specs.Files.{CatalogFile, IsLawfulKept, IsCatalogStub, geometry_of}
use Rattle.meta_store.specs.Catalogs.{Catalog}
use Rattle.snapshot_text.specs.FileRecords.{file_after, part_refusal}
use Rattle.meta_store.specs.Records.{CanStandOn}
use Rattle.snapshot_text.specs.Parts.{kept_in, parts_after, IsNumbered}
use Rattle.snapshot_text.proofs.ClearedPlaces.{away-at, at-away, none-fitted, get_or-mapped, none-without}
use Rattle.snapshot_text.proofs.StubLists.{each-at, at-each, stub_at-with, room-with}

-- what is known of a record that is taken about a file of a catalog
pub record IsTakenOn (r : Record) (f : CatalogFile) (c : Catalog) (others : Others) (geometry : Geometry) : Type 0 where
  pub stands : CanStandOn r f c
  pub judged : part_refusal r others geometry f.kept ≡ None
  pub numbers : IsNumbered r
  pub kept : IsLawfulKept (geometry_of c.geometry).limits (file_after r f).kept
  pub ascend : IsStrictlySortedBy nat_cmp (keys_of (file_after r f).kept.stubs)

-- an entry stays what it was, where the file is as large, has the same regions and no place more in its segment
same_stub : {f : CatalogFile} (g : CatalogFile) {j : ℕ} {stub : StubOf} → IsCatalogStub f (j, stub) → segment_bytes * j < g.size → g.kept.regions ≡ f.kept.regions
    → (stub.offline ≡ true → (i : ℕ) → segment_blocks * j ≤ i → i < segment_blocks * j + segment_blocks → get_or f.places i None ≡ None → get_or g.places i None ≡ None) → IsCatalogStub g (j, stub)
same_stub {f} g {j} is start regions places = record {
  fits = record { start = start; len = refl; volume = is.fits.volume; covered = λ off. rw regions (is.fits.covered off) };
  away = λ off. at-away segment_blocks (segment_blocks * j) g.places (λ i from to. places off i from to (away-at segment_blocks (segment_blocks * j) f.places (is.away off) i from to));
  numbers = is.numbers;
}

stub-after : (r : Record) (f : CatalogFile) (c : Catalog) (others : Others) (geometry : Geometry) → IsTakenOn r f c others geometry → AllByRecursion (IsCatalogStub f) f.kept.stubs
    → (j : ℕ) (stub : StubOf) → stub_at j (file_after r f).kept.stubs ≡ Some stub → IsCatalogStub (file_after r f) (j, stub)
stub-after (Size ino size) f c others geometry t old j stub is =
    let at = stub_at-below (segments_in size) f.kept.stubs j in
    let low : j < segments_in size = grind arith in
    same_stub (file_after (Size ino size) f) (each-at (IsCatalogStub f) f.kept.stubs j stub old (grind arith)) (omega arith) refl (λ off i from to. none-fitted size f.places i)
stub-after (Map ino block places) f c others geometry t old j stub is =
    let was = each-at (IsCatalogStub f) f.kept.stubs j stub old is in
    let apart = λ (off : stub.offline ≡ true) (i : ℕ) (from : segment_blocks * j ≤ i) (to : i < segment_blocks * j + segment_blocks) (low : block ≤ i) (high : i < block + length places). let same : i / segment_blocks ≡ j = omega arith in let here = rw same at (t.stands.here i low high) in let none : ⊥ = grind arith in none in
    same_stub (file_after (Map ino block places) f) was was.fits.start refl (λ off i from to none. get_or-mapped block places f.places i (apart off i from to) ∙ none)
stub-after (Regions ino regions) f c others geometry t old j stub is =
    let was = each-at (IsCatalogStub f) f.kept.stubs j stub old is in
    let judged = t.judged in
    let rest : uncovered regions f.kept.stubs ≡ None = grind arith in
    record { fits = record { start = was.fits.start; len = refl; volume = was.fits.volume; covered = λ off. all_covered regions f.kept.stubs rest j (ap is_offline is ∙ off) }; away = was.away; numbers = was.numbers }
stub-after (Stub ino k None) f c others geometry t old j stub is =
    let was = each-at (IsCatalogStub f) f.kept.stubs j stub old (grind (arith, stub_at-without k f.kept.stubs j)) in
    same_stub (file_after (Stub ino k None) f) was was.fits.start refl (λ off i from to none. none)
stub-after (Stub ino k (Some new)) f c others geometry t old j stub is =
    let which : (j ≡ k) × (new ≡ stub) ⊎ (stub_at j f.kept.stubs ≡ Some stub) = grind (arith, stub_at-with k new f.kept.stubs j) in
    elim which [
      | inl mine ↦ rw (mine.0, ← mine.1) (record { fits = t.stands.fits; away = λ off. at-away segment_blocks (segment_blocks * k) _ (λ i from to. rw off (none-without k f.places i (inr (from, to)))); numbers = t.numbers })
      | inr there ↦ let was = each-at (IsCatalogStub f) f.kept.stubs j stub old there in same_stub (file_after (Stub ino k (Some new)) f) was was.fits.start refl (λ off i from to none. grind (arith, none-without k f.places i))
    ]
stub-after r f c others geometry t old j stub is = let was = each-at (IsCatalogStub f) f.kept.stubs j stub old is in record { fits = was.fits; away = was.away; numbers = was.numbers }

pub stubs-after : (r : Record) (f : CatalogFile) (c : Catalog) (others : Others) (geometry : Geometry) → IsTakenOn r f c others geometry → AllByRecursion (IsCatalogStub f) f.kept.stubs → AllByRecursion (IsCatalogStub (file_after r f)) (file_after r f).kept.stubs
stubs-after r f c others geometry t old = at-each (IsCatalogStub (file_after r f)) (file_after r f).kept.stubs t.ascend (stub-after r f c others geometry t old)

-- with those of all other files they are as many as there may be
pub room-after : (r : Record) (x : FileParts) (others : Others) (geometry : Geometry) → IsStrictlySortedBy nat_cmp (keys_of x.stubs) → part_refusal r others geometry (kept_in x) ≡ None → others.stubs + length x.stubs ≤ geometry.stubs → others.stubs + length (parts_after r x).stubs ≤ geometry.stubs
room-after (Stub ino k (Some stub)) x others geometry sorted none room = room-with k others.stubs geometry.stubs stub x.stubs sorted none room
room-after r x others geometry sorted none room = grind (arith, length-filter, count_by-le-length)
