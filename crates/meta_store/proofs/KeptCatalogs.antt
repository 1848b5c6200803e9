-- What is true of each catalog stays true.
use Rattle.std.proofs.Common.{◌≡◌, ◌+◌, ◌<◌, ◌≤◌, ℕ, List, [], ◌++◌, Some, None, false, arith}
use Rattle.hsm_types.specs.Limits.{last_generation}
use Rattle.hsm_types.specs.declared.keys.FileKey.{FileKey}
use Rattle.hsm_types.specs.declared.stores.Geometry.{Geometry}
use Rattle.hsm_types.specs.Kept.{nothing_kept}
use Rattle.hsm_types.specs.Keyed.{find_key, put_key, drop_key}
use Rattle.plain_model.specs.Plain.{Listed, named}
use Rattle.plain_model.specs.Distinct.{Distinct}
use Rattle.inode_table.specs.Listing.{has_inode}
use Rattle.inode_table.proofs.Orders.{ascend-put, ascend-drop, within-put, within-more, within-drop}
use Rattle.inode_table.proofs.Names.{differ-put, differ-drop}
use Rattle.snapshot_text.specs.declared.file_parts.Others.{Others}
use Rattle.journal_records.specs.declared.records.Record.{Record}
use Rattle.snapshot_text.specs.Files.{CatalogFile, IsCatalogFile, geometry_of, present}
use Rattle.meta_store.specs.Catalogs.{Catalog, IsCatalog, names_of, blocks_of, attribute_total, stub_total}
use Rattle.snapshot_text.specs.FileRecords.{file_after}
use Rattle.meta_store.specs.Records.{with_put, without_file, with_changed}
use Rattle.snapshot_text.proofs.BlockUses.{uses-append, distinct-uses, uses-distinct}
use Rattle.meta_store.proofs.StubsAfter.{IsTakenOn}
use Rattle.meta_store.proofs.FilesAfter.{named-after, IsCatalogFile-after, uses-after}
use Rattle.meta_store.proofs.FileEdits.{name_of, count_of, stubs_of, uses_of, uses-sum, map-put, names_of-drop, names_of-change, sum-put, sum-drop}
use Rattle.meta_store.proofs.FileEdits.{sum-change, each-put, each-drop, each-changed}

-- an empty file
abbrev pub empty_file : FileKey → List ℕ → CatalogFile
empty_file key name = record { key = key; name = name; size = 0; places = []; kept = nothing_kept }

pub IsCatalog-with_put : (g : CatalogFile) (c : Catalog) → IsCatalog c → 1 ≤ g.key.ino → g.key.ino ≤ (geometry_of c.geometry).files → has_inode g.key.ino (names_of c.files) ≡ false → named g.name (names_of c.files) ≡ None → g.key.igen < last_generation
    → IsCatalogFile (geometry_of c.geometry) g → Distinct (present g.places ++ blocks_of c.files) → attribute_total c.files + count_of g ≤ (geometry_of c.geometry).attributes
    → stub_total c.files + stubs_of g ≤ (geometry_of c.geometry).stubs → IsCatalog (with_put g c)
IsCatalog-with_put g c is low high free new early lawful apart room stub_room = record {
  known = is.known;
  first = omega (arith, is.first);
  next = omega (arith, is.next);
  table = rw (map-put (λ (l : Listed). l.key) name_of g c.files) (record {
    ascend = ascend-put 1 (name_of g) (names_of c.files) is.table.ascend low free;
    within = within-put _ _ (name_of g) (names_of c.files) (within-more (geometry_of c.geometry).files c.next _ (names_of c.files) (omega arith) is.table.within) high (omega arith);
    differ = differ-put (name_of g) (names_of c.files) is.table.differ new;
  });
  each = each-put (IsCatalogFile (geometry_of c.geometry)) g c.files lawful is.each;
  distinct = uses-distinct (blocks_of (put_key (λ f. f.key) g c.files)) (λ n.
      omega (arith, sum-put (uses_of n) g c.files, uses-sum n (put_key (λ f. f.key) g c.files), uses-sum n c.files, uses-append n (present g.places) (blocks_of c.files), distinct-uses (present g.places ++ blocks_of c.files) apart n));
  few = omega (arith, sum-put count_of g c.files);
  few_stubs = omega (arith, sum-put stubs_of g c.files);
}

pub IsCatalog-without_file : (key : FileKey) (f : CatalogFile) (c : Catalog) → IsCatalog c → find_key (λ g. g.key) key c.files ≡ Some f → IsCatalog (without_file key c)
IsCatalog-without_file key f c is found = record {
  known = is.known;
  first = is.first;
  next = is.next;
  table = rw (names_of-drop key c.files) (record {
    ascend = ascend-drop 1 key (names_of c.files) is.table.ascend;
    within = within-drop (geometry_of c.geometry).files c.next key (names_of c.files) is.table.within;
    differ = differ-drop key (names_of c.files) is.table.differ;
  });
  each = each-drop (IsCatalogFile (geometry_of c.geometry)) key c.files is.each;
  distinct = uses-distinct (blocks_of (drop_key (λ f. f.key) key c.files)) (λ n. omega (arith, sum-drop (uses_of n) key f c.files found, uses-sum n (drop_key (λ f. f.key) key c.files), uses-sum n c.files, distinct-uses (blocks_of c.files) is.distinct n));
  few = omega (arith, is.few, sum-drop count_of key f c.files found);
  few_stubs = omega (arith, is.few_stubs, sum-drop stubs_of key f c.files found);
}

pub IsCatalog-after : (r : Record) (key : FileKey) (f : CatalogFile) (c : Catalog) (others : Others) (geometry : Geometry) → IsCatalog c → find_key (λ g. g.key) key c.files ≡ Some f → IsTakenOn r f c others geometry
    → attribute_total (with_changed key (file_after r) c).files ≤ (geometry_of c.geometry).attributes → stub_total (with_changed key (file_after r) c).files ≤ (geometry_of c.geometry).stubs → IsCatalog (with_changed key (file_after r) c)
IsCatalog-after r key f c others geometry is found t few few_stubs = record {
  known = is.known;
  first = is.first;
  next = is.next;
  table = rw (names_of-change key (file_after r) c.files (named-after r)) is.table;
  each = each-changed (IsCatalogFile (geometry_of c.geometry)) key (file_after r) c.files (λ g there old. let it : g ≡ f = cc in rw it (IsCatalogFile-after r f c others geometry is t (rw it at old))) is.each;
  distinct = uses-distinct (blocks_of (with_changed key (file_after r) c).files) (λ n.
      let more = uses-after n r f c t.stands (distinct-uses (blocks_of c.files) is.distinct n) in
      omega (arith, more.1, more.2, sum-change (uses_of n) key (file_after r) f c.files found, uses-sum n (with_changed key (file_after r) c).files, uses-sum n c.files));
  few = few;
  few_stubs = few_stubs;
}
