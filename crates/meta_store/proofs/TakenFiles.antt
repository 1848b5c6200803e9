-- A file more in the catalog.
use Rattle.std.proofs.Common.{◌≡◌, ℕ, ◌<◌, List, [], ◌∷◌, ◌++◌, length, map, replicate, Bool, true, None, Option, refl, ap, ◌∙◌, arith, append-nil}
use Rattle.std.specs.List.{AllByRecursion}
use Rattle.std.specs.Option.{is_some, option_map}
use Rattle.std.proofs.lemmas.List.{map-append, length-replicate}
use Rattle.std.proofs.lemmas.List.Concat.{flat_map-append}
use Rattle.hsm_types.specs.declared.stores.Geometry.{Geometry}
use Rattle.hsm_types.specs.Stubs.{FitsFile}
use Rattle.plain_model.specs.Plain.{Listed, named}
use Rattle.plain_model.specs.Blocks.{blocks_in, with_mapped}
use Rattle.plain_model.specs.Distinct.{Distinct}
use Rattle.inode_table.specs.Listing.{listing, key_named, Ascend}
use Rattle.inode_table.specs.Table.{Table, entry_of}
use Rattle.snapshot_text.specs.Files.{CatalogFile, NumbersFit, IsLawfulKept, IsCatalogFile, HasLengths, present}
use Rattle.meta_store.specs.Catalogs.{Catalog, names_of, blocks_of}
use Rattle.meta_store.specs.Records.{with_put}
use Rattle.snapshot_text.specs.Snapshots.{SnapshotFile, snapshot_file, extents_from}
use Rattle.meta_store.specs.Validity.{names_in, places_in, last_inode, are_unused, Follows, Flags, HasTaken}
use Rattle.snapshot_text.specs.FileValidity.{places_of, are_free, places_by, AreLawfulStubs}
use Rattle.snapshot_text.proofs.MappedPlaces.{length-places_set}
use Rattle.snapshot_text.proofs.SpreadPlaces.{filled, spread-holes, present-spread, extents-tell}
use Rattle.meta_store.proofs.StandOnce.{put-behind, unused-joins, free-is, length-mapped}
use Rattle.meta_store.proofs.PassingFiles.{names_in-snapshot, places_in-snapshot}
use Rattle.snapshot_text.proofs.EachOf.{all-both, each-as, each-map}
use Rattle.snapshot_text.proofs.LawfulStubs.{stubs-tell}

same_variant : {X Y : Type 0} (to : X → Y) (o : Option X) → is_some (option_map to o) ≡ is_some o
same_variant to o = grind arith

-- whether a catalog's table has a name
pub table-has : (fs : List CatalogFile) (name : List ℕ) (t : Table) → t.files ≡ map (λ f. entry_of f.key f.name f.size) fs → is_some (key_named name (listing t.files)) ≡ is_some (named name (names_in (map snapshot_file fs)))
table-has fs name t is = same_variant (λ (l : Listed). l.key) (named name (listing t.files)) ∙ ap (λ (ls : List Listed). is_some (named name ls)) (ap listing is ∙ listing-names fs)
  where
    listing-names : (fs : List CatalogFile) → listing (map (λ f. entry_of f.key f.name f.size) fs) ≡ names_in (map snapshot_file fs)
    listing-names [] = refl
    listing-names (f ∷ fs) = ap (λ (ls : List Listed). (record { key = f.key; name = f.name }) ∷ ls) (listing-names fs)

-- its entries were judged by the places of its blocks
abbrev pub AreJudged : SnapshotFile → Type 0
AreJudged f = AreLawfulStubs f.size f.kept.regions (places_by f) f.kept.stubs

module _ {g : Geometry} {next : ℕ} {c : Catalog} {flags : List Bool} {f : SnapshotFile} (t : HasTaken c.geometry next g.blocks (map snapshot_file c.files) c flags) (follows : Follows g next (map snapshot_file c.files) f) where
  -- the places of its blocks stand for its extents
  pub extents-again : extents_from 0 (filled f).places ≡ f.extents
  extents-again = spread-holes f.extents (blocks_in f.size) g.blocks follows.extents

  pub is-above : last_inode 0 (names_of c.files) < f.key.ino
  is-above = rw (← names_in-snapshot c.files) follows.above

  pub within : AllByRecursion (λ e. e.place < length flags) f.extents
  within = rw t.count (extents-tell 0 (blocks_in f.size) g.blocks f.extents follows.extents).1

  pub flags-tell : (are_free (places_of f.extents) flags ≡ are_unused (places_in (map snapshot_file c.files)) (places_of f.extents)) × Flags (with_mapped (places_of f.extents) flags) (places_in (map snapshot_file c.files) ++ places_of f.extents)
  flags-tell = free-is (places_of f.extents) flags (places_in (map snapshot_file c.files)) (each-map (λ p. p < length flags) (λ e. e.place) f.extents within) t.flagged

  pub is-lawful : IsLawfulKept g.limits f.kept → AreJudged f → AllByRecursion NumbersFit f.kept.stubs → IsCatalogFile g (filled f)
  is-lawful kept stubs fit = record {
    generation = follows.first;
    name = follows.name;
    size = follows.size;
    places = length-places_set f.extents (replicate (blocks_in f.size) None) ∙ length-replicate (blocks_in f.size) None;
    within = rw (present-spread f.extents (blocks_in f.size) g.blocks follows.extents) (each-map (λ b. b < g.blocks) (λ e. e.place) f.extents (extents-tell 0 (blocks_in f.size) g.blocks f.extents follows.extents).1);
    kept = kept;
    ascend = stubs.fit.ascend;
    stubs = stubs-tell (filled f) f.kept.stubs stubs.fit.each stubs.away fit;
  }

  pub once-each : are_free (places_of f.extents) flags ≡ true → Distinct (blocks_of c.files) → Distinct (present (filled f).places ++ blocks_of c.files)
  once-each free d =
      rw (present-spread f.extents (blocks_in f.size) g.blocks follows.extents) (unused-joins (blocks_of c.files) (places_of f.extents) (rw (← places_in-snapshot c.files, ← flags-tell.0) free) d)

  pub taken-more : Ascend 1 (names_of c.files) → AreJudged f → HasTaken c.geometry next g.blocks (map snapshot_file c.files ++ f ∷ []) (with_put (filled f) c) (with_mapped (places_of f.extents) flags)
  taken-more a stubs = record {
    geometry = refl;
    next = omega (arith, t.next, follows.old);
    taken = rw (put-behind 0 (filled f) c.files a is-above, map-append snapshot_file c.files (filled f ∷ []), extents-again) refl;
    lengths = rw (put-behind 0 (filled f) c.files a is-above) (all-both HasLengths c.files (filled f ∷ []) t.lengths (each-as (FitsFile f.size f.kept.regions) _ f.kept.stubs (λ x fit. fit.len) stubs.fit.each, tt));
    count = length-mapped (places_of f.extents) flags ∙ t.count;
    flagged = rw (flat_map-append (λ (s : SnapshotFile). places_of s.extents) (map snapshot_file c.files) (f ∷ []), append-nil (places_of f.extents)) flags-tell.1;
  }
