-- Files are written one after the other: how far a snapshot has come.
use Rattle.std.proofs.Common.{◌≡◌, ℕ, ◌+◌, ◌<◌, ◌≤◌, List, [], ◌++◌, length, map, drop, Option, Some, None, refl, arith, append_assoc, append-nil}
use Rattle.std.specs.List.{flat_map, slice_get}
use Rattle.std.specs.Option.{option_map, IsSome}
use Rattle.std.proofs.lemmas.List.{length-map, drop_all, drop_more}
use Rattle.std.proofs.lemmas.Option.{slice_get_within, slice_get_cases, get_or_from_slice_get}
use Rattle.byteorder.specs.Endian.{big_bytes}
use Rattle.hsm_types.specs.Limits.{file_regions, file_blocks, name_bytes}
use Rattle.snapshot_text.specs.Files.{CatalogFile, IsCatalogFile, geometry_of}
use Rattle.meta_store.specs.Catalogs.{Catalog, IsCatalog}
use Rattle.snapshot_text.specs.Snapshots.{bytes_of_file, snapshot_file, spelling}
use Rattle.meta_store.specs.Snapshots.{snapshot_of}
use Rattle.snapshot_text.proofs.EachOf.{each-got}
use Rattle.snapshot_text.proofs.KeptBounds.{regions-few}
use Rattle.meta_store.proofs.SnapshotFits.{name-short, snapshot-short, limits_countable, size-few}

pub bounds-at : (c : Catalog) (i : ℕ) (f : CatalogFile) → IsCatalog c → slice_get c.files i ≡ Some f → (length f.name ≤ name_bytes) × (length f.places ≤ file_blocks) × (length f.kept.regions ≤ file_regions)
bounds-at c i f is at =
    let one : IsCatalogFile (geometry_of c.geometry) f = each-got (IsCatalogFile (geometry_of c.geometry)) c.files i f is.each at in
    (name-short f.name one.name, omega (arith, one.places, size-few c.geometry f one), regions-few (geometry_of c.geometry).limits (limits_countable c.geometry) f.kept.regions one.kept.regions)

-- Below the end there is a file.
pub some-at : {X Y : Type 0} (v : X → Y) (o : Option X) (ys : List Y) (i : ℕ) → option_map v o ≡ slice_get ys i → i < length ys → IsSome o
some-at v (Some x) ys i at within = refl
some-at v None ys i at within = absurd (grind (arith, slice_get_cases ys i))

-- the bytes of these files
abbrev pub files_bytes : List CatalogFile → List ℕ
files_bytes fs = flat_map bytes_of_file (map snapshot_file fs)

pub header-first : (n next count : ℕ) (c : Catalog) (out : List ℕ) → next ≡ c.next → count ≡ length c.files → out ≡ [] ++ (big_bytes 8 n ++ big_bytes 8 next ++ big_bytes 4 1 ++ big_bytes 4 count)
    → out ++ files_bytes c.files ≡ spelling (snapshot_of n c)
unfolding spelling snapshot_of
header-first n next count c out later counted written = rw (written, later, counted, ← length-map c.files snapshot_file) refl

pub file-more : (files : List CatalogFile) (i : ℕ) (f : CatalogFile) (out : List ℕ) → slice_get files i ≡ Some f → (out ++ bytes_of_file (snapshot_file f)) ++ files_bytes (drop (i + 1) files) ≡ out ++ files_bytes (drop i files)
file-more files i f out at = rw (drop_more files i f (slice_get_within files i f at), get_or_from_slice_get files i f f at, append_assoc) refl

pub files-all : (files : List CatalogFile) (i : ℕ) (out : List ℕ) → length files ≤ i → out ++ files_bytes (drop i files) ≡ out
files-all files i out all = rw (drop_all i files all) (append-nil out)

pub ruleset spell_steps = (files-all, snapshot-short, length-map)
