-- Files whose segments are sealed: their entries keep the lengths of their segments, and the same ones are offline.
use Rattle.std.proofs.Common.{◌≡◌, ℕ, [], ◌∷◌, Bool, false, Some, None, Equal, refl, sym, ap, arith}
use Rattle.std.specs.List.{AllByRecursion}
use Rattle.std.specs.Ordering.{nat_cmp}
use Rattle.std.proofs.lemmas.Bool.{eqb-true}
use Rattle.hsm_types.specs.Stubs.{Stubs, stub_at, offline_at, with_stub}
use Rattle.hsm_types.specs.declared.keys.FileKey.{FileKey}
use Rattle.hsm_types.specs.declared.stubs.Stub.{Stub as StubOf}
use Rattle.snapshot_text.specs.Files.{CatalogFile, HasLengths}
use Rattle.meta_store.specs.Catalogs.{Catalog, AreLengths}
use Rattle.snapshot_text.specs.FileRecords.{file_after}
use Rattle.meta_store.specs.Records.{key_on, after, CanStand}
use Rattle.journal_records.specs.declared.records.Record.{Record}
use Rattle.journal_records.specs.declared.records.Record.TheVariants.{Make, Drop, Size, Map, Stub}
use Rattle.meta_store.proofs.FileEdits.{each-put, each-drop, each-change, each-changed}
use Rattle.meta_store.proofs.KeptCatalogs.{empty_file}
use Rattle.snapshot_text.proofs.StubLists.{stub_at-with}
use Rattle.file_store.specs.Effects.{IsBodiless, IsSeal}

pub seal_is : (stub : StubOf) → stub.offline ≡ false → record stub { offline = false } ≡ stub
seal_is stub off = ap (λ (b : Bool). record stub { offline = b }) (sym off)

pub seal-places : (ino j : ℕ) (stub : StubOf) (f : CatalogFile) → stub.offline ≡ false → (file_after (Stub ino j (Some stub)) f).places ≡ f.places
seal-places ino j stub f off = rw off refl

-- where a segment is sealed that isn't offline, the same ones are offline
pub seal-same : (j i : ℕ) (stub : StubOf) (stubs : Stubs) → offline_at stubs j ≡ false → stub.offline ≡ false → offline_at (with_stub j stub stubs) i ≡ offline_at stubs i
seal-same j i stub stubs here stays = grind (arith, stub_at-with, eqb-true)

-- ---- lengths

each-with : (P : ℕ × StubOf → Type 0) (j : ℕ) (stub : StubOf) (stubs : Stubs) → P (j, stub) → ((x : ℕ × StubOf) → nat_cmp j x.0 ≡ Equal → P (x.0, stub)) → AllByRecursion P stubs → AllByRecursion P (with_stub j stub stubs)
each-with P j stub [] new same each = (new, tt)
each-with P j stub (x ∷ rest) new same each = grind (arith, each-with P j stub rest new same each.1)

sealed-lengths : (ino j : ℕ) (stub : StubOf) (f : CatalogFile) → IsSeal j stub f → HasLengths f → HasLengths (file_after (Stub ino j (Some stub)) f)
sealed-lengths ino j stub f is has = grind (arith, each-with)

-- a record that concerns no bytes keeps them
pub lengths-after : (k : FileKey) (r : Record) (c : Catalog) → IsBodiless k r c → CanStand r c → AreLengths c → AreLengths (after r c)
lengths-after k (Make key name) c is stands are = each-put HasLengths (empty_file key name) c.files tt are
lengths-after k (Drop ino) c is stands are = each-drop HasLengths (key_on ino c) c.files are
lengths-after k (Size ino size) c is stands are = absurd is
lengths-after k (Map ino block places) c is stands are = absurd is
lengths-after k (Stub ino j None) c is stands are = absurd is
lengths-after k (Stub ino j (Some stub)) c is stands are =
    each-changed HasLengths (key_on ino c) (file_after (Stub ino j (Some stub))) c.files (λ f found has. sealed-lengths ino j stub f (is.1 f found) has) are
lengths-after k r c is stands are = grind (arith, each-change)
