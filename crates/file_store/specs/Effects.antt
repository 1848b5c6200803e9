-- Records that concern no bytes of a file that stays, and what they do to what is held.
use Rattle.std.specs.Prelude.{◌≡◌, ℕ, ◌+◌, max, List, [], Bool, true, false, Some, None}
use Rattle.hsm_types.specs.Segments.{segment_len}
use Rattle.hsm_types.specs.Stubs.{offline_at, entry_print}
use Rattle.hsm_types.specs.declared.stubs.Stub.{Stub as StubOf}
use Rattle.hsm_types.specs.declared.keys.FileKey.{FileKey}
use Rattle.hsm_types.specs.Keyed.{find_key}
use Rattle.plain_model.specs.Effects.{Effect, Leaves, Makes, Drops, Manages, Attaches, Detaches, Seals}
use Rattle.plain_model.specs.State.{Held, affected_held}
use Rattle.journal_records.specs.declared.records.Record.{Record}
use Rattle.journal_records.specs.declared.records.Record.TheVariants.{Make, Drop, Size, Map, Regions, SetAttr, DropAttr, Stub}
use Rattle.snapshot_text.specs.Files.{CatalogFile, present}
use Rattle.meta_store.specs.Catalogs.{Catalog}
use Rattle.journal_records.specs.Texts.{inode_of}
use Rattle.meta_store.specs.Records.{key_on}

-- The segment is sealed whose bytes are here, by an entry of its length.
pub record IsSeal (j : ℕ) (stub : StubOf) (f : CatalogFile) : Type 0 where
  pub stays : stub.offline ≡ false
  pub here : offline_at f.kept.stubs j ≡ false
  pub len : (entry_print stub.entry).len ≡ segment_len f.size j

-- it concerns no bytes, and the file of the catalog that it is about has that key
abbrev pub IsBodiless : FileKey → Record → Catalog → Type 0
IsBodiless k (Make key name) c = key ≡ k
IsBodiless k (Size ino size) c = ⊥
IsBodiless k (Map ino block places) c = ⊥
IsBodiless k (Stub ino j None) c = ⊥
IsBodiless k (Stub ino j (Some stub)) c = (key_on ino c ≡ k) × ((f : CatalogFile) → find_key (λ f. f.key) (key_on ino c) c.files ≡ Some f → IsSeal j stub f)
IsBodiless k r c = key_on (inode_of r) c ≡ k

-- a file of the catalog has the inode
abbrev pub HasInode : ℕ → Catalog → Type 0
HasInode ino c = (f : CatalogFile) × (find_key (λ f. f.key) (key_on ino c) c.files ≡ Some f) × Unit {0}

-- the effect that it is
abbrev pub effect_in : Record → Effect
effect_in (Make key name) = Makes name
effect_in (Drop ino) = Drops
effect_in (Regions ino regions) = Manages regions
effect_in (SetAttr ino name value) = Attaches name value
effect_in (DropAttr ino name) = Detaches name
effect_in (Stub ino j (Some stub)) = Seals j stub.entry
effect_in r = Leaves

-- a generation that a file has isn't given again
abbrev pub next_after : Record → ℕ → ℕ
next_after (Make key name) next = max next (key.igen + 1)
next_after r next = next

-- what is held after it
abbrev pub held_after : FileKey → Record → Held → Held
held_after k r h = record { files = affected_held (effect_in r) k h.files; next = next_after r h.next }

-- the file is gone
abbrev pub drops : Record → Bool
drops (Drop ino) = true
drops r = false

-- the inode has no bytes after it: its file is new or gone
abbrev pub empties : Record → Bool
empties (Make key name) = true
empties r = drops r

-- these blocks are used no more: those of the file that is gone
abbrev pub IsFreed : FileKey → Record → Catalog → List ℕ → Type 0
IsFreed k (Drop ino) c freed = (f : CatalogFile) → find_key (λ f. f.key) k c.files ≡ Some f → freed ≡ present f.places
IsFreed k r c freed = freed ≡ []
