-- The bytes of files by blocks.
use Rattle.std.specs.Prelude.{◌≡◌, ℕ, ◌*◌, ◌-◌, List, length, map, get_or, take, replicate, Option, Some, None, is_some}
use Rattle.std.specs.List.{flat_map, AllByRecursion}
use Rattle.disk_model.specs.Images.{part}
use Rattle.hsm_types.specs.Limits.{block_bytes}
use Rattle.hsm_types.specs.Stubs.{offline_at}
use Rattle.plain_model.specs.State.{FileState, Held}
use Rattle.file_body.specs.HeldBodies.{HeldBody, no_body, is_away, SameAway}
use Rattle.snapshot_text.specs.Files.{CatalogFile}
use Rattle.meta_store.specs.Catalogs.{Catalog}
unfoldable pub use Rattle.file_body.specs.BodyBlocks.{block_of}

-- a block of a file among the data blocks; a hole is zeros
abbrev pub block_at : List ℕ → Option ℕ → List ℕ
block_at blocks None = replicate block_bytes 0
block_at blocks (Some place) = part blocks (block_bytes * place) block_bytes

-- the body of that size whose blocks lie there
unfoldable pub body_at : List ℕ → ℕ → List (Option ℕ) → List ℕ
body_at blocks size places = take size (flat_map (block_at blocks) places)

-- ---- what a catalog's files hold

-- by what the bytes of each are
abbrev pub file_by : (CatalogFile → List ℕ) → CatalogFile → FileState
file_by bytes f = record { key = f.key; name = f.name; body = bytes f; mapped = map is_some f.places; kept = f.kept }

unfoldable pub held_by : (CatalogFile → List ℕ) → Catalog → Held
held_by bytes c = record { files = map (file_by bytes) c.files; next = c.next }

-- with these data blocks
abbrev pub bytes_at : List ℕ → CatalogFile → List ℕ
bytes_at blocks f = body_at blocks f.size f.places

abbrev pub file_at : List ℕ → CatalogFile → FileState
file_at blocks = file_by (bytes_at blocks)

abbrev pub held_at : List ℕ → Catalog → Held
held_at blocks = held_by (bytes_at blocks)

-- with these bodies in memory, that of inode i at i - 1
abbrev pub body_with : List HeldBody → CatalogFile → HeldBody
body_with bodies f = get_or bodies (f.key.ino - 1) no_body

abbrev pub bytes_with : List HeldBody → CatalogFile → List ℕ
bytes_with bodies f = (body_with bodies f).bytes

abbrev pub held_with : List HeldBody → Catalog → Held
held_with bodies = held_by (bytes_with bodies)

-- a segment is away from the body exactly where the file's is offline
abbrev pub IsHere : HeldBody → CatalogFile → Type 0
IsHere body f = (j : ℕ) → is_away body j ≡ offline_at f.kept.stubs j

-- each body has its file's size, and memory for the bytes of the segments that aren't offline
pub record IsBody (body : HeldBody) (f : CatalogFile) : Type 0 where
  pub size : length body.bytes ≡ f.size
  pub here : IsHere body f

-- it has the same bytes, and the same segments are away
pub record IsAlike (old new : HeldBody) : Type 0 where
  pub bytes : new.bytes ≡ old.bytes
  pub away : SameAway old new

abbrev pub AreBodies : List HeldBody → List CatalogFile → Type 0
AreBodies bodies files = AllByRecursion (λ f. IsBody (body_with bodies f) f) files
