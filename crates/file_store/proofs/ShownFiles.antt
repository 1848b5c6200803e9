-- What readers of the catalog tell of the files in memory.
use Rattle.file_store.proofs.Names.{ℕ, ◌*◌, ◌<◌, take, drop, arith, ap, length-take, ◌≡◌, List, length, AllByRecursion, HeldBody, CatalogFile}
use Rattle.file_store.proofs.Names.{geometry_of, Meta, IsMeta, IsHeldFiles, AreBodies, bytes_with, held_with, Shows, IsLawful}
use Rattle.file_store.proofs.EachOf.{each-weaker}
use Rattle.file_store.proofs.FilesBy.{shows, held_lawful}
use Rattle.hsm_types.specs.Limits.{segment_bytes}

pub sizes_with : (bs : List HeldBody) (fs : List CatalogFile) → AreBodies bs fs → AllByRecursion (λ f. length (bytes_with bs f) ≡ f.size) fs
sizes_with bs fs are = grind (arith, each-weaker)

pub shown_with : (bs : List HeldBody) (m : Meta) → IsHeldFiles bs m → Shows m.current (held_with bs m.current)
shown_with bs m is = shows (bytes_with bs) m.current (sizes_with bs m.current.files is.sizes)

pub lawful_with : (bs : List HeldBody) (m : Meta) → IsHeldFiles bs m → IsMeta m → IsLawful (geometry_of m.current.geometry).files (held_with bs m.current)
lawful_with bs m is lawful = held_lawful (bytes_with bs) m.current lawful.current lawful.stored.now (sizes_with bs m.current.files is.sizes)

-- a segment has few bytes
pub segment_short : (j : ℕ) (body bytes : List ℕ) → bytes ≡ take segment_bytes (drop (segment_bytes * j) body) → length bytes < 4294967296
segment_short j body bytes is = omega (arith, ap length is, length-take segment_bytes (drop (segment_bytes * j) body))
