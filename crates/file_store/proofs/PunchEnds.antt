-- A punch up to past the file's end is one up to its end.
use Rattle.file_store.proofs.Names.{◌≡◌, ℕ, ◌-◌, ◌*◌, ◌<◌, ◌≤◌, min, List, [], ◌∷◌, length, drop, Bool, true, ◌&&◌, is_some, refl, arith}
use Rattle.file_store.proofs.Names.{AllByRecursion, drop_all, length-map, FileKey, FileState, affected_held, remade, blocks_in, bytes_of, Meta}
use Rattle.file_store.proofs.Names.{IsHeldFiles, HeldBody, held_with, each-found, option_map}
use Rattle.std.specs.Prelude.{nat_lt, nat_le, max}
use Rattle.hsm_types.specs.Limits.{segment_bytes, segment_blocks}
use Rattle.hsm_types.specs.Segments.{segments_in}
use Rattle.hsm_types.specs.Stubs.{Stubs, moved}
use Rattle.hsm_types.specs.declared.stubs.Stub.{Stub}
use Rattle.plain_model.specs.Effects.{Punches}
use Rattle.file_store.proofs.EachOf.{each-weaker}
use Rattle.file_store.proofs.FilesBy.{find-held, change-found}
use Rattle.file_store.proofs.WithBodies.{IsFound, body-held, bytes-of, is-body}

moved_end : (offline : Bool) (from a b : ℕ) (stubs : Stubs) → AllByRecursion (λ (x : ℕ × Stub). (nat_le from x.0 && nat_lt x.0 a) ≡ (nat_le from x.0 && nat_lt x.0 b)) stubs → moved offline from a stubs ≡ moved offline from b stubs
moved_end offline from a b [] each = refl
moved_end offline from a b (x ∷ rest) each = rw (each.0, moved_end offline from a b rest each.1) refl

module _ (size from to end : ℕ) (is : end ≡ max from (min to (segments_in size))) (start : segment_bytes * from < size) where
  bytes_end : min (segment_bytes * end) size - segment_bytes * from ≡ min (segment_bytes * to) size - segment_bytes * from
  bytes_end = omega arith

  holes_end : min (segment_blocks * end) (blocks_in size) - segment_blocks * from ≡ min (segment_blocks * to) (blocks_in size) - segment_blocks * from
  holes_end = omega arith

  both : (P : ℕ → Type 0) → P (max from to) → (segments_in size ≤ max from to → P (segments_in size)) → P end
  both P here past = grind arith

  drop_end : (bs : List Bool) → length bs ≡ blocks_in size → drop (segment_blocks * max from end) bs ≡ drop (segment_blocks * max from to) bs
  drop_end bs long = grind (arith, both, drop_all)

  below_end : (j : ℕ) → segment_bytes * j < size → (nat_le from j && nat_lt j end) ≡ (nat_le from j && nat_lt j to)
  below_end j low = grind arith

same_punch : (f : FileState) (from to end : ℕ) → end ≡ max from (min to (segments_in (length f.body))) → segment_bytes * from < length f.body → length f.mapped ≡ blocks_in (length f.body) → AllByRecursion (λ (x : ℕ × Stub). segment_bytes * x.0 < length f.body) f.kept.stubs
    → remade (Punches from end) f ≡ remade (Punches from to) f
same_punch f from to end is start count low =
    let size : ℕ = length f.body in
    let holes : min (segment_blocks * end) (length f.mapped) - segment_blocks * from ≡ min (segment_blocks * to) (length f.mapped) - segment_blocks * from = rw count (holes_end size from to end is start) in
    let entries = moved_end true from end to f.kept.stubs (each-weaker (λ (x : ℕ × Stub). segment_bytes * x.0 < size) (λ (x : ℕ × Stub). (nat_le from x.0 && nat_lt x.0 end) ≡ (nat_le from x.0 && nat_lt x.0 to)) (λ x below. below_end size from to end is start x.0 below) f.kept.stubs low) in
    rw (bytes_end size from to end is start, holes, drop_end size from to end is start f.mapped count, entries) refl

pub punch_end : (bs : List HeldBody) (m : Meta) → IsHeldFiles bs m → (k : FileKey) → IsFound (length bs) m.current k → (from to end : ℕ) → segment_bytes * from < length (bytes_of k (held_with bs m.current).files) → end ≡ max from (min to (segments_in (length (bytes_of k (held_with bs m.current).files))))
    → affected_held (Punches from end) k (held_with bs m.current).files ≡ affected_held (Punches from to) k (held_with bs m.current).files
punch_end bs m is k at from to end start last = grind (arith, is-body, body-held, bytes-of, each-found, change-found, find-held, option_map, same_punch, length-map, is_some, each-weaker)
