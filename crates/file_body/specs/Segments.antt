-- How a body is cut into segments.
use Rattle.std.specs.Prelude.{ℕ, ◌≡◌, ◌+◌, ◌<◌, ◌≤◌, List, [], length, slice_index_or}

-- all segments but the last have that many bytes, and each has at least one and no more than that
pub record IsCut (size : ℕ) (segments : List (List ℕ)) : Type 0 where
  pub full : (i : ℕ) → i + 1 < length segments → length (slice_index_or segments i []) ≡ size
  pub some : (i : ℕ) → i < length segments → 0 < length (slice_index_or segments i [])
  pub most : (i : ℕ) → i < length segments → length (slice_index_or segments i []) ≤ size
