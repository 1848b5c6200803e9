-- The bytes of an object on a volume, and where other bytes are wrong.
use Rattle.std.specs.Prelude.{◌≡◌, ℕ, ◌<◌, ◌≤◌, ◌^◌, List, ◌++◌, length, take, drop, codes, Bool, not, ◌==◌, ◌&&◌, nat_eq, nat_le, if◌then◌else◌}
use Rattle.std.specs.Prelude.{Option, Some, None}
use Rattle.std.specs.List.{starts_with}
use Rattle.std.specs.Str.{bytes_eq}
use Rattle.byteorder.specs.Endian.{big_bytes, big_number}
use Rattle.sha2.specs.Sha256.{sha256}
use Rattle.hsm_types.specs.Handles.{handle_bytes, IsHandle}
use Rattle.hsm_types.specs.Limits.{segment_bytes}
use Rattle.hsm_types.specs.declared.keys.Handle.{Handle}

abbrev pub magic : List ℕ
magic = codes "HSMOBJ01"

-- the object of that segment of the file with that handle: the magic, the handle, the segment, how many bytes the payload has, its digest, and the
-- payload
unfoldable pub object_bytes : Handle → ℕ → List ℕ → List ℕ
object_bytes handle segment payload = magic ++ handle_bytes handle ++ big_bytes 4 segment ++ big_bytes 4 (length payload) ++ sha256 payload ++ payload

-- The bytes are that object. A payload is a segment's bytes, which are some and at most `segment_bytes`. The handle may be any.
pub record IsObject (h : Handle) (j : ℕ) (payload object : List ℕ) : Type 0 where
  pub handle : IsHandle h
  pub segment : j < 2 ^ 32
  pub some : 1 ≤ length payload
  pub most : length payload ≤ segment_bytes
  pub bytes : object ≡ object_bytes h j payload

-- ---- bytes that may be no object

-- a whole frame, with the magic in front
abbrev pub begins_well : List ℕ → Bool
begins_well bytes = nat_le 72 (length bytes) && starts_with nat_eq bytes magic

-- the length that stands there is a payload's, and that of what follows the frame
abbrev pub says_length : List ℕ → Bool
says_length bytes = let len = big_number 4 (drop 36 bytes) in nat_le 1 len && nat_le len segment_bytes && len == length (drop 72 bytes)

-- the digest that stands there is that of what follows the frame
abbrev pub says_digest : List ℕ → Bool
says_digest bytes = bytes_eq (take 32 (drop 40 bytes)) (sha256 (drop 72 bytes))

-- the place of the first field that is wrong
unfoldable pub bad_place : List ℕ → Option ℕ
bad_place bytes = if not (begins_well bytes) then Some 0 else if not (says_length bytes) then Some 36 else if not (says_digest bytes) then Some 40 else None
