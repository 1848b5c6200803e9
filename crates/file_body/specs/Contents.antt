-- What is held of a segment, by its content.
use Rattle.std.specs.Prelude.{◌≤◌, replicate, true, false, ⊤}
use Rattle.hsm_types.specs.Limits.{segment_bytes}
use Rattle.file_body.specs.HeldBodies.{HeldSegment}
use Rattle.file_body.specs.declared.segments.Content.{Content}
use Rattle.file_body.specs.declared.segments.Content.TheVariants.{Here, Away}

abbrev pub held : Content → HeldSegment
held (Here bytes) = record { bytes = bytes.items; away = false }
held (Away count) = record { bytes = replicate count 0; away = true }

-- no more zeros stand for a segment than it may have bytes
abbrev pub FitsZeros : Content → Type 0
FitsZeros (Here bytes) = ⊤
FitsZeros (Away count) = count ≤ segment_bytes
