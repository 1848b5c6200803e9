-- What a medium did wrong.
use Rattle.std.specs.Prelude.{◌≡◌, ◌≢◌, ◌⊎◌, ◌<◌, ◌-◌, ◌^◌}
use Rattle.hsm_types.specs.declared.media.Fault.{Fault}
use Rattle.hsm_types.specs.declared.media.Fault.TheVariants.{Failed, Damaged}

-- The count of faults rose, or it stood at the greatest u64 before and after; and the bytes got aren't those that were wanted.
abbrev pub IsFault : Fault → Type 0
IsFault (Failed volume object before after) = (before < after) ⊎ ((before ≡ 2 ^ 64 - 1) × (after ≡ 2 ^ 64 - 1))
IsFault (Damaged volume object want got) = want ≢ got
