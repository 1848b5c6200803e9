-- Which volumes are full, and what migration hears of a copy to one.
use Rattle.std.specs.Prelude.{◌≡◌, ◌⊎◌, ℕ, ◌+◌, ◌<◌, List, slice_get, false, Some, Err}
use Rattle.media_model.specs.Objects.{Objects, longest_object, size_of}
use Rattle.media_model.specs.declared.drive.Drive as drive
use Rattle.hsm_types.specs.declared.daemons.Act.{Act}
use Rattle.hsm_types.specs.declared.daemons.Act.TheVariants.{Copy}
use Rattle.hsm_types.specs.declared.daemons.Heard.{Heard}
use Rattle.hsm_types.specs.declared.daemons.Heard.TheVariants.{Copied}
use Rattle.hsm_types.specs.declared.media.CopyRefusal.TheVariants as copying
use Rattle.hsm_replay.specs.Systems.{drive_of}

module _ {M : Type 0} (g : drive.Ghosts M) where
  -- ---- full volumes

  -- The volume isn't there, or has no room for the longest object, where its objects are told.
  abbrev pub LacksRoom : M → ℕ → Type 0
  LacksRoom d volume = (g.has d volume ≡ false) ⊎ ((o : Objects) → g.gives d volume o → g.capacity_of d < size_of o + longest_object)

  -- so it is on the drive of that volume
  abbrev pub IsFullVolume : List M → ℕ → Type 0
  IsFullVolume drives volume = (d : M) × (slice_get drives (drive_of volume drives) ≡ Some d) × LacksRoom d volume

  -- ---- what migration hears of a copy

  -- A copy fails or is damaged only over drives that aren't of a sure type. One that had no room, or no volume, was to a full volume.
  abbrev pub HearsFull : List M → Act → Heard → Type 0
  HearsFull drives (Copy volume h segment bytes) (Copied (Err (copying.Failed before after))) = g.sure ≡ false
  HearsFull drives (Copy volume h segment bytes) (Copied (Err (copying.Damaged want got))) = g.sure ≡ false
  HearsFull drives (Copy volume h segment bytes) (Copied (Err (copying.Full used len capacity))) = IsFullVolume drives volume
  HearsFull drives (Copy volume h segment bytes) (Copied (Err copying.NoVolume)) = IsFullVolume drives volume
  HearsFull drives asked told = Unit {0}
