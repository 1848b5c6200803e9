-- Laws on what recovery finds on an image, with the bytes of its files.
use Rattle.std.specs.Prelude.{◌≡◌, ℕ, List}
use Rattle.commit_slots.specs.Images.{IsEmptyStore}
use Rattle.plain_model.specs.State.{Held, nothing_held}
use Rattle.file_store.specs.Stores.{IsRecovered}

-- Recovery finds one thing on an image: one geometry, one id, one number, and one thing that was held.
abbrev pub RecoversOne : List ℕ → Type 0
RecoversOne image = (geometry fsid n : ℕ) (h : Held) (geometry' fsid' n' : ℕ) (h' : Held) → IsRecovered geometry fsid n h image → IsRecovered geometry' fsid' n' h' image
    → (geometry' ≡ geometry) × (fsid' ≡ fsid) × (n' ≡ n) × (h' ≡ h)

-- on an image that was just formatted recovery finds number 0 and a store that holds nothing
abbrev pub FormattedIsEmpty : ℕ → ℕ → List ℕ → Type 0
FormattedIsEmpty geometry fsid image = IsEmptyStore geometry fsid image → IsRecovered geometry fsid 0 nothing_held image
