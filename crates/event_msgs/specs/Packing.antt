-- What refuses to pack messages.
use Rattle.std.specs.Prelude.{◌≡◌, ℕ, ◌<◌, ◌≤◌, List, [], ◌∷◌}
use Rattle.hsm_types.specs.Messages.{message_bytes}
use Rattle.hsm_types.specs.declared.messages.Message.{Message}
use Rattle.event_msgs.specs.declared.packing.PackRefusal.{PackRefusal}
use Rattle.event_msgs.specs.declared.packing.PackRefusal.TheVariants.{TooSmall, Memory}

-- the bytes that the first message takes
abbrev pub first_bytes : List Message → ℕ
first_bytes [] = 0
first_bytes (m ∷ more) = message_bytes m

-- the first message takes `need` bytes, and there are fewer; or it fits, and there is no memory
abbrev pub Refuses : ℕ → List Message → PackRefusal → Type 0
Refuses room messages (TooSmall need) = (need ≡ first_bytes messages) × (room < need)
Refuses room messages Memory = first_bytes messages ≤ room
