-- Laws on buffers of messages.
use Rattle.std.specs.Prelude.{◌≡◌, ℕ, ◌+◌, List, ◌∷◌, ◌++◌, length, take, drop, sum_by}
use Rattle.hsm_types.specs.Messages.{handle_or_none, message_bytes, packed}
use Rattle.hsm_types.specs.declared.messages.Message.{Message}
use Rattle.event_msgs.specs.Buffers.{IsPacked, IsBadAt}

-- where messages are packed, no message is bad, and no others are read
pub record ReadsBack (messages : List Message) : Type 0 where
  pub good : (place : ℕ) → IsBadAt place (packed messages) → ⊥
  pub only : (read : List Message) → IsPacked (packed messages) read → read ≡ messages

-- these bytes stand at that place of the buffer
abbrev pub StandsAt : ℕ → List ℕ → List ℕ → Type 0
StandsAt place bytes buf = take (length bytes) (drop place buf) ≡ bytes

-- a message's handle, or what it says, stands behind the 24 bytes of its header
pub record StandsInBuffer (before : List Message) (m : Message) (after : List Message) : Type 0 where
  pub handle : StandsAt (sum_by message_bytes before + 24) (handle_or_none m.handle) (packed (before ++ m ∷ after))
  pub body : StandsAt (sum_by message_bytes before + 24) m.body (packed (before ++ m ∷ after))
