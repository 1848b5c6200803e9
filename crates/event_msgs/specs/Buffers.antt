-- Which buffers are in the grammar, and where the others leave it.
use Rattle.std.specs.Prelude.{◌≡◌, ◌≢◌, ℕ, ◌<◌, ◌^◌, List, [], ◌∷◌, ◌++◌, sum_by, IfSome, All, ◌⊎◌}
use Rattle.std.specs.List.{flat_map}
use Rattle.hsm_types.specs.Handles.{IsHandle}
use Rattle.hsm_types.specs.Messages.{IsMessage, message_bytes, message_text, packed}
use Rattle.hsm_types.specs.declared.messages.Message.{Message}

-- a message in the grammar. Each number has room in its field
pub record IsInGrammar (m : Message) : Type 0 where
  pub message : IsMessage m
  pub token : m.token.0 < 2 ^ 64
  pub handle : IfSome m.handle IsHandle
  pub offset : m.offset < 2 ^ 64
  pub length : m.length < 2 ^ 64

-- the buffer is that of these messages, of which there is one or more
pub record IsPacked (buf : List ℕ) (messages : List Message) : Type 0 where
  pub some : messages ≢ []
  pub each : All IsInGrammar messages
  pub bytes : buf ≡ packed messages

-- ---- where a buffer leaves the grammar

-- what a message says of the one behind it: that it begins where this one ends, or that there is none
abbrev pub next_of : Message → List ℕ → ℕ
next_of m [] = 0
next_of m (byte ∷ rest) = message_bytes m

-- a message in the grammar, and the rest behind it
pub record BeginsWith (m : Message) (rest bytes : List ℕ) : Type 0 where
  pub message : IsInGrammar m
  pub text : bytes ≡ message_text (next_of m rest) m ++ rest

-- a message in the grammar stands in front
abbrev pub BeginsWell : List ℕ → Type 0
BeginsWell bytes = (m : Message) × (rest : List ℕ) × BeginsWith m rest bytes

-- messages with others behind them
abbrev pub linked : List Message → List ℕ
linked messages = flat_map (λ m. message_text (message_bytes m) m) messages

-- the first message that isn't in the grammar begins at that place: those before it are, and have it behind them
pub record IsBadAt (place : ℕ) (buf : List ℕ) : Type 0 where
  pub before : List Message
  pub rest : List ℕ
  pub each : All IsInGrammar before
  pub bytes : buf ≡ linked before ++ rest
  pub start : sum_by message_bytes before ≡ place
  pub follows : (before ≡ []) ⊎ (rest ≢ [])
  pub bad : BeginsWell rest → ⊥
