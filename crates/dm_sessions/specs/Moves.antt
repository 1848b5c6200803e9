-- Messages that move into a table by token.
use Rattle.std.specs.Prelude.{◌+◌, ◌<◌, ◌≤◌, Bool, ◌==◌, List, map, count_by}
use Rattle.std.specs.Map.{values_of}
use Rattle.hsm_types.specs.Messages.{has_token}
use Rattle.hsm_types.specs.declared.keys.Token.{Token}
use Rattle.hsm_types.specs.declared.messages.Message.{Message}

abbrev pub same_token : Token → Token → Bool
same_token a b = a.0 == b.0

-- each under its token
abbrev pub keyed : List Message → List (Token × Message)
keyed messages = map (λ (m : Message). (m.token, m)) messages

-- no token is twice in the queue and the table
abbrev pub AreApart : List Message → List (Token × Message) → Type 0
AreApart queue entries = (u : Token) → 0 < u.0 → count_by (has_token u) queue + count_by (has_token u) (values_of entries) ≤ 1
