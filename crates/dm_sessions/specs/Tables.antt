-- What is true of each session, and of each table of sessions.
use Rattle.std.specs.Prelude.{◌≡◌, ℕ, ◌<◌, ◌≤◌, List, [], ◌∷◌, length, count_by, false, Option, None, Some}
use Rattle.std.specs.List.{All}
use Rattle.std.specs.Map.{values_of}
use Rattle.hsm_types.specs.Limits.{live_sessions}
use Rattle.hsm_types.specs.Messages.{IsMessage, has_token, no_token}
use Rattle.hsm_types.specs.Sessions.{LiveSession, SessionTable, Ascend, is_of_user, places, put_messages, user_tokens}
use Rattle.hsm_types.specs.declared.dm.DmRefusal.{DmRefusal}
use Rattle.hsm_types.specs.declared.dm.DmRefusal.TheVariants.{Again}
use Rattle.hsm_types.specs.declared.keys.Token.{Token}
use Rattle.hsm_types.specs.declared.messages.Message.{Message}

-- the messages of a table in the order of their tokens, whatever the order of its entries
abbrev pub in_order : List (Token × Message) → List Message
in_order entries = put_messages [] (values_of entries)

-- the message of an access, which has a token
abbrev pub IsEvent : Message → Type 0
IsEvent m = IsMessage m × (is_of_user m.kind ≡ false)

-- one that waits in a queue: it is a session's own exactly where it has no token
abbrev pub IsQueued : Message → Type 0
IsQueued m = IsMessage m × (is_of_user m.kind ≡ has_token no_token m)

-- a message that stands under its token
abbrev pub IsKept : Token × Message → Type 0
IsKept e = (e.0 ≡ e.1.token) × (0 < e.0.0) × IsMessage e.1

-- how many tokens of user events are outstanding to a session
abbrev pub users_of : LiveSession → ℕ
users_of s = count_by (λ m. is_of_user m.kind) s.outstanding

-- a session: so many messages of its queue have no token, and no token is outstanding twice
pub record IsSession (queue : List Message) (waiting : ℕ) (entries : List (Token × Message)) : Type 0 where
  pub counted : waiting ≡ count_by (has_token no_token) queue
  pub queued : All IsQueued queue
  pub kept : All IsKept entries
  pub apart : (u : Token) → count_by (has_token u) (values_of entries) ≤ 1

-- a table: ids ascend, at most `live_sessions` live, a token stands at one place, and so many tokens of user events are outstanding
pub record IsTable (t : SessionTable) (users : ℕ) : Type 0 where
  pub ascend : Ascend 0 t.given t.live
  pub few : length t.live ≤ live_sessions
  pub events : All IsEvent t.unrouted
  pub once : (u : Token) → 0 < u.0 → places u t ≤ 1
  pub counted : users ≡ user_tokens t

-- nothing is undelivered
abbrev pub none_waits : List Message → Option DmRefusal
none_waits [] = Some Again
none_waits (m ∷ more) = None
