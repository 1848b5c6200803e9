-- At how many places a token stands after each call.
use Rattle.std.specs.Prelude.{◌≡◌, ◌≢◌, ℕ, ◌+◌, ◌≤◌, List, true, None, Some, if◌then◌else◌}
use Rattle.hsm_types.specs.Messages.{has_token, user_message}
use Rattle.hsm_types.specs.Sessions.{SessionTable, lives, owner, destruction_refusal, with_session, without_session}
use Rattle.hsm_types.specs.Sessions.{with_kinds, posted, delivered, responded, user_event, sent, places}
use Rattle.hsm_types.specs.declared.keys.Sid.{Sid}
use Rattle.hsm_types.specs.declared.keys.Token.{Token}
use Rattle.hsm_types.specs.declared.dm.Kinds.{Kinds}
use Rattle.hsm_types.specs.declared.messages.Message.{Message}

-- A message that is posted, or of a user event, adds a place to its token. A response takes the token's place, where it stands at one only. All other
-- calls keep the places of a token, which isn't 0
pub record StandsOnce (t : SessionTable) (u : Token) : Type 0 where
  pub created : (old : Sid) (info : List ℕ) → places u (with_session old info t) ≡ places u t
  pub ended : (sid : Sid) → destruction_refusal sid t ≡ None → places u (without_session sid t) ≡ places u t
  pub disposed : (sid : Sid) (kinds : Kinds) → lives sid t ≡ true → places u (with_kinds sid kinds t) ≡ places u t
  pub given : (m : Message) → places u (posted m t) ≡ places u t + (if has_token u m then 1 else 0)
  pub handed_out : (sid : Sid) (count : ℕ) → places u (delivered sid count t) ≡ places u t
  pub others_answered : (sid : Sid) (token : Token) → (u.0 ≢ token.0) → places u (responded sid token t) ≡ places u t
  pub answered : (sid : Sid) → owner u t ≡ Some sid → places u t ≤ 1 → places u (responded sid u t) ≡ 0
  pub made : (sid : Sid) (token : Token) (body : List ℕ) → lives sid t ≡ true → places u (user_event sid token body t) ≡ places u t + (if has_token u (user_message token body) then 1 else 0)
  pub said : (target : Sid) (body : List ℕ) → places u (sent target body t) ≡ places u t
