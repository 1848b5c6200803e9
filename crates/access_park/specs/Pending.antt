-- The accesses that are pending, at most one a caller.
use Rattle.std.specs.Prelude.{◌≡◌, ℕ, ◌+◌, List, length, count_by, slice_index_or, Bool, true, false, ◌==◌, if◌then◌else◌, Option, Some, None, is_some, IsSome}
use Rattle.std.specs.List.{range_with_len}
use Rattle.std.specs.Option.{option_map}
use Rattle.hsm_types.specs.Callers.{IsCallerNumber}
use Rattle.hsm_types.specs.Limits.{callers}
use Rattle.hsm_types.specs.Messages.{is_lawful}
use Rattle.hsm_types.specs.declared.dm.Response.{Response}
use Rattle.hsm_types.specs.declared.keys.Token.{Token}
use Rattle.access_park.specs.declared.access.Access.{Access}

-- ---- one access

abbrev pub is_token : Token → Option Token → Bool
is_token t None = false
is_token t (Some u) = u.0 == t.0

abbrev pub is_lawful_answer : Option Response → Bool
is_lawful_answer None = true
is_lawful_answer (Some r) = is_lawful r

-- there is an access, and it has that token
abbrev pub holds : Token → Option Access → Bool
holds t None = false
holds t (Some a) = is_token t a.token

abbrev pub has_lawful_answer : Option Access → Bool
has_lawful_answer None = true
has_lawful_answer (Some a) = is_lawful_answer a.answer

-- it has this answer
abbrev pub given : Response → Access → Access
given r a = record a { answer = Some r }

-- the access with that token has this answer, any other is as it was
abbrev pub answered : Token → Response → Option Access → Option Access
answered t r p = if holds t p then option_map (given r) p else p

-- ---- the accesses of all callers, by their numbers

-- no caller has one
abbrev pub nobody : ℕ → Option Access
nobody c = None

abbrev pub NobodyHolds : Token → (ℕ → Option Access) → Type 0
NobodyHolds t pending = (c : ℕ) → holds t (pending c) ≡ false

-- the access of that caller has the token, and that of no other
abbrev pub HoldsAlone : Token → ℕ → (ℕ → Option Access) → Type 0
HoldsAlone t c pending = (holds t (pending c) ≡ true) × ((d : ℕ) → holds t (pending d) ≡ true → d ≡ c)

-- no access has the token, if there is one
abbrev pub IsNewToken : Option Token → (ℕ → Option Access) → Type 0
IsNewToken None pending = Unit {0}
IsNewToken (Some t) pending = NobodyHolds t pending

-- how many callers have an access
unfoldable pub waiting_in : (ℕ → Option Access) → ℕ
waiting_in pending = count_by (λ c. is_some (pending c)) (range_with_len 1 callers)

-- callers alone have accesses, no two accesses have one token, and each answer is lawful
pub record IsPark (pending : ℕ → Option Access) : Type 0 where
  pub callers : (c : ℕ) → IsSome (pending c) → IsCallerNumber c
  pub once : (t : Token) (c d : ℕ) → holds t (pending c) ≡ true → holds t (pending d) ≡ true → c ≡ d
  pub lawful : (c : ℕ) → has_lawful_answer (pending c) ≡ true

-- ---- how they are kept

-- a slot at each caller's number, and one at 0, which is nobody's
abbrev pub Slots : Type 0
Slots = List (Option Access)

-- what the slot of that caller has
unfoldable pub access_of : Slots → ℕ → Option Access
access_of slots c = slice_index_or slots c None

-- slots of a park in which so many callers have an access
pub record IsTable (slots : Slots) (waiting : ℕ) : Type 0 where
  pub full : length slots ≡ callers + 1
  pub counted : waiting ≡ waiting_in (access_of slots)
  pub park : IsPark (access_of slots)
