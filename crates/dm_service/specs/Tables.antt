-- What a store keeps of its sessions and of the accesses that wait, and how the model sees it.
use Rattle.std.specs.Prelude.{ℕ, zero, suc, ◌≡◌, ◌+◌, ◌≤◌, Bool, ◌&&◌, nat_lt, if◌then◌else◌, Option, Some, None}
use Rattle.std.specs.Option.{option_map}
use Rattle.hsm_types.specs.Limits.{most_tokens}
use Rattle.hsm_types.specs.Rights.{Rights}
use Rattle.hsm_types.specs.Sessions.{SessionTable, places}
use Rattle.hsm_types.specs.declared.keys.FileKey.{FileKey}
use Rattle.plain_model.specs.Ledger.{Access as Pending, Ledger}
use Rattle.plain_model.specs.State.{Held, nothing_held, Flags, no_flags, State, just_opened}
use Rattle.plain_model.specs.Stands.{InOrder}
use Rattle.access_park.specs.Pending.{Slots, access_of, waiting_in}
use Rattle.access_park.specs.declared.access.Access.{Access}

pub record Tables : Type 0 where
  pub sessions : SessionTable
  -- how many tokens were given
  pub tokens : ℕ
  -- what tokens hold
  pub rights : Rights
  -- a slot for the access of each caller
  pub park : Slots

-- of each caller the access that waits
abbrev pub waiting : Tables → ℕ → Option Access
waiting t = access_of t.park

-- ---- as the model sees them

-- a token is open as long as it stands anywhere
abbrev pub is_open : SessionTable → ℕ → Bool
is_open t n = nat_lt 0 (places (record { 0 = n }) t) && nat_lt 0 n

-- of an access that waits what users can see, and what they can't
abbrev pub pending_as : Access → Pending
pending_as a = record { key = a.key; call = a.call; token = a.token; answer = a.answer }

abbrev pub flags_in : Access → Flags
flags_in a = record { cleared = a.cleared; spaced = a.spaced }

abbrev pub flags_or_none : Option Access → Flags
flags_or_none None = no_flags
flags_or_none (Some a) = flags_in a

abbrev pub ledger_of : Tables → Ledger
ledger_of t = record { pending = λ c. option_map pending_as (waiting t c); top = t.tokens; «open» = is_open t.sessions }

abbrev pub flags_of : Tables → ℕ → Flags
flags_of t c = flags_or_none (waiting t c)

-- a store with these tables
abbrev pub state_in : Held → (FileKey → ℕ) → ℕ → Tables → State
state_in held stamps number t = record { held = held; stamps = stamps; number = number; sessions = t.sessions; rights = t.rights; flags = flags_of t; ledger = ledger_of t }

-- one with nothing else
abbrev pub seen : Tables → State
seen t = state_in nothing_held (λ k. 0) 0 t

-- those of a store that was just opened
abbrev pub AreNew : Tables → Type 0
AreNew t = seen t ≡ just_opened 0 nothing_held

-- ---- what is still to come

-- how many of the first so many tokens are open
abbrev pub open_among : ℕ → (ℕ → Bool) → ℕ
open_among zero given = 0
open_among (suc n) given = open_among n given + (if given (suc n) then 1 else 0)

abbrev pub open_in : Tables → ℕ
open_in t = open_among t.tokens (is_open t.sessions)

-- to each open token a response may come, and of each access that waits a resume
abbrev pub awaited_in : Tables → ℕ
awaited_in t = open_in t + waiting_in (waiting t)

-- True of all tables: they are in order, so many tokens are open, and there are more to give.
pub record AreKept (t : Tables) (opened : ℕ) : Type 0 where
  pub ordered : InOrder (seen t)
  pub counted : opened ≡ open_in t
  pub few : t.tokens ≤ most_tokens
