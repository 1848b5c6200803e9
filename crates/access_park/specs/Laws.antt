-- Laws on the accesses that are pending.
use Rattle.std.specs.Prelude.{◌≡◌, ◌≢◌, ℕ, ◌+◌, ◌≤◌, if◌then◌else◌, Option, Some, None, is_some}
use Rattle.hsm_types.specs.Callers.{IsCallerNumber}
use Rattle.hsm_types.specs.Limits.{callers}
use Rattle.hsm_types.specs.declared.dm.Response.{Response}
use Rattle.hsm_types.specs.declared.keys.Token.{Token}
use Rattle.hsm_types.specs.Keyed.{set_at}
use Rattle.access_park.specs.declared.access.Access.{Access}
use Rattle.access_park.specs.Pending.{answered, waiting_in, IsPark}

-- a response changes the accesses of no two callers
abbrev pub AnswersOne : (ℕ → Option Access) → Type 0
AnswersOne pending = IsPark pending → (t : Token) (r : Response) (c d : ℕ) → answered t r (pending c) ≢ pending c → answered t r (pending d) ≢ pending d → c ≡ d

-- how many callers have an access after each change
pub record CountsWaiting (pending : ℕ → Option Access) : Type 0 where
  pub few : waiting_in pending ≤ callers
  pub parked : (c : ℕ) (a : Access) → IsCallerNumber c → pending c ≡ None → waiting_in (set_at c (Some a) pending) ≡ waiting_in pending + 1
  pub ended : (c : ℕ) → IsCallerNumber c → waiting_in (set_at c None pending) + (if is_some (pending c) then 1 else 0) ≡ waiting_in pending
  pub kept : (t : Token) (r : Response) → waiting_in (λ c. answered t r (pending c)) ≡ waiting_in pending
