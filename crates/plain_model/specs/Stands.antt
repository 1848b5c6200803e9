-- When what a store holds stands for a plain map, and when its tables agree.
use Rattle.std.specs.Prelude.{ℕ, ◌≡◌, ◌*◌, ◌/◌, ◌<◌, ◌≤◌, List, [], ◌∷◌, length, get_or, true, false, if◌then◌else◌, Option, Some, None, is_none, IfSome}
use Rattle.std.specs.List.{All}
use Rattle.std.specs.Map.{keys_of}
use Rattle.hsm_types.specs.Limits.{segment_bytes}
use Rattle.hsm_types.specs.Rights.{AreRights}
use Rattle.hsm_types.specs.Sessions.{Ascend, places}
use Rattle.hsm_types.specs.Regions.{covers}
use Rattle.hsm_types.specs.Stubs.{print_of, stub_at, offline_at, entry_print}
use Rattle.hsm_types.specs.declared.dm.Response.{Response}
use Rattle.hsm_types.specs.declared.keys.Token.{Token}
use Rattle.plain_model.specs.Plain.{File, segment}
use Rattle.plain_model.specs.Ledger.{Ledger}
use Rattle.plain_model.specs.Step.{World}
use Rattle.plain_model.specs.State.{FileState, State}

-- What is held of a file's bytes stands for these bytes: as many; each at its place, unless it is away; each stub entry has the fingerprint of its
-- segment, and none is past the end; and each segment whose bytes are away is covered.
pub record HasBody (f : FileState) (body : List ℕ) : Type 0 where
  pub size : length f.body ≡ length body
  pub bytes : (i : ℕ) → offline_at f.kept.stubs (i / segment_bytes) ≡ false → get_or f.body i 0 ≡ get_or body i 0
  pub prints : (j : ℕ) → IfSome (stub_at j f.kept.stubs) (λ stub. entry_print stub.entry ≡ print_of (segment j body))
  pub within : (j : ℕ) → length body ≤ segment_bytes * j → stub_at j f.kept.stubs ≡ None
  pub covered : (j : ℕ) → offline_at f.kept.stubs j ≡ true → covers f.kept.regions j ≡ true

-- the held file is that of the map
pub record IsFile (f : FileState) (g : File) : Type 0 where
  pub key : f.key ≡ g.key
  pub name : f.name ≡ g.name
  pub body : HasBody f g.body

-- each held file is that of the map at its place, and the map has no other
abbrev pub Stands : List FileState → List File → Type 0
Stands [] [] = Unit {0}
Stands (f ∷ fs) (g ∷ gs) = IsFile f g × Stands fs gs
Stands [] (g ∷ gs) = ⊥
Stands (f ∷ fs) [] = ⊥

-- a token for which an access waits was given, and is open as long as there is no response
abbrev pub Awaits : Ledger → Option Token → Option Response → Type 0
Awaits L None answer = answer ≡ None
Awaits L (Some t) answer = (t.0 ≤ L.top) × (L.open t.0 ≡ is_none answer)

-- the store stands for the world: for its map, with a next generation that is new there, and with the same ledger
pub record StandsFor (st : State) (W : World) : Type 0 where
  pub files : Stands st.held.files W.files
  pub newer : W.last < st.held.next
  pub ledger : st.ledger ≡ W.ledger

-- The tables agree with the ledger: ids of sessions ascend; each open token stands at just one place, unrouted, in a queue or outstanding, and no other
-- stands anywhere; no token is open that was never given, nor is 0; the token of an access that waits was given, and is open up to its response; and
-- rights are many or exclusive, of open tokens alone.
pub record InOrder (st : State) : Type 0 where
  pub ascend : Ascend 0 st.sessions.given st.sessions.live
  pub once : (t : Token) → 0 < t.0 → places t st.sessions ≡ (if st.ledger.open t.0 then 1 else 0)
  pub given : (t : ℕ) → st.ledger.top < t → st.ledger.open t ≡ false
  pub none : st.ledger.open 0 ≡ false
  pub waits : (c : ℕ) → IfSome (st.ledger.pending c) (λ a. Awaits st.ledger a.token a.answer)
  pub rights : AreRights st.rights
  pub held : All (λ h. st.ledger.open h.token.0 ≡ true) (keys_of st.rights)
