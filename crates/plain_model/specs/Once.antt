-- Each token is given once, at most one response to it is taken, and that is used up once, by the access that waits for it.
use Rattle.std.specs.Prelude.{◌≡◌, ℕ, ◌≢◌, List, [], ◌∷◌, Bool, true, false, ◌==◌, Option, Some, None}
use Rattle.std.specs.List.{AllByRecursion}
use Rattle.hsm_types.specs.declared.calls.CallRefusal.TheVariants.{Aborted, Media as Faulted, Disk, Waiting}
use Rattle.hsm_types.specs.declared.calls.Reply.{Reply}
use Rattle.hsm_types.specs.declared.calls.Reply.TheVariants.{Parked, Still, Refused}
use Rattle.hsm_types.specs.declared.dm.DmCall.TheVariants.{Respond}
use Rattle.hsm_types.specs.declared.dm.DmReply.TheVariants as told
use Rattle.hsm_types.specs.declared.dm.Response.{Response}
use Rattle.hsm_types.specs.declared.dm.Response.TheVariants.{Continue, Abort, Media}
use Rattle.plain_model.specs.declared.entries.Entry.{Entry}
use Rattle.plain_model.specs.declared.entries.Actor.{Actor}
use Rattle.plain_model.specs.declared.entries.Actor.TheVariants.{Caller, Session}
use Rattle.plain_model.specs.declared.entries.Action.{Action}
use Rattle.plain_model.specs.declared.entries.Action.TheVariants.{Issue, Resume, Dm}
use Rattle.plain_model.specs.declared.entries.Answer.{Answer}
use Rattle.plain_model.specs.declared.entries.Answer.TheVariants.{Call as Replied, Dm as Told}

-- ---- what an entry says of tokens

-- the token that an answer gives
abbrev pub gives : Answer → Option ℕ
gives (Replied (Parked t)) = Some t.0
gives (Told (told.Token t)) = Some t.0
gives answer = None

-- the response that an entry has taken, with its token
abbrev pub takes : Action → Answer → Option (ℕ × Response)
takes (Dm (Respond t response)) (Told told.Done) = Some (t.0, response)
takes action answer = None

abbrev pub is_taken : ℕ → Option (ℕ × Response) → Bool
is_taken t None = false
is_taken t (Some taken) = taken.0 == t

-- no later entry gives the token; none takes a response to it
abbrev pub NeverGiven : ℕ → List Entry → Type 0
NeverGiven t es = AllByRecursion (λ x. gives x.answer ≢ Some t) es

abbrev pub NeverTaken : ℕ → List Entry → Type 0
NeverTaken t es = AllByRecursion (λ x. is_taken t (takes x.action x.answer) ≡ false) es

-- ---- an access that is parked on a token

abbrev pub either : Bool → Type 0 → Type 0 → Type 0
either true A B = A
either false A B = B

abbrev pub is_of : ℕ → Actor → Bool
is_of c (Caller d) = d == c
is_of c actor = false

-- as long as there is no response, its caller is told to wait, or that the disk failed
abbrev pub MustWait : ℕ → Action → Answer → Type 0
MustWait t (Issue call) (Replied (Refused Waiting)) = Unit {0}
MustWait t Resume (Replied (Still u)) = u.0 ≡ t
MustWait t action (Replied (Refused Disk)) = Unit {0}
MustWait t action answer = ⊥

-- the reply that uses a response up: that of an abort tells its error, that of a fault of a medium tells the fault, and no other tells either or waits
-- for this token
abbrev pub UsesUp : ℕ → Response → Reply → Type 0
UsesUp t (Abort error) reply = reply ≡ Refused (Aborted error)
UsesUp t (Media fault) reply = reply ≡ Refused (Faulted fault)
UsesUp t Continue (Refused (Aborted error)) = ⊥
UsesUp t Continue (Refused (Faulted fault)) = ⊥
UsesUp t Continue (Still u) = u.0 ≢ t
UsesUp t Continue reply = Unit {0}

-- an entry behind the response: a resume of the caller uses it up, unless the disk failed, and then nothing is left to say. After any other it is still there
abbrev pub used_by : ℕ → ℕ → Response → Actor → Action → Answer → Type 0 → Type 0
used_by c t response (Caller d) Resume (Replied (Refused Disk)) later = later
used_by c t response (Caller d) Resume (Replied reply) later = either (d == c) (UsesUp t response reply) later
used_by c t response actor action answer later = later

abbrev pub IsUsed : ℕ → ℕ → Response → List Entry → Type 0
IsUsed c t response [] = Unit {0}
IsUsed c t response (x ∷ xs) = used_by c t response x.actor x.action x.answer (IsUsed c t response xs)

abbrev pub waits_by : ℕ → ℕ → Actor → Action → Answer → Type 0 → Type 0
waits_by c t actor action answer later = either (is_of c actor) (MustWait t action answer × later) later

abbrev pub on_taken : ℕ → Option (ℕ × Response) → (Response → Type 0) → Type 0 → Type 0
on_taken t None used later = later
on_taken t (Some taken) used later = either (taken.0 == t) (used taken.1) later

-- the caller's access is parked on the token: it waits up to the response, if one comes, and then that is used up
abbrev pub IsParked : ℕ → ℕ → List Entry → Type 0
IsParked c t [] = Unit {0}
IsParked c t (x ∷ xs) = on_taken t (takes x.action x.answer) (λ response. IsUsed c t response xs) (waits_by c t x.actor x.action x.answer (IsParked c t xs))

-- ---- each token once

-- what an entry promises of the later ones
abbrev pub UsedOnce : Actor → Action → Answer → List Entry → Type 0
UsedOnce (Caller c) action (Replied (Parked t)) es = NeverGiven t.0 es × IsParked c t.0 es
UsedOnce (Session sid) action (Told (told.Token t)) es = NeverGiven t.0 es
UsedOnce (Session sid) (Dm (Respond t response)) (Told told.Done) es = NeverGiven t.0 es × NeverTaken t.0 es
UsedOnce actor action answer es = Unit {0}

abbrev pub Once : List Entry → Type 0
Once [] = Unit {0}
Once (e ∷ es) = UsedOnce e.actor e.action e.answer es × Once es
