-- An exact run uses each token once.
use Rattle.std.proofs.Common.{◌≡◌, ◌≤◌, ℕ, List, [], ◌∷◌, Bool, true, false, Option, Some, None, refl, sym, ◌∙◌, arith}
use Rattle.std.proofs.lemmas.Bool.{eq-eqb}
use Rattle.std.specs.Prelude.{◌==◌}
use Rattle.hsm_types.specs.declared.keys.Token.{Token}
use Rattle.hsm_types.specs.declared.calls.CallRefusal.TheVariants.{Disk}
use Rattle.hsm_types.specs.declared.calls.Reply.TheVariants.{Parked, Refused}
use Rattle.hsm_types.specs.declared.dm.DmCall.TheVariants.{Respond}
use Rattle.hsm_types.specs.declared.dm.DmReply.TheVariants as told
use Rattle.hsm_types.specs.declared.dm.Response.{Response}
use Rattle.hsm_types.specs.declared.stores.Superblock.{Superblock}
use Rattle.plain_model.specs.declared.entries.Entry.{Entry}
use Rattle.plain_model.specs.declared.entries.Actor.{Actor}
use Rattle.plain_model.specs.declared.entries.Actor.TheVariants.{Caller, Session}
use Rattle.plain_model.specs.declared.entries.Action.{Action}
use Rattle.plain_model.specs.declared.entries.Action.TheVariants.{Resume, Dm}
use Rattle.plain_model.specs.declared.entries.Answer.{Answer}
use Rattle.plain_model.specs.declared.entries.Answer.TheVariants.{Call as Replied, Dm as Told}
use Rattle.plain_model.specs.Ledger.{Ledger}
use Rattle.plain_model.specs.Once.{takes, is_taken, NeverGiven, NeverTaken, MustWait, UsesUp, either, used_by, IsUsed, is_of, waits_by, on_taken}
use Rattle.plain_model.specs.Once.{IsParked, UsedOnce, Once}
use Rattle.plain_model.specs.State.{State}
use Rattle.plain_model.specs.Stands.{InOrder}
use Rattle.plain_model.specs.Exact.{left_by, Exact}
use Rattle.plain_model.proofs.Orders.{event_ordered}
use Rattle.plain_model.proofs.Ledgers.{IsOn, Moves, event_moves}

-- each entry moves the ledger
abbrev pub Runs : Ledger → List Entry → Type 0
Runs L [] = Unit {0}
Runs L (e ∷ es) = (M : Ledger) × (Moves L M e.actor e.action e.answer × Runs M es)

never_given : (t : ℕ) (L : Ledger) (es : List Entry) → t ≤ L.top → Runs L es → NeverGiven t es
never_given t L [] old run = tt
never_given t L (e ∷ es) old run =
    let moves = run.1.0 in
    let up = moves.rises in
    ((λ is. let new = moves.given t is in absurd (omega arith)), never_given t run.0 es (omega arith) run.1.1)

not_taken : (taken shut : Bool) → shut ≡ false → (taken ≡ true → shut ≡ true) → taken ≡ false
not_taken true shut is wrong = sym (wrong refl) ∙ is
not_taken false shut is wrong = refl

never_taken : (t : ℕ) (L : Ledger) (es : List Entry) → t ≤ L.top → L.open t ≡ false → Runs L es → NeverTaken t es
never_taken t L [] old shut run = tt
never_taken t L (e ∷ es) old shut run =
    let moves = run.1.0 in
    let up = moves.rises in
    (not_taken (is_taken t (takes e.action e.answer)) (L.open t) shut (λ is. (moves.taken t is).1), never_taken t run.0 es (omega arith) (moves.stays t old shut) run.1.1)

-- ---- an access that is parked

either_map : (b : Bool) (A A' B B' : Type 0) → (A → A') → (B → B') → either b A B → either b A' B'
either_map true A A' B B' f g h = f h
either_map false A A' B B' f g h = g h

used_map : (c t : ℕ) (r : Response) (who : Actor) (what : Action) (answer : Answer) (A B : Type 0) → (A → B) → used_by c t r who what answer A → used_by c t r who what answer B
used_map c t r (Caller d) Resume (Replied (Refused Disk)) A B f h = f h
used_map c t r (Caller d) Resume (Replied reply) A B f h = either_map (d == c) (UsesUp t r reply) (UsesUp t r reply) A B (λ x. x) f h
used_map c t r who what answer A B f h = f h

is_used : (c : ℕ) (t : Token) (r : Response) (L : Ledger) (es : List Entry) → IsOn t (Some r) (L.pending c) → Runs L es → IsUsed c t.0 r es
is_used c t r L [] on run = tt
is_used c t r L (e ∷ es) on run =
    used_map c t.0 r e.actor e.action e.answer (IsOn t (Some r) (run.0.pending c)) (IsUsed c t.0 r es) (λ later. is_used c t r run.0 es later run.1.1) (run.1.0.uses c t r on)

taken_map : (t : ℕ) (taken : Option (ℕ × Response)) (used used' : Response → Type 0) (A B : Type 0) → ((r : Response) → used r → used' r) → (A → B) → on_taken t taken used A → on_taken t taken used' B
taken_map t None used used' A B f g h = g h
taken_map t (Some x) used used' A B f g h = either_map (x.0 == t) (used x.1) (used' x.1) A B (f x.1) g h

waits_map : (c t : ℕ) (who : Actor) (what : Action) (answer : Answer) (A B : Type 0) → (A → B) → waits_by c t who what answer A → waits_by c t who what answer B
waits_map c t who what answer A B f h = either_map (is_of c who) (MustWait t what answer × A) (MustWait t what answer × B) A B (λ x. (x.0, f x.1)) f h

is_parked : (c : ℕ) (t : Token) (L : Ledger) (es : List Entry) → IsOn t None (L.pending c) → Runs L es → IsParked c t.0 es
is_parked c t L [] on run = tt
is_parked c t L (e ∷ es) on run =
    let M : Ledger = run.0 in
    taken_map t.0 (takes e.action e.answer) (λ r. IsOn t (Some r) (M.pending c)) (λ r. IsUsed c t.0 r es) _ _
    (λ r later. is_used c t r M es later run.1.1)
    (waits_map c t.0 e.actor e.action e.answer (IsOn t None (M.pending c)) (IsParked c t.0 es) (λ later. is_parked c t M es later run.1.1))
    (run.1.0.waits c t on)

-- ---- each token once

used_once : (L M : Ledger) (who : Actor) (what : Action) (answer : Answer) (es : List Entry) → Moves L M who what answer → Runs M es → UsedOnce who what answer es
used_once L M (Caller c) what (Replied (Parked t)) es moves run = (never_given t.0 M es (moves.given t.0 refl).1 run, is_parked c t M es moves.parks run)
used_once L M (Session sid) what (Told (told.Token t)) es moves run = never_given t.0 M es (moves.given t.0 refl).1 run
used_once L M (Session sid) (Dm (Respond t r)) (Told told.Done) es moves run =
    let taken = moves.taken t.0 (eq-eqb t.0 t.0 refl) in
    let up = moves.rises in
    let old : t.0 ≤ M.top = omega (arith, taken.0, up) in
    (never_given t.0 M es old run, never_taken t.0 M es old taken.2 run)
used_once L M who what answer es moves run = tt

pub run_once : (L : Ledger) (es : List Entry) → Runs L es → Once es
run_once L [] run = tt
run_once L (e ∷ es) run = (used_once L run.0 e.actor e.action e.answer es run.1.0 run.1.1, run_once run.0 es run.1.1)

exact_runs : (s : Superblock) (st : State) (es : List Entry) → InOrder st → Exact s st es → Runs st.ledger es
exact_runs s st [] ordered exact = tt
exact_runs s st (e ∷ es) ordered exact =
    let left : State = left_by s st e.actor e.action e.answer in
    (left.ledger, (event_moves s st e.actor e.action e.answer ordered exact.0, exact_runs s left es (event_ordered s st e ordered exact.0) exact.2))

pub exact_is_once : (s : Superblock) (st : State) (es : List Entry) → InOrder st → Exact s st es → Once es
exact_is_once s st es ordered exact = run_once st.ledger es (exact_runs s st es ordered exact)
