-- One more entry at the end of an exact history, beginnings of it, and its number. So too where bytes are as they are seen.
use Rattle.std.proofs.Common.{◌≡◌, ◌+◌, ℕ, List, [], ◌∷◌, ◌++◌, take, drop, Bool, true, false, Option, Some, None, refl, sym, subst}
use Rattle.std.proofs.lemmas.List.{take-append-drop}
use Rattle.std.specs.Prelude.{if◌then◌else◌}
use Rattle.hsm_types.specs.declared.stores.Superblock.{Superblock}
use Rattle.hsm_types.specs.declared.calls.CallRefusal.{CallRefusal}
use Rattle.hsm_types.specs.declared.dm.DmCall.{DmCall}
use Rattle.hsm_types.specs.declared.keys.Sid.{Sid}
use Rattle.hsm_types.specs.declared.dm.DmRefusal.{DmRefusal}
use Rattle.plain_model.specs.declared.entries.Entry.{Entry}
use Rattle.plain_model.specs.declared.entries.Actor.{Actor}
use Rattle.plain_model.specs.declared.entries.Actor.TheVariants.{Caller, Session}
use Rattle.plain_model.specs.declared.entries.Action.{Action}
use Rattle.plain_model.specs.declared.entries.Action.TheVariants.{Issue, Resume, Dm}
use Rattle.plain_model.specs.declared.entries.Answer.{Answer}
use Rattle.plain_model.specs.declared.entries.Answer.TheVariants.{Dm as Told}
use Rattle.plain_model.specs.Effects.{Change, Nothing, OfFile, OfSessions, OfRights, Closes, change_of}
use Rattle.plain_model.specs.Ledger.{Meant, Fixed, Means}
use Rattle.plain_model.specs.State.{Flags, State, noted, changed}
use Rattle.plain_model.specs.Verdict.{flags_now, objection_in, meant_in, state_where}
use Rattle.plain_model.specs.Services.{dm_judged, dm_state_where}
use Rattle.plain_model.specs.Faults.{is_fault, has_fault}
use Rattle.plain_model.specs.Exact.{IsAnswer, IsAnswerSeen, left_own, left_answered, left_by, Exact, ExactSeen, state_by}
use Rattle.plain_model.proofs.Faultless.{has_fault-cons, not_last}
use Rattle.plain_model.proofs.Seeing.{left_told_apart}

pub state_by-push : (s : Superblock) (st : State) (es : List Entry) (e : Entry) → state_by s st (es ++ e ∷ []) ≡ left_by s (state_by s st es) e.actor e.action e.answer
state_by-push s st [] e = refl
state_by-push s st (x ∷ es) e = state_by-push s (left_by s st x.actor x.action x.answer) es e

pub Exact-push : (s : Superblock) (st : State) (es : List Entry) (e : Entry) → Exact s st es → has_fault es ≡ false → IsAnswer s (state_by s st es) e.actor e.action e.answer → Exact s st (es ++ e ∷ [])
Exact-push s st [] e exact faultless is = (is, λ fault. refl, tt)
Exact-push s st (x ∷ es) e exact faultless is =
    let none = has_fault-cons x es faultless in
    (exact.0, not_last x (es ++ e ∷ []) none.0, Exact-push s (left_by s st x.actor x.action x.answer) es e exact.2 none.1 is)

pub ExactSeen-push : (Tells : Type 0) (s : Superblock) (st : State) (es : List Entry) (e : Entry) → ExactSeen Tells s st es → has_fault es ≡ false → IsAnswerSeen Tells s (state_by s st es) e.actor e.action e.answer
    → ExactSeen Tells s st (es ++ e ∷ [])
ExactSeen-push Tells s st [] e exact faultless is = (is, λ fault. refl, tt)
ExactSeen-push Tells s st (x ∷ es) e exact faultless is =
    let none = has_fault-cons x es faultless in
    (exact.0, not_last x (es ++ e ∷ []) none.0, ExactSeen-push Tells s (left_by s st x.actor x.action x.answer) es e exact.2 none.1 is)

-- ---- beginnings

no_first : (first rest : List Entry) → first ++ rest ≡ [] → first ≡ []
no_first [] rest none = refl
no_first (e ∷ first) rest none = absurd cc

-- each beginning of an exact history is exact
pub Exact-first : (s : Superblock) (st : State) (first rest : List Entry) → Exact s st (first ++ rest) → Exact s st first
Exact-first s st [] rest exact = tt
Exact-first s st (e ∷ first) rest exact = (exact.0, λ fault. no_first first rest (exact.1 fault), Exact-first s (left_by s st e.actor e.action e.answer) first rest exact.2)

pub Exact-take : (s : Superblock) (st : State) (es : List Entry) (i : ℕ) → Exact s st es → Exact s st (take i es)
Exact-take s st es i exact = Exact-first s st (take i es) (drop i es) (subst (Exact s st) (sym (take-append-drop i es)) exact)

pub ExactSeen-first : (Tells : Type 0) (s : Superblock) (st : State) (first rest : List Entry) → ExactSeen Tells s st (first ++ rest) → ExactSeen Tells s st first
ExactSeen-first Tells s st [] rest exact = tt
ExactSeen-first Tells s st (e ∷ first) rest exact =
    (exact.0, λ fault. no_first first rest (exact.1 fault), ExactSeen-first Tells s (left_by s st e.actor e.action e.answer) first rest exact.2)

pub ExactSeen-take : (Tells : Type 0) (s : Superblock) (st : State) (es : List Entry) (i : ℕ) → ExactSeen Tells s st es → ExactSeen Tells s st (take i es)
ExactSeen-take Tells s st es i exact = ExactSeen-first Tells s st (take i es) (drop i es) (subst (ExactSeen Tells s st) (sym (take-append-drop i es)) exact)

-- ---- numbers

counted_call : (s : Superblock) (st : State) (c : ℕ) (fl : Flags) (why : Option CallRefusal) (m : Meant) → (state_where s st c fl why m).number ≡ st.number + 1
counted_call s st c fl why (Fixed reply) = refl
counted_call s st c fl None (Means k call) = refl
counted_call s st c fl (Some why) (Means k call) = refl

changed-number : (change : Change) (st : State) → (changed change st).number ≡ st.number
changed-number Nothing st = refl
changed-number (OfFile k effect) st = refl
changed-number (OfSessions to) st = refl
changed-number (OfRights to) st = refl
changed-number (Closes sid token) st = refl

counted_dm : (why : Option DmRefusal) (s : Superblock) (st : State) (sid : Sid) (call : DmCall) → (dm_state_where why s st sid call).number ≡ st.number + 1
counted_dm None s st sid call = rw (changed-number (change_of sid call) st) refl
counted_dm (Some why) s st sid call = refl

own_number : (s : Superblock) (st : State) (who : Actor) (what : Action) → (left_own s st who what).number ≡ st.number + 1
own_number s st (Caller c) (Issue call) = counted_call s st c (flags_now st c (Issue call)) (objection_in s st c (Issue call)) (meant_in st c (Issue call))
own_number s st (Caller c) Resume = counted_call s st c (flags_now st c Resume) (objection_in s st c Resume) (meant_in st c Resume)
own_number s st (Session sid) (Dm call) = counted_dm (dm_judged s st sid call) s st sid call
own_number s st who what = refl

-- whatever the answer
answered_number : (s : Superblock) (st : State) (who : Actor) (what : Action) (answer : Answer) → (left_answered s st who what answer).number ≡ st.number + 1
answered_number s st (Session sid) (Dm call) (Told reply) = (left_told_apart st sid call reply).number
answered_number s st who what answer = own_number s st who what

if_counted : (fault : Bool) (st own : State) → own.number ≡ st.number + 1 → (if fault then noted st else own).number ≡ st.number + 1
if_counted true st own is = refl
if_counted false st own is = is

-- an event is an entry more
pub left_by-number : (s : Superblock) (st : State) (who : Actor) (what : Action) (answer : Answer) → (left_by s st who what answer).number ≡ st.number + 1
left_by-number s st who what answer = if_counted (is_fault answer) st (left_answered s st who what answer) (answered_number s st who what answer)
