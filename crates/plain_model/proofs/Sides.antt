-- What a store holds beside the bytes is what the rules give.
use Rattle.std.proofs.Common.{◌≡◌, ℕ, List, [], ◌∷◌, length, Bool, true, false, Option, Some, None, inl, inr, refl, ◌∙◌, ap}
use Rattle.std.specs.Prelude.{nat_lt, if◌then◌else◌}
use Rattle.hsm_types.specs.declared.keys.FileKey.{FileKey}
use Rattle.hsm_types.specs.declared.keys.Sid.{Sid}
use Rattle.hsm_types.specs.declared.stores.Superblock.{Superblock}
use Rattle.hsm_types.specs.declared.calls.Call.{Call}
use Rattle.hsm_types.specs.declared.calls.Call.TheVariants.{Create, Read, Write, Truncate, Remove, Stat, Sync}
use Rattle.hsm_types.specs.declared.calls.CallRefusal.{CallRefusal}
use Rattle.hsm_types.specs.declared.dm.DmCall.{DmCall}
use Rattle.hsm_types.specs.declared.dm.DmCall.TheVariants.{CreateSession}
use Rattle.hsm_types.specs.declared.dm.DmRefusal.{DmRefusal}
use Rattle.plain_model.specs.declared.entries.Entry.{Entry}
use Rattle.plain_model.specs.declared.entries.Actor.{Actor}
use Rattle.plain_model.specs.declared.entries.Actor.TheVariants.{Caller, Session, Store}
use Rattle.plain_model.specs.declared.entries.Action.{Action}
use Rattle.plain_model.specs.declared.entries.Action.TheVariants.{Issue, Resume, Dm, Commit}
use Rattle.plain_model.specs.declared.entries.Answer.{Answer}
use Rattle.hsm_types.specs.Keyed.{same_key, find_key, change_key, put_key, drop_key}
use Rattle.plain_model.specs.Effects.{Effect, Leaves, Makes, Drops, Writes, Resizes, Change, Nothing, OfFile, OfSessions, OfRights, Closes, change_of}
use Rattle.plain_model.specs.Plain.{File, body_or_none, body_of}
use Rattle.plain_model.specs.Ledger.{Meant, Fixed, Means}
use Rattle.plain_model.specs.State.{FileState, Held, Flags, State, just_opened, noted, changed, remade, affected_held}
use Rattle.plain_model.specs.Verdict.{Blocks, Posts, Lacks, Verdict, verdict, done_reply, done_held, reply_by, held_by_verdict, flags_now}
use Rattle.plain_model.specs.Verdict.{objection_in, meant_in, reply_where, reply_to, state_where, state_after}
use Rattle.plain_model.specs.Services.{service, dm_judged, dm_reply_where, dm_state_where}
use Rattle.plain_model.specs.Faults.{is_fault}
use Rattle.plain_model.specs.Step.{World, start, meant_for, after}
use Rattle.plain_model.specs.Stands.{Stands, StandsFor}
use Rattle.plain_model.specs.Exact.{IsOwn, IsAnswer, left_own, left_answered, left_by, Exact, state_by}
use Rattle.plain_model.specs.Side.{Side, side_of, sides_of, remade_side, affected_side, side_replied, side_changed, side_told, side_given, side_after}
use Rattle.plain_model.specs.Laws.{IsOpening}
use Rattle.plain_model.proofs.Faultless.{fault_is}
use Rattle.plain_model.proofs.Steps.{event_stands, same_meant, stands_at_first}
use Rattle.plain_model.proofs.Seeing.{left_own_by}

-- ---- effects

sides_put : (g : FileState) (fs : List FileState) → sides_of (put_key (λ f. f.key) g fs) ≡ put_key (λ x. x.key) (side_of g) (sides_of fs)
sides_put g [] = refl
sides_put g (f ∷ fs) =
    elim (nat_lt g.key.ino f.key.ino) as (λ b. sides_of (if b then g ∷ f ∷ fs else f ∷ put_key (λ y. y.key) g fs)
    ≡ (if b then side_of g ∷ side_of f ∷ sides_of fs else side_of f ∷ put_key (λ x. x.key) (side_of g) (sides_of fs))) [
      | true ↦ refl
      | false ↦ ap (λ xs. side_of f ∷ xs) (sides_put g fs)
    ]

sides_drop : (k : FileKey) (fs : List FileState) → sides_of (drop_key (λ f. f.key) k fs) ≡ drop_key (λ x. x.key) k (sides_of fs)
sides_drop k [] = refl
sides_drop k (f ∷ fs) =
    elim (same_key f.key k) as (λ b. sides_of (if b then fs else f ∷ drop_key (λ y. y.key) k fs) ≡ (if b then sides_of fs else side_of f ∷ drop_key (λ x. x.key) k (sides_of fs))) [
      | true ↦ refl
      | false ↦ ap (λ xs. side_of f ∷ xs) (sides_drop k fs)
    ]

-- the first file with the key is changed, by its own size
change_if : (e : Effect) (k : FileKey) (b c : Bool) (f : FileState) (g : File) (fs : List FileState) (gs : List File) → b ≡ c → length f.body ≡ length g.body
    → sides_of (change_key (λ y. y.key) k (remade e) fs) ≡ change_key (λ x. x.key) k (remade_side e (length (body_of k gs))) (sides_of fs)
    → sides_of (if b then remade e f ∷ fs else f ∷ change_key (λ y. y.key) k (remade e) fs)
    ≡ (if b
    then remade_side e (length (body_or_none (if c then Some g else find_key (λ y. y.key) k gs))) (side_of f) ∷ sides_of fs
    else side_of f ∷ change_key (λ x. x.key) k (remade_side e (length (body_or_none (if c then Some g else find_key (λ y. y.key) k gs)))) (sides_of fs))
change_if e k true true f g fs gs is size rest = ap (λ n. remade_side e n (side_of f) ∷ sides_of fs) size
change_if e k false false f g fs gs is size rest = ap (λ xs. side_of f ∷ xs) rest
change_if e k true false f g fs gs is size rest = cc
change_if e k false true f g fs gs is size rest = cc

sides_change : (e : Effect) (k : FileKey) (fs : List FileState) (gs : List File) → Stands fs gs
    → sides_of (change_key (λ f. f.key) k (remade e) fs) ≡ change_key (λ x. x.key) k (remade_side e (length (body_of k gs))) (sides_of fs)
sides_change e k [] [] st = refl
sides_change e k (f ∷ fs) (g ∷ gs) st = change_if e k (same_key f.key k) (same_key g.key k) f g fs gs (ap (λ j. same_key j k) st.0.key) st.0.body.size (sides_change e k fs gs st.1)
sides_change e k [] (g ∷ gs) st = absurd st
sides_change e k (f ∷ fs) [] st = absurd st

affected_sided : (e : Effect) (k : FileKey) (fs : List FileState) (gs : List File) → Stands fs gs → sides_of (affected_held e k fs) ≡ affected_side e k gs (sides_of fs)
affected_sided Leaves k fs gs st = refl
affected_sided (Makes name) k fs gs st = sides_put _ fs
affected_sided Drops k fs gs st = sides_drop k fs
affected_sided e k fs gs st = sides_change e k fs gs st

-- ---- callers

done_sided : (h : Held) (k : FileKey) (call : Call) (gs : List File) → Stands h.files gs → sides_of (done_held h k call).files ≡ side_replied gs (Means k call) (done_reply h k call) (sides_of h.files)
done_sided h k (Create name) gs st = affected_sided (Makes name) _ h.files gs st
done_sided h k (Read name o n) gs st = refl
done_sided h k (Write name o bytes) gs st = affected_sided (Writes o bytes) k h.files gs st
done_sided h k (Truncate name n) gs st = affected_sided (Resizes n) k h.files gs st
done_sided h k (Remove name) gs st = affected_sided Drops k h.files gs st
done_sided h k (Stat name) gs st = refl
done_sided h k Sync gs st = refl

verdict_sided : (st : State) (k : FileKey) (call : Call) (v : Verdict) (gs : List File) → Stands st.held.files gs
    → sides_of (held_by_verdict st.held k call v).files ≡ side_replied gs (Means k call) (reply_by st k call v) (sides_of st.held.files)
verdict_sided st k call None gs stands = done_sided st.held k call gs stands
verdict_sided st k call (Some (Blocks t)) gs stands = refl
verdict_sided st k call (Some (Posts kind)) gs stands = refl
verdict_sided st k call (Some (Lacks need free)) gs stands = refl

where_sided : (s : Superblock) (st : State) (c : ℕ) (fl : Flags) (why : Option CallRefusal) (m : Meant) (gs : List File) → Stands st.held.files gs
    → sides_of (state_where s st c fl why m).held.files ≡ side_replied gs m (reply_where s st fl why m) (sides_of st.held.files)
where_sided s st c fl why (Fixed reply) gs stands = refl
where_sided s st c fl None (Means k call) gs stands = verdict_sided st k call (verdict s st fl k call) gs stands
where_sided s st c fl (Some why) (Means k call) gs stands = refl

call_sided : (s : Superblock) (st : State) (W : World) (c : ℕ) (what : Action) → StandsFor st W → sides_of (state_after s st c what).held.files ≡ side_replied W.files (meant_for W c what) (reply_to s st c what) (sides_of st.held.files)
call_sided s st W c what stands =
    where_sided s st c (flags_now st c what) (objection_in s st c what) (meant_in st c what) W.files stands.files
    ∙ ap (λ (m : Meant). side_replied W.files m (reply_to s st c what) (sides_of st.held.files)) (same_meant s st W stands c what)

-- ---- sessions

changed_sided : (change : Change) (st : State) (gs : List File) → Stands st.held.files gs → sides_of (changed change st).held.files ≡ side_changed change gs (sides_of st.held.files)
changed_sided Nothing st gs stands = refl
changed_sided (OfFile k effect) st gs stands = affected_sided effect k st.held.files gs stands
changed_sided (OfSessions to) st gs stands = refl
changed_sided (OfRights to) st gs stands = refl
changed_sided (Closes sid token) st gs stands = refl

-- it isn't told a refusal
sides_done : (s : Superblock) (st : State) (sid : Sid) (call : DmCall) (gs : List File) (X : List Side) → side_changed (change_of sid call) gs X ≡ side_told gs sid call (service s st sid call).reply X
sides_done s st sid (CreateSession old info) gs X = refl
sides_done s st sid call gs X = refl

dm_sided : (s : Superblock) (st : State) (sid : Sid) (call : DmCall) (why : Option DmRefusal) (gs : List File) → Stands st.held.files gs
    → sides_of (dm_state_where why s st sid call).held.files ≡ side_told gs sid call (dm_reply_where why s st sid call) (sides_of st.held.files)
dm_sided s st sid call None gs stands = changed_sided (change_of sid call) st gs stands ∙ sides_done s st sid call gs (sides_of st.held.files)
dm_sided s st sid call (Some why) gs stands = refl

-- ---- any event

own_sided : (s : Superblock) (st : State) (W : World) (who : Actor) (what : Action) (answer : Answer) → StandsFor st W → IsOwn s st who what answer
    → sides_of (left_own s st who what).held.files ≡ side_given W who what answer (sides_of st.held.files)
own_sided s st W (Caller c) (Issue call) answer stands is = rw is.1 (call_sided s st W c (Issue call) stands)
own_sided s st W (Caller c) Resume answer stands is = rw is.1 (call_sided s st W c Resume stands)
own_sided s st W (Session sid) (Dm call) answer stands is = rw is.1 (dm_sided s st sid call (dm_judged s st sid call) W.files stands.files)
own_sided s st W Store Commit answer stands is = refl
own_sided s st W who what answer stands is = absurd is.0

if_sided : (fault : Bool) (st own : State) (X : List Side) → (fault ≡ false → sides_of own.held.files ≡ X) → sides_of (if fault then noted st else own).held.files ≡ (if fault then sides_of st.held.files else X)
if_sided true st own X done = refl
if_sided false st own X done = done refl

faulty_sided : (fault : Bool) (st own : State) (X : List Side) → fault ≡ true → sides_of (if fault then noted st else own).held.files ≡ (if fault then sides_of st.held.files else X)
faulty_sided true st own X is = refl
faulty_sided false st own X is = cc

event_sided : (s : Superblock) (st : State) (W : World) (e : Entry) → StandsFor st W → IsAnswer s st e.actor e.action e.answer
    → sides_of (left_by s st e.actor e.action e.answer).held.files ≡ (if is_fault e.answer then sides_of st.held.files else side_given W e.actor e.action e.answer (sides_of st.held.files))
event_sided s st W e stands (inl is) = faulty_sided (is_fault e.answer) st (left_answered s st e.actor e.action e.answer) _ (ap is_fault is.1 ∙ fault_is e.action)
event_sided s st W e stands (inr is) =
    if_sided (is_fault e.answer) st (left_answered s st e.actor e.action e.answer) _
    (λ none. ap (λ (left : State). sides_of left.held.files) (left_own_by s st e.actor e.action e.answer is) ∙ own_sided s st W e.actor e.action e.answer stands is)

sided : (s : Superblock) (st : State) (W : World) (es : List Entry) → StandsFor st W → Exact s st es → sides_of (state_by s st es).held.files ≡ side_after W (sides_of st.held.files) es
sided s st W [] stands exact = refl
sided s st W (e ∷ es) stands exact =
    sided s (left_by s st e.actor e.action e.answer) (after W e) es (event_stands s st W e stands exact.0) exact.2 ∙ ap (λ (X : List Side). side_after (after W e) X es) (event_sided s st W e stands exact.0)

pub exact_is_sided : (s : Superblock) (base : ℕ) (h : Held) (es : List Entry) (P : List File) → IsOpening h → Exact s (just_opened base h) es → Stands h.files P
    → sides_of (state_by s (just_opened base h) es).held.files ≡ side_after (start P) (sides_of h.files) es
exact_is_sided s base h es P opening exact stands = sided s (just_opened base h) (start P) es (stands_at_first base h P opening stands) exact
