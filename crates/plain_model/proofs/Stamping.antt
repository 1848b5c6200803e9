-- The stamps of an exact history are those of its accesses.
use Rattle.std.proofs.Common.{◌≡◌, ◌+◌, ℕ, List, [], ◌∷◌, Bool, true, false, Option, Some, None, inl, inr, refl, ◌∙◌, ap}
use Rattle.std.specs.Prelude.{if◌then◌else◌}
use Rattle.hsm_types.specs.declared.keys.FileKey.{FileKey}
use Rattle.hsm_types.specs.declared.keys.Sid.{Sid}
use Rattle.hsm_types.specs.declared.stores.Superblock.{Superblock}
use Rattle.hsm_types.specs.declared.calls.Call.{Call}
use Rattle.hsm_types.specs.declared.calls.Call.TheVariants.{Create, Read, Write, Truncate, Remove, Stat, Sync}
use Rattle.hsm_types.specs.declared.calls.CallRefusal.{CallRefusal}
use Rattle.hsm_types.specs.declared.calls.CallRefusal.TheVariants.{Disk}
use Rattle.hsm_types.specs.declared.calls.Reply.TheVariants.{Refused}
use Rattle.hsm_types.specs.declared.dm.DmCall.{DmCall}
use Rattle.hsm_types.specs.declared.dm.DmRefusal.{DmRefusal}
use Rattle.plain_model.specs.declared.entries.Entry.{Entry}
use Rattle.plain_model.specs.declared.entries.Actor.{Actor}
use Rattle.plain_model.specs.declared.entries.Actor.TheVariants.{Caller, Session, Store}
use Rattle.plain_model.specs.declared.entries.Action.{Action}
use Rattle.plain_model.specs.declared.entries.Action.TheVariants.{Issue, Resume, Dm, Commit}
use Rattle.plain_model.specs.declared.entries.Answer.{Answer}
use Rattle.plain_model.specs.Effects.{Change, Nothing, OfFile, OfSessions, OfRights, Closes, change_of}
use Rattle.plain_model.specs.Plain.{File}
use Rattle.plain_model.specs.Ledger.{Meant, Fixed, Means}
use Rattle.plain_model.specs.Step.{World, start, meant_for, after}
use Rattle.plain_model.specs.State.{Held, Flags, State, just_opened, noted, changed}
use Rattle.plain_model.specs.Verdict.{Blocks, Posts, Lacks, Verdict, verdict, reply_by, stamps_by, flags_now, objection_in, meant_in, reply_where}
use Rattle.plain_model.specs.Verdict.{reply_to, state_where, state_after}
use Rattle.plain_model.specs.Services.{dm_judged, dm_state_where}
use Rattle.plain_model.specs.Faults.{is_fault, fault_of}
use Rattle.plain_model.specs.Stands.{Stands, StandsFor}
use Rattle.plain_model.specs.Exact.{IsOwn, IsAnswer, left_own, left_answered, left_by, Exact, state_by}
use Rattle.plain_model.specs.Stamps.{reaches_key, accesses, access_numbers, last_or, stamp}
use Rattle.plain_model.specs.Laws.{IsOpening}
use Rattle.plain_model.proofs.Faultless.{own_faultless, fault_is}
use Rattle.plain_model.proofs.Histories.{left_by-number}
use Rattle.plain_model.proofs.Steps.{same_meant, event_stands, stands_at_first}
use Rattle.plain_model.proofs.Seeing.{left_own_by}

module _ (number : ℕ) (st : State) (stamps : FileKey → ℕ) (j : FileKey) where
  verdict_stamped : (k : FileKey) (call : Call) (v : Verdict) → stamps_by number k call v stamps j ≡ (if reaches_key (Means k call) (reply_by st k call v) j then number else stamps j)
  verdict_stamped k call (Some (Blocks t)) = refl
  verdict_stamped k call (Some (Posts kind)) = refl
  verdict_stamped k call (Some (Lacks need free)) = refl
  verdict_stamped k (Create name) None = refl
  verdict_stamped k (Read name offset len) None = refl
  verdict_stamped k (Write name offset bytes) None = refl
  verdict_stamped k (Truncate name size) None = refl
  verdict_stamped k (Remove name) None = refl
  verdict_stamped k (Stat name) None = refl
  verdict_stamped k Sync None = refl

module _ (s : Superblock) (st : State) (k : FileKey) where
  where_stamped : (c : ℕ) (fl : Flags) (why : Option CallRefusal) (m : Meant) → (state_where s st c fl why m).stamps k ≡ (if reaches_key m (reply_where s st fl why m) k then st.number + 1 else st.stamps k)
  where_stamped c fl why (Fixed reply) = refl
  where_stamped c fl None (Means j call) = verdict_stamped (st.number + 1) st st.stamps k j call (verdict s st fl j call)
  where_stamped c fl (Some why) (Means j call) = refl

  call_stamped : (W : World) (c : ℕ) (what : Action) → StandsFor st W → (state_after s st c what).stamps k ≡ (if reaches_key (meant_for W c what) (reply_to s st c what) k then st.number + 1 else st.stamps k)
  call_stamped W c what stands =
      where_stamped c (flags_now st c what) (objection_in s st c what) (meant_in st c what)
      ∙ ap (λ (m : Meant). if reaches_key m (reply_to s st c what) k then st.number + 1 else st.stamps k) (same_meant s st W stands c what)

  changed_stamped : (change : Change) → (changed change st).stamps k ≡ st.stamps k
  changed_stamped Nothing = refl
  changed_stamped (OfFile j effect) = refl
  changed_stamped (OfSessions to) = refl
  changed_stamped (OfRights to) = refl
  changed_stamped (Closes sid token) = refl

  dm_stamped : (why : Option DmRefusal) (sid : Sid) (call : DmCall) → (dm_state_where why s st sid call).stamps k ≡ st.stamps k
  dm_stamped None sid call = changed_stamped (change_of sid call)
  dm_stamped (Some why) sid call = refl

  own_stamped : (W : World) (who : Actor) (what : Action) (answer : Answer) → StandsFor st W → IsOwn s st who what answer
      → (left_own s st who what).stamps k ≡ (if accesses W k who what answer then st.number + 1 else st.stamps k)
  own_stamped W (Caller c) (Issue call) answer stands is = rw is.1 (call_stamped W c (Issue call) stands)
  own_stamped W (Caller c) Resume answer stands is = rw is.1 (call_stamped W c Resume stands)
  own_stamped W (Session sid) (Dm call) answer stands is = dm_stamped (dm_judged s st sid call) sid call
  own_stamped W Store Commit answer stands is = refl
  own_stamped W who what answer stands is = absurd is.0

  no_access : (m : Meant) → reaches_key m (Refused Disk) k ≡ false
  no_access (Fixed fixed) = refl
  no_access (Means j call) = refl

  -- a fault accesses no file
  pub fault_accesses : (W : World) (who : Actor) (what : Action) → accesses W k who what (fault_of what) ≡ false
  fault_accesses W (Caller c) (Issue call) = no_access (meant_for W c (Issue call))
  fault_accesses W (Caller c) Resume = no_access (meant_for W c Resume)
  fault_accesses W (Caller c) (Dm call) = refl
  fault_accesses W (Caller c) Commit = refl
  fault_accesses W who what = refl

if_stamped : (fault : Bool) (st own : State) (k : FileKey) (n : ℕ) → fault ≡ false → own.stamps k ≡ n → (if fault then noted st else own).stamps k ≡ n
if_stamped true st own k n is same = cc
if_stamped false st own k n is same = same

faulty_stamped : (fault used : Bool) (st own : State) (k : FileKey) (n : ℕ) → fault ≡ true → used ≡ false → (if fault then noted st else own).stamps k ≡ (if used then n else st.stamps k)
faulty_stamped true false st own k n is none = refl
faulty_stamped true true st own k n is none = cc
faulty_stamped false used st own k n is none = cc

event_stamped : (s : Superblock) (st : State) (W : World) (e : Entry) → StandsFor st W → IsAnswer s st e.actor e.action e.answer → (k : FileKey)
    → (left_by s st e.actor e.action e.answer).stamps k ≡ (if accesses W k e.actor e.action e.answer then st.number + 1 else st.stamps k)
event_stamped s st W e stands (inl is) k =
    faulty_stamped (is_fault e.answer) (accesses W k e.actor e.action e.answer) st (left_answered s st e.actor e.action e.answer) k (st.number + 1) (ap is_fault is.1 ∙ fault_is e.action)
    (ap (accesses W k e.actor e.action) is.1 ∙ fault_accesses s st k W e.actor e.action)
event_stamped s st W e stands (inr is) k =
    if_stamped (is_fault e.answer) st (left_answered s st e.actor e.action e.answer) k _ (own_faultless s st e.actor e.action e.answer is)
    (ap (λ (left : State). left.stamps k) (left_own_by s st e.actor e.action e.answer is) ∙ own_stamped s st k W e.actor e.action e.answer stands is)

pub last_if : (b : Bool) (none n : ℕ) (ns : List ℕ) → last_or (if b then n else none) ns ≡ last_or none (if b then n ∷ ns else ns)
last_if true none n ns = refl
last_if false none n ns = refl

stamped : (s : Superblock) (st : State) (W : World) (es : List Entry) → StandsFor st W → Exact s st es → (k : FileKey)
    → (state_by s st es).stamps k ≡ last_or (st.stamps k) (access_numbers W st.number k es)
stamped s st W [] stands exact k = refl
stamped s st W (e ∷ es) stands exact k =
    let left : State = left_by s st e.actor e.action e.answer in
    let used : Bool = accesses W k e.actor e.action e.answer in
    let later = stamped s left (after W e) es (event_stands s st W e stands exact.0) exact.2 k in
    later
    ∙ (λ i. last_or (event_stamped s st W e stands exact.0 k i) (access_numbers (after W e) (left_by-number s st e.actor e.action e.answer i) k es))
    ∙ last_if used (st.stamps k) (st.number + 1) (access_numbers (after W e) (st.number + 1) k es)

pub exact_is_stamped : (s : Superblock) (base : ℕ) (h : Held) (es : List Entry) (P : List File) → IsOpening h → Exact s (just_opened base h) es → Stands h.files P → (k : FileKey)
    → (state_by s (just_opened base h) es).stamps k ≡ stamp (start P) base k es
exact_is_stamped s base h es P opening exact stands k = stamped s (just_opened base h) (start P) es (stands_at_first base h P opening stands) exact k
