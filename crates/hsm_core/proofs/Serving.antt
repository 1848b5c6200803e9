-- A session's call by its scope and its service.
use Rattle.std.proofs.Common.{◌≡◌, ℕ, ◌+◌, true, false, List, [], ◌∷◌, ◌++◌, Option, Some, None, refl, sym, ◌∙◌, ap, subst}
use Rattle.std.specs.Prelude.{Result, Ok, Err, MatchOption, MatchResult, IfOk, OnOk, OnErr, IsErrOf}
use Rattle.disk_model.specs.declared.device.Disk as disk
use Rattle.hsm_types.specs.Refusals.{first_refusal}
use Rattle.hsm_types.specs.Calls.{scope_of}
use Rattle.hsm_types.specs.Rights.{Rights}
use Rattle.hsm_types.specs.declared.dm.DmRefusal.TheVariants.{Memory}
use Rattle.hsm_types.specs.Messages.{no_token}
use Rattle.hsm_types.specs.declared.keys.FileKey.{FileKey}
use Rattle.hsm_types.specs.declared.keys.Handle.{Handle}
use Rattle.hsm_types.specs.declared.keys.Sid.{Sid}
use Rattle.hsm_types.specs.declared.keys.Token.{Token}
use Rattle.hsm_types.specs.declared.stores.Superblock.{Superblock}
use Rattle.hsm_types.specs.declared.dm.Scope.{Scope}
use Rattle.hsm_types.specs.declared.dm.Scope.TheVariants.{Anyone, InSession, OnToken, OnFile, OnRight}
use Rattle.hsm_types.specs.declared.dm.DmCall.{DmCall}
use Rattle.hsm_types.specs.declared.dm.DmCall.TheVariants.{RequestRight, ReleaseRight, QueryRight, UpgradeRight, DowngradeRight, GetFileAttr}
use Rattle.hsm_types.specs.declared.dm.DmCall.TheVariants.{SetRegion, GetRegion, SetDmAttr, GetDmAttr, RemoveDmAttr, GetAllDmAttr, ReadInvis}
use Rattle.hsm_types.specs.declared.dm.DmCall.TheVariants.{WriteInvis, PunchHole, ProbeHole, GetAllocInfo, Seal, Restore, PathToHandle, GetSpace}
use Rattle.hsm_types.specs.declared.dm.DmCall.TheVariants.{GetTable}
use Rattle.hsm_types.specs.declared.dm.DmRefusal.{DmRefusal}
use Rattle.hsm_types.specs.declared.dm.DmReply.{DmReply}
use Rattle.hsm_types.specs.declared.dm.DmReply.TheVariants as reply
use Rattle.plain_model.specs.Effects.{Change, Nothing, OfFile, OfSessions, OfRights, Closes, change_of}
use Rattle.plain_model.specs.Exact.{left_told}
use Rattle.plain_model.specs.Ledger.{Ledger, ledger_told}
use Rattle.plain_model.specs.Seen.{IsOfSeen}
use Rattle.plain_model.specs.State.{Held, State, noted, changed}
use Rattle.plain_model.specs.Services.{Service, service, scope_refusals, dm_judged, dm_reply_where, dm_reply_to, dm_state_where, dm_state_after}
use Rattle.snapshot_text.specs.declared.refusal.MetaRefusal.{MetaRefusal}
use Rattle.file_store.specs.Stores.{Store as FileStore}
use Rattle.dm_service.specs.Services.{asks_rights, asks_tables, done_or, session_refusals, AreBoth, Judges}
use Rattle.dm_service.specs.Tables.{Tables}
use Rattle.hsm_core.specs.Store.{state_with}
use Rattle.hsm_core.specs.Services.{anybody, asked, file_refusals, told_where, held_where, service_with, rights_where, changes_file, reads_bytes, IsGranted}
use Rattle.hsm_core.specs.Services.{ServesBy, IsPerformed, IsServedByFiles}
use Rattle.plain_model.proofs.Seeing.{told_own}
use Rattle.hsm_core.proofs.Refusing.{all_pass, one_stops, alone}
use Rattle.hsm_core.proofs.Alike.{scope_alike}

-- a service is the same whatever the number of the entry
service_asked : (s : Superblock) (h : Held) (stamps : List (FileKey × ℕ)) (t : Tables) (number : ℕ) (sid : Sid) (call : DmCall) → service s (state_with h stamps t number) sid call ≡ asked s h stamps t sid call
service_asked s h stamps t number sid GetSpace = refl
service_asked s h stamps t number sid call = refl

reply_told : (why : Option DmRefusal) (s : Superblock) (st : State) (sid : Sid) (call : DmCall) → dm_reply_where why s st sid call ≡ told_where why (service s st sid call).reply
reply_told None s st sid call = refl
reply_told (Some why) s st sid call = refl

-- ---- what a call on files leaves, by its parts

abbrev OnFiles : Change → Type 0
OnFiles (OfSessions to) = ⊥
OnFiles (OfRights to) = ⊥
OnFiles (Closes owner token) = ⊥
OnFiles change = Unit {0}

on_files : (sid : Sid) (call : DmCall) → asks_tables call ≡ false → asks_rights call ≡ false → OnFiles (change_of sid call)
on_files sid (SetRegion token handle regions) is no_rights = tt
on_files sid (SetDmAttr token handle name value) is no_rights = tt
on_files sid (RemoveDmAttr token handle name) is no_rights = tt
on_files sid (GetFileAttr token handle) is no_rights = tt
on_files sid (GetRegion token handle) is no_rights = tt
on_files sid (GetDmAttr token handle name) is no_rights = tt
on_files sid (GetAllDmAttr token handle) is no_rights = tt
on_files sid (PathToHandle name) is no_rights = tt
on_files sid GetSpace is no_rights = tt
on_files sid GetTable is no_rights = tt
on_files sid (ReadInvis token handle offset len) is no_rights = tt
on_files sid (WriteInvis token handle offset body) is no_rights = tt
on_files sid (PunchHole token handle offset len) is no_rights = tt
on_files sid (ProbeHole token handle offset len) is no_rights = tt
on_files sid (GetAllocInfo token handle) is no_rights = tt
on_files sid (Seal token handle segment entry) is no_rights = tt
on_files sid (Restore token handle segment bytes) is no_rights = tt
on_files sid call is no_rights = absurd cc

left_changed : (change : Change) (h : Held) (stamps : List (FileKey × ℕ)) (t : Tables) (number : ℕ) → OnFiles change → state_with (held_where change None h) stamps t (number + 1) ≡ noted (changed change (state_with h stamps t number))
left_changed Nothing h stamps t number on = refl
left_changed (OfFile k effect) h stamps t number on = refl
left_changed (OfSessions to) h stamps t number on = absurd on
left_changed (OfRights to) h stamps t number on = absurd on
left_changed (Closes owner token) h stamps t number on = absurd on

same_ledger : (L : Ledger) (call : DmCall) (told : DmReply) → asks_tables call ≡ false → ledger_told L call told ≡ L
same_ledger L GetSpace told is = refl
same_ledger L call told is = cc

ledger_changed : (change : Change) (st : State) → (changed change st).ledger ≡ st.ledger
ledger_changed Nothing st = refl
ledger_changed (OfFile k effect) st = refl
ledger_changed (OfSessions to) st = refl
ledger_changed (OfRights to) st = refl
ledger_changed (Closes owner token) st = refl

-- the reply of a service is no refusal
told_served : (s : Superblock) (st seen : State) (sid : Sid) (call : DmCall) → left_told st sid call (service s seen sid call).reply ≡ record (noted (changed (change_of sid call) st)) { ledger = ledger_told st.ledger call (service s seen sid call).reply }
told_served s st seen sid GetSpace = refl
told_served s st seen sid call = refl

-- what a call on files leaves that is told this
told_parts : (why : Option DmRefusal) (s : Superblock) (h : Held) (seen : State) (stamps : List (FileKey × ℕ)) (t : Tables) (number : ℕ) (sid : Sid) (call : DmCall) → asks_tables call ≡ false → asks_rights call ≡ false
    → state_with (held_where (change_of sid call) why h) stamps t (number + 1) ≡ left_told (state_with h stamps t number) sid call (told_where why (service s seen sid call).reply)
told_parts None s h seen stamps t number sid call is no_rights =
    let st : State = state_with h stamps t number in
    left_changed (change_of sid call) h stamps t number (on_files sid call is no_rights)
    ∙ (λ i. record (noted (changed (change_of sid call) st)) { ledger = (ledger_changed (change_of sid call) st ∙ sym (same_ledger st.ledger call (service s seen sid call).reply is)) i })
    ∙ sym (told_served s st seen sid call)
told_parts (Some why) s h seen stamps t number sid call is no_rights = refused_parts (change_of sid call)
  where
    refused_parts : (change : Change) → state_with (held_where change (Some why) h) stamps t (number + 1) ≡ noted (state_with h stamps t number)
    refused_parts Nothing = refl
    refused_parts (OfFile k effect) = refl
    refused_parts (OfSessions to) = refl
    refused_parts (OfRights to) = refl
    refused_parts (Closes owner token) = refl

-- what is left by the store's own answer, by what was told
pub left_by_told : (s : Superblock) (st left : State) (sid : Sid) (call : DmCall) (r : DmReply × DmReply) → AreBoth (dm_reply_to s st sid call) r → left ≡ dm_state_after s st sid call → left ≡ left_told st sid call r.1
left_by_told s st left sid call r both is = is ∙ sym (told_own s st sid call) ∙ ap (left_told st sid call) (sym both.1)

-- ---- the refusals of a scope: by its session and token, then by its file and right

pub scope_parts : (s : Superblock) (h : Held) (stamps : List (FileKey × ℕ)) (t : Tables) (number : ℕ) (sid : Sid) (scope : Scope)
    → session_refusals t.sessions sid scope ++ file_refusals s h.files t.rights scope ≡ scope_refusals s (state_with h stamps t number) sid scope
scope_parts s h stamps t number sid Anyone = refl
scope_parts s h stamps t number sid InSession = refl
scope_parts s h stamps t number sid (OnToken token) = refl
scope_parts s h stamps t number sid (OnFile token handle right) = refl
scope_parts s h stamps t number sid (OnRight token handle right) = refl

pub stopped_by_session : (s : Superblock) (h : Held) (stamps : List (FileKey × ℕ)) (t : Tables) (number : ℕ) (sid : Sid) (scope : Scope) (why : DmRefusal)
    → first_refusal (session_refusals t.sessions sid scope) ≡ Some why → first_refusal (scope_refusals s (state_with h stamps t number) sid scope) ≡ Some why
stopped_by_session s h stamps t number sid scope why refuses =
    sym (ap first_refusal (scope_parts s h stamps t number sid scope)) ∙ one_stops (session_refusals t.sessions sid scope) (file_refusals s h.files t.rights scope) why refuses

pub passed_to_file : (s : Superblock) (h : Held) (stamps : List (FileKey × ℕ)) (t : Tables) (number : ℕ) (sid : Sid) (scope : Scope)
    → first_refusal (session_refusals t.sessions sid scope) ≡ None → first_refusal (scope_refusals s (state_with h stamps t number) sid scope) ≡ first_refusal (file_refusals s h.files t.rights scope)
passed_to_file s h stamps t number sid scope none =
    sym (ap first_refusal (scope_parts s h stamps t number sid scope)) ∙ all_pass (session_refusals t.sessions sid scope) (file_refusals s h.files t.rights scope) none

-- ---- where the scope refuses

module _ (s : Superblock) (st : State) (sid : Sid) (call : DmCall) (why : DmRefusal) (refuses : first_refusal (scope_refusals s st sid (scope_of call)) ≡ Some why) where
  judged_by_scope : dm_judged s st sid call ≡ Some why
  judged_by_scope = one_stops (scope_refusals s st sid (scope_of call)) ((service s st sid call).refusal ∷ []) why refuses

  pub refused_reply : reply.Refused why ≡ dm_reply_to s st sid call
  refused_reply = ap (λ (why : Option DmRefusal). dm_reply_where why s st sid call) (sym judged_by_scope)

  pub refused_left : noted st ≡ dm_state_after s st sid call
  refused_left = ap (λ (why : Option DmRefusal). dm_state_where why s st sid call) (sym judged_by_scope)

-- ---- where it doesn't, the service decides

judged_alone : (s : Superblock) (st : State) (sid : Sid) (call : DmCall) → first_refusal (scope_refusals s st sid (scope_of call)) ≡ None → dm_judged s st sid call ≡ (service s st sid call).refusal
judged_alone s st sid call none = all_pass (scope_refusals s st sid (scope_of call)) ((service s st sid call).refusal ∷ []) none ∙ alone (service s st sid call).refusal

module _ (s : Superblock) (h : Held) (stamps : List (FileKey × ℕ)) (t : Tables) (number : ℕ) (sid : Sid) (call : DmCall)
    (none : first_refusal (scope_refusals s (state_with h stamps t number) sid (scope_of call)) ≡ None) where
  -- the service as it is asked, whatever the number
  judged_asked : dm_judged s (state_with h stamps t number) sid call ≡ (asked s h stamps t sid call).refusal
  judged_asked = judged_alone s (state_with h stamps t number) sid call none ∙ ap (λ (v : Service). v.refusal) (service_asked s h stamps t number sid call)

  pub served_reply : told_where (asked s h stamps t sid call).refusal (asked s h stamps t sid call).reply ≡ dm_reply_to s (state_with h stamps t number) sid call
  served_reply =
      (λ i. told_where (sym judged_asked i) (sym (service_asked s h stamps t number sid call) i).reply)
      ∙ sym (reply_told (dm_judged s (state_with h stamps t number) sid call) s (state_with h stamps t number) sid call)

-- over what is seen of the files
module _ (Told : Type 0) (s : Superblock) (h : Held) (stamps : List (FileKey × ℕ)) (t : Tables) (number : ℕ) (sid : Sid) (call : DmCall) (left : Held) where
  abbrev pub Serves : DmReply × DmReply → Type 0
  Serves r = IsOfSeen Told h (λ seen. ServesBy (asked s seen stamps t sid call) (change_of sid call) h left r)

  pub served_replies : (result : Result (DmReply × DmReply) MetaRefusal) → first_refusal (scope_refusals s (state_with h stamps t number) sid (scope_of call)) ≡ None → IfOk result Serves
      → IfOk result (λ r. IsOfSeen Told h (λ seen. AreBoth (dm_reply_to s (state_with seen stamps t number) sid call) r))
  served_replies (Ok r) none serves =
      let seen : Held = serves.0 in
      let passed = ap first_refusal (scope_alike seen h serves.1.alike s (state_with h stamps t number) sid (scope_of call)) ∙ none in
      (seen, serves.1, subst (λ (x : DmReply). AreBoth x r) (served_reply s seen stamps t number sid call passed) serves.2.replies)
  served_replies (Err e) none serves = tt

  pub served_left : (result : Result (DmReply × DmReply) MetaRefusal) → asks_tables call ≡ false → asks_rights call ≡ false → IfOk result Serves
      → IfOk result (λ r. state_with left stamps t (number + 1) ≡ left_told (state_with h stamps t number) sid call r.1)
  served_left (Ok r) is no_rights serves =
      let seen : Held = serves.0 in
      (λ i. state_with (serves.2.held i) stamps t (number + 1))
      ∙ told_parts (asked s seen stamps t sid call).refusal s h (state_with seen stamps t 0) stamps t number sid call is no_rights
      ∙ ap (left_told (state_with h stamps t number) sid call) (sym serves.2.replies.1)
  served_left (Err e) is no_rights serves = tt

-- ---- calls that change a file, and those that change nothing

module _ {D : Type 0} (g : disk.Ghosts D) (old new : FileStore D) (n : ℕ) (stamps : List (FileKey × ℕ)) (t : Tables) (sid : Sid) where
  -- a change asks of the files alone
  pub change_performed : (call : DmCall) (result : Result (DmReply × DmReply) MetaRefusal) → changes_file call ≡ true → IsServedByFiles g old n call result new → IsPerformed g old n stamps t sid call result new
  change_performed (SetRegion token handle regions) result is served = record { serves = served.serves; ends = served.ends }
  change_performed (SetDmAttr token handle name value) result is served = record { serves = served.serves; ends = served.ends }
  change_performed (RemoveDmAttr token handle name) result is served = record { serves = served.serves; ends = served.ends }
  change_performed (WriteInvis token handle offset body) result is served = record { serves = served.serves; ends = served.ends }
  change_performed (PunchHole token handle offset len) result is served = record { serves = served.serves; ends = served.ends }
  change_performed (Seal token handle segment entry) result is served = record { serves = served.serves; ends = served.ends }
  change_performed (Restore token handle segment bytes) result is served = record { serves = served.serves; ends = served.ends }
  change_performed GetSpace result is served = absurd cc
  change_performed call result is served = absurd cc

  -- so does a read
  pub read_performed : (token : Token) (handle : Handle) (offset len : ℕ) (result : Result (DmReply × DmReply) MetaRefusal) → IsServedByFiles g old n (ReadInvis no_token handle offset len) result new
      → IsPerformed g old n stamps t sid (ReadInvis token handle offset len) result new
  read_performed token handle offset len result served = record { serves = served.serves; ends = served.ends }

-- a call that is none reads no bytes
pub reads_apart : (call : DmCall) → ((token : Token) (handle : Handle) (offset len : ℕ) → call ≡ ReadInvis token handle offset len → ⊥) → reads_bytes call ≡ false
reads_apart (ReadInvis token handle offset len) other = absurd (other token handle offset len refl)
reads_apart GetSpace other = refl
reads_apart call other = refl

-- whatever refuses
pub same_held : (sid : Sid) (call : DmCall) (why : Option DmRefusal) (h : Held) → changes_file call ≡ false → h ≡ held_where (change_of sid call) why h
same_held sid (SetRegion token handle regions) why h is = absurd cc
same_held sid (SetDmAttr token handle name value) why h is = absurd cc
same_held sid (RemoveDmAttr token handle name) why h is = absurd cc
same_held sid (WriteInvis token handle offset body) why h is = absurd cc
same_held sid (PunchHole token handle offset len) why h is = absurd cc
same_held sid (Seal token handle segment entry) why h is = absurd cc
same_held sid (Restore token handle segment bytes) why h is = absurd cc
same_held sid GetSpace why h is = refl
same_held sid call why h is = refl

-- ---- calls on rights

granted_asked : (s : Superblock) (h : Held) (stamps : List (FileKey × ℕ)) (t : Tables) (sid : Sid) (call : DmCall) → asks_rights call ≡ true → service_with t.rights call ≡ asked s h stamps t sid call
granted_asked s h stamps t sid (RequestRight token handle right) is = refl
granted_asked s h stamps t sid (ReleaseRight token handle) is = refl
granted_asked s h stamps t sid (QueryRight token handle) is = refl
granted_asked s h stamps t sid (UpgradeRight token handle) is = refl
granted_asked s h stamps t sid (DowngradeRight token handle) is = refl
granted_asked s h stamps t sid GetSpace is = absurd cc
granted_asked s h stamps t sid call is = absurd cc

-- what they leave, by whether something refuses
rights_left : (why : Option DmRefusal) (s : Superblock) (h : Held) (stamps : List (FileKey × ℕ)) (t : Tables) (number : ℕ) (sid : Sid) (call : DmCall) → asks_rights call ≡ true
    → state_with h stamps (record t { rights = rights_where (change_of anybody call) why t.rights }) (number + 1) ≡ dm_state_where why s (state_with h stamps t number) sid call
rights_left None s h stamps t number sid (RequestRight token handle right) is = refl
rights_left None s h stamps t number sid (ReleaseRight token handle) is = refl
rights_left None s h stamps t number sid (QueryRight token handle) is = refl
rights_left None s h stamps t number sid (UpgradeRight token handle) is = refl
rights_left None s h stamps t number sid (DowngradeRight token handle) is = refl
rights_left None s h stamps t number sid GetSpace is = absurd cc
rights_left None s h stamps t number sid call is = absurd cc
rights_left (Some why) s h stamps t number sid call is = refused_rights (change_of anybody call)
  where
    refused_rights : (change : Change) → state_with h stamps (record t { rights = rights_where change (Some why) t.rights }) (number + 1) ≡ noted (state_with h stamps t number)
    refused_rights Nothing = refl
    refused_rights (OfFile k effect) = refl
    refused_rights (OfSessions to) = refl
    refused_rights (OfRights to) = refl
    refused_rights (Closes owner token) = refl

module _ (s : Superblock) (h : Held) (stamps : List (FileKey × ℕ)) (t u : Tables) (number : ℕ) (sid : Sid) (call : DmCall) {E : Type 0} (result : Result (DmReply × DmReply) E)
    (none : first_refusal (scope_refusals s (state_with h stamps t number) sid (scope_of call)) ≡ None) (is : asks_rights call ≡ true) (granted : IsGranted t call result u) where
  pub granted_reply : IfOk result (λ r. AreBoth (dm_reply_to s (state_with h stamps t number) sid call) r)
  granted_reply = subst (λ (x : DmReply). IfOk result (λ r. AreBoth x r)) (ap (λ (v : Service). told_where v.refusal v.reply) (granted_asked s h stamps t sid call is) ∙ served_reply s h stamps t number sid call none) granted.replies

  pub granted_left : OnOk result (state_with h stamps u (number + 1) ≡ dm_state_after s (state_with h stamps t number) sid call)
  granted_left = on_done result
      (λ (left : u ≡ record t { rights = rights_where (change_of anybody call) (service_with t.rights call).refusal t.rights }).
      (λ i. state_with h stamps (left i) (number + 1))
      ∙ rights_left (service_with t.rights call).refusal s h stamps t number sid call is
      ∙ ap (λ (why : Option DmRefusal). dm_state_where why s (state_with h stamps t number) sid call) (ap (λ (v : Service). v.refusal) (granted_asked s h stamps t sid call is) ∙ sym (judged_asked s h stamps t number sid call none))) granted.left
    where
      on_done : {T P Q : Type 0} (r : Result T E) → (P → Q) → OnOk r P → OnOk r Q
      on_done (Ok x) to is = to is
      on_done (Err e) to is = tt

-- ---- a change of rights that may be refused

abbrev granted_where : DmCall → Tables → Option DmRefusal → DmReply
granted_where call t why = told_where why (service_with t.rights call).reply

-- by what was judged, of a call that its token's right doesn't refuse
pub granted_by : {E : Type 0} (t u : Tables) (call : DmCall) (to : Rights → Rights) (outcome : Result Unit DmRefusal) (result : Result (DmReply × DmReply) E) → change_of anybody call ≡ OfRights to → (service_with t.rights call).reply ≡ reply.Done
    → MatchResult outcome (λ _. (service_with t.rights call).refusal ≡ None) (λ why. MatchOption (service_with t.rights call).refusal (why ≡ Memory) (λ cause. why ≡ cause))
    → OnOk outcome (u ≡ record t { rights = to t.rights }) → OnErr outcome (u ≡ t)
    → IfOk result (λ r. AreBoth (done_or outcome) r) → OnOk result (IsErrOf outcome Memory → ⊥) → OnErr result (IsErrOf outcome Memory) → IsGranted t call result u
granted_by t u call to (Ok x) (Ok r) changes is_done judged after err replies other memory = record {
  replies = subst (λ (x : DmReply). AreBoth x r) (sym (ap (granted_where call t) judged ∙ is_done)) replies;
  left = after ∙ (λ i. record t { rights = rights_where (sym changes i) (sym judged i) t.rights });
  err = tt;
}
granted_by t u call to (Ok x) (Err e) changes is_done judged after err replies other memory = absurd (cc memory)
granted_by t u call to (Err why) (Err e) changes is_done judged after err replies other memory = record { replies = tt; left = tt; err = err }
granted_by {E} t u call to (Err why) (Ok r) changes is_done judged after err replies other memory = refused (service_with t.rights call).refusal refl judged
  where
    lack : DmRefusal → Result Unit DmRefusal
    lack w = Err w

    refused : (cause : Option DmRefusal) → (service_with t.rights call).refusal ≡ cause → MatchOption cause (why ≡ Memory) (λ cause. why ≡ cause) → IsGranted {E = E} t call (Ok r) u
    refused None is lacks = absurd (other (ap lack lacks))
    refused (Some cause) is same = record {
      replies = subst (λ (x : DmReply). AreBoth x r) (ap (λ (w : DmRefusal). reply.Refused w) same ∙ sym (ap (granted_where call t) is)) replies;
      left = err ∙ (λ i. record t { rights = rights_where (sym changes i) (sym is i) t.rights });
      err = tt;
    }

-- where the token has what an upgrade needs, another token alone refuses it
pub upgrade_judged : (outcome : Result Unit DmRefusal) (low hindered : Option DmRefusal) → low ≡ None → Judges outcome (first_refusal (low ∷ hindered ∷ []))
    → MatchResult outcome (λ _. hindered ≡ None) (λ why. MatchOption hindered (why ≡ Memory) (λ cause. why ≡ cause))
upgrade_judged (Ok x) None hindered enough judged = sym (alone hindered) ∙ judged
upgrade_judged (Err why) None hindered enough judged = by hindered judged
  where
    by : (hindered : Option DmRefusal) → first_refusal (None ∷ hindered ∷ []) ≡ Some why → MatchOption hindered (why ≡ Memory) (λ cause. why ≡ cause)
    by None is = absurd cc
    by (Some cause) is = cc
upgrade_judged outcome (Some low) hindered enough judged = absurd cc

abbrev nothing : Option DmRefusal
nothing = None

-- and nothing a downgrade
pub downgrade_judged : (outcome : Result Unit DmRefusal) (low : Option DmRefusal) → low ≡ None → Judges outcome low → MatchResult outcome (λ _. nothing ≡ nothing) (λ why. why ≡ Memory)
downgrade_judged (Ok x) low enough judged = refl
downgrade_judged (Err why) low enough judged = absurd (let wrong : None ≡ Some why = sym enough ∙ judged in cc)
