-- The files of a legal history without a clash are those that were never moved.
use Rattle.std.proofs.Common.{◌≡◌, ◌<◌, ◌*◌, ℕ, zero, suc, List, [], ◌∷◌, length, take, Bool, true, false, Option, Some, None, inl, inr, refl, sym}
use Rattle.std.proofs.Common.{◌∙◌, ap, subst, arith}
use Rattle.std.proofs.lemmas.Bool.{eqb-true, eq-eqb, false≢true}
use Rattle.std.specs.Prelude.{◌==◌, if◌then◌else◌, MatchOption, IfSome}
use Rattle.hsm_types.specs.Limits.{segment_bytes}
use Rattle.hsm_types.specs.declared.calls.Call.{Call}
use Rattle.hsm_types.specs.declared.calls.CallRefusal.{CallRefusal}
use Rattle.hsm_types.specs.declared.calls.CallRefusal.TheVariants.{Disk, Waiting, Idle}
use Rattle.hsm_types.specs.declared.calls.Reply.{Reply}
use Rattle.hsm_types.specs.declared.calls.Reply.TheVariants.{Parked, Blocked, Still, Refused}
use Rattle.hsm_types.specs.declared.keys.FileKey.{FileKey}
use Rattle.hsm_types.specs.declared.keys.Handle.{Handle}
use Rattle.hsm_types.specs.declared.keys.Sid.{Sid}
use Rattle.hsm_types.specs.declared.keys.Token.{Token}
use Rattle.hsm_types.specs.declared.dm.DmCall.{DmCall}
use Rattle.hsm_types.specs.declared.dm.DmCall.TheVariants.{Respond, CreateUserEvent, SetRegion, WriteInvis, Restore}
use Rattle.hsm_types.specs.declared.dm.DmReply.{DmReply}
use Rattle.hsm_types.specs.declared.dm.DmReply.TheVariants as told
use Rattle.hsm_types.specs.declared.dm.Response.{Response}
use Rattle.hsm_types.specs.declared.stores.Superblock.{Superblock}
use Rattle.plain_model.specs.declared.entries.Entry.{Entry}
use Rattle.plain_model.specs.declared.entries.Actor.{Actor}
use Rattle.plain_model.specs.declared.entries.Actor.TheVariants.{Caller, Session, Store}
use Rattle.plain_model.specs.declared.entries.Action.{Action}
use Rattle.plain_model.specs.declared.entries.Action.TheVariants.{Issue, Resume, Dm, Commit}
use Rattle.plain_model.specs.declared.entries.Answer.{Answer}
use Rattle.plain_model.specs.declared.entries.Answer.TheVariants.{Call as Replied, Dm as Told}
use Rattle.hsm_types.specs.Keyed.{same_key, find_key, change_key, set_at}
use Rattle.plain_model.specs.Effects.{Restores, change_of}
use Rattle.plain_model.specs.Plain.{File, listing, key_meant, key_by, written, segment, body_or_none, body_of, affected, act}
use Rattle.plain_model.specs.Ledger.{Access, Ledger, Meant, Fixed, Means, issued, goes_on, resumed, is_completion, kept, left_waiting, waiting_after}
use Rattle.plain_model.specs.Ledger.{waits_for, answered, ledger_told}
use Rattle.plain_model.specs.Faults.{is_fault, FaultIsLast}
use Rattle.plain_model.specs.Step.{World, start, MayReply, meant_for, objection_for, files_replied, replied, MayTell, changed_plain, files_told}
use Rattle.plain_model.specs.Step.{world_told, MayGive, given}
use Rattle.plain_model.specs.Legal.{Legal, After, AreTrueBytes, BringsTrueBytes, NoClash}
use Rattle.plain_model.specs.PlainFold.{Issued, Walk, done_on, done, is_waiting, begun, written_by, walk, walked}
use Rattle.plain_model.specs.Laws.{IsTransparent}
use Rattle.plain_model.proofs.Bodies.{rewritten}
use Rattle.plain_model.proofs.Faultless.{fault_is}

-- ---- files of which one is changed

unchanged_if : {F : Type 0} (key : F → FileKey) (k : FileKey) (change : F → F) (b : Bool) (f : F) (fs : List F) → IfSome (if b then Some f else find_key key k fs) (λ g. change g ≡ g)
    → (IfSome (find_key key k fs) (λ g. change g ≡ g) → change_key key k change fs ≡ fs) → (if b then change f ∷ fs else f ∷ change_key key k change fs) ≡ f ∷ fs
unchanged_if key k change true f fs here there = ap (λ g. g ∷ fs) here
unchanged_if key k change false f fs here there = ap (λ gs. f ∷ gs) (there here)

-- the file with the key stays as it is, so all do
key_unchanged : {F : Type 0} (key : F → FileKey) (k : FileKey) (change : F → F) (fs : List F) → IfSome (find_key key k fs) (λ g. change g ≡ g) → change_key key k change fs ≡ fs
key_unchanged key k change [] here = refl
key_unchanged key k change (f ∷ fs) here = unchanged_if key k change (same_key (key f) k) f fs here (key_unchanged key k change fs)

-- ---- what stands at a place

pub set_here : {V : Type 0} (c : ℕ) (value : V) (f : ℕ → V) → set_at c value f c ≡ value
set_here c value f = rw (eq-eqb c c refl) refl

set_apart : {V : Type 0} (c d : ℕ) (value : V) (f : ℕ → V) → (d == c) ≡ false → set_at c value f d ≡ f d
set_apart c d value f apart = rw apart refl

if_either : {A : Type 0} (P : A → Type 0) (b : Bool) (x y : A) → (b ≡ true → P x) → (b ≡ false → P y) → P (if b then x else y)
if_either P true x y here there = here refl
if_either P false x y here there = there refl

-- ---- bytes that are written where they stand

found_same : (o : Option File) (j : ℕ) (bytes : List ℕ) → bytes ≡ segment j (body_or_none o) → segment_bytes * j < length (body_or_none o) → IfSome o (λ (f : File). record f { body = written (segment_bytes * j) bytes f.body } ≡ f)
found_same None j bytes is some = tt
found_same (Some f) j bytes is some = ap (λ (body : List ℕ). record f { body = body }) (rw is (rewritten (segment_bytes * j) segment_bytes f.body (omega arith)))

restored_same : (j : ℕ) (bytes : List ℕ) (k : FileKey) (P : List File) → bytes ≡ segment j (body_of k P) → segment_bytes * j < length (body_of k P) → affected (Restores j bytes) k P ≡ P
restored_same j bytes k P is some = key_unchanged (λ (f : File). f.key) k (λ f. record f { body = written (segment_bytes * j) bytes f.body }) P (found_same (find_key (λ f. f.key) k P) j bytes is some)

-- ---- the walk follows the world

abbrev last_issue : FileKey → Call → Option Issued
last_issue k call = Some (record { key = k; call = call })

-- an access that waits is that of the caller's last issue
abbrev Tracks : Option Access → Option Issued → Type 0
Tracks waits last = MatchOption waits (Unit {0}) (λ a. last ≡ last_issue a.key a.call)

record Follows (W : World) (V : Walk) : Type 0 where
  files : W.files ≡ V.files
  issued : (c : ℕ) → Tracks (W.ledger.pending c) (V.issued c)

kept_tracks : (reply : Reply) (waits : Option Access) (last : Option Issued) → Tracks waits last → Tracks (kept reply waits) last
kept_tracks (Still t) waits last is = is
kept_tracks (Refused Waiting) waits last is = is
kept_tracks (Refused Idle) waits last is = is
kept_tracks reply waits last is = tt

-- the access is done, or waits after the reply
abbrev lasts : Reply → Bool
lasts (Parked t) = true
lasts (Blocked t) = true
lasts reply = is_completion reply

left_tracks : (k : FileKey) (call : Call) (reply : Reply) (last : Option Issued) → (lasts reply ≡ true → last ≡ last_issue k call) → Tracks (left_waiting k call reply) last
left_tracks k call (Parked t) last is = is refl
left_tracks k call (Blocked t) last is = is refl
left_tracks k call reply last is = tt

-- what an event of the caller came to fits the walk's last issue: a fixed reply completes nothing, and an access that lasts is that one
abbrev FitsWalk : Meant → Reply → Option Issued → Type 0
FitsWalk (Fixed fixed) reply last = is_completion reply ≡ false
FitsWalk (Means k call) reply last = lasts reply ≡ true → last ≡ last_issue k call

after_tracks : (m : Meant) (reply : Reply) (waits : Option Access) (last : Option Issued) → FitsWalk m reply last → Tracks waits last → Tracks (waiting_after m reply waits) last
after_tracks (Fixed fixed) reply waits last fits is = kept_tracks reply waits last is
after_tracks (Means k call) reply waits last fits is = left_tracks k call reply last fits

completed_lasts : (reply : Reply) → is_completion reply ≡ true → lasts reply ≡ true
completed_lasts (Parked t) is = refl
completed_lasts (Blocked t) is = refl
completed_lasts reply is = is

act_if : (b : Bool) (P : List File) (V : Walk) (c : ℕ) (k : FileKey) (call : Call) (reply : Reply) → P ≡ V.files → (b ≡ true → V.issued c ≡ last_issue k call)
    → (if b then (act P (key_by k reply) call).1 else P) ≡ (if b then record V { files = done_on V.files (V.issued c) reply } else V).files
act_if true P V c k call reply same fits = rw (fits refl, same) refl
act_if false P V c k call reply same fits = same

fixed_if : (b : Bool) (P : List File) (V : Walk) (c : ℕ) (reply : Reply) → P ≡ V.files → b ≡ false → P ≡ (if b then record V { files = done_on V.files (V.issued c) reply } else V).files
fixed_if true P V c reply same fits = cc
fixed_if false P V c reply same fits = same

done_files : (m : Meant) (P : List File) (V : Walk) (c : ℕ) (reply : Reply) → P ≡ V.files → FitsWalk m reply (V.issued c) → files_replied P m reply ≡ (done V c reply).files
done_files (Fixed fixed) P V c reply same fits = fixed_if (is_completion reply) P V c reply same fits
done_files (Means k call) P V c reply same fits = act_if (is_completion reply) P V c k call reply same (λ is. fits (completed_lasts reply is))

issued_if : (b : Bool) (V : Walk) (files : List File) → (if b then record V { files = files } else V).issued ≡ V.issued
issued_if true V files = refl
issued_if false V files = refl

-- whatever an event of the caller comes to, the walk follows
done_follows : (W : World) (V : Walk) (c : ℕ) (m : Meant) (reply : Reply) → W.files ≡ V.files → ((d : ℕ) → (d == c) ≡ false → Tracks (W.ledger.pending d) (V.issued d))
    → Tracks (waiting_after m reply (W.ledger.pending c)) (V.issued c) → FitsWalk m reply (V.issued c) → Follows (replied W c m reply) (done V c reply)
done_follows W V c m reply same others own fits = record {
  files = done_files m W.files V c reply same fits;
  issued = λ d.
      rw (issued_if (is_completion reply) V (done_on V.files (V.issued c) reply)) (if_either (λ waits. Tracks waits (V.issued d)) (d == c) (waiting_after m reply (W.ledger.pending c)) (W.ledger.pending d)
      (λ it. rw (eqb-true d c it) own) (others d));
}

-- ---- a resume

goes_on_fits : (a : Access) (token : Option Token) (answer : Option Response) (why : Option CallRefusal) (reply : Reply) (last : Option Issued) (W : World) → MayReply W why (goes_on a token answer) reply → last ≡ last_issue a.key a.call
    → FitsWalk (goes_on a token answer) reply last
goes_on_fits a (Some t) None why reply last W may is = rw may refl
goes_on_fits a None answer why reply last W may is = λ lasting. is
goes_on_fits a (Some t) (Some response) why reply last W may is = λ lasting. is

resume_fits : (waits : Option Access) (why : Option CallRefusal) (reply : Reply) (last : Option Issued) (W : World) → MayReply W why (resumed waits) reply → Tracks waits last → FitsWalk (resumed waits) reply last
resume_fits None why reply last W may is = rw may refl
resume_fits (Some a) why reply last W may is = goes_on_fits a a.token a.answer why reply last W may is

resume_follows : (s : Superblock) (W : World) (V : Walk) (c : ℕ) (reply : Reply) → Follows W V → MayReply W (objection_for s W c Resume) (meant_for W c Resume) reply → Follows (replied W c (meant_for W c Resume) reply) (done V c reply)
resume_follows s W V c reply follows may =
    let fits = resume_fits (W.ledger.pending c) (objection_for s W c Resume) reply (V.issued c) W may (follows.issued c) in
    done_follows W V c (meant_for W c Resume) reply follows.files (λ d apart. follows.issued d) (after_tracks (meant_for W c Resume) reply (W.ledger.pending c) (V.issued c) fits (follows.issued c)) fits

-- ---- an issue

begun_files : (b : Bool) (V : Walk) (issues : ℕ → Option Issued) → (if b then V else record V { issued = issues }).files ≡ V.files
begun_files true V issues = refl
begun_files false V issues = refl

begun_others : (b : Bool) (V : Walk) (c d : ℕ) (last : Option Issued) → (d == c) ≡ false → (if b then V else record V { issued = set_at c last V.issued }).issued d ≡ V.issued d
begun_others true V c d last apart = refl
begun_others false V c d last apart = set_apart c d last V.issued apart

-- an access that lasts is the last issue from now on
begun_own : (V : Walk) (c : ℕ) (k : FileKey) (call : Call) (reply : Reply) → k ≡ key_meant (listing V.files) call → lasts reply ≡ true → (begun V c call reply).issued c ≡ last_issue k call
begun_own V c k call (Refused Waiting) same lasting = absurd (false≢true lasting)
begun_own V c k call reply same lasting = set_here c (last_issue (key_meant (listing V.files) call) call) V.issued ∙ ap (λ j. last_issue j call) (sym same)

issue_follows_if : (W : World) (V : Walk) (c : ℕ) (waits : Option Access) (why : Option CallRefusal) (call : Call) (reply : Reply) → W.ledger.pending c ≡ waits → Follows W V → MayReply W why (issued (listing W.files) waits call) reply
    → Follows (replied W c (issued (listing W.files) waits call) reply) (done (begun V c call reply) c reply)
issue_follows_if W V c (Some a) why call reply is follows may =
    done_follows W (begun V c call reply) c (Fixed (Refused Waiting)) reply (rw may follows.files) (λ d apart. rw may (follows.issued d)) (rw may (follows.issued c)) (rw may refl)
issue_follows_if W V c None why call reply is follows may =
    let last : Option Issued = last_issue (key_meant (listing V.files) call) call in
    let m : Meant = Means (key_meant (listing W.files) call) call in
    let fits : FitsWalk m reply ((begun V c call reply).issued c) = begun_own V c (key_meant (listing W.files) call) call reply (ap (λ P. key_meant (listing P) call) follows.files) in
    done_follows W (begun V c call reply) c m reply (follows.files ∙ sym (begun_files (is_waiting reply) V (set_at c last V.issued))) (λ d apart. rw (begun_others (is_waiting reply) V c d last apart) (follows.issued d))
    (after_tracks m reply (W.ledger.pending c) ((begun V c call reply).issued c) fits (rw is tt)) fits

issue_follows : (s : Superblock) (W : World) (V : Walk) (c : ℕ) (call : Call) (reply : Reply) → Follows W V → MayReply W (objection_for s W c (Issue call)) (meant_for W c (Issue call)) reply
    → Follows (replied W c (meant_for W c (Issue call)) reply) (done (begun V c call reply) c reply)
issue_follows s W V c call reply follows may = issue_follows_if W V c (W.ledger.pending c) (objection_for s W c (Issue call)) call reply refl follows may

-- ---- a session's call

answered_tracks : (t : Token) (response : Response) (waits : Option Access) (last : Option Issued) → Tracks waits last → Tracks (answered t response waits) last
answered_tracks t response None last is = tt
answered_tracks t response (Some a) last is = if_either (λ x. Tracks x last) (waits_for t a.token) (Some (record a { answer = Some response })) (Some a) (λ it. is) (λ it. is)

told_tracks : (L : Ledger) (call : DmCall) (reply : DmReply) (c : ℕ) (last : Option Issued) → Tracks (L.pending c) last → Tracks ((ledger_told L call reply).pending c) last
told_tracks L (Respond t response) told.Done c last is = answered_tracks t response (L.pending c) last is
told_tracks L (CreateUserEvent body) (told.Token t) c last is = is
told_tracks L (SetRegion token handle regions) reply c last is = is
told_tracks L call reply c last is = is

-- a call that was done changes of the files what it wrote. A segment that came back with its own bytes leaves them
done_same : (s : Superblock) (W : World) (sid : Sid) (call : DmCall) → MayTell s W call told.Done → AreTrueBytes W call → changed_plain (change_of sid call) W.files ≡ written_by call W.files
done_same s W sid (WriteInvis token handle offset bytes) may true_bytes = refl
done_same s W sid (Restore token handle j bytes) may true_bytes = restored_same j bytes handle.key W.files true_bytes may.0.1
done_same s W sid call may true_bytes = refl

abbrev is_done : DmReply → Bool
is_done told.Done = true
is_done reply = false

unchanged : (P : List File) (sid : Sid) (call : DmCall) (reply : DmReply) → changed_plain (change_of sid call) P ≡ P → files_told P sid call reply ≡ P
unchanged P sid call (told.Refused why) same = refl
unchanged P sid call reply same = same

-- what writes is answered done, or refused
other_write : (s : Superblock) (W : World) (sid : Sid) (token : Token) (handle : Handle) (offset : ℕ) (bytes : List ℕ) (reply : DmReply) → is_done reply ≡ false → MayTell s W (WriteInvis token handle offset bytes) reply
    → files_told W.files sid (WriteInvis token handle offset bytes) reply ≡ W.files
other_write s W sid token handle offset bytes told.Done other may = cc
other_write s W sid token handle offset bytes (told.Refused why) other may = refl
other_write s W sid token handle offset bytes reply other may = cc

other_restore : (s : Superblock) (W : World) (sid : Sid) (token : Token) (handle : Handle) (j : ℕ) (bytes : List ℕ) (reply : DmReply) → is_done reply ≡ false → MayTell s W (Restore token handle j bytes) reply
    → files_told W.files sid (Restore token handle j bytes) reply ≡ W.files
other_restore s W sid token handle j bytes told.Done other may = cc
other_restore s W sid token handle j bytes (told.Refused why) other may = refl
other_restore s W sid token handle j bytes reply other may = cc

other_same : (s : Superblock) (W : World) (sid : Sid) (call : DmCall) (reply : DmReply) → is_done reply ≡ false → MayTell s W call reply → files_told W.files sid call reply ≡ W.files
other_same s W sid (WriteInvis token handle offset bytes) reply other may = other_write s W sid token handle offset bytes reply other may
other_same s W sid (Restore token handle j bytes) reply other may = other_restore s W sid token handle j bytes reply other may
other_same s W sid call reply other may = unchanged W.files sid call reply refl

told_follows : (s : Superblock) (W : World) (V : Walk) (sid : Sid) (call : DmCall) (reply : DmReply) → Follows W V → MayTell s W call reply → BringsTrueBytes W (Dm call) (Told reply)
    → Follows (world_told W sid call reply) (walk V (Session sid) (Dm call) (Told reply))
told_follows s W V sid call told.Done follows may brings = record {
  files = done_same s W sid call may brings ∙ ap (written_by call) follows.files;
  issued = λ c. told_tracks W.ledger call told.Done c (V.issued c) (follows.issued c);
}
told_follows s W V sid call reply follows may brings = record {
  files = other_same s W sid call reply refl may ∙ follows.files;
  issued = λ c. told_tracks W.ledger call reply c (V.issued c) (follows.issued c);
}

-- ---- any event

event_follows : (s : Superblock) (W : World) (V : Walk) (who : Actor) (what : Action) (answer : Answer) → is_fault answer ≡ false → Follows W V → MayGive s W who what answer → BringsTrueBytes W what answer
    → Follows (given W who what answer) (walk V who what answer)
event_follows s W V who what answer sound follows (inl is) brings = absurd (false≢true (sym sound ∙ (ap is_fault is.1 ∙ fault_is what)))
event_follows s W V (Caller c) (Issue call) (Replied reply) sound follows (inr may) brings = issue_follows s W V c call reply follows may
event_follows s W V (Caller c) Resume (Replied reply) sound follows (inr may) brings = resume_follows s W V c reply follows may
event_follows s W V (Session sid) (Dm call) (Told reply) sound follows (inr may) brings = told_follows s W V sid call reply follows may brings
event_follows s W V Store Commit (Replied reply) sound follows (inr may) brings = follows
event_follows s W V who what answer sound follows (inr may) brings = absurd may

-- a fault leaves the files
fault_same : (V : Walk) (who : Actor) (what : Action) (answer : Answer) → is_fault answer ≡ true → (walk V who what answer).files ≡ V.files
fault_same V (Caller c) (Issue call) (Replied (Refused Disk)) is = refl
fault_same V (Caller c) (Issue call) (Replied reply) is = cc
fault_same V (Caller c) Resume (Replied (Refused Disk)) is = refl
fault_same V (Caller c) Resume (Replied reply) is = cc
fault_same V (Session sid) (Dm call) (Told told.Done) is = cc
fault_same V who what answer is = refl

none_taken : (i : ℕ) (W : World) (V : Walk) → W.files ≡ V.files → (After W (take i [])).files ≡ (walked V (take i [])).files
none_taken zero W V same = same
none_taken (suc i) W V same = same

more_same : (s : Superblock) (W : World) (V : Walk) (x : Entry) (es : List Entry) (i : ℕ) (fault : Bool) → is_fault x.answer ≡ fault → Follows W V
    → ((W' : World) (U : Walk) → Follows W' U → Legal s W' es → NoClash W' es → (After W' (take i es)).files ≡ (walked U (take i es)).files)
    → MayGive s W x.actor x.action x.answer → FaultIsLast x es → BringsTrueBytes W x.action x.answer
    → Legal s (if fault then W else given W x.actor x.action x.answer) es → NoClash (if fault then W else given W x.actor x.action x.answer) es
    → (After (if fault then W else given W x.actor x.action x.answer) (take i es)).files ≡ (walked (walk V x.actor x.action x.answer) (take i es)).files
more_same s W V x es i true is follows later may last brings legal clash =
    subst (λ (rest : List Entry). (After W (take i rest)).files ≡ (walked (walk V x.actor x.action x.answer) (take i rest)).files) (sym (last is))
    (none_taken i W (walk V x.actor x.action x.answer) (follows.files ∙ sym (fault_same V x.actor x.action x.answer is)))
more_same s W V x es i false is follows later may last brings legal clash =
    later (given W x.actor x.action x.answer) (walk V x.actor x.action x.answer) (event_follows s W V x.actor x.action x.answer is follows may brings) legal clash

steps_same : (s : Superblock) (W : World) (V : Walk) (es : List Entry) (i : ℕ) → Follows W V → Legal s W es → NoClash W es → (After W (take i es)).files ≡ (walked V (take i es)).files
steps_same s W V [] zero follows legal clash = follows.files
steps_same s W V [] (suc i) follows legal clash = follows.files
steps_same s W V (x ∷ es) zero follows legal clash = follows.files
steps_same s W V (x ∷ es) (suc i) follows legal clash =
    more_same s W V x es i (is_fault x.answer) refl follows (λ W' U is more none. steps_same s W' U es i is more none) legal.0 legal.1 clash.0 legal.2 clash.1

pub transparent : (s : Superblock) (P : List File) (es : List Entry) → IsTransparent s P es
transparent s P es legal clash i = steps_same s (start P) (record { files = P; issued = λ c. None }) es i (record { files = refl; issued = λ c. tt }) legal clash
