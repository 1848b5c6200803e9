-- The answers that a store gives by itself are for no fault and for no want of memory, and a history without a fault goes on.
use Rattle.std.proofs.Common.{◌≡◌, List, [], ◌∷◌, ◌++◌, Bool, true, false, Option, Some, None, refl, ◌∙◌, ap}
use Rattle.std.proofs.lemmas.List.Folds.{list_any-append}
use Rattle.std.specs.Prelude.{ℕ, length, map, min, count_by, not, ◌+◌, ◌-◌, ◌*◌, ◌%◌, ◌==◌, ◌&&◌, ◌||◌, nat_lt, nat_le, is_some, if◌then◌else◌}
use Rattle.std.specs.List.{find}
use Rattle.std.specs.Option.{option_map}
use Rattle.hsm_types.specs.Limits.{segment_bytes, access_bytes, live_sessions, info_bytes, user_events, data_bytes, waiting_messages}
use Rattle.hsm_types.specs.Limits.{value_bytes, last_volume}
use Rattle.hsm_types.specs.Names.{is_name}
use Rattle.hsm_types.specs.Refusals.{first_refusal}
use Rattle.hsm_types.specs.Calls.{scope_of}
use Rattle.hsm_types.specs.Messages.{no_token, has_token, message_bytes, is_lawful}
use Rattle.hsm_types.specs.Sessions.{SessionTable, lives, queue_of, outstanding_of, owner, user_tokens, outstanding_message, same_sid, no_session}
use Rattle.hsm_types.specs.Sessions.{bad_info, too_many_sessions, creation_refusal, dead_session, not_yours, none_fits, too_long, too_many_events}
use Rattle.hsm_types.specs.Sessions.{event_refusal, too_many_waiting, sending_refusal}
use Rattle.hsm_types.specs.Attributes.{Attributes, is_reserved, reserved, too_big_value, too_many_bytes, bytes_of_attributes, with_value, value_of}
use Rattle.hsm_types.specs.Attributes.{setting_refusal, no_attribute}
use Rattle.hsm_types.specs.Regions.{first_bad, too_many_regions, bad_region, regions_refusal, covers}
use Rattle.hsm_types.specs.Segments.{from_on, segments_in, segments_met}
use Rattle.hsm_types.specs.Stubs.{Stubs, print_of, stub_at, is_offline, is_sealed, not_offline, not_sealed, too_many_stubs, uncovered, not_covered}
use Rattle.hsm_types.specs.Stubs.{not_punched, entry_place, entry_print}
use Rattle.hsm_types.specs.declared.stubs.Fingerprint.{Fingerprint}
use Rattle.hsm_types.specs.declared.stubs.StubEntry.{StubEntry}
use Rattle.hsm_types.specs.declared.stubs.Stub.{Stub}
use Rattle.hsm_types.specs.declared.dm.DmRefusal.TheVariants as dm
use Rattle.hsm_types.specs.declared.dm.DmRefusal.TheVariants.{Uncovered, NoSpace}
use Rattle.hsm_types.specs.declared.attributes.AttrName.{AttrName}
use Rattle.hsm_types.specs.declared.keys.FileKey.{FileKey}
use Rattle.hsm_types.specs.declared.regions.Region.{Region}
use Rattle.hsm_types.specs.declared.keys.Sid.{Sid}
use Rattle.hsm_types.specs.declared.dm.DmCall.{DmCall}
use Rattle.hsm_types.specs.declared.dm.DmCall.TheVariants.{CreateSession, DestroySession, QuerySession, GetEvents, FindEventMsg, Respond}
use Rattle.hsm_types.specs.declared.dm.DmCall.TheVariants.{CreateUserEvent, SendMsg, RequestRight, UpgradeRight, SetRegion, SetDmAttr, GetDmAttr}
use Rattle.hsm_types.specs.declared.dm.DmCall.TheVariants.{RemoveDmAttr, ReadInvis, WriteInvis, PunchHole, ProbeHole, Seal, Restore, PathToHandle}
use Rattle.hsm_types.specs.declared.dm.DmRefusal.{DmRefusal}
use Rattle.hsm_types.specs.declared.dm.DmReply.TheVariants as told
use Rattle.hsm_types.specs.Rights.{Rights, reaches, same_token, right_of, conflict, busy, too_low, bad_right}
use Rattle.hsm_types.specs.declared.dm.Response.{Response}
use Rattle.hsm_types.specs.declared.dm.Response.TheVariants.{Abort, Media}
use Rattle.hsm_types.specs.declared.dm.Right.{Right}
use Rattle.hsm_types.specs.declared.dm.Right.TheVariants.{Excl}
use Rattle.hsm_types.specs.declared.keys.FileKey.{FileKey}
use Rattle.hsm_types.specs.declared.keys.Token.{Token}
use Rattle.hsm_types.specs.declared.messages.Message.{Message}
use Rattle.hsm_types.specs.declared.dm.Scope.{Scope}
use Rattle.hsm_types.specs.declared.dm.Scope.TheVariants.{Anyone, InSession, OnToken, OnFile, OnRight}
use Rattle.hsm_types.specs.declared.stores.Limits.{Limits}
use Rattle.hsm_types.specs.declared.stores.Superblock.{Superblock}
use Rattle.hsm_types.specs.declared.calls.Call.{Call}
use Rattle.hsm_types.specs.declared.calls.Call.TheVariants.{Create, Read, Write, Truncate, Remove, Stat, Sync}
use Rattle.hsm_types.specs.declared.calls.CallRefusal.{CallRefusal}
use Rattle.hsm_types.specs.declared.calls.CallRefusal.TheVariants.{Disk, Memory, Waiting, Idle}
use Rattle.hsm_types.specs.declared.calls.Reply.TheVariants.{Still, Refused}
use Rattle.plain_model.specs.declared.entries.Entry.{Entry}
use Rattle.plain_model.specs.declared.entries.Actor.{Actor}
use Rattle.plain_model.specs.declared.entries.Actor.TheVariants.{Caller, Session, Store}
use Rattle.plain_model.specs.declared.entries.Action.{Action}
use Rattle.plain_model.specs.declared.entries.Action.TheVariants.{Issue, Resume, Dm, Commit}
use Rattle.plain_model.specs.declared.entries.Answer.{Answer}
use Rattle.plain_model.specs.declared.entries.Answer.TheVariants.{Call as Replied, Dm as Told}
use Rattle.plain_model.specs.declared.facts.NoRoom.{NoRoom}
use Rattle.plain_model.specs.Effects.{Writes, Restores, punch_from, punch_to}
use Rattle.plain_model.specs.Blocks.{touched}
use Rattle.plain_model.specs.Segments.{bad_access, past_size, past_end, bad_volume, ends_well, bad_punch, probe_start, probe_end, nothing_to_punch}
use Rattle.plain_model.specs.Segments.{away, any_away, no_room, same_print, changed_bytes, changed_from, reading_refusal, writing_refusal}
use Rattle.plain_model.specs.Segments.{punch_refusal, seal_refusal, restore_refusal}
use Rattle.plain_model.specs.Plain.{Listed, has_key, named, bad_name, bad_length, missing, exists, too_big, no_inodes, refusal_of, segment, reply_on}
use Rattle.plain_model.specs.Ledger.{Access, Meant, Fixed, Means, aborted, gone, objection_again, objection}
use Rattle.plain_model.specs.Faults.{is_fault, fault_of, FaultIsLast, has_fault}
use Rattle.plain_model.specs.State.{FileState, Held, Flags, State, names_of, file_at, used}
use Rattle.plain_model.specs.Verdict.{short_of, Blocks, Posts, Lacks, Verdict, verdict, reply_by, flags_now, reply_where, objection_in, meant_in, reply_to}
use Rattle.plain_model.specs.Services.{bad_own_token, bad_given_token, is_live, bad_handle, scope_refusals, kept_of, other_attributes, other_stubs}
use Rattle.plain_model.specs.Services.{message_or_none, service, dm_judged, dm_reply_where, dm_reply_to}
use Rattle.plain_model.specs.Exact.{IsOwn}
use Rattle.plain_model.proofs.Judged.{Says, meant_says}

-- the answers to an event that a fault or want of memory has ended
abbrev pub is_undone : Answer → Bool
is_undone (Replied (Refused Disk)) = true
is_undone (Replied (Refused Memory)) = true
is_undone (Told (told.Refused dm.Disk)) = true
is_undone (Told (told.Refused dm.Memory)) = true
is_undone answer = false

-- what refuses a call of its kind, if anything, is neither
module _ {R : Type 0} (refused : R → Answer) where
  abbrev OrdinaryOf : Option R → Type 0
  OrdinaryOf None = Unit {0}
  OrdinaryOf (Some why) = is_undone (refused why) ≡ false

  ordinary_if : (b : Bool) (x y : Option R) → OrdinaryOf x → OrdinaryOf y → OrdinaryOf (if b then x else y)
  ordinary_if true x y here there = here
  ordinary_if false x y here there = there

  ordinary_first : (x : Option R) (rest : List (Option R)) → OrdinaryOf x → OrdinaryOf (first_refusal rest) → OrdinaryOf (first_refusal (x ∷ rest))
  ordinary_first None rest here there = there
  ordinary_first (Some why) rest here there = here

-- ---- a caller's call

abbrev of_call : CallRefusal → Answer
of_call why = Replied (Refused why)

abbrev Ordinary : Option CallRefusal → Type 0
Ordinary x = OrdinaryOf of_call x

module _ (files : List Listed) where
  of_name : (name : List ℕ) → Ordinary (bad_name name)
  of_name name = ordinary_if of_call (is_name name) _ _ tt refl

  of_length : (len : ℕ) → Ordinary (bad_length len)
  of_length len = ordinary_if of_call (nat_le 1 len && nat_le len access_bytes) _ _ tt refl

  of_missing : (name : List ℕ) → Ordinary (missing name files)
  of_missing name = ordinary_if of_call (is_some (named name files)) _ _ tt refl

  of_exists : (name : List ℕ) → Ordinary (exists name files)
  of_exists name = ordinary_if of_call (is_some (named name files)) _ _ refl tt

  of_end : (limits : Limits) (end : ℕ) → Ordinary (too_big limits end)
  of_end limits end = ordinary_if of_call (nat_lt limits.bytes end) _ _ refl tt

  of_inodes : (count : ℕ) → Ordinary (no_inodes count files)
  of_inodes count = ordinary_if of_call (length files == count) _ _ refl tt

  named_one : (name : List ℕ) → Ordinary (first_refusal (bad_name name ∷ missing name files ∷ []))
  named_one name = ordinary_first of_call (bad_name name) _ (of_name name) (ordinary_first of_call (missing name files) _ (of_missing name) tt)

  ordinary_refusal : (s : Superblock) (call : Call) → Ordinary (refusal_of s files call)
  ordinary_refusal s (Create name) =
      ordinary_first of_call (bad_name name) _ (of_name name) (ordinary_first of_call (exists name files) _ (of_exists name) (ordinary_first of_call (no_inodes s.geometry.files files) _ (of_inodes s.geometry.files) tt))
  ordinary_refusal s (Read name offset len) =
      ordinary_first of_call (bad_name name) _ (of_name name) (ordinary_first of_call (bad_length len) _ (of_length len) (ordinary_first of_call (missing name files) _ (of_missing name) tt))
  ordinary_refusal s (Write name offset bytes) =
      ordinary_first of_call (bad_name name) _ (of_name name)
      (ordinary_first of_call (bad_length (length bytes)) _ (of_length (length bytes))
      (ordinary_first of_call (missing name files) _ (of_missing name) (ordinary_first of_call (too_big s.geometry.limits (offset + length bytes)) _ (of_end s.geometry.limits (offset + length bytes)) tt)))
  ordinary_refusal s (Truncate name size) =
      ordinary_first of_call (bad_name name) _ (of_name name) (ordinary_first of_call (missing name files) _ (of_missing name) (ordinary_first of_call (too_big s.geometry.limits size) _ (of_end s.geometry.limits size) tt))
  ordinary_refusal s (Remove name) = named_one name
  ordinary_refusal s (Stat name) = named_one name
  ordinary_refusal s Sync = tt

done_on : (k : FileKey) (body : List ℕ) (call : Call) → is_undone (Replied (reply_on k body call)) ≡ false
done_on k body (Create name) = refl
done_on k body (Read name offset len) = refl
done_on k body (Stat name) = refl
done_on k body call = refl

done_by : (st : State) (k : FileKey) (call : Call) (v : Verdict) → is_undone (Replied (reply_by st k call v)) ≡ false
done_by st k call None = done_on _ _ call
done_by st k call (Some (Blocks t)) = refl
done_by st k call (Some (Posts kind)) = refl
done_by st k call (Some (Lacks need free)) = refl

ordinary_abort : (answer : Option Response) → Ordinary (aborted answer)
ordinary_abort (Some (Abort error)) = refl
ordinary_abort (Some (Media fault)) = refl
ordinary_abort answer = tt

ordinary_again : (files : List Listed) (waits : Option Access) → Ordinary (objection_again files waits)
ordinary_again files None = tt
ordinary_again files (Some a) =
    ordinary_first of_call (aborted a.answer) _ (ordinary_abort a.answer)
    (ordinary_first of_call (gone (has_key a.key files)) _ (ordinary_if of_call (has_key a.key files) _ _ tt refl) tt)

ordinary_objection : (s : Superblock) (files : List Listed) (waits : Option Access) (what : Action) → Ordinary (objection s files waits what)
ordinary_objection s files waits (Issue call) = ordinary_refusal files s call
ordinary_objection s files waits what = ordinary_again files waits

done_where : (s : Superblock) (st : State) (fl : Flags) (why : Option CallRefusal) (m : Meant) → Ordinary why → Says m → is_undone (Replied (reply_where s st fl why m)) ≡ false
done_where s st fl why (Fixed (Refused Waiting)) is says = refl
done_where s st fl why (Fixed (Refused Idle)) is says = refl
done_where s st fl why (Fixed (Still t)) is says = refl
done_where s st fl why (Fixed reply) is says = absurd says
done_where s st fl None (Means k call) is says = done_by st k call (verdict s st fl k call)
done_where s st fl (Some why) (Means k call) is says = is

-- the store's reply to a caller's event is for neither
pub done_reply : (s : Superblock) (st : State) (c : ℕ) (what : Action) → is_undone (Replied (reply_to s st c what)) ≡ false
done_reply s st c what =
    done_where s st (flags_now st c what) (objection_in s st c what) (meant_in st c what)
    (ordinary_objection s (names_of st.held.files) (st.ledger.pending c) what) (meant_says (names_of st.held.files) (st.ledger.pending c) what)

-- ---- a session's call

abbrev of_dm : DmRefusal → Answer
of_dm why = Told (told.Refused why)

abbrev Usual : Option DmRefusal → Type 0
Usual x = OrdinaryOf of_dm x

usual_creation : (old : Sid) (info : List ℕ) (t : SessionTable) → Usual (creation_refusal old info t)
usual_creation old info t =
    ordinary_first of_dm (no_session old t) _ (ordinary_if of_dm (old.0 == 0 || lives old t) _ _ tt refl)
    (ordinary_first of_dm (bad_info info) _ (ordinary_if of_dm (nat_le 1 (length info) && nat_le (length info) info_bytes) _ _ tt refl)
    (ordinary_first of_dm (too_many_sessions old t) _ (ordinary_if of_dm (old.0 == 0 && nat_le live_sessions (length t.live)) _ _ refl tt) tt))

usual_regions : (limits : Limits) (rs : List Region) → Usual (regions_refusal limits rs)
usual_regions limits rs =
    ordinary_first of_dm (too_many_regions limits rs) _ (ordinary_if of_dm (nat_le (length rs) limits.regions) _ _ tt refl)
    (ordinary_first of_dm (bad_region (first_bad limits 0 None rs)) _ (at (first_bad limits 0 None rs)) tt)
  where
    at : (index : Option ℕ) → Usual (bad_region index)
    at None = tt
    at (Some index) = refl

usual_reserved : (name : AttrName) → Usual (reserved name)
usual_reserved name = ordinary_if of_dm (is_reserved name) _ _ refl tt

usual_setting : (name : AttrName) (value : List ℕ) (others limit : ℕ) (attrs : Attributes) → Usual (setting_refusal name value others limit attrs)
usual_setting name value others limit attrs =
    let sum : ℕ = others + bytes_of_attributes (with_value name value attrs) in
    ordinary_first of_dm (reserved name) _ (usual_reserved name)
    (ordinary_first of_dm (too_big_value value) _ (ordinary_if of_dm (nat_le (length value) value_bytes) _ _ tt refl)
    (ordinary_first of_dm (too_many_bytes limit sum) _ (ordinary_if of_dm (nat_le sum limit) _ _ tt refl) tt))

usual_absent : (name : AttrName) (attrs : Attributes) → Usual (no_attribute name attrs)
usual_absent name attrs = ordinary_if of_dm (is_some (value_of name attrs)) _ _ tt refl

usual_dead : (sid : Sid) (t : SessionTable) → Usual (dead_session sid t)
usual_dead sid t = ordinary_if of_dm (lives sid t) _ _ tt refl

usual_fit : (room : ℕ) (messages : List Message) → Usual (none_fits room messages)
usual_fit room [] = refl
usual_fit room (m ∷ more) = ordinary_if of_dm (nat_le (message_bytes m) room) _ _ tt refl

usual_length : (body : List ℕ) → Usual (too_long body)
usual_length body = ordinary_if of_dm (nat_le (length body) data_bytes) _ _ tt refl

usual_event : (body : List ℕ) (t : SessionTable) → Usual (event_refusal body t)
usual_event body t =
    ordinary_first of_dm (too_long body) _ (usual_length body) (ordinary_first of_dm (too_many_events t) _ (ordinary_if of_dm (nat_le user_events (user_tokens t)) _ _ refl tt) tt)

usual_sending : (target : Sid) (body : List ℕ) (t : SessionTable) → Usual (sending_refusal target body t)
usual_sending target body t =
    ordinary_first of_dm (dead_session target t) _ (usual_dead target t)
    (ordinary_first of_dm (too_long body) _ (usual_length body)
    (ordinary_first of_dm (too_many_waiting (queue_of target t)) _ (ordinary_if of_dm (nat_le waiting_messages (count_by (has_token no_token) (queue_of target t))) _ _ refl tt) tt))

usual_busy : (other : Option Token) → Usual (busy other)
usual_busy None = tt
usual_busy (Some t) = refl

usual_low : (need have : Right) → Usual (too_low need have)
usual_low need have = ordinary_if of_dm (reaches have need) _ _ tt refl

usual_right : (token : Token) (k : FileKey) (need : Right) (rights : Rights) → Usual (bad_right token k need rights)
usual_right token k need rights = elim (same_token token no_token) as (λ b. Usual (if b then busy (conflict k need no_token rights) else too_low need (right_of token k rights))) [
  | true ↦ usual_busy (conflict k need no_token rights)
  | false ↦ usual_low need (right_of token k rights)
]

usual_found : (found : Option (ℕ × Stub)) → Usual (option_map (λ (x : ℕ × Stub). Uncovered x.0) found)
usual_found None = tt
usual_found (Some x) = refl

usual_uncovered : (regions : List Region) (stubs : Stubs) → Usual (uncovered regions stubs)
usual_uncovered regions stubs = usual_found (find (λ (x : ℕ × Stub). x.1.offline && not (covers regions x.0)) stubs)

-- ---- what sessions ask of segments

usual_access : (len : ℕ) → Usual (bad_access len)
usual_access len = ordinary_if of_dm (nat_le 1 len && nat_le len access_bytes) _ _ tt refl

usual_size : (end size : ℕ) → Usual (past_size end size)
usual_size end size = ordinary_if of_dm (nat_le end size) _ _ tt refl

usual_end : (j size : ℕ) → Usual (past_end j size)
usual_end j size = ordinary_if of_dm (nat_lt (segment_bytes * j) size) _ _ tt refl

usual_volume : (volume : ℕ) → Usual (bad_volume volume)
usual_volume volume = ordinary_if of_dm (nat_le volume last_volume) _ _ tt refl

usual_bounds : (limits : Limits) (offset len size : ℕ) → Usual (bad_punch limits offset len size)
usual_bounds limits offset len size = ordinary_if of_dm (offset % segment_bytes == 0 && nat_lt offset size && ends_well limits offset len size) _ _ tt refl

usual_probe : (offset len size : ℕ) → Usual (nothing_to_punch offset len size)
usual_probe offset len size = ordinary_if of_dm (nat_lt (probe_start offset) (probe_end offset len size)) _ _ tt refl

usual_any : (refusal : ℕ → Option DmRefusal) → ((j : ℕ) → Usual (refusal j)) → (js : List ℕ) → Usual (first_refusal (map refusal js))
usual_any refusal each [] = tt
usual_any refusal each (j ∷ js) = ordinary_first of_dm (refusal j) (map refusal js) (each j) (usual_any refusal each js)

usual_room : (room : Option NoRoom) → Usual (option_map (λ (x : NoRoom). NoSpace x.need x.free) room)
usual_room None = tt
usual_room (Some room) = refl

usual_bytes : (want : Fingerprint) (bytes : List ℕ) → Usual (changed_bytes want bytes)
usual_bytes want bytes = ordinary_if of_dm (same_print want (print_of bytes)) _ _ tt refl

usual_from : (stub : Option Stub) (bytes : List ℕ) → Usual (changed_from stub bytes)
usual_from None bytes = tt
usual_from (Some stub) bytes = usual_bytes (entry_print stub.entry) bytes

usual_entries : (j others limit : ℕ) (stubs : Stubs) → Usual (too_many_stubs j others limit stubs)
usual_entries j others limit stubs = ordinary_if of_dm (is_some (stub_at j stubs) || nat_lt (others + length stubs) limit) _ _ tt refl

module _ (f : FileState) where
  usual_away : (j : ℕ) → Usual (away f j)
  usual_away j = ordinary_if of_dm (is_offline (stub_at j f.kept.stubs)) _ _ refl tt

  usual_punched : (j : ℕ) → Usual (not_punched f.kept.regions f.kept.stubs j)
  usual_punched j =
      ordinary_first of_dm (away f j) _ (usual_away j)
      (ordinary_first of_dm (not_sealed j (stub_at j f.kept.stubs)) _ (ordinary_if of_dm (is_sealed (stub_at j f.kept.stubs)) _ _ tt refl)
      (ordinary_first of_dm (not_covered j f.kept.regions) [] (ordinary_if of_dm (covers f.kept.regions j) _ _ tt refl) tt))

  usual_reading : (offset len : ℕ) → Usual (reading_refusal f offset len)
  usual_reading offset len =
      let to : ℕ = min (offset + len) (length f.body) in
      ordinary_first of_dm (bad_access len) _ (usual_access len) (ordinary_first of_dm (any_away f offset to) [] (usual_any (away f) usual_away (segments_met offset to)) tt)

  usual_writing : (s : Superblock) (h : Held) (offset : ℕ) (bytes : List ℕ) → Usual (writing_refusal s h f offset bytes)
  usual_writing s h offset bytes =
      let end : ℕ = offset + length bytes in
      ordinary_first of_dm (bad_access (length bytes)) _ (usual_access (length bytes))
      (ordinary_first of_dm (past_size end (length f.body)) _ (usual_size end (length f.body))
      (ordinary_first of_dm (any_away f offset end) _ (usual_any (away f) usual_away (segments_met offset end))
      (ordinary_first of_dm (no_room s h f (Writes offset bytes)) [] (usual_room (short_of (length (touched (Writes offset bytes) (length f.body))) (s.geometry.blocks - used h.files))) tt)))

  usual_punching : (limits : Limits) (offset len : ℕ) → Usual (punch_refusal limits f offset len)
  usual_punching limits offset len =
      let from : ℕ = punch_from offset in
      let segments : List ℕ = from_on from (min (punch_to offset len) (segments_in (length f.body)) - from) in
      ordinary_first of_dm (bad_punch limits offset len (length f.body)) _ (usual_bounds limits offset len (length f.body))
      (ordinary_first of_dm (first_refusal (map (not_punched f.kept.regions f.kept.stubs) segments)) [] (usual_any (not_punched f.kept.regions f.kept.stubs) usual_punched segments) tt)

  usual_sealing : (j : ℕ) (entry : StubEntry) → Usual (seal_refusal f j entry)
  usual_sealing j entry =
      ordinary_first of_dm (past_end j (length f.body)) _ (usual_end j (length f.body))
      (ordinary_first of_dm (bad_volume (entry_place entry).volume) _ (usual_volume (entry_place entry).volume)
      (ordinary_first of_dm (away f j) _ (usual_away j) (ordinary_first of_dm (changed_bytes (entry_print entry) (segment j f.body)) [] (usual_bytes (entry_print entry) (segment j f.body)) tt)))

  usual_restoring : (s : Superblock) (h : Held) (j : ℕ) (bytes : List ℕ) → Usual (restore_refusal s h f j bytes)
  usual_restoring s h j bytes =
      let stub : Option Stub = stub_at j f.kept.stubs in
      ordinary_first of_dm (past_end j (length f.body)) _ (usual_end j (length f.body))
      (ordinary_first of_dm (not_offline j stub) _ (ordinary_if of_dm (is_offline stub) _ _ tt refl)
      (ordinary_first of_dm (changed_from stub bytes) _ (usual_from stub bytes)
      (ordinary_first of_dm (no_room s h f (Restores j bytes)) [] (usual_room (short_of (length (touched (Restores j bytes) (length f.body))) (s.geometry.blocks - used h.files))) tt)))

-- ---- any call

usual_service : (s : Superblock) (st : State) (sid : Sid) (call : DmCall) → Usual (service s st sid call).refusal
usual_service s st sid (CreateSession old info) = usual_creation old info st.sessions
usual_service s st sid DestroySession = ordinary_if of_dm (length (queue_of sid st.sessions) + length (outstanding_of sid st.sessions) == 0) _ _ tt refl
usual_service s st sid (QuerySession target) = usual_dead target st.sessions
usual_service s st sid (GetEvents max room) = usual_fit room (queue_of sid st.sessions)
usual_service s st sid (FindEventMsg token room) = usual_fit room (message_or_none (outstanding_message token st.sessions))
usual_service s st sid (Respond token response) = ordinary_if of_dm (is_lawful response) _ _ tt refl
usual_service s st sid (CreateUserEvent body) = usual_event body st.sessions
usual_service s st sid (SendMsg target body) = usual_sending target body st.sessions
usual_service s st sid (RequestRight token handle right) = usual_busy (conflict handle.key right token st.rights)
usual_service s st sid (UpgradeRight token handle) = usual_busy (conflict handle.key Excl token st.rights)
usual_service s st sid (SetRegion token handle regions) =
    let stubs : Stubs = (kept_of handle.key st.held.files).stubs in
    ordinary_first of_dm (regions_refusal s.geometry.limits regions) _ (usual_regions s.geometry.limits regions) (ordinary_first of_dm (uncovered regions stubs) [] (usual_uncovered regions stubs) tt)
usual_service s st sid (SetDmAttr token handle name value) = usual_setting name value (other_attributes handle.key st.held.files) s.geometry.attributes (kept_of handle.key st.held.files).attributes
usual_service s st sid (GetDmAttr token handle name) = usual_absent name (kept_of handle.key st.held.files).attributes
usual_service s st sid (RemoveDmAttr token handle name) =
    let attributes : Attributes = (kept_of handle.key st.held.files).attributes in
    ordinary_first of_dm (reserved name) _ (usual_reserved name) (ordinary_first of_dm (no_attribute name attributes) _ (usual_absent name attributes) tt)
usual_service s st sid (ReadInvis token handle offset len) = usual_reading (file_at handle.key st.held.files) offset len
usual_service s st sid (WriteInvis token handle offset body) = usual_writing (file_at handle.key st.held.files) s st.held offset body
usual_service s st sid (PunchHole token handle offset len) = usual_punching (file_at handle.key st.held.files) s.geometry.limits offset len
usual_service s st sid (ProbeHole token handle offset len) = usual_probe offset len (length (file_at handle.key st.held.files).body)
usual_service s st sid (Seal token handle j entry) =
    let f : FileState = file_at handle.key st.held.files in
    let others : ℕ = other_stubs handle.key st.held.files in
    let stubs : Stubs = (kept_of handle.key st.held.files).stubs in
    ordinary_first of_dm (seal_refusal f j entry) _ (usual_sealing f j entry) (ordinary_first of_dm (too_many_stubs j others s.geometry.stubs stubs) [] (usual_entries j others s.geometry.stubs stubs) tt)
usual_service s st sid (Restore token handle j bytes) = usual_restoring (file_at handle.key st.held.files) s st.held j bytes
usual_service s st sid (PathToHandle name) = ordinary_if of_dm (is_some (named name (names_of st.held.files))) _ _ tt refl
usual_service s st sid call = tt

module _ (s : Superblock) (st : State) (sid : Sid) (own : Option DmRefusal) (is : Usual own) where
  usual_last : Usual (first_refusal (own ∷ []))
  usual_last = ordinary_first of_dm own [] is tt

  usual_session : (rest : List (Option DmRefusal)) → Usual (first_refusal rest) → Usual (first_refusal (dead_session sid st.sessions ∷ rest))
  usual_session rest later = ordinary_first of_dm (dead_session sid st.sessions) rest (usual_dead sid st.sessions) later

  usual_owner : (found : Option Sid) → Usual (not_yours sid found)
  usual_owner None = refl
  usual_owner (Some other) = ordinary_if of_dm (same_sid other sid) _ _ tt refl

  usual_scope : (scope : Scope) → Usual (first_refusal (scope_refusals s st sid scope ++ own ∷ []))
  usual_scope Anyone = usual_last
  usual_scope InSession = usual_session (own ∷ []) usual_last
  usual_scope (OnToken token) =
      usual_session (bad_own_token sid token st.sessions ∷ own ∷ [])
      (ordinary_first of_dm (bad_own_token sid token st.sessions) _ (ordinary_if of_dm (token.0 == 0) _ _ refl (usual_owner (owner token st.sessions))) usual_last)
  usual_scope (OnFile token handle right) =
      usual_session (bad_given_token sid token st.sessions ∷ bad_handle s st.held.files handle ∷ bad_right token handle.key right st.rights ∷ own ∷ [])
      (ordinary_first of_dm (bad_given_token sid token st.sessions) _ (ordinary_if of_dm (token.0 == 0) _ _ tt (usual_owner (owner token st.sessions)))
      (ordinary_first of_dm (bad_handle s st.held.files handle) _ (ordinary_if of_dm (is_live s st.held.files handle) _ _ tt refl)
      (ordinary_first of_dm (bad_right token handle.key right st.rights) _ (usual_right token handle.key right st.rights) usual_last)))
  usual_scope (OnRight token handle right) =
      usual_session (bad_own_token sid token st.sessions ∷ bad_handle s st.held.files handle ∷ too_low right (right_of token handle.key st.rights) ∷ own ∷ [])
      (ordinary_first of_dm (bad_own_token sid token st.sessions) _ (ordinary_if of_dm (token.0 == 0) _ _ refl (usual_owner (owner token st.sessions)))
      (ordinary_first of_dm (bad_handle s st.held.files handle) _ (ordinary_if of_dm (is_live s st.held.files handle) _ _ tt refl)
      (ordinary_first of_dm (too_low right (right_of token handle.key st.rights)) _ (usual_low right (right_of token handle.key st.rights)) usual_last)))

done_told : (s : Superblock) (st : State) (sid : Sid) (call : DmCall) → is_undone (Told (service s st sid call).reply) ≡ false
done_told s st sid (CreateSession old info) = refl
done_told s st sid call = refl

done_told_where : (why : Option DmRefusal) (s : Superblock) (st : State) (sid : Sid) (call : DmCall) → Usual why → is_undone (Told (dm_reply_where why s st sid call)) ≡ false
done_told_where None s st sid call is = done_told s st sid call
done_told_where (Some why) s st sid call is = is

-- the store's reply to a session's call is for neither
pub done_dm_reply : (s : Superblock) (st : State) (sid : Sid) (call : DmCall) → is_undone (Told (dm_reply_to s st sid call)) ≡ false
done_dm_reply s st sid call =
    done_told_where (dm_judged s st sid call) s st sid call (usual_scope s st sid (service s st sid call).refusal (usual_service s st sid call) (scope_of call))

-- ---- any event

-- the store's own answer is for neither
pub own_done : (s : Superblock) (st : State) (who : Actor) (what : Action) (answer : Answer) → IsOwn s st who what answer → is_undone answer ≡ false
own_done s st (Caller c) (Issue call) answer is = ap is_undone is.1 ∙ done_reply s st c (Issue call)
own_done s st (Caller c) Resume answer is = ap is_undone is.1 ∙ done_reply s st c Resume
own_done s st (Session sid) (Dm call) answer is = ap is_undone is.1 ∙ done_dm_reply s st sid call
own_done s st Store Commit answer is = ap is_undone is.1
own_done s st who what answer is = absurd is.0

faultless_done : (answer : Answer) → is_undone answer ≡ false → is_fault answer ≡ false
faultless_done (Replied (Refused Disk)) done = done
faultless_done (Told (told.Refused dm.Disk)) done = done
faultless_done answer done = refl

pub own_faultless : (s : Superblock) (st : State) (who : Actor) (what : Action) (answer : Answer) → IsOwn s st who what answer → is_fault answer ≡ false
own_faultless s st who what answer is = faultless_done answer (own_done s st who what answer is)

pub fault_is : (what : Action) → is_fault (fault_of what) ≡ true
fault_is (Dm call) = refl
fault_is what = refl

-- ---- histories

or_false : (a b : Bool) → (a || b) ≡ false → (a ≡ false) × (b ≡ false)
or_false false b none = (refl, none)
or_false true b none = cc

pub has_fault-cons : (e : Entry) (es : List Entry) → has_fault (e ∷ es) ≡ false → (is_fault e.answer ≡ false) × (has_fault es ≡ false)
has_fault-cons e es none = or_false (is_fault e.answer) (has_fault es) none

-- an entry that is for no fault need not be the last
pub not_last : (e : Entry) (es : List Entry) → is_fault e.answer ≡ false → FaultIsLast e es
not_last e es none fault = cc

or-none : (b : Bool) → (b || false) ≡ b
or-none true = refl
or-none false = refl

-- an entry more behind a history without a fault
pub has_fault-push : (es : List Entry) (e : Entry) → has_fault es ≡ false → has_fault (es ++ e ∷ []) ≡ is_fault e.answer
has_fault-push es e none = rw (list_any-append (λ x. is_fault x.answer) es (e ∷ []), none) (or-none (is_fault e.answer))
