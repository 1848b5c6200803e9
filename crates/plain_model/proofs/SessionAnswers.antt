-- What a session is told may come in each world that the store stands for, and its change leaves the store standing for the world after it.
use Rattle.std.proofs.Common.{◌≡◌, ◌≤◌, ◌<◌, ◌+◌, ◌-◌, ◌*◌, ℕ, min, length, subst, arith, List, [], ◌∷◌, Option, Some, None, refl, sym, ◌∙◌, ap}
use Rattle.std.specs.Prelude.{◌/◌, ◌==◌, is_some}
use Rattle.hsm_types.specs.Limits.{segment_bytes}
use Rattle.hsm_types.specs.Refusals.{first_refusal}
use Rattle.hsm_types.specs.Regions.{regions_refusal}
use Rattle.hsm_types.specs.Rights.{bad_right}
use Rattle.hsm_types.specs.Stubs.{Stubs, print_of, too_many_stubs, uncovered}
use Rattle.hsm_types.proofs.Stubbing.{all_covered}
use Rattle.hsm_types.specs.declared.keys.FileKey.{FileKey}
use Rattle.hsm_types.specs.declared.keys.Handle.{Handle}
use Rattle.hsm_types.specs.declared.keys.Sid.{Sid}
use Rattle.hsm_types.specs.declared.keys.Token.{Token}
use Rattle.hsm_types.specs.declared.stubs.StubEntry.{StubEntry}
use Rattle.hsm_types.specs.declared.stores.Superblock.{Superblock}
use Rattle.hsm_types.specs.declared.dm.DmCall.{DmCall}
use Rattle.hsm_types.specs.declared.dm.DmCall.TheVariants.{CreateSession, Respond, CreateUserEvent, GetFileAttr, SetRegion, SetDmAttr, RemoveDmAttr}
use Rattle.hsm_types.specs.declared.dm.DmCall.TheVariants.{ReadInvis, WriteInvis, PunchHole, Seal, Restore, PathToHandle, GetSpace}
use Rattle.hsm_types.specs.declared.dm.DmRefusal.{DmRefusal}
use Rattle.hsm_types.specs.declared.dm.DmRefusal.TheVariants.{NoObject, BadResponse}
use Rattle.hsm_types.specs.declared.dm.DmReply.TheVariants as told
use Rattle.hsm_types.specs.declared.dm.Right.{Right}
use Rattle.hsm_types.specs.declared.dm.Right.TheVariants.{Shared, Excl}
use Rattle.hsm_types.specs.Messages.{is_lawful}
use Rattle.hsm_types.specs.Sessions.{dead_session, bad_response}
use Rattle.plain_model.specs.Effects.{Writes, Manages, Attaches, Detaches, Seals, Punches, Restores, punch_from, punch_to, Change, Nothing, OfFile}
use Rattle.plain_model.specs.Effects.{OfSessions, OfRights, Closes, change_of}
use Rattle.plain_model.specs.Plain.{Listed, listing, named, key_or_none, read_at, body_of}
use Rattle.plain_model.specs.Ledger.{Ledger, next_token, ledger_told}
use Rattle.plain_model.specs.State.{FileState, State, changed, names_of, file_at}
use Rattle.plain_model.specs.Segments.{reading_refusal, writing_refusal, punch_refusal, seal_refusal, restore_refusal}
use Rattle.plain_model.specs.Sound.{IsFree}
use Rattle.plain_model.specs.Services.{bad_own_token, bad_given_token, is_live, bad_handle, no_such_name, kept_of, other_stubs, service, dm_judged}
use Rattle.plain_model.specs.Services.{dm_reply_where, dm_state_where}
use Rattle.plain_model.specs.Step.{World, IsFileOf, MayTell, changed_plain, files_told, world_told}
use Rattle.plain_model.specs.Stands.{HasBody, Stands, StandsFor, InOrder}
use Rattle.plain_model.proofs.Bodies.{read_same}
use Rattle.plain_model.proofs.Meeting.{meets_true}
use Rattle.plain_model.proofs.SegmentChanges.{reading_free, writing_sound, seal_sound, restore_sound, punch_sound}
use Rattle.plain_model.proofs.Sound.{held_segment, print_length}
use Rattle.plain_model.proofs.SoundEffects.{IsSoundAt, sound_at, affected_stands, names_stand, file_stands, found_stands}
use Rattle.plain_model.proofs.Judged.{none_first, passes, second_holds}
use Rattle.plain_model.proofs.Orders.{owned_open}

-- a refusal leaves the ledger
pub refused_ledger : (call : DmCall) (why : DmRefusal) (L : Ledger) → ledger_told L call (told.Refused why) ≡ L
refused_ledger GetSpace why L = refl
refused_ledger call why L = refl

-- the change is sound for its file
abbrev IsSoundBy : Change → List FileState → Type 0
IsSoundBy (OfFile k effect) files = IsSoundAt effect k files
IsSoundBy change files = Unit {0}

-- the same is read where the bytes of each segment of the range are here
pub same_read : (f : FileState) (body : List ℕ) → HasBody f body → (o n : ℕ) → IsFree f.kept.stubs o (min (o + n) (length f.body)) → read_at o n f.body ≡ read_at o n body
same_read f body h o n free =
    read_same o n f.body body (ap (λ size. min n (size - o)) h.size)
    (λ i from to within. h.bytes i (free (i / segment_bytes) (meets_true o (min (o + n) (length f.body)) (i / segment_bytes) (omega arith) (omega arith) (omega arith))))

module _ (s : Superblock) (st : State) (W : World) (stands : StandsFor st W) (sid : Sid) where
  abbrev files : List FileState
  files = st.held.files

  bytes : (k : FileKey) → HasBody (file_at k files) (body_of k W.files)
  bytes k = file_stands k files W.files stands.files

  -- of a call on a file of which that is asked besides its scope: the file is there, and that doesn't refuse it
  on_file : (token : Token) (handle : Handle) (right : Right) (own : Option DmRefusal)
      → first_refusal (dead_session sid st.sessions ∷ bad_given_token sid token st.sessions ∷ bad_handle s files handle ∷ bad_right token handle.key right st.rights ∷ own ∷ []) ≡ None → IsFileOf W handle.key × (own ≡ None)
  on_file token handle right own none =
      let past_session = none_first (dead_session sid st.sessions) (bad_given_token sid token st.sessions ∷ bad_handle s files handle ∷ bad_right token handle.key right st.rights ∷ own ∷ []) none in
      let past_token = none_first (bad_given_token sid token st.sessions) (bad_handle s files handle ∷ bad_right token handle.key right st.rights ∷ own ∷ []) past_session.1 in
      let past_handle = none_first (bad_handle s files handle) (bad_right token handle.key right st.rights ∷ own ∷ []) past_token.1 in
      let past_right = none_first (bad_right token handle.key right st.rights) (own ∷ []) past_handle.1 in
      let live = second_holds (handle.fsid == s.fsid) _ (passes (is_live s files handle) NoObject past_handle.0) in
      (sym (found_stands handle.key files W.files stands.files) ∙ live, (none_first own [] past_right.1).0)

  abbrev full : ℕ → Handle → Option DmRefusal
  full j handle = too_many_stubs j (other_stubs handle.key files) s.geometry.stubs (kept_of handle.key files).stubs

  abbrev sealing_refusal_of : ℕ → Handle → StubEntry → Option DmRefusal
  sealing_refusal_of j handle entry = first_refusal (seal_refusal (file_at handle.key files) j entry ∷ full j handle ∷ [])

  told_step : (call : DmCall) → InOrder st → dm_judged s st sid call ≡ None → MayTell s W call (service s st sid call).reply
  told_step (Respond token response) ordered none =
      let past_session = none_first (dead_session sid st.sessions) (bad_own_token sid token st.sessions ∷ bad_response response ∷ []) none in
      let past_token = none_first (bad_own_token sid token st.sessions) (bad_response response ∷ []) past_session.1 in
      let past_own = none_first (bad_response response) [] past_token.1 in (
        ap (λ (L : Ledger). L.open token.0) (sym stands.ledger) ∙ (owned_open st sid token ordered past_token.0).0,
        passes (is_lawful response) BadResponse past_own.0,
      )
  told_step (CreateUserEvent body) ordered none = ap next_token stands.ledger
  told_step (GetFileAttr token handle) ordered none = ((on_file token handle Shared None none).0, (bytes handle.key).size)
  told_step (ReadInvis token handle offset len) ordered none =
      let f : FileState = file_at handle.key files in
      let past = on_file token handle Shared (reading_refusal f offset len) none in
      (past.0, same_read f (body_of handle.key W.files) (bytes handle.key) offset len (reading_free f offset len past.1))
  told_step (WriteInvis token handle offset body) ordered none =
      let f : FileState = file_at handle.key files in
      let past = on_file token handle Excl (writing_refusal s st.held f offset body) none in
      (past.0, subst (λ n. offset + length body ≤ n) (bytes handle.key).size (writing_sound f s st.held offset body past.1).0)
  told_step (Seal token handle j entry) ordered none =
      let f : FileState = file_at handle.key files in
      let past = on_file token handle Excl (sealing_refusal_of j handle entry) none in
      let sound = seal_sound f j entry (none_first (seal_refusal f j entry) (full j handle ∷ []) past.1).0 in
      ((past.0, subst (λ n. segment_bytes * j < n) (bytes handle.key).size sound.0), sound.2 ∙ ap print_of (held_segment f (body_of handle.key W.files) (bytes handle.key) j sound.1))
  told_step (Restore token handle j body) ordered none =
      let f : FileState = file_at handle.key files in
      let past = on_file token handle Excl (restore_refusal s st.held f j body) none in
      let sound = restore_sound f s st.held j body past.1 in
      ((past.0, subst (λ n. segment_bytes * j < n) (bytes handle.key).size sound.0), print_length f (body_of handle.key W.files) (bytes handle.key) j body sound.1.0 sound.1.1 sound.1.2)
  told_step (PathToHandle name) ordered none =
      let own : Option DmRefusal = no_such_name (named name (names_of st.held.files)) in
      let past_session = none_first (dead_session sid st.sessions) (own ∷ []) none in
      let past_own = none_first own [] past_session.1 in
      let found = passes (is_some (named name (names_of st.held.files))) NoObject past_own.0 in
      let same : names_of st.held.files ≡ listing W.files = names_stand st.held.files W.files stands.files in (
        ap (λ ls. is_some (named name ls)) (sym same) ∙ found,
        ap (λ (ls : List Listed). record { fsid = s.fsid; key = key_or_none (named name ls) }) same,
      )
  told_step call ordered none = refl

  -- an effect that nothing refuses is sound
  told_sound : (call : DmCall) → dm_judged s st sid call ≡ None → IsSoundBy (change_of sid call) files
  told_sound (SetRegion token handle regions) none =
      let stubs : Stubs = (kept_of handle.key files).stubs in
      let past = on_file token handle Excl (first_refusal (regions_refusal s.geometry.limits regions ∷ uncovered regions stubs ∷ [])) none in
      let past_regions = none_first (regions_refusal s.geometry.limits regions) (uncovered regions stubs ∷ []) past.1 in
      sound_at (Manages regions) handle.key files (all_covered regions stubs (none_first (uncovered regions stubs) [] past_regions.1).0)
  told_sound (WriteInvis token handle offset body) none =
      let f : FileState = file_at handle.key files in
      sound_at (Writes offset body) handle.key files (writing_sound f s st.held offset body (on_file token handle Excl (writing_refusal s st.held f offset body) none).1).1
  told_sound (PunchHole token handle offset len) none =
      let f : FileState = file_at handle.key files in
      sound_at (Punches (punch_from offset) (punch_to offset len)) handle.key files (punch_sound f s.geometry.limits offset len (on_file token handle Excl (punch_refusal s.geometry.limits f offset len) none).1)
  told_sound (Seal token handle j entry) none =
      let f : FileState = file_at handle.key files in
      let past = on_file token handle Excl (sealing_refusal_of j handle entry) none in
      sound_at (Seals j entry) handle.key files (seal_sound f j entry (none_first (seal_refusal f j entry) (full j handle ∷ []) past.1).0)
  told_sound (Restore token handle j body) none =
      let f : FileState = file_at handle.key files in
      sound_at (Restores j body) handle.key files (restore_sound f s st.held j body (on_file token handle Excl (restore_refusal s st.held f j body) none).1)
  told_sound (SetDmAttr token handle name value) none = sound_at (Attaches name value) handle.key files tt
  told_sound (RemoveDmAttr token handle name) none = sound_at (Detaches name) handle.key files tt
  told_sound call none = tt

  changed_files : (change : Change) → IsSoundBy change files → Stands (changed change st).held.files (changed_plain change W.files)
  changed_files Nothing sound = stands.files
  changed_files (OfFile k effect) sound = affected_stands effect k st.held.files W.files sound stands.files
  changed_files (OfSessions to) sound = stands.files
  changed_files (OfRights to) sound = stands.files
  changed_files (Closes owner token) sound = stands.files

  changed_next : (change : Change) → (changed change st).held.next ≡ st.held.next
  changed_next Nothing = refl
  changed_next (OfFile k effect) = refl
  changed_next (OfSessions to) = refl
  changed_next (OfRights to) = refl
  changed_next (Closes owner token) = refl

  -- it isn't told a refusal
  files_done : (call : DmCall) → changed_plain (change_of sid call) W.files ≡ files_told W.files sid call (service s st sid call).reply
  files_done (CreateSession old info) = refl
  files_done call = refl

  pub may_tell : (call : DmCall) (why : Option DmRefusal) → InOrder st → dm_judged s st sid call ≡ why → MayTell s W call (dm_reply_where why s st sid call)
  may_tell call None ordered is = told_step call ordered is
  may_tell call (Some why) ordered is = tt

  pub told_stands : (call : DmCall) (why : Option DmRefusal) → dm_judged s st sid call ≡ why → StandsFor (dm_state_where why s st sid call) (world_told W sid call (dm_reply_where why s st sid call))
  told_stands call None is = record {
    files = rw (sym (files_done call)) (changed_files (change_of sid call) (told_sound call is));
    newer = rw (changed_next (change_of sid call)) stands.newer;
    ledger = ap (λ (L : Ledger). ledger_told L call (service s st sid call).reply) stands.ledger;
  }
  told_stands call (Some why) is = record { files = stands.files; newer = stands.newer; ledger = stands.ledger ∙ sym (refused_ledger call why W.ledger) }
