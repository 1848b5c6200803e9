-- What a session is told may come but for bytes in each world that the store stands for so, and what it leaves stands so for the world after it.
use Rattle.std.proofs.Common.{◌≡◌, ◌≤◌, ◌<◌, ◌+◌, ◌-◌, ◌*◌, ℕ, min, List, [], ◌∷◌, length, replicate, Option, Some, None, refl, sym, ◌∙◌, ap, subst}
use Rattle.std.specs.Prelude.{◌==◌, is_some, IfSome}
use Rattle.hsm_types.specs.Keyed.{find_key}
use Rattle.hsm_types.specs.Kept.{Kept}
use Rattle.hsm_types.specs.Limits.{segment_bytes}
use Rattle.hsm_types.specs.Messages.{is_lawful}
use Rattle.hsm_types.specs.Refusals.{first_refusal}
use Rattle.hsm_types.specs.Regions.{regions_refusal}
use Rattle.hsm_types.specs.Rights.{bad_right}
use Rattle.hsm_types.specs.Segments.{segment_len}
use Rattle.hsm_types.specs.Sessions.{dead_session, bad_response}
use Rattle.hsm_types.specs.Stubs.{Stubs, stub_at, uncovered, too_many_stubs, entry_at, entry_place, entry_print}
use Rattle.hsm_types.proofs.Stubbing.{all_covered}
use Rattle.hsm_types.specs.declared.keys.FileKey.{FileKey}
use Rattle.hsm_types.specs.declared.keys.Handle.{Handle}
use Rattle.hsm_types.specs.declared.keys.Sid.{Sid}
use Rattle.hsm_types.specs.declared.keys.Token.{Token}
use Rattle.hsm_types.specs.declared.stubs.Fingerprint.{Fingerprint}
use Rattle.hsm_types.specs.declared.stubs.Stub.{Stub}
use Rattle.hsm_types.specs.declared.stubs.StubEntry.{StubEntry}
use Rattle.hsm_types.specs.declared.stores.Superblock.{Superblock}
use Rattle.hsm_types.specs.declared.dm.DmCall.{DmCall}
use Rattle.hsm_types.specs.declared.dm.DmCall.TheVariants.{CreateSession, Respond, CreateUserEvent, GetFileAttr, SetRegion}
use Rattle.hsm_types.specs.declared.dm.DmCall.TheVariants.{ReadInvis, WriteInvis, PunchHole, Seal, Restore, PathToHandle}
use Rattle.hsm_types.specs.declared.dm.DmRefusal.{DmRefusal}
use Rattle.hsm_types.specs.declared.dm.DmRefusal.TheVariants.{NoObject, BadResponse}
use Rattle.hsm_types.specs.declared.dm.DmReply.{DmReply}
use Rattle.hsm_types.specs.declared.dm.DmReply.TheVariants as told
use Rattle.hsm_types.specs.declared.dm.Right.{Right}
use Rattle.hsm_types.specs.declared.dm.Right.TheVariants.{Shared, Excl}
use Rattle.plain_model.specs.declared.entries.Actor.TheVariants.{Session}
use Rattle.plain_model.specs.declared.entries.Action.TheVariants.{Dm}
use Rattle.plain_model.specs.declared.entries.Answer.TheVariants.{Dm as Told}
use Rattle.plain_model.specs.Effects.{Effect, Manages, Seals, Punches, Restores, punch_from, punch_to, Change, Nothing, OfFile, OfSessions, OfRights}
use Rattle.plain_model.specs.Effects.{Closes, change_of}
use Rattle.plain_model.specs.Exact.{left_told}
use Rattle.plain_model.specs.Ledger.{Ledger, next_token, ledger_told}
use Rattle.plain_model.specs.Plain.{Listed, listing, named, key_or_none, segment, body_of}
use Rattle.plain_model.specs.Seen.{blanked}
use Rattle.plain_model.specs.Segments.{writing_refusal, punch_refusal, seal_refusal, restore_refusal}
use Rattle.plain_model.specs.Services.{bad_given_token, bad_own_token, is_live, bad_handle, no_such_name, kept_of, other_stubs, service, dm_judged}
use Rattle.plain_model.specs.Services.{dm_reply_where}
use Rattle.plain_model.specs.Side.{sides_of, side_changed, side_told}
use Rattle.plain_model.specs.Stands.{InOrder}
use Rattle.plain_model.specs.State.{FileState, Held, State, names_of, file_at, bytes_of, noted, changed}
use Rattle.plain_model.specs.Step.{World, IsFileOf, MayAnswer, changed_plain, world_told, given}
use Rattle.plain_model.proofs.Alike.{names_alike, live_alike, size_alike, kept_alike}
use Rattle.plain_model.proofs.Bodies.{length-read}
use Rattle.plain_model.proofs.Judged.{none_first, passes, second_holds}
use Rattle.plain_model.proofs.SegmentChanges.{writing_sound, seal_sound, restore_sound, punch_sound}
use Rattle.plain_model.proofs.Orders.{owned_open}
use Rattle.plain_model.proofs.SessionAnswers.{refused_ledger}
use Rattle.seen_history.specs.Alike.{blank_action, blank_answer}
use Rattle.seen_history.specs.Outlines.{FitsSegment, StandsButBytes}
use Rattle.seen_history.proofs.Fitting.{Fits, fits_size, affected_fits, file_fits}
use Rattle.seen_history.proofs.Leaving.{Leaves, SameButBytes, affected_beside, same_world}
use Rattle.seen_history.proofs.Likening.{true_bytes, true_print, liken_told, liken_action, refused_told}
use Rattle.seen_history.proofs.Outlining.{names_same, size_same, live_same, affected_same, restored_same}

-- the entry of a segment is as long as it
entry_len : (size : ℕ) (kept : Kept) (j : ℕ) (x : Stub) → ((q : ℕ) → IfSome (stub_at q kept.stubs) (FitsSegment size kept.regions q)) → stub_at j kept.stubs ≡ Some x → (entry_print x.entry).len ≡ segment_len size j
entry_len size kept j x fit is = let fits : FitsSegment size kept.regions j x = rw is at (fit j) in fits.len

module _ (s : Superblock) (st : State) (seen : Held) (alike : blanked seen ≡ blanked st.held) (W : World) (stands : StandsButBytes st W) (sid : Sid) where
  abbrev over : State
  over = record st { held = seen }

  size : (k : FileKey) → length (bytes_of k st.held.files) ≡ length (body_of k W.files)
  size k = size_same st.held.files W.files stands.files k

  seen_size : (k : FileKey) → length (bytes_of k seen.files) ≡ length (body_of k W.files)
  seen_size k = size_alike st.held seen alike k ∙ size k

  live : (k : FileKey) → is_some (find_key (λ f. f.key) k seen.files) ≡ is_some (find_key (λ g. g.key) k W.files)
  live k = live_alike st.held seen alike k ∙ live_same st.held.files W.files stands.files k

  -- of a call on a file of which that is asked besides its scope: the file is there, and that doesn't refuse it
  on_file : (token : Token) (handle : Handle) (right : Right) (own : Option DmRefusal)
      → first_refusal (dead_session sid st.sessions ∷ bad_given_token sid token st.sessions ∷ bad_handle s seen.files handle ∷ bad_right token handle.key right st.rights ∷ own ∷ []) ≡ None → IsFileOf W handle.key × (own ≡ None)
  on_file token handle right own none =
      let past_session = none_first (dead_session sid st.sessions) (bad_given_token sid token st.sessions ∷ bad_handle s seen.files handle ∷ bad_right token handle.key right st.rights ∷ own ∷ []) none in
      let past_token = none_first (bad_given_token sid token st.sessions) (bad_handle s seen.files handle ∷ bad_right token handle.key right st.rights ∷ own ∷ []) past_session.1 in
      let past_handle = none_first (bad_handle s seen.files handle) (bad_right token handle.key right st.rights ∷ own ∷ []) past_token.1 in
      let past_right = none_first (bad_right token handle.key right st.rights) (own ∷ []) past_handle.1 in
      let found = second_holds (handle.fsid == s.fsid) _ (passes (is_live s seen.files handle) NoObject past_handle.0) in
      (sym (live handle.key) ∙ found, (none_first own [] past_right.1).0)

  -- what fits the file as it is seen fits it as it is held
  held_fits : (e : Effect) (k : FileKey) → Fits e (length (bytes_of k seen.files)) (file_at k seen.files).kept → Fits e (length (bytes_of k st.held.files)) (file_at k st.held.files).kept
  held_fits e k fits =
      subst (λ (kept : Kept). Fits e (length (bytes_of k st.held.files)) kept) (kept_alike st.held seen alike k)
      (subst (λ n. Fits e n (file_at k seen.files).kept) (size_alike st.held seen alike k) fits)

  seen_stubs : (k : FileKey) (q : ℕ) → IfSome (stub_at q (file_at k seen.files).kept.stubs) (FitsSegment (length (bytes_of k seen.files)) (file_at k seen.files).kept.regions q)
  seen_stubs k =
      subst (λ (kept : Kept). (q : ℕ) → IfSome (stub_at q kept.stubs) (FitsSegment (length (bytes_of k seen.files)) kept.regions q)) (sym (kept_alike st.held seen alike k))
      (subst (λ n. (q : ℕ) → IfSome (stub_at q (file_at k st.held.files).kept.stubs) (FitsSegment n (file_at k st.held.files).kept.regions q)) (sym (size_alike st.held seen alike k))
      (file_fits k st.held.files stands.stubs))

  abbrev full : ℕ → Handle → Option DmRefusal
  full j handle = too_many_stubs j (other_stubs handle.key seen.files) s.geometry.stubs (kept_of handle.key seen.files).stubs

  -- ---- segments

  abbrev IsSegment : Handle → ℕ → Type 0
  IsSegment handle j = IsFileOf W handle.key × (segment_bytes * j < length (body_of handle.key W.files))

  sealed : (token : Token) (handle : Handle) (j : ℕ) (entry : StubEntry) → dm_judged s over sid (Seal token handle j entry) ≡ None
      → IsSegment handle j × Fits (Seals j entry) (length (bytes_of handle.key seen.files)) (file_at handle.key seen.files).kept
  sealed token handle j entry none =
      let f : FileState = file_at handle.key seen.files in
      let past = on_file token handle Excl (first_refusal (seal_refusal f j entry ∷ full j handle ∷ [])) none in
      let sound = seal_sound f j entry (none_first (seal_refusal f j entry) (full j handle ∷ []) past.1).0 in (
        (past.0, subst (λ n. segment_bytes * j < n) (seen_size handle.key) sound.0),
        (sound.0, ap (λ (print : Fingerprint). print.len) sound.2 ∙ length-read (segment_bytes * j) segment_bytes f.body),
      )

  restored : (token : Token) (handle : Handle) (j : ℕ) (bytes : List ℕ) → dm_judged s over sid (Restore token handle j bytes) ≡ None
      → IsSegment handle j × Fits (Restores j bytes) (length (bytes_of handle.key seen.files)) (file_at handle.key seen.files).kept
  restored token handle j bytes none =
      let f : FileState = file_at handle.key seen.files in
      let past = on_file token handle Excl (restore_refusal s seen f j bytes) none in
      let sound = restore_sound f s seen j bytes past.1 in (
        (past.0, subst (λ n. segment_bytes * j < n) (seen_size handle.key) sound.0),
        (sound.0, sym (ap (λ (print : Fingerprint). print.len) sound.1.2) ∙ entry_len (length f.body) f.kept j sound.1.0 (seen_stubs handle.key) sound.1.1),
      )

  -- the map's segment has as many bytes
  map_len : (k : FileKey) (j : ℕ) → length (segment j (body_of k W.files)) ≡ segment_len (length (bytes_of k seen.files)) j
  map_len k j = length-read (segment_bytes * j) segment_bytes (body_of k W.files) ∙ ap (λ n. segment_len n j) (sym (seen_size k))

  abbrev brought : Handle → ℕ → List ℕ → List ℕ
  brought handle j bytes = true_bytes bytes (segment j (body_of handle.key W.files))

  -- so many bring it back
  same_len : (token : Token) (handle : Handle) (j : ℕ) (bytes : List ℕ) → dm_judged s over sid (Restore token handle j bytes) ≡ None → length (brought handle j bytes) ≡ length bytes
  same_len token handle j bytes none =
      ap (λ (print : Fingerprint). print.len) (true_print bytes (segment j (body_of handle.key W.files))) ∙ map_len handle.key j ∙ sym (restored token handle j bytes none).1.1

  -- ---- the likened call may come

  told_step : (call : DmCall) → InOrder st → dm_judged s over sid call ≡ None → MayAnswer s W (Session sid) (liken_action W (Dm call) (Told (service s over sid call).reply)) (Told (liken_told W call (service s over sid call).reply))
  told_step (Respond token response) ordered none =
      let past_session = none_first (dead_session sid st.sessions) (bad_own_token sid token st.sessions ∷ bad_response response ∷ []) none in
      let past_token = none_first (bad_own_token sid token st.sessions) (bad_response response ∷ []) past_session.1 in
      let past_own = none_first (bad_response response) [] past_token.1 in (
        ap (λ (L : Ledger). L.open token.0) (sym stands.ledger) ∙ (owned_open st sid token ordered past_token.0).0,
        passes (is_lawful response) BadResponse past_own.0,
      )
  told_step (CreateUserEvent body) ordered none = ap next_token stands.ledger
  told_step (GetFileAttr token handle) ordered none = ((on_file token handle Shared None none).0, seen_size handle.key)
  told_step (ReadInvis token handle offset len) ordered none = ((on_file token handle Shared _ none).0, refl)
  told_step (WriteInvis token handle offset body) ordered none =
      let f : FileState = file_at handle.key seen.files in
      let past = on_file token handle Excl (writing_refusal s seen f offset body) none in
      (past.0, subst (λ n. offset + length body ≤ n) (seen_size handle.key) (writing_sound f s seen offset body past.1).0)
  told_step (Seal token handle j entry) ordered none = ((sealed token handle j entry none).0, refl)
  told_step (Restore token handle j bytes) ordered none = ((restored token handle j bytes none).0, true_print bytes (segment j (body_of handle.key W.files)))
  told_step (PathToHandle name) ordered none =
      let own : Option DmRefusal = no_such_name (named name (names_of seen.files)) in
      let past_session = none_first (dead_session sid st.sessions) (own ∷ []) none in
      let past_own = none_first own [] past_session.1 in
      let found = passes (is_some (named name (names_of seen.files))) NoObject past_own.0 in
      let same : names_of seen.files ≡ listing W.files = names_alike st.held seen alike ∙ names_same st.held.files W.files stands.files in (
        ap (λ ls. is_some (named name ls)) (sym same) ∙ found,
        ap (λ (ls : List Listed). record { fsid = s.fsid; key = key_or_none (named name ls) }) same,
      )
  told_step call ordered none = refl

  -- ---- it is alike

  action_like : (call : DmCall) → dm_judged s over sid call ≡ None
      → blank_action (liken_action W (Dm call) (Told (service s over sid call).reply)) (Told (liken_told W call (service s over sid call).reply)) ≡ blank_action (Dm call) (Told (service s over sid call).reply)
  action_like (Seal token handle j entry) none =
      ap (λ n. Dm (Seal token handle j (entry_at (entry_place entry) (record { len = n; digest = record { 0 = [] } })))) (map_len handle.key j ∙ sym (sealed token handle j entry none).1.1)
  action_like (Restore token handle j bytes) none = ap (λ (n : ℕ). Dm (Restore token handle j (replicate {A = ℕ} n 0))) (same_len token handle j bytes none)
  action_like call none = refl

  answer_like : (call : DmCall)
      → blank_answer (liken_action W (Dm call) (Told (service s over sid call).reply)) (Told (liken_told W call (service s over sid call).reply)) ≡ blank_answer (Dm call) (Told (service s over sid call).reply)
  answer_like (ReadInvis token handle offset len) =
      ap (λ (n : ℕ). Told (told.Data (replicate {A = ℕ} n 0)))
      (length-read offset len (body_of handle.key W.files) ∙ ap (λ m. min len (m - offset)) (sym (seen_size handle.key)) ∙ sym (length-read offset len (bytes_of handle.key seen.files)))
  answer_like call = refl

  -- and so is the world that it leaves
  world_like : (call : DmCall) → dm_judged s over sid call ≡ None
      → SameButBytes (given W (Session sid) (liken_action W (Dm call) (Told (service s over sid call).reply)) (Told (liken_told W call (service s over sid call).reply))) (world_told W sid call (service s over sid call).reply)
  world_like (Restore token handle j bytes) none = record {
    files = restored_same j bytes (brought handle j bytes) handle.key W.files ((restored token handle j bytes none).0.1, (restored token handle j bytes none).1.1 ∙ ap (λ n. segment_len n j) (seen_size handle.key)) (same_len token handle j bytes none);
    last = refl;
    ledger = refl;
  }
  world_like call none = same_world (world_told W sid call (service s over sid call).reply)

  -- ---- what it leaves

  -- the change fits its file
  abbrev FitsBy : Change → Type 0
  FitsBy (OfFile k e) = Fits e (length (bytes_of k st.held.files)) (file_at k st.held.files).kept
  FitsBy change = Unit {0}

  change_fits : (call : DmCall) → dm_judged s over sid call ≡ None → FitsBy (change_of sid call)
  change_fits (SetRegion token handle regions) none =
      let stubs : Stubs = (kept_of handle.key seen.files).stubs in
      let past = on_file token handle Excl (first_refusal (regions_refusal s.geometry.limits regions ∷ uncovered regions stubs ∷ [])) none in
      let past_regions = none_first (regions_refusal s.geometry.limits regions) (uncovered regions stubs ∷ []) past.1 in
      held_fits (Manages regions) handle.key (all_covered regions stubs (none_first (uncovered regions stubs) [] past_regions.1).0)
  change_fits (PunchHole token handle offset len) none =
      let f : FileState = file_at handle.key seen.files in
      let sound = punch_sound f s.geometry.limits offset len (on_file token handle Excl (punch_refusal s.geometry.limits f offset len) none).1 in
      held_fits (Punches (punch_from offset) (punch_to offset len)) handle.key (sound.0, λ j low high within. (sound.1 j low high within).2)
  change_fits (Seal token handle j entry) none = held_fits (Seals j entry) handle.key (sealed token handle j entry none).1
  change_fits (Restore token handle j bytes) none = held_fits (Restores j bytes) handle.key (restored token handle j bytes none).1
  change_fits call none = tt

  changed_leaves : (change : Change) (L V : Ledger) → L ≡ V → FitsBy change
      → Leaves (record (noted (changed change st)) { ledger = L }) (record W { files = changed_plain change W.files; ledger = V }) (side_changed change W.files (sides_of st.held.files)) st.stamps
  changed_leaves Nothing L V same fits = record { stands = record { files = stands.files; stubs = stands.stubs; newer = stands.newer; ledger = same }; beside = refl; stamped = λ k. refl }
  changed_leaves (OfFile k e) L V same fits = record {
    stands = record {
      files = affected_same e k st.held.files W.files stands.files (fits_size e (length (bytes_of k st.held.files)) (file_at k st.held.files).kept fits);
      stubs = affected_fits e k st.held.files fits stands.stubs;
      newer = stands.newer;
      ledger = same;
    };
    beside = affected_beside e k st.held.files W.files (size k);
    stamped = λ j. refl;
  }
  changed_leaves (OfSessions to) L V same fits = record { stands = record { files = stands.files; stubs = stands.stubs; newer = stands.newer; ledger = same }; beside = refl; stamped = λ k. refl }
  changed_leaves (OfRights to) L V same fits = record { stands = record { files = stands.files; stubs = stands.stubs; newer = stands.newer; ledger = same }; beside = refl; stamped = λ k. refl }
  changed_leaves (Closes owner token) L V same fits = record { stands = record { files = stands.files; stubs = stands.stubs; newer = stands.newer; ledger = same }; beside = refl; stamped = λ k. refl }

  -- it isn't told a refusal
  done_leaves : (call : DmCall)
      → Leaves (record (noted (changed (change_of sid call) st)) { ledger = ledger_told st.ledger call (service s over sid call).reply })
      (record W { files = changed_plain (change_of sid call) W.files; ledger = ledger_told W.ledger call (service s over sid call).reply }) (side_changed (change_of sid call) W.files (sides_of st.held.files)) st.stamps
      → Leaves (left_told st sid call (service s over sid call).reply) (world_told W sid call (service s over sid call).reply) (side_told W.files sid call (service s over sid call).reply (sides_of st.held.files)) st.stamps
  done_leaves (CreateSession old info) leaves = leaves
  done_leaves call leaves = leaves

  -- ---- both

  pub record TellStep (call : DmCall) (reply : DmReply) : Type 0 where
    pub may : InOrder st → MayAnswer s W (Session sid) (liken_action W (Dm call) (Told reply)) (Told (liken_told W call reply))
    pub action : blank_action (liken_action W (Dm call) (Told reply)) (Told (liken_told W call reply)) ≡ blank_action (Dm call) (Told reply)
    pub answer : blank_answer (liken_action W (Dm call) (Told reply)) (Told (liken_told W call reply)) ≡ blank_answer (Dm call) (Told reply)
    pub world : SameButBytes (given W (Session sid) (liken_action W (Dm call) (Told reply)) (Told (liken_told W call reply))) (world_told W sid call reply)
    pub leaves : Leaves (left_told st sid call reply) (world_told W sid call reply) (side_told W.files sid call reply (sides_of st.held.files)) st.stamps

  pub tell_step : (call : DmCall) (why : Option DmRefusal) → dm_judged s over sid call ≡ why → TellStep call (dm_reply_where why s over sid call)
  tell_step call None none = record {
    may = λ ordered. told_step call ordered none;
    action = action_like call none;
    answer = answer_like call;
    world = world_like call none;
    leaves = done_leaves call (changed_leaves (change_of sid call) _ _ (ap (λ (L : Ledger). ledger_told L call (service s over sid call).reply) stands.ledger) (change_fits call none));
  }
  tell_step call (Some why) is =
      let same = refused_told W call why in
      record {
        may = λ ordered. rw same tt;
        action = rw same refl;
        answer = rw same refl;
        world = rw same (same_world (world_told W sid call (told.Refused why)));
        leaves = record { stands = record { files = stands.files; stubs = stands.stubs; newer = stands.newer; ledger = stands.ledger ∙ sym (refused_ledger call why W.ledger) }; beside = refl; stamped = λ k. refl };
      }
