-- How the replies to callers, and the states that they leave, are those of the model.
use Rattle.std.proofs.Common.{◌≡◌, ◌+◌, ℕ, List, [], ◌∷◌, Bool, true, false, Option, Some, None, refl, sym, ◌∙◌, ⊎_elim, ap, subst}
use Rattle.std.specs.Prelude.{◌&&◌, not, is_some, is_none, if◌then◌else◌, Result, Ok, Err, IfOk, IfErr, OnOk, OnErr, MatchOption}
use Rattle.std.specs.Option.{option_map}
use Rattle.disk_model.specs.declared.device.Disk as disk
use Rattle.disk_model.specs.Moments.{Tells}
use Rattle.hsm_types.specs.Refusals.{first_refusal}
use Rattle.hsm_types.specs.declared.keys.FileKey.{FileKey}
use Rattle.hsm_types.specs.declared.keys.Token.{Token}
use Rattle.hsm_types.specs.declared.stores.Superblock.{Superblock}
use Rattle.hsm_types.specs.declared.calls.Call.{Call}
use Rattle.hsm_types.specs.declared.calls.Call.TheVariants.{Create, Sync}
use Rattle.hsm_types.specs.declared.calls.Reply.{Reply}
use Rattle.hsm_types.specs.declared.calls.Reply.TheVariants.{Parked, Blocked}
use Rattle.hsm_types.specs.declared.dm.Kind.{Kind}
use Rattle.plain_model.specs.declared.entries.Action.{Action}
use Rattle.plain_model.specs.declared.entries.Action.TheVariants.{Issue, Resume}
use Rattle.plain_model.specs.declared.facts.Facts.{Facts}
use Rattle.hsm_types.specs.Keyed.{same_key, find_key}
use Rattle.plain_model.specs.Accesses.{told_span}
use Rattle.plain_model.specs.Ledger.{Means, next_token, goes_on, aborted, gone, issued, resumed, objection_again}
use Rattle.plain_model.specs.Plain.{Listed, has_key, refusal_of, key_meant}
use Rattle.plain_model.specs.Seen.{blanked, IsOfSeen}
use Rattle.plain_model.specs.State.{FileState, Held, no_flags, State, names_of}
use Rattle.plain_model.specs.Verdict.{facts_of, judgement, verdict, done_reply, done_held, stamps_by, reply_by, reply_where, reply_to}
use Rattle.plain_model.specs.Verdict.{left_by_verdict, state_where, state_after}
use Rattle.access_park.specs.declared.access.Access.{Access}
use Rattle.dm_service.specs.declared.verdict.Verdict.{Verdict}
use Rattle.dm_service.specs.declared.verdict.Verdict.TheVariants.{Answered, Missing, Block, Post, NoSpace, Complete}
use Rattle.dm_service.specs.Judging.{verdict_of}
use Rattle.dm_service.specs.Parking.{blocked, parked_on, with_access}
use Rattle.dm_service.specs.Services.{AreBoth}
use Rattle.dm_service.specs.Tables.{Tables, waiting, seen, ledger_of, pending_as, flags_in, flags_or_none, state_in}
use Rattle.dm_service.proofs.Anywhere.{still_idle}
use Rattle.snapshot_text.specs.declared.refusal.MetaRefusal.{MetaRefusal}
use Rattle.snapshot_text.specs.declared.refusal.MetaRefusal.TheVariants.{Memory as NoMemory}
use Rattle.file_store.specs.Stores.{Store as FileStore, superblock_of, Proceeds}
use Rattle.file_store.specs.Changes.{Ends}
use Rattle.hsm_core.specs.Outcomes.{ends, ended_reply, held_said, stamps_said, is_fresh, IsFinished, IsReplied}
use Rattle.hsm_core.specs.Stamps.{stamp_in}
use Rattle.hsm_core.specs.Targets.{IsTarget, IsMeant, AreKnown, IsOnFile, MayLast, MayComplete, key_in}
use Rattle.hsm_core.specs.declared.judging.Target.{Target}
use Rattle.plain_model.proofs.Alike.{names_alike, live_alike, facts_alike}
use Rattle.hsm_core.proofs.Seeing.{held_replies, seen_replies}
use Rattle.hsm_core.proofs.Accesses.{reply_said, left_said, said_reply, said_left, parked_left, blocked_left, ended_left, fresh_ended}
use Rattle.file_store.proofs.Ended.{ends_done, unbegun}
use Rattle.hsm_core.proofs.Lasting.{never_ruled}
use Rattle.hsm_core.proofs.Targets.{key_of_meant, on_own, on_file, still_on, bounded, complete, posted}
use Rattle.hsm_core.proofs.Unstopped.{unstopped_sound}

-- ---- results

pub on_ok : {T E P Q : Type 0} (r : Result T E) → (P → Q) → OnOk r P → OnOk r Q
on_ok (Ok x) to is = to is
on_ok (Err e) to is = tt

pub every : {T E P : Type 0} (r : Result T E) → P → OnOk r P
every (Ok x) p = p
every (Err e) p = tt

-- an event that nothing was done to the files for, and that may have lacked memory
pub same_ends : {D T : Type 0} (g : disk.Ghosts D) (f : FileStore D) (n : ℕ) (r : Result T MetaRefusal) → f.failed ≡ false → Proceeds g f n f → IfErr r (λ why. why ≡ NoMemory) → Ends g f n None r f
same_ends g f n (Ok x) working idle memory = ends_done g f f n None idle x refl working refl
same_ends g f n (Err e) working idle memory = let lacks : e ≡ NoMemory = memory in rw lacks (unbegun g f n None NoMemory working idle (λ is. cc) (λ part is. absurd cc))

-- ---- an access that was done

pub completed : {D : Type 0} (g : disk.Ghosts D) (f new : FileStore D) (n : ℕ) (before after : List (FileKey × ℕ)) (k j : FileKey) (call : Call) (said : Verdict) (r : Reply × Reply) → k ≡ j → said ≡ Complete
    → IsOfSeen (Tells g new.disk) f.held (λ seen. AreBoth (done_reply seen k call) r) → new.held ≡ done_held f.held k call → stamp_in after ≡ stamps_by (n + 1) j call None (stamp_in before) → Ends g f n None (Ok r) new
    → IsFinished g f n before j call said (Ok r) new after
completed g f new n before after k j call said r key is reply held stamps ended =
    let done : IsFinished g f n before k call Complete (Ok r) new after = record {
      replies = reply;
      held = held;
      stamps = stamps ∙ ap (λ (i : FileKey). stamps_by (n + 1) i call None (stamp_in before)) (sym key);
      unstamped = tt;
      answered = λ apart. refl;
      ended = ended;
    } in
    subst (λ (v : Verdict). IsFinished g f n before j call v (Ok r) new after) (sym is) (subst (λ (i : FileKey). IsFinished g f n before i call Complete (Ok r) new after) key done)

-- ---- verdicts

pub ends_unless : (said : Verdict) → ((kind : _) → said ≡ Post kind → ⊥) → ((other : _) → said ≡ Block other → ⊥) → ends said ≡ true
ends_unless (Post kind) not_post not_block = absurd (not_post kind refl)
ends_unless (Block other) not_post not_block = absurd (not_block other refl)
ends_unless Complete not_post not_block = refl
ends_unless (NoSpace need free) not_post not_block = refl
ends_unless Missing not_post not_block = refl
ends_unless (Answered response) not_post not_block = refl

pub said_ended : (st : State) (k : FileKey) (call : Call) (said : Verdict) → ends said ≡ true → reply_said st k call said ≡ ended_reply st.held k call said
said_ended st k call (Post kind) is = cc
said_ended st k call (Block other) is = cc
said_ended st k call Complete is = refl
said_ended st k call (NoSpace need free) is = refl
said_ended st k call Missing is = refl
said_ended st k call (Answered response) is = refl

-- ---- an access that has not waited

first_of : (a b : Bool) → (a && b) ≡ true → a ≡ true
first_of true b is = refl
first_of false b is = is

last_of : (a b : Bool) → (a && b) ≡ true → b ≡ true
last_of true b is = is
last_of false b is = cc

not_true : (b : Bool) → not b ≡ true → b ≡ false
not_true true is = sym is
not_true false is = refl

none_there : {A : Type 0} (o : Option A) → is_none o ≡ true → o ≡ None
none_there None is = refl
none_there (Some x) is = cc

pub fresh_flags : (a : Access) → is_fresh a ≡ true → flags_in a ≡ no_flags
fresh_flags a is =
    let unanswered = first_of (not a.cleared && not a.spaced && is_none a.token) (is_none a.answer) is in
    let flagless = first_of (not a.cleared && not a.spaced) (is_none a.token) unanswered in
    λ i. record { cleared = not_true a.cleared (first_of (not a.cleared) (not a.spaced) flagless) i; spaced = not_true a.spaced (last_of (not a.cleared) (not a.spaced) flagless) i }

pub fresh_answer : (a : Access) → is_fresh a ≡ true → a.answer ≡ None
fresh_answer a is = none_there a.answer (last_of (not a.cleared && not a.spaced && is_none a.token) (is_none a.answer) is)

-- ---- a call that is issued, and that nothing objects to

module _ (s : Superblock) (h : Held) (stamps : FileKey → ℕ) (n : ℕ) (t : Tables) (c : ℕ) (a : Access) (k : FileKey) (fresh : is_fresh a ≡ true) (none : waiting t c ≡ None)
    (lawful : refusal_of s (names_of h.files) a.call ≡ None) (meant : k ≡ key_meant (names_of h.files) a.call) (facts : Facts) (known : facts ≡ facts_of s h k a.call) (live : facts.live ≡ true) where
  abbrev st : State
  st = state_in h stamps n t

  abbrev said : Verdict
  said = verdict_of (judgement (flags_in a) a.answer facts t.rights t.sessions k a.call)

  means : issued (names_of h.files) (option_map pending_as (waiting t c)) a.call ≡ Means k a.call
  means = (λ i. issued (names_of h.files) (option_map pending_as (none i)) a.call) ∙ ap (λ j. Means j a.call) (sym meant)

  unopposed : first_refusal (aborted a.answer ∷ gone facts.live ∷ []) ≡ refusal_of s (names_of h.files) a.call
  unopposed = (λ i. first_refusal (aborted (fresh_answer a fresh i) ∷ gone (live i) ∷ [])) ∙ sym lawful

  pub issue_reply : reply_said st k a.call said ≡ reply_to s st c (Issue a.call)
  issue_reply =
      said_reply s st c (flags_in a) k a.call a.answer facts (λ is. known)
      ∙ (λ i. reply_where s st (fresh_flags a fresh i) (unopposed i) (sym means i))

  pub issue_left : left_said s st c (flags_in a) k a.call said ≡ state_after s st c (Issue a.call)
  issue_left =
      said_left s st c (flags_in a) k a.call a.answer facts (λ is. known)
      ∙ (λ i. state_where s st c (fresh_flags a fresh i) (unopposed i) (sym means i))

-- ---- an access that goes on

either_some : {A B : Type 0} (b : Bool) (x : A) (y : B) (p : Option A) (q : Option B) → is_some p ≡ is_some q → is_some (if b then Some x else p) ≡ is_some (if b then Some y else q)
either_some true x y p q same = refl
either_some false x y p q same = same

pub listed_lives : (k : FileKey) (fs : List FileState) → has_key k (names_of fs) ≡ is_some (find_key (λ f. f.key) k fs)
listed_lives k [] = refl
listed_lives k (f ∷ fs) = either_some (same_key f.key k) (listed f) f (find_key (λ l. l.key) k (names_of fs)) (find_key (λ f. f.key) k fs) (listed_lives k fs)
  where
    listed : FileState → Listed
    listed f = record { key = f.key; name = f.name }

module _ (s : Superblock) (h : Held) (stamps : FileKey → ℕ) (n : ℕ) (t : Tables) (c : ℕ) (a : Access) (waits : waiting t c ≡ Some a) (goes : goes_on (pending_as a) a.token a.answer ≡ Means a.key a.call)
    (facts : Facts) (lives : facts.live ≡ is_some (find_key (λ f. f.key) a.key h.files)) (known : facts.live ≡ true → facts ≡ facts_of s h a.key a.call) where
  abbrev st' : State
  st' = state_in h stamps n t

  abbrev said' : Verdict
  said' = verdict_of (judgement (flags_in a) a.answer facts t.rights t.sessions a.key a.call)

  again_where_reply : reply_where s st' (flags_in a) (first_refusal (aborted a.answer ∷ gone facts.live ∷ [])) (Means a.key a.call) ≡ reply_to s st' c Resume
  again_where_reply =
      (λ i. reply_where s st' (flags_in a) (first_refusal (aborted a.answer ∷ gone ((lives ∙ sym (listed_lives a.key h.files)) i) ∷ [])) (sym goes i))
      ∙ (λ i. reply_where s st' (flags_or_none (sym waits i)) (objection_again (names_of h.files) (option_map pending_as (sym waits i))) (resumed (option_map pending_as (sym waits i))))

  again_where_left : state_where s st' c (flags_in a) (first_refusal (aborted a.answer ∷ gone facts.live ∷ [])) (Means a.key a.call) ≡ state_after s st' c Resume
  again_where_left =
      (λ i. state_where s st' c (flags_in a) (first_refusal (aborted a.answer ∷ gone ((lives ∙ sym (listed_lives a.key h.files)) i) ∷ [])) (sym goes i))
      ∙ (λ i. state_where s st' c (flags_or_none (sym waits i)) (objection_again (names_of h.files) (option_map pending_as (sym waits i))) (resumed (option_map pending_as (sym waits i))))

  pub again_reply : reply_said st' a.key a.call said' ≡ reply_to s st' c Resume
  again_reply = said_reply s st' c (flags_in a) a.key a.call a.answer facts known ∙ again_where_reply

  pub again_left : left_said s st' c (flags_in a) a.key a.call said' ≡ state_after s st' c Resume
  again_left = said_left s st' c (flags_in a) a.key a.call a.answer facts known ∙ again_where_left

-- ---- what was done to the parts of a store

always : {T E P : Type 0} (r : Result T E) → P → OnErr r P
always (Ok x) p = tt
always (Err e) p = p

ok_both : {T E : Type 0} (P Q : Type 0) (r : Result T E) → OnOk r P → OnOk r Q → OnOk r (P × Q)
ok_both P Q (Ok x) p q = (p, q)
ok_both P Q (Err e) p q = tt

module _ {D : Type 0} (g : disk.Ghosts D) (f : FileStore D) (n : ℕ) (stamps : List (FileKey × ℕ)) (t : Tables) (c : ℕ) (a : Access) (facts : Facts) (working : f.failed ≡ false) (idle : Proceeds g f n f) where
  abbrev super : Superblock
  super = superblock_of f

  abbrev over : Held → State
  over h = state_in h (stamp_in stamps) n t

  abbrev now : State
  now = over f.held

  abbrev heard : FileKey → Verdict
  heard k = verdict_of (judgement (flags_in a) a.answer facts t.rights t.sessions k a.call)

  -- an event of which its reply and what it leaves are known, and that did nothing to the files
  waits_so : (action : Action) (k : FileKey) (kind : Kind) (u : Tables) (r : Result (Reply × Reply) MetaRefusal) → heard k ≡ Post kind → facts ≡ facts_of super f.held k a.call
      → reply_said now k a.call (heard k) ≡ reply_to super now c action → left_said super now c (flags_in a) k a.call (heard k) ≡ state_after super now c action
      → IfOk r (λ x. AreBoth (Parked (next_token (ledger_of t))) x) → OnOk r (seen u ≡ parked_on c (record a { key = k }) kind (record { fsid = f.meta.fsid; key = k }) (told_span a.call facts.short kind) (seen t))
      → OnErr r (u ≡ t) → IfErr r (λ why. why ≡ NoMemory) → IsReplied g f n stamps t c action r f stamps u
  waits_so action k kind u r says known reply left replies after err memory = record {
    replies = held_replies _ r f.held (λ h. reply_to super (over h) c action) (Parked (next_token (ledger_of t))) (sym (ap (reply_said now k a.call) says) ∙ reply) replies;
    left = on_ok r
        (λ (is : seen u ≡ parked_on c (record a { key = k }) kind (record { fsid = f.meta.fsid; key = k }) (told_span a.call facts.short kind) (seen t)).
        parked_left super f.held (stamp_in stamps) n t u c (record a { key = k }) kind facts.short (ap (λ x. x.short) known) is
        ∙ sym (ap (left_said super now c (flags_in a) k a.call) says) ∙ left) after;
    unstamped = always r refl;
    err = err;
    ends = same_ends g f n r working idle memory;
  }

  -- one that a token blocks
  blocks_so : (action : Action) (k : FileKey) (other : Token) (u : Tables) (r : Result (Reply × Reply) MetaRefusal) → heard k ≡ Block other
      → reply_said now k a.call (heard k) ≡ reply_to super now c action → left_said super now c (flags_in a) k a.call (heard k) ≡ state_after super now c action
      → IfOk r (λ x. AreBoth (Blocked other) x) → OnOk r (seen u ≡ with_access c (Some (blocked (record a { key = k }))) (seen t))
      → OnErr r (u ≡ t) → IfErr r (λ why. why ≡ NoMemory) → IsReplied g f n stamps t c action r f stamps u
  blocks_so action k other u r says reply left replies after err memory = record {
    replies = held_replies _ r f.held (λ h. reply_to super (over h) c action) (Blocked other) (sym (ap (reply_said now k a.call) says) ∙ reply) replies;
    left = on_ok r
        (λ (is : seen u ≡ with_access c (Some (blocked (record a { key = k }))) (seen t)).
        blocked_left super f.held (stamp_in stamps) n t u c (record a { key = k }) other is
        ∙ sym (ap (left_said super now c (flags_in a) k a.call) says) ∙ left) after;
    unstamped = always r refl;
    err = err;
    ends = same_ends g f n r working idle memory;
  }

  -- one that has ended
  ends_so : (action : Action) (k : FileKey) (u : Tables) (r : Result (Reply × Reply) MetaRefusal) (new : FileStore D) (after : List (FileKey × ℕ)) → ends (heard k) ≡ true
      → ((seen : Held) → blanked seen ≡ blanked f.held → reply_said (over seen) k a.call (heard k) ≡ reply_to super (over seen) c action) → left_said super now c (flags_in a) k a.call (heard k) ≡ state_after super now c action
      → IsFinished g f n stamps k a.call (heard k) r new after → OnOk r (seen u ≡ with_access c None (seen t)) → OnErr r (u ≡ t) → IsReplied g f n stamps t c action r new after u
  ends_so action k u r new after ended reply left finished gone err = record {
    replies = seen_replies _ r f.held (λ seen. ended_reply seen k a.call (heard k)) (λ seen. reply_to super (over seen) c action) (λ seen alike. sym (said_ended (over seen) k a.call (heard k) ended) ∙ reply seen alike) finished.replies;
    left = on_ok r
        (λ (is : (new.held ≡ held_said f.held k a.call (heard k)) × ((stamp_in after ≡ stamps_said (n + 1) k a.call (heard k) (stamp_in stamps)) × (seen u ≡ with_access c None (seen t)))).
        (λ i. state_in (is.0 i) (is.1.0 i) (n + 1) u) ∙ ended_left super f.held (stamp_in stamps) n t u c (flags_in a) k a.call (heard k) ended is.1.1 ∙ left)
        (ok_both _ _ r finished.held (ok_both _ _ r finished.stamps gone));
    unstamped = finished.unstamped;
    err = err;
    ends = finished.ended;
  }

  -- ---- a call that is issued on a file
  module _ (file : Target) (fresh : is_fresh a ≡ true) (none : waiting t c ≡ None) (lawful : refusal_of super (names_of f.held.files) a.call ≡ None) (meant : IsMeant f.held.files a.call (Some file))
      (known : facts ≡ facts_of super f.held file.key a.call) where
    live : facts.live ≡ true
    live = ap (λ x. x.live) known ∙ (on_file f.held.files (key_meant (names_of f.held.files) a.call) a.call file meant).1.live

    own_reply : (seen : Held) → blanked seen ≡ blanked f.held → reply_said (over seen) file.key a.call (heard file.key) ≡ reply_to super (over seen) c (Issue a.call)
    own_reply seen alike =
        let names = names_alike f.held seen alike in
        issue_reply super seen (stamp_in stamps) n t c a file.key fresh none (ap (λ (files : List Listed). refusal_of super files a.call) names ∙ lawful)
        (key_of_meant f.held.files a.call (Some file) meant ∙ ap (λ (files : List Listed). key_meant files a.call) (sym names)) facts (known ∙ sym (facts_alike f.held seen alike super file.key a.call)) live

    own_left : left_said super now c (flags_in a) file.key a.call (heard file.key) ≡ state_after super now c (Issue a.call)
    own_left = issue_left super f.held (stamp_in stamps) n t c a file.key fresh none lawful (key_of_meant f.held.files a.call (Some file) meant) facts known live

    pub issue_waits : (kind : Kind) (u : Tables) (r : Result (Reply × Reply) MetaRefusal) → heard file.key ≡ Post kind → IfOk r (λ x. AreBoth (Parked (next_token (ledger_of t))) x)
        → OnOk r (seen u ≡ parked_on c (record a { key = file.key }) kind (record { fsid = f.meta.fsid; key = file.key }) (told_span a.call facts.short kind) (seen t)) → OnErr r (u ≡ t) → IfErr r (λ why. why ≡ NoMemory)
        → IsReplied g f n stamps t c (Issue a.call) r f stamps u
    issue_waits kind u r says replies after err memory = waits_so (Issue a.call) file.key kind u r says known (own_reply f.held refl) own_left replies after err memory

    pub issue_blocks : (other : Token) (u : Tables) (r : Result (Reply × Reply) MetaRefusal) → heard file.key ≡ Block other → IfOk r (λ x. AreBoth (Blocked other) x)
        → OnOk r (seen u ≡ with_access c (Some (blocked (record a { key = file.key }))) (seen t)) → OnErr r (u ≡ t) → IfErr r (λ why. why ≡ NoMemory) → IsReplied g f n stamps t c (Issue a.call) r f stamps u
    issue_blocks other u r says replies after err memory = blocks_so (Issue a.call) file.key other u r says (own_reply f.held refl) own_left replies after err memory

    pub issue_ends : (r : Result (Reply × Reply) MetaRefusal) (new : FileStore D) (after : List (FileKey × ℕ)) → ends (heard file.key) ≡ true → IsFinished g f n stamps file.key a.call (heard file.key) r new after
        → IsReplied g f n stamps t c (Issue a.call) r new after t
    issue_ends r new after over finished = ends_so (Issue a.call) file.key t r new after over own_reply own_left finished (ok_still r) (always r refl)
      where
        ok_still : (r : Result (Reply × Reply) MetaRefusal) → OnOk r (seen t ≡ with_access c None (seen t))
        ok_still (Ok x) = sym (still_idle t c none)
        ok_still (Err e) = tt

    pub issue_completes : AreKnown super f.held file.key a.call facts → heard file.key ≡ Complete → MayComplete super f.held a.call (Some file)
    issue_completes are is =
        let may = complete (flags_in a) a.answer facts t.rights t.sessions file.key a.call is in
        record {
          on = on_own f.held.files (key_meant (names_of f.held.files) a.call) a.call (Some file) meant;
          bounded = bounded super (names_of f.held.files) a.call lawful;
          fits = sym (ap (λ x. x.short) known) ∙ may.short;
          mapped = are.mapped;
          sound = unstopped_sound super f.held file.key (flags_in a) a.call facts are may.touching may.needing;
        }

  -- ---- an access that goes on
  module _ (target : Option Target) (waits : waiting t c ≡ Some a) (goes : goes_on (pending_as a) a.token a.answer ≡ Means a.key a.call) (last : MayLast super.geometry.limits a.call)
      (found : MatchOption target (find_key (λ x. x.key) a.key f.held.files ≡ None) (λ x. IsTarget f.held.files a.key x))
      (known : MatchOption target (facts ≡ record { live = false; touches = false; needs = false; short = None }) (λ x. AreKnown super f.held x.key a.call facts)) where
    lives : facts.live ≡ is_some (find_key (λ x. x.key) a.key f.held.files)
    lives = elim target as (λ (o : Option Target). MatchOption o (find_key (λ x. x.key) a.key f.held.files ≡ None) (λ x. IsTarget f.held.files a.key x)
        → MatchOption o (facts ≡ record { live = false; touches = false; needs = false; short = None }) (λ x. AreKnown super f.held x.key a.call facts)
        → facts.live ≡ is_some (find_key (λ x. x.key) a.key f.held.files)) [
          | None ↦ λ found known. ap (λ x. x.live) known ∙ sym (ap (λ o. is_some o) found)
          | Some x ↦ λ found known. ap (λ y. y.live) known.known ∙ ap (λ k. is_some (find_key (λ y. y.key) k f.held.files)) found.key
        ] found known

    facts_known : facts.live ≡ true → facts ≡ facts_of super f.held a.key a.call
    facts_known live = elim target as (λ (o : Option Target). MatchOption o (find_key (λ x. x.key) a.key f.held.files ≡ None) (λ x. IsTarget f.held.files a.key x)
        → MatchOption o (facts ≡ record { live = false; touches = false; needs = false; short = None }) (λ x. AreKnown super f.held x.key a.call facts)
        → facts ≡ facts_of super f.held a.key a.call) [
          | None ↦ λ found known. absurd (let wrong : true ≡ false = sym live ∙ ap (λ x. x.live) known in cc wrong)
          | Some x ↦ λ found known. known.known ∙ ap (λ k. facts_of super f.held k a.call) found.key
        ] found known

    again_own : (seen : Held) → blanked seen ≡ blanked f.held → reply_said (over seen) a.key a.call (heard a.key) ≡ reply_to super (over seen) c Resume
    again_own seen alike =
        again_reply super seen (stamp_in stamps) n t c a waits goes facts (lives ∙ sym (live_alike f.held seen alike a.key))
        (λ live. facts_known live ∙ sym (facts_alike f.held seen alike super a.key a.call))

    again_leaves : left_said super now c (flags_in a) a.key a.call (heard a.key) ≡ state_after super now c Resume
    again_leaves = again_left super f.held (stamp_in stamps) n t c a waits goes facts lives facts_known

    pub again_waits : (kind : Kind) (u : Tables) (r : Result (Reply × Reply) MetaRefusal) → heard a.key ≡ Post kind → IfOk r (λ x. AreBoth (Parked (next_token (ledger_of t))) x)
        → OnOk r (seen u ≡ parked_on c a kind (record { fsid = f.meta.fsid; key = a.key }) (told_span a.call facts.short kind) (seen t)) → OnErr r (u ≡ t) → IfErr r (λ why. why ≡ NoMemory)
        → IsReplied g f n stamps t c Resume r f stamps u
    again_waits kind u r says replies after err memory =
        waits_so Resume a.key kind u r says (facts_known (posted (flags_in a) a.answer facts t.rights t.sessions a.key a.call kind says).0) (again_own f.held refl) again_leaves replies after err memory

    pub again_blocks : (other : Token) (u : Tables) (reply : Reply × Reply) → heard a.key ≡ Block other → AreBoth (Blocked other) reply → seen u ≡ with_access c (Some (blocked a)) (seen t)
        → IsReplied g f n stamps t c Resume (Ok reply) f stamps u
    again_blocks other u reply says replies after = blocks_so Resume a.key other u (Ok reply) says (again_own f.held refl) again_leaves replies after tt tt

    -- by the key of the file that was found, if one was
    finished_on : (k : FileKey) (r : Result (Reply × Reply) MetaRefusal) (new : FileStore D) (after : List (FileKey × ℕ)) → (heard a.key ≡ Complete → k ≡ a.key) → IsFinished g f n stamps k a.call (heard a.key) r new after
        → IsFinished g f n stamps a.key a.call (heard a.key) r new after
    finished_on k r new after same is = by_verdict (heard a.key) same is
      where
        by_verdict : (said : Verdict) → (said ≡ Complete → k ≡ a.key) → IsFinished g f n stamps k a.call said r new after → IsFinished g f n stamps a.key a.call said r new after
        by_verdict Complete same is = subst (λ (j : FileKey). IsFinished g f n stamps j a.call Complete r new after) (same refl) is
        by_verdict (Post kind) same is = record { replies = is.replies; held = is.held; stamps = is.stamps; unstamped = is.unstamped; answered = is.answered; ended = is.ended }
        by_verdict (Block other) same is = record { replies = is.replies; held = is.held; stamps = is.stamps; unstamped = is.unstamped; answered = is.answered; ended = is.ended }
        by_verdict (NoSpace need free) same is = record { replies = is.replies; held = is.held; stamps = is.stamps; unstamped = is.unstamped; answered = is.answered; ended = is.ended }
        by_verdict Missing same is = record { replies = is.replies; held = is.held; stamps = is.stamps; unstamped = is.unstamped; answered = is.answered; ended = is.ended }
        by_verdict (Answered response) same is = record { replies = is.replies; held = is.held; stamps = is.stamps; unstamped = is.unstamped; answered = is.answered; ended = is.ended }

    found_key : (heard a.key) ≡ Complete → key_in target ≡ a.key
    found_key is =
        let live = (complete (flags_in a) a.answer facts t.rights t.sessions a.key a.call is).live in
        elim target as (λ (o : Option Target). MatchOption o (find_key (λ x. x.key) a.key f.held.files ≡ None) (λ x. IsTarget f.held.files a.key x)
        → MatchOption o (facts ≡ record { live = false; touches = false; needs = false; short = None }) (λ x. AreKnown super f.held x.key a.call facts) → key_in o ≡ a.key) [
          | None ↦ λ found known. absurd (let wrong : true ≡ false = sym live ∙ ap (λ x. x.live) known in cc wrong)
          | Some x ↦ λ found known. found.key
        ] found known

    pub again_completes : (heard a.key) ≡ Complete → MayComplete super f.held a.call target
    again_completes is =
        let may = complete (flags_in a) a.answer facts t.rights t.sessions a.key a.call is in
        elim target as (λ (o : Option Target). MatchOption o (find_key (λ x. x.key) a.key f.held.files ≡ None) (λ x. IsTarget f.held.files a.key x)
        → MatchOption o (facts ≡ record { live = false; touches = false; needs = false; short = None }) (λ x. AreKnown super f.held x.key a.call facts) → MayComplete super f.held a.call o) [
          | None ↦ λ found known. absurd (let wrong : true ≡ false = sym may.live ∙ ap (λ x. x.live) known in cc wrong)
          | Some x ↦ λ found known. record {
            on = still_on f.held.files a.call x last.0 (record { key = refl; live = found.live; size = found.size; limit = found.limit });
            bounded = last.1;
            fits = sym (ap (λ y. y.short) known.known) ∙ may.short;
            mapped = known.mapped;
            sound = unstopped_sound super f.held x.key (flags_in a) a.call facts known may.touching may.needing;
          }
        ] found known

    pub again_ends : (u : Tables) (r : Result (Reply × Reply) MetaRefusal) (new : FileStore D) (after : List (FileKey × ℕ)) → ends (heard a.key) ≡ true → IsFinished g f n stamps (key_in target) a.call (heard a.key) r new after
        → OnOk r (seen u ≡ with_access c None (seen t)) → OnErr r (u ≡ t) → IsReplied g f n stamps t c Resume r new after u
    again_ends u r new after over finished gone err = ends_so Resume a.key u r new after over again_own again_leaves (finished_on (key_in target) r new after found_key finished) gone err

-- ---- a create or a sync, to which no rule applies

module _ {D : Type 0} (g : disk.Ghosts D) (f : FileStore D) (n : ℕ) (stamps : List (FileKey × ℕ)) (t : Tables) (c : ℕ) (call : Call) (idle : waiting t c ≡ None) (lawful : refusal_of (superblock_of f) (names_of f.held.files) call ≡ None)
    (meant : IsMeant f.held.files call None) where
  abbrev here : State
  here = state_in f.held (stamp_in stamps) n t

  abbrev key : FileKey
  key = key_meant (names_of f.held.files) call

  not_on_file : (call : Call) → IsMeant f.held.files call None → IsOnFile call → ⊥
  not_on_file (Create name) is on = on
  not_on_file Sync is on = on
  not_on_file call is on = is

  never : verdict (superblock_of f) here no_flags key call ≡ None
  never = ⊎_elim (λ (on : IsOnFile call). absurd (not_on_file call meant on)) (λ (none : verdict (superblock_of f) here no_flags key call ≡ None). none) (never_ruled (superblock_of f) here no_flags key call)

  means_so : issued (names_of f.held.files) (option_map pending_as (waiting t c)) call ≡ Means key call
  means_so i = issued (names_of f.held.files) (option_map pending_as (idle i)) call

  alone_reply : reply_by here key call None ≡ reply_to (superblock_of f) here c (Issue call)
  alone_reply = ap (reply_by here key call) (sym never) ∙ (λ i. reply_where (superblock_of f) here no_flags (sym lawful i) (sym means_so i))

  alone_left : left_by_verdict (superblock_of f) here c no_flags key call None ≡ state_after (superblock_of f) here c (Issue call)
  alone_left = ap (left_by_verdict (superblock_of f) here c no_flags key call) (sym never) ∙ (λ i. state_where (superblock_of f) here c no_flags (sym lawful i) (sym means_so i))

  -- it is done on no file
  same_reply : (call : Call) (k : FileKey) → IsMeant f.held.files call None → done_reply f.held (key_in None) call ≡ done_reply f.held k call
  same_reply (Create name) k is = refl
  same_reply Sync k is = refl
  same_reply call k is = absurd is

  same_held : (call : Call) (k : FileKey) → IsMeant f.held.files call None → done_held f.held (key_in None) call ≡ done_held f.held k call
  same_held (Create name) k is = refl
  same_held Sync k is = refl
  same_held call k is = absurd is

  unstamped_by : (call : Call) (k : FileKey) → IsMeant f.held.files call None → stamp_in stamps ≡ stamps_by (n + 1) k call None (stamp_in stamps)
  unstamped_by (Create name) k is = refl
  unstamped_by Sync k is = refl
  unstamped_by call k is = absurd is

  left_idle : state_in (done_held f.held key call) (stamp_in stamps) (n + 1) t ≡ left_by_verdict (superblock_of f) here c no_flags key call None
  left_idle =
      (λ i. state_in (done_held f.held key call) (unstamped_by call key meant i) (n + 1) t)
      ∙ fresh_ended (superblock_of f) f.held (stamp_in stamps) n t c no_flags key call Complete refl idle

  pub alone_replied : (r : Result (Reply × Reply) MetaRefusal) (new : FileStore D) → IfOk r (λ x. AreBoth (done_reply f.held (key_in None) call) x) → OnOk r (new.held ≡ done_held f.held (key_in None) call) → Ends g f n None r new
      → IsReplied g f n stamps t c (Issue call) r new stamps t
  alone_replied r new replies held over = record {
    replies = held_replies _ r f.held (λ h. reply_to (superblock_of f) (state_in h (stamp_in stamps) n t) c (Issue call)) (done_reply f.held (key_in None) call) (same_reply call key meant ∙ alone_reply) replies;
    left = on_ok r (λ (is : new.held ≡ done_held f.held (key_in None) call). (λ i. state_in ((is ∙ same_held call key meant) i) (stamp_in stamps) (n + 1) t) ∙ left_idle ∙ alone_left) held;
    unstamped = always r refl;
    err = always r refl;
    ends = over;
  }
