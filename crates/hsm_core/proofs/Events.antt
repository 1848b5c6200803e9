-- An event more: what becomes of a store by what became of its parts.
use Rattle.std.proofs.Common.{◌≡◌, ◌⊎◌, ℕ, ◌+◌, ◌≤◌, List, [], ◌∷◌, ◌++◌, length, true, false, Some, None, inl, inr, refl, sym, ◌∙◌, ap, subst}
use Rattle.std.proofs.Common.{arith, length-append}
use Rattle.std.specs.Prelude.{Bool, if◌then◌else◌, Result, Ok, Err, IfOk, OnOk, OnErr, IsOk, IsErrOf}
use Rattle.disk_model.specs.declared.device.Disk as disk
use Rattle.disk_model.specs.Calls.{RoseByOne}
use Rattle.disk_model.specs.Moments.{Tells}
use Rattle.hsm_types.specs.Sessions.{SessionTable}
use Rattle.hsm_types.specs.declared.dm.DmCall.{DmCall}
use Rattle.hsm_types.specs.declared.dm.DmCall.TheVariants.{Respond, CreateUserEvent, GetSpace}
use Rattle.hsm_types.specs.declared.dm.DmRefusal.{DmRefusal}
use Rattle.hsm_types.specs.declared.keys.Sid.{Sid}
use Rattle.hsm_types.specs.declared.keys.FileKey.{FileKey}
use Rattle.hsm_types.specs.declared.stores.Superblock.{Superblock}
use Rattle.plain_model.specs.declared.entries.Entry.{Entry}
use Rattle.plain_model.specs.declared.entries.Actor.{Actor}
use Rattle.plain_model.specs.declared.entries.Action.{Action}
use Rattle.plain_model.specs.declared.entries.Answer.{Answer}
use Rattle.plain_model.specs.Faults.{fault_of, is_fault, Acts}
use Rattle.plain_model.specs.State.{Held, State}
use Rattle.plain_model.specs.Exact.{answer_to, left_answered, left_by, IsOwnSeen}
use Rattle.plain_model.specs.Seen.{IsSeen, IsOfSeen}
use Rattle.plain_model.specs.Synced.{is_sync}
use Rattle.plain_model.proofs.Faultless.{own_faultless, fault_is}
use Rattle.snapshot_text.specs.declared.refusal.MetaRefusal.{MetaRefusal}
use Rattle.snapshot_text.specs.declared.refusal.MetaRefusal.TheVariants.{Part, Memory as NoMemory, Disk as Failed}
use Rattle.file_store.specs.Stores.{superblock_of, Proceeds}
use Rattle.hsm_core.specs.Store.{Store, last_number, state_with, state_of, HasRun}
use Rattle.hsm_core.specs.Crashes.{IsSafe, IsSynced}
use Rattle.dm_service.specs.Services.{AreBoth, is_due, entries_for}
use Rattle.dm_service.specs.Tables.{Tables, ledger_of, awaited_in}
use Rattle.file_store.specs.Changes.{Ends}
use Rattle.hsm_core.specs.Targets.{EachLasts}
use Rattle.hsm_core.specs.Answers.{entry_of, memory_of, IsAnswer}
use Rattle.hsm_core.proofs.Lasting.{event_lasts}
use Rattle.hsm_core.proofs.Syncs.{fault_no_sync}
use Rattle.hsm_core.proofs.Runs.{formatted_as, true_false, HasRun-unkept, HasRun-kept}
use Rattle.hsm_core.proofs.Safety.{safe_within, safe_unkept, safe_kept, safe_faulted}

-- ---- an event by how it ended

-- an entry more raises the last number by one
counted : {D : Type 0} (s t : Store D) (e : Entry) → t.opened ≡ s.opened → t.history ≡ s.history ++ e ∷ [] → last_number t ≡ last_number s + 1
counted s t e opened history = rw (opened, history) (omega (arith, length-append s.history (e ∷ [])))

uncounted : {D : Type 0} (s t : Store D) → t.opened ≡ s.opened → t.history ≡ s.history → last_number t ≡ last_number s
uncounted s t opened history = rw (opened, history) refl

-- the store stays one, and has answered
abbrev pub IsNext : {D : Type 0} → disk.Ghosts D → Store D → Actor → Action → Answer → Store D → Type 0
IsNext g s actor action answer t = HasRun g t × IsSafe g t × IsAnswer g s actor action answer t

module _ {D : Type 0} (g : disk.Ghosts D) (s t : Store D) (has : HasRun g s) (safe : IsSafe g s) (working : s.files.failed ≡ false) (opened : t.opened ≡ s.opened) (proceeds : Proceeds g s.files (last_number s) t.files)
    (actor : Actor) (action : Action) (answer : Answer) where
  own_is_faultless : IsOwnSeen (Tells g t.files.disk) (superblock_of s.opened) (state_of s) actor action answer → is_fault answer ≡ false
  own_is_faultless is = own_faultless (superblock_of s.opened) (record (state_of s) { held = is.0 }) actor action answer is.2

  own_leaves : is_fault answer ≡ false → left_by (superblock_of s.opened) (state_of s) actor action answer ≡ left_answered (superblock_of s.opened) (state_of s) actor action answer
  own_leaves faultless = rw faultless refl

  done : IsOwnSeen (Tells g t.files.disk) (superblock_of s.opened) (state_of s) actor action answer → t.history ≡ s.history ++ entry_of actor action answer ∷ [] → state_of t ≡ left_answered (superblock_of s.opened) (state_of s) actor action answer → t.files.failed ≡ false
      → g.fault_count t.files.disk ≡ g.fault_count s.files.disk → (is_sync (entry_of actor action answer) ≡ true → IsSynced g (last_number s) s.files t.files) → IsNext g s actor action answer t
  done answered history leaves still quiet synced =
      let faultless = own_is_faultless answered in (
        HasRun-kept g s t has (last_number s) opened proceeds (entry_of actor action answer) working history (inr answered) (λ still. (faultless, leaves ∙ sym (own_leaves faultless)))
            (record { told = λ failed. true_false t.files.failed failed still; once = λ failed. true_false t.files.failed failed still; quiet = λ same. quiet }),
        safe_kept g s t has safe working opened proceeds (entry_of actor action answer) history still synced,
        inr (inr (inr (record {
          goes = record { opened = opened; working = working; proceeds = proceeds; within = safe_within g s has t safe working proceeds };
          answer = answered;
          history = history;
          leaves = leaves;
          still = still;
          quiet = quiet;
          synced = synced;
        }))),
      )

  lacking : answer ≡ memory_of action → t.history ≡ s.history → t.stamps ≡ s.stamps → t.tables ≡ s.tables → state_of t ≡ state_of s → t.files.failed ≡ false
      → g.fault_count t.files.disk ≡ g.fault_count s.files.disk → IsNext g s actor action answer t
  lacking answered history stamps tables state still quiet = (
    HasRun-unkept g s t has (last_number s) opened proceeds working history state still quiet,
    safe_unkept g s t has safe working opened proceeds history still,
    inr (inl (record {
      goes = record { opened = opened; working = working; proceeds = proceeds; within = safe_within g s has t safe working proceeds };
      answer = answered;
      history = history;
      stamps = stamps;
      tables = tables;
      state = state;
      still = still;
      quiet = quiet;
    })),
  )

  faulted : Acts actor action → answer ≡ fault_of action → t.history ≡ s.history ++ entry_of actor action (fault_of action) ∷ [] → t.stamps ≡ s.stamps → t.tables ≡ s.tables → t.files.failed ≡ true
      → RoseByOne (g.fault_count s.files.disk) (g.fault_count t.files.disk) → IsNext g s actor action answer t
  faulted acts answered history stamps tables failed once = (
    HasRun-kept g s t has (last_number s) opened proceeds (entry_of actor action (fault_of action)) working history (inl (acts, refl)) (λ still. true_false t.files.failed failed still)
        (record { told = λ closed. fault_is action; once = λ closed. once; quiet = λ still. true_false t.files.failed failed still }),
    safe_faulted g s t has safe working opened proceeds (entry_of actor action (fault_of action)) history (fault_no_sync action) failed,
    inr (inr (inl (record {
      goes = record { opened = opened; working = working; proceeds = proceeds; within = safe_within g s has t safe working proceeds };
      answer = answered;
      history = history;
      stamps = stamps;
      tables = tables;
      failed = failed;
      once = once;
    }))),
  )

-- ---- an event by its parts

-- What became of the parts in an event, over that superblock and that number, by its two replies, or by why it wasn't done. The store's own reply over
-- files that are seen is `own`, and `say` makes an answer of a reply.
pub record Becomes {D R : Type 0} (g : disk.Ghosts D) (super : Superblock) (n : ℕ) (s t : Store D) (actor : Actor) (action : Action) (say : R → Answer) (own : Held → R) (done : Result (R × R) MetaRefusal) : Type 0 where
  pub exact : (seen : Held) → say (own seen) ≡ answer_to super (state_with seen s.stamps s.tables n) actor action
  pub replies : IfOk done (λ r. IsOfSeen (Tells g t.files.disk) s.files.held (λ seen. AreBoth (own seen) r))
  pub leaves : IfOk done (λ r. state_with t.files.held t.stamps t.tables (n + 1) ≡ left_answered super (state_with s.files.held s.stamps s.tables n) actor action (say r.1))
  pub stamps : OnErr done (t.stamps ≡ s.stamps)
  pub tables : OnErr done (t.tables ≡ s.tables)
  pub synced : IfOk done (λ r. is_sync (entry_of actor action (say r.0)) ≡ true → IsSynced g n s.files t.files)
  pub ends : Ends g s.files n None done t.files

-- What is kept of it, and told.
pub record IsTakenDown {R : Type 0} (old : List Entry) (actor : Actor) (action : Action) (say : R → Answer) (done : Result (R × R) MetaRefusal) (reply : R) (new : List Entry) : Type 0 where
  pub kept : IfOk done (λ r. (reply ≡ r.0) × (new ≡ old ++ entry_of actor action (say r.1) ∷ []))
  pub memory : IsErrOf done NoMemory → (say reply ≡ memory_of action) × (new ≡ old)
  pub failed : IsErrOf done Failed → (say reply ≡ fault_of action) × (new ≡ old ++ entry_of actor action (fault_of action) ∷ [])

-- so there is at most one entry more
pub one_more : {R : Type 0} (old new : List Entry) (actor : Actor) (action : Action) (say : R → Answer) (d : Result (R × R) MetaRefusal) (reply : R) → ((why : DmRefusal) → IsErrOf d (Part why) → None ≡ Some why) → IsTakenDown old actor action say d reply new → length new ≤ length old + 1
one_more old new actor action say (Ok r) reply whole keeps = rw keeps.kept.1 (omega (arith, length-append old (entry_of actor action (say r.1) ∷ [])))
one_more old new actor action say (Err NoMemory) reply whole keeps = rw (keeps.memory refl).1 (omega arith)
one_more old new actor action say (Err Failed) reply whole keeps = rw (keeps.failed refl).1 (omega (arith, length-append old (entry_of actor action (fault_of action) ∷ [])))
one_more old new actor action say (Err (Part why)) reply whole keeps = let none = whole why refl in absurd cc

-- what is so of each value, whatever it is asked for
pub whenever : {T E : Type 0} (P : Type 0) (A : T → Type 0) (r : Result T E) → OnOk r P → IfOk r (λ x. A x → P)
whenever P A (Ok x) p = λ a. p
whenever P A (Err e) p = tt

-- what is so in any case
pub always : {T E P : Type 0} (r : Result T E) → P → OnOk r P × OnErr r P
always (Ok x) p = (p, tt)
always (Err e) p = (tt, p)

module _ {D R : Type 0} (g : disk.Ghosts D) (s t : Store D) (has : HasRun g s) (safe : IsSafe g s) (working : s.files.failed ≡ false) (opened : t.opened ≡ s.opened) (actor : Actor) (action : Action) (acts : Acts actor action) (say : R → Answer) (own : Held → R) (reply : R) where
  ended : (d : Result (R × R) MetaRefusal) → Becomes g (superblock_of s.opened) (last_number s) s t actor action say own d → IsTakenDown s.history actor action say d reply t.history → IsNext g s actor action (say reply) t
  ended (Ok r) became keeps =
      let seen = became.replies.0 in
      let both = became.replies.2 in
      let told : r.1 ≡ reply = both.1 ∙ sym both.0 ∙ sym keeps.kept.0 in
      let answer : say reply ≡ answer_to (superblock_of s.opened) (state_with seen s.stamps s.tables (last_number s)) actor action = ap say (keeps.kept.0 ∙ both.0) ∙ became.exact seen in
      let history : t.history ≡ s.history ++ entry_of actor action (say reply) ∷ [] = keeps.kept.1 ∙ ap (λ (x : R). s.history ++ entry_of actor action (say x) ∷ []) told in
      done g s t has safe working opened became.ends.proceeds actor action (say reply) (seen, became.replies.1, (acts, answer)) history
      (ap (state_with t.files.held t.stamps t.tables) (counted s t (entry_of actor action (say reply)) opened history) ∙ became.leaves ∙ ap (λ (x : R). left_answered (superblock_of s.opened) (state_of s) actor action (say x)) told)
      became.ends.working (became.ends.faults.counts.quiet (λ is. cc)) (λ syncs. became.synced (ap (λ (x : R). is_sync (entry_of actor action (say x))) (sym keeps.kept.0) ∙ syncs))
  ended (Err NoMemory) became keeps =
      lacking g s t has safe working opened became.ends.proceeds actor action (say reply) (keeps.memory refl).0 (keeps.memory refl).1 became.stamps became.tables
      (λ i. state_with ((became.ends.memory refl).0 i) (became.stamps i) (became.tables i) (uncounted s t opened (keeps.memory refl).1 i)) (became.ends.memory refl).1 (became.ends.faults.counts.quiet (λ is. cc))
  ended (Err Failed) became keeps = faulted g s t has safe working opened became.ends.proceeds actor action (say reply) acts (keeps.failed refl).0 (keeps.failed refl).1 became.stamps became.tables (became.ends.faults.closes refl) (became.ends.faults.counts.once refl)
  ended (Err (Part why)) became keeps = let none = became.ends.refused why refl in absurd cc

-- ---- an event of a store that was made ready for it

-- an event that was refused before it began. The answer says why
pub record IsRefused (action : Action) (why : MetaRefusal) (answer : Answer) : Type 0 where
  pub memory : why ≡ NoMemory → answer ≡ memory_of action
  pub failed : why ≡ Failed → answer ≡ fault_of action

module _ {D : Type 0} (g : disk.Ghosts D) (s : Store D) (has : HasRun g s) (safe : IsSafe g s) (stamps : List (FileKey × ℕ)) (history : List Entry) (stamped : stamps ≡ s.stamps) (noted : history ≡ s.history) where
  abbrev ready : Store D
  ready = record s { stamps = stamps; history = history }

  same : ready ≡ s
  same i = record s { stamps = stamped i; history = noted i }

  pub event : {R : Type 0} (t : Store D) → s.files.failed ≡ false → t.opened ≡ s.opened → (actor : Actor) (action : Action) → Acts actor action → (say : R → Answer) (own : Held → R) (reply : R) (n : ℕ) → n ≡ last_number ready → (d : Result (R × R) MetaRefusal)
      → Becomes g (superblock_of s.files) n ready t actor action say own d → IsTakenDown history actor action say d reply t.history → IsNext g s actor action (say reply) t
  event t working opened actor action acts say own reply n number d became keeps =
      let run : HasRun g ready = subst (λ (x : Store D). HasRun g x) (sym same) has in
      let formatted = subst (λ (x : Superblock). Becomes g x n ready t actor action say own d) (formatted_as ready run) became in
      let counted_on = subst (λ (m : ℕ). Becomes g (superblock_of s.opened) m ready t actor action say own d) number formatted in
      subst (λ (x : Store D). IsNext g x actor action (say reply) t) same
      (ended g ready t run (subst (λ (x : Store D). IsSafe g x) (sym same) safe) working opened actor action acts say own reply d counted_on keeps)

-- an event that was refused before it began, whatever the room that was made
module _ {D : Type 0} (g : disk.Ghosts D) (s : Store D) (has : HasRun g s) (safe : IsSafe g s) (stamps : List (FileKey × ℕ)) (history : List Entry) (spare : ℕ) (stamped : stamps ≡ s.stamps) (noted : history ≡ s.history) where
  abbrev untouched : Store D
  untouched = record s { stamps = stamps; history = history; spare = spare }

  unchanged : untouched ≡ record s { spare = spare }
  unchanged i = record s { stamps = stamped i; history = noted i; spare = spare }

  pub not_begun : (actor : Actor) (action : Action) (answer : Answer) (why : MetaRefusal) → (s.files.failed ≡ false → (n : ℕ) → Proceeds g s.files n s.files) → IsRefused action why answer
      → (why ≡ Failed) × (s.files.failed ≡ true) ⊎ (why ≡ NoMemory) × (s.files.failed ≡ false) → IsAnswer g s actor action answer untouched
  not_begun actor action answer why idle told (inl closed) = inl (record { failed = closed.1; answer = told.failed closed.0; same = unchanged })
  not_begun actor action answer why idle told (inr lacks) =
      subst (λ (x : Store D). IsAnswer g s actor action answer x) (sym unchanged)
      (lacking g s (record s { spare = spare }) has safe lacks.1 refl (idle lacks.1 (last_number s)) actor action answer (told.memory lacks.0) refl refl refl refl lacks.1 refl).2

-- calls that wait are such as before
pub lasting : {R : Type 0} (super opened : Superblock) → super ≡ opened → (h h' : Held) (stamps stamps' : List (FileKey × ℕ)) (n : ℕ) (t u : Tables) (actor : Actor) (action : Action) (say : R → Answer) (d : Result (R × R) MetaRefusal)
    → IfOk d (λ r. state_with h' stamps' u (n + 1) ≡ left_answered super (state_with h stamps t n) actor action (say r.1)) → OnErr d (u ≡ t) → EachLasts opened.geometry.limits (ledger_of t) → EachLasts opened.geometry.limits (ledger_of u)
lasting super opened formatted h h' stamps stamps' n t u actor action say (Ok r) left _ is =
    let before = subst (λ (s : Superblock). EachLasts s.geometry.limits (ledger_of t)) (sym formatted) is in
    let after = subst (EachLasts super.geometry.limits) (ap (λ (st : State). st.ledger) (sym left)) (event_lasts super (state_with h stamps t n) actor action (say r.1) before) in
    subst (λ (s : Superblock). EachLasts s.geometry.limits (ledger_of u)) formatted after
lasting super opened formatted h h' stamps stamps' n t u actor action say (Err why) left kept is = subst (λ (x : Tables). EachLasts opened.geometry.limits (ledger_of x)) (sym kept) is

-- for how much there is room
pub room_after : {T E : Type 0} (t u : Tables) (k : ℕ) (d : Result T E) → OnOk d (awaited_in u ≤ awaited_in t + k) → OnErr d (u ≡ t) → awaited_in u ≤ awaited_in t + k
room_after t u k (Ok x) fewer same = fewer
room_after t u k (Err e) fewer same = let equal : awaited_in u ≡ awaited_in t = ap awaited_in same in omega (arith, equal)

pub room_again : {T E : Type 0} (t u : Tables) (aborted : Bool) (d : Result T E) → OnOk d (awaited_in u + 1 ≤ awaited_in t + (if aborted then 0 else 2)) → OnErr d (u ≡ t) → (aborted ≡ true → IsOk d) → awaited_in u + 1 ≤ awaited_in t + (if aborted then 0 else 2)
room_again t u aborted (Ok x) fewer same ok = fewer
room_again t u true (Err e) fewer same ok = absurd (let wrong : false ≡ true = ok refl in cc wrong)
room_again t u false (Err e) fewer same ok = let equal : awaited_in u ≡ awaited_in t = ap awaited_in same in omega (arith, equal)

some_entry : (t : SessionTable) (sid : Sid) (call : DmCall) → (is_due t sid call ≡ true → ⊥) → 1 ≤ entries_for t sid call
some_entry t sid (CreateUserEvent body) wrong = omega arith
some_entry t sid (Respond token response) wrong = undue (is_due t sid (Respond token response)) wrong
  where
    undue : (due : Bool) → (due ≡ true → ⊥) → 1 ≤ (if due then 0 else 1)
    undue true wrong = absurd (wrong refl)
    undue false wrong = omega arith
some_entry t sid GetSpace wrong = omega arith
some_entry t sid call wrong = omega arith

pub room_served : {T E : Type 0} (t u : Tables) (sid : Sid) (call : DmCall) (d : Result T E) → OnOk d (awaited_in u + 1 ≤ awaited_in t + entries_for t.sessions sid call) → OnErr d (u ≡ t) → (is_due t.sessions sid call ≡ true → IsOk d)
    → awaited_in u + 1 ≤ awaited_in t + entries_for t.sessions sid call
room_served t u sid call (Ok x) fewer same ok = fewer
room_served t u sid call (Err e) fewer same ok =
    let equal : awaited_in u ≡ awaited_in t = ap awaited_in same in
    let some = some_entry t.sessions sid call (λ due. let wrong : false ≡ true = ok due in cc wrong) in
    omega (arith, equal, some)

-- a reply that is known whatever is seen, where the event was answered
pub told_done : {R E : Type 0} (Told : Type 0) (P : R × R → Type 0) (d : Result (R × R) E) (h : Held) (own : Held → R) (told known : R) → IsOk d → IfOk d (λ r. IsOfSeen Told h (λ seen. AreBoth (own seen) r)) → IfOk d (λ r. (told ≡ r.0) × P r)
    → ((seen : Held) → IsSeen Told h seen → own seen ≡ known) → told ≡ known
told_done Told P (Ok r) h own told known ok of kept is = kept.0 ∙ of.2.0 ∙ is of.0 of.1
told_done Told P (Err e) h own told known ok of kept is = absurd (let wrong : false ≡ true = ok in cc wrong)
