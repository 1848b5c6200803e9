-- A daemon's round ends: each of its steps adds an event, or tells of a copy or a fetch behind which there is an event, or is its rest.
use Rattle.std.proofs.Common.{◌≡◌, ◌≢◌, ◌∙◌, ◌∷◌, ◌++◌, ◌+◌, ◌-◌, ◌*◌, ◌^◌, ◌<◌, ◌≤◌, [], ℕ, Bool, true, false, List, length, Option, Some, None}
use Rattle.std.proofs.Common.{Result, Ok, Err, inl, inr, refl, sym, ap, ap₂, subst, append-nil, length-append, arith, IfSome, drop}
use Rattle.std.specs.List.{list_all}
use Rattle.disk_model.specs.declared.device.Disk as disk
use Rattle.media_model.specs.declared.drive.Drive as drive
use Rattle.hsm_types.specs.declared.daemons.Act.{Act}
use Rattle.hsm_types.specs.declared.daemons.Act.TheVariants.{Dm, Copy, Fetch, Idle}
use Rattle.hsm_types.specs.declared.daemons.Daemon.{Daemon}
use Rattle.hsm_types.specs.declared.daemons.Daemon.TheVariants.{Recall, Migrate}
use Rattle.hsm_types.specs.declared.daemons.Heard.{Heard}
use Rattle.hsm_types.specs.declared.daemons.Heard.TheVariants as heard
use Rattle.hsm_types.specs.declared.media.FetchRefusal.{FetchRefusal}
use Rattle.hsm_types.specs.declared.media.FetchRefusal.TheVariants as fetching
use Rattle.hsm_types.specs.declared.keys.Sid.{Sid}
use Rattle.hsm_types.specs.declared.dm.DmCall.{DmCall}
use Rattle.hsm_types.specs.declared.stubs.StubEntry.{StubEntry}
use Rattle.plain_model.specs.declared.entries.Action.TheVariants as action
use Rattle.plain_model.specs.declared.entries.Actor.TheVariants.{Session}
use Rattle.plain_model.specs.declared.entries.Answer.TheVariants as answer
use Rattle.plain_model.specs.declared.entries.Entry.{Entry}
use Rattle.hsm_core.specs.Answers.{entry_of}
use Rattle.recall_daemon.specs.Known as recall
use Rattle.recall_daemon.specs.Machine as recaller
use Rattle.migrate_daemon.specs.Known as migrate
use Rattle.migrate_daemon.specs.Machine as migrator
use Rattle.hsm_system.specs.Running.{Recalling, Migrating}
use Rattle.hsm_replay.specs.Acts.{Performs}
use Rattle.hsm_system.specs.Systems.{System, IsDown, Rests}
use Rattle.marked_history.specs.Quiet.{is_quiet}
use Rattle.hsm_replay.specs.Steps.{Steps}
use Rattle.hsm_replay.specs.Systems.{Run, told_next}
use Rattle.hsm_replay.proofs.ActSteps.{recall_waits, migrate_waits, recall_left, migrate_left, recall_acts, migrate_acts}
use Rattle.hsm_replay.proofs.ActSteps.{recall_behind_call, recall_behind_fetch, migrate_behind_call, migrate_behind_copy}

abbrev pub is_idle : Act → Bool
is_idle Idle = true
is_idle (Dm sid asked) = false
is_idle (Copy volume handle segment bytes) = false
is_idle (Fetch entry) = false

-- it has just heard what came of a fetch
abbrev pub is_told : Act → Heard → Bool
is_told (Fetch entry) (heard.Fetched (Ok bytes)) = true
is_told (Fetch entry) (heard.Fetched (Err (fetching.Media fault))) = true
is_told (Fetch entry) (heard.Fetched (Err (fetching.NoObject volume object))) = true
is_told asked told = false

-- or of a copy
abbrev pub is_copy : Act → Bool
is_copy (Copy volume handle segment bytes) = true
is_copy act = false

abbrev pub number : Bool → ℕ
number true = 1
number false = 0

-- less is left the more entries there are
abbrev pub left_of : ℕ → Bool → Bool → ℕ
left_of entries waits idle = 2 * (2 ^ 66 - (2 * entries + number waits)) + (1 - number idle)

few : (b : Bool) → number b ≤ 1
few true = omega arith
few false = omega arith

-- an event more
by_event : (entries : ℕ) (waits idle : Bool) → entries < 2 ^ 64 → left_of (entries + 1) false idle < left_of entries waits false
by_event entries waits idle short = omega (arith, short, few waits, few idle)

-- a copy or a fetch, behind an event
by_media : (entries : ℕ) (idle : Bool) → entries < 2 ^ 64 → left_of entries true idle < left_of entries false false
by_media entries idle short = omega (arith, short, few idle)

-- a rest
by_rest : (entries : ℕ) → left_of entries false true < left_of entries false false
by_rest entries = omega (arith)

-- ---- what is left of a daemon's round

abbrev pub recall_round : {D M : Type 0} → Run D M → Option Recalling → ℕ
recall_round s None = 0
recall_round s (Some r) = left_of (length s.system.store.history) (is_told r.machine.asked (told_next r.next)) (is_idle r.machine.asked)

abbrev pub migrate_round : {D M : Type 0} → Run D M → Option Migrating → ℕ
migrate_round s None = 0
migrate_round s (Some m) = left_of (length s.system.store.history) (is_copy m.machine.asked) (is_idle m.machine.asked)

abbrev pub round_left : {D M : Type 0} → Daemon → Run D M → ℕ
round_left Recall s = recall_round s s.system.recall
round_left Migrate s = migrate_round s s.system.migrate

-- ---- acts

awake : (asked : Act) → (asked ≡ Idle → ⊥) → is_idle asked ≡ false
awake Idle stays = absurd (stays refl)
awake (Dm sid asked) stays = refl
awake (Copy volume handle segment bytes) stays = refl
awake (Fetch entry) stays = refl

-- a fetch that told something isn't made again
calm : (asked : Act) (told : Heard) → recall.IsCalm asked told → is_told asked told ≡ false
calm (Fetch entry) (heard.Fetched (Ok bytes)) is = absurd is
calm (Fetch entry) (heard.Fetched (Err (fetching.Media fault))) is = absurd is
calm (Fetch entry) (heard.Fetched (Err (fetching.NoObject volume object))) is = absurd is
calm (Fetch entry) (heard.Fetched (Err fetching.Memory)) is = refl
calm (Fetch entry) heard.Nothing is = refl
calm (Fetch entry) (heard.Dm reply) is = refl
calm (Fetch entry) (heard.Copied copied) is = refl
calm (Dm sid asked) told is = refl
calm (Copy volume handle segment bytes) told is = refl
calm Idle told is = refl

told_now : (entry : StubEntry) (fetched : Result (List ℕ) FetchRefusal) → fetched ≢ Err fetching.Memory → is_told (Fetch entry) (heard.Fetched fetched) ≡ true
told_now entry (Ok bytes) some = refl
told_now entry (Err (fetching.Media fault)) some = refl
told_now entry (Err (fetching.NoObject volume object)) some = refl
told_now entry (Err fetching.Memory) some = absurd (some refl)

-- after a call
called : (asked : Act) (told : Heard) (sid : Sid) (c : DmCall) → asked ≡ Dm sid c → is_told asked told ≡ false
called asked told sid c is = rw is refl

called_no_copy : (asked : Act) (sid : Sid) (c : DmCall) → asked ≡ Dm sid c → is_copy asked ≡ false
called_no_copy asked sid c is = rw is refl

-- it asked for events, or for a session, when it rests
rested : (k : recall.Known) (asked : Act) (told : Heard) → recall.MayRest k asked told → is_told asked told ≡ false
rested k asked told (inl all) = called asked told all.0.0 _ all.0.1
rested k asked told (inr refused) = called asked told _ _ refused.3

rested_no_copy : (limits : _) (k : _) (pass : _) (asked : Act) (told : Heard) → migrator.MayRest limits k pass asked told → is_copy asked ≡ false
rested_no_copy limits k pass (Dm sid c) told may = refl
rested_no_copy limits k pass (Fetch entry) told may = refl
rested_no_copy limits k pass Idle told may = refl
rested_no_copy limits k pass (Copy volume handle segment bytes) told (inl all) = absurd all.0
rested_no_copy limits k pass (Copy volume handle segment bytes) told (inr refused) = let wrong : Copy volume handle segment bytes ≡ Dm _ _ = refused.3 in cc wrong

drop_all : (xs : List Entry) → drop (length xs) xs ≡ []
drop_all [] = refl
drop_all (x ∷ xs) = drop_all xs

module _ {D M : Type 0} (g : disk.Ghosts D) (h : drive.Ghosts M) where
  one_longer : (a b : List Entry) (e : Entry) → b ≡ a ++ e ∷ [] → length b ≡ length a + 1
  one_longer a b e is = ap (λ (x : List Entry). length x) is ∙ length-append a (e ∷ [])

  -- ---- recall

  module _ (old : Run D M) (r : Recalling) (machine : recaller.Machine) (runs : old.system.recall ≡ Some r) (short : length old.system.store.history < 2 ^ 64) (stays : r.machine.asked ≡ Idle → ⊥) (new : Run D M) where
    recall_before : round_left Recall old ≡ left_of (length old.system.store.history) (is_told r.machine.asked (told_next r.next)) false
    recall_before = ap (λ (o : Option Recalling). recall_round old o) runs ∙ ap (λ (b : Bool). left_of (length old.system.store.history) (is_told r.machine.asked (told_next r.next)) b) (awake r.machine.asked stays)

    recall_nears : (act : Act) → recaller.StepsOn r.machine (told_next r.next) act machine → Performs g h Recall (recall_waits old machine act) act new → round_left Recall new < round_left Recall old
    recall_nears (Dm sid c) goes performs =
        let left : System D = performs.0.1 in
        let serves = performs.0.2 in
        let is = recall_behind_call g h old new machine sid c performs in
        let longer : length left.store.history ≡ length old.system.store.history + 1 = one_longer old.system.store.history left.store.history (entry_of (Session sid) (action.Dm c) (answer.Dm performs.0.0)) serves.added in
        let now : round_left Recall new ≡ left_of (length old.system.store.history + 1) false (is_idle machine.asked) = ap (λ (s : Run D M). round_left Recall s) is ∙ ap₂ (λ (n : ℕ) (b : Bool). left_of n b (is_idle machine.asked)) longer (called machine.asked (heard.Dm performs.0.0) sid c goes.asked) in
        rw (now, recall_before) (by_event (length old.system.store.history) (is_told r.machine.asked (told_next r.next)) (is_idle machine.asked) short)
    recall_nears (Copy volume handle segment bytes) goes performs = absurd goes.may
    recall_nears (Fetch entry) goes performs =
        let is = recall_behind_fetch g h old new machine entry performs in
        let hears : is_told machine.asked (heard.Fetched performs.0) ≡ true = rw goes.asked (told_now entry performs.0 performs.1) in
        let now : round_left Recall new ≡ left_of (length old.system.store.history) true (is_idle machine.asked) = ap (λ (s : Run D M). round_left Recall s) is ∙ ap (λ (b : Bool). left_of (length old.system.store.history) b (is_idle machine.asked)) hears in
        let then : round_left Recall old ≡ left_of (length old.system.store.history) false false = recall_before ∙ ap (λ (b : Bool). left_of (length old.system.store.history) b false) (calm r.machine.asked (told_next r.next) goes.may.0) in
        rw (now, then) (by_media (length old.system.store.history) (is_idle machine.asked) short)
    recall_nears Idle goes performs =
        let is : new ≡ recall_left old machine heard.Nothing old.system.store old.drives = performs in
        let now : round_left Recall new ≡ left_of (length old.system.store.history) false true = ap (λ (s : Run D M). round_left Recall s) is ∙ rw goes.asked refl in
        let then : round_left Recall old ≡ left_of (length old.system.store.history) false false = recall_before ∙ ap (λ (b : Bool). left_of (length old.system.store.history) b false) (rested (recall.knows_by r.machine.known r.machine.asked (told_next r.next)) r.machine.asked (told_next r.next) goes.may) in
        rw (now, then) (by_rest (length old.system.store.history))

  -- ---- migration

  module _ (old : Run D M) (m : Migrating) (machine : migrator.Machine) (runs : old.system.migrate ≡ Some m) (short : length old.system.store.history < 2 ^ 64) (stays : m.machine.asked ≡ Idle → ⊥) (new : Run D M) where
    migrate_before : round_left Migrate old ≡ left_of (length old.system.store.history) (is_copy m.machine.asked) false
    migrate_before = ap (λ (o : Option Migrating). migrate_round old o) runs ∙ ap (λ (b : Bool). left_of (length old.system.store.history) (is_copy m.machine.asked) b) (awake m.machine.asked stays)

    migrate_nears : (act : Act) → migrator.StepsOn m.machine (told_next m.next) act machine → Performs g h Migrate (migrate_waits old machine act) act new → round_left Migrate new < round_left Migrate old
    migrate_nears (Dm sid c) goes performs =
        let left : System D = performs.0.1 in
        let serves = performs.0.2 in
        let is = migrate_behind_call g h old new machine sid c performs in
        let longer : length left.store.history ≡ length old.system.store.history + 1 = one_longer old.system.store.history left.store.history (entry_of (Session sid) (action.Dm c) (answer.Dm performs.0.0)) serves.added in
        let now : round_left Migrate new ≡ left_of (length old.system.store.history + 1) false (is_idle machine.asked) = ap (λ (s : Run D M). round_left Migrate s) is ∙ ap₂ (λ (n : ℕ) (b : Bool). left_of n b (is_idle machine.asked)) longer (called_no_copy machine.asked sid c goes.asked) in
        rw (now, migrate_before) (by_event (length old.system.store.history) (is_copy m.machine.asked) (is_idle machine.asked) short)
    migrate_nears (Copy volume handle segment bytes) goes performs =
        let is = migrate_behind_copy g h old new machine volume handle segment bytes performs in
        let read : m.machine.asked ≡ Dm _ _ = goes.may.2.2 in
        let now : round_left Migrate new ≡ left_of (length old.system.store.history) true (is_idle machine.asked) = ap (λ (s : Run D M). round_left Migrate s) is ∙ ap (λ (a : Act). left_of (length old.system.store.history) (is_copy a) (is_idle machine.asked)) goes.asked in
        let then : round_left Migrate old ≡ left_of (length old.system.store.history) false false = migrate_before ∙ ap (λ (b : Bool). left_of (length old.system.store.history) b false) (called_no_copy m.machine.asked _ _ read) in
        rw (now, then) (by_media (length old.system.store.history) (is_idle machine.asked) short)
    migrate_nears (Fetch entry) goes performs = absurd goes.may
    migrate_nears Idle goes performs =
        let is : new ≡ migrate_left old machine heard.Nothing old.system.store old.drives = performs in
        let now : round_left Migrate new ≡ left_of (length old.system.store.history) false true = ap (λ (s : Run D M). round_left Migrate s) is ∙ ap (λ (a : Act). left_of (length old.system.store.history) (is_copy a) (is_idle a)) goes.asked in
        let then : round_left Migrate old ≡ left_of (length old.system.store.history) false false = migrate_before ∙ ap (λ (b : Bool). left_of (length old.system.store.history) b false) (rested_no_copy m.machine.limits (migrate.knows_by m.machine.limits m.machine.known m.machine.asked (told_next m.next)) machine.pass m.machine.asked (told_next m.next) goes.may) in
        rw (now, then) (by_rest (length old.system.store.history))

  -- ---- a step

  down_rests : (daemon : Daemon) (s : System D) → IsDown daemon s → Rests daemon s
  down_rests Recall s down = subst (λ (o : Option Recalling). IfSome o (λ (r : Recalling). r.machine.asked ≡ Idle)) (sym down) tt
  down_rests Migrate s down = subst (λ (o : Option Migrating). IfSome o (λ (m : Migrating). m.machine.asked ≡ Idle)) (sym down) tt

  -- less is left after a step of a daemon that doesn't rest
  pub step_nears : (daemon : Daemon) (old new : Run D M) → length old.system.store.history < 2 ^ 64 → (Rests daemon old.system → ⊥) → Steps g h daemon old new → round_left daemon new < round_left daemon old
  step_nears daemon old new short works (inl down) = absurd (works (down_rests daemon old.system down.0))
  step_nears Recall old new short works (inr acts) =
      let by = recall_acts g h old new acts in
      let stays : by.before.machine.asked ≡ Idle → ⊥ = λ idle. works (subst (λ (o : Option Recalling). IfSome o (λ (r : Recalling). r.machine.asked ≡ Idle)) (sym by.runs) idle) in
      recall_nears old by.before by.machine by.runs short stays new by.act by.goes by.performs
  step_nears Migrate old new short works (inr acts) =
      let by = migrate_acts g h old new acts in
      let stays : by.before.machine.asked ≡ Idle → ⊥ = λ idle. works (subst (λ (o : Option Migrating). IfSome o (λ (m : Migrating). m.machine.asked ≡ Idle)) (sym by.runs) idle) in
      migrate_nears old by.before by.machine by.runs short stays new by.act by.goes by.performs

  -- ---- a round of settling

  -- a round with an event that isn't quiet has an event
  pub some_event : (old new : List Entry) (more : List Entry) → new ≡ old ++ more → list_all is_quiet (drop (length old) new) ≡ false → length old < length new
  some_event old new [] is loud = let quiet : list_all is_quiet (drop (length old) new) ≡ true = ap (λ (x : List Entry). list_all is_quiet (drop (length old) x)) (is ∙ append-nil old) ∙ ap (λ (x : List Entry). list_all is_quiet x) (drop_all old) in let wrong : true ≡ false = sym quiet ∙ loud in cc wrong
  some_event old new (e ∷ more) is loud = let longer : length new ≡ length old + length (e ∷ more) = ap (λ (x : List Entry). length x) is ∙ length-append old (e ∷ more) in omega (arith, longer)
