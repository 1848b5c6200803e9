-- Which deeds the calls of a run do, and what each leaves of its store.
use Rattle.std.proofs.Common.{◌≡◌, ◌≢◌, ◌∙◌, ◌∷◌, ◌++◌, [], Bool, true, false, List, Option, Some, None, option_map, Result, Ok, Err, OnOk, inl, inr}
use Rattle.std.proofs.Common.{refl, sym, ap, subst}
use Rattle.std.specs.Prelude.{◌↔◌, IfErr, IfSome, IsTrue, is_some}
use Rattle.std.specs.Option.{option_or}
use Rattle.std.proofs.lemmas.List.Elements.{All-from_recursion}
use Rattle.disk_model.specs.Moments.{Tells}
use Rattle.disk_model.specs.declared.device.Disk as disk
use Rattle.hsm_types.specs.declared.daemons.Act.{Act}
use Rattle.hsm_types.specs.declared.daemons.Act.TheVariants as act
use Rattle.hsm_types.specs.declared.daemons.Daemon.{Daemon}
use Rattle.hsm_types.specs.declared.daemons.Daemon.TheVariants.{Recall, Migrate}
use Rattle.hsm_types.specs.declared.daemons.Heard.{Heard}
use Rattle.hsm_types.specs.declared.daemons.Heard.TheVariants as heard
use Rattle.hsm_types.specs.declared.daemons.Heard.TheVariants.{Nothing}
use Rattle.hsm_types.specs.declared.dm.DmCall.{DmCall}
use Rattle.hsm_types.specs.declared.keys.Sid.{Sid}
use Rattle.plain_model.specs.Exact.{IsOwnSeen}
use Rattle.plain_model.specs.Faults.{fault_of}
use Rattle.plain_model.specs.declared.entries.Action.{Action}
use Rattle.plain_model.specs.declared.entries.Actor.{Actor}
use Rattle.plain_model.specs.declared.entries.Answer.{Answer}
use Rattle.file_store.specs.Stores.{superblock_of}
use Rattle.hsm_core.specs.Answers.{IsAnswer, entry_of}
use Rattle.hsm_core.specs.Store.{Store, state_of}
use Rattle.deeds.specs.Deeds.{Deed, Enters, Gives, Hears, Breaks, Loses, NamesNoFault, IsRight}
use Rattle.deeds.specs.Lives.{hearing as living, Living}
use Rattle.hsm_system.specs.Acts.{Answers, KeepsStop, LacksMemory, MovesOn, StopsFor}
use Rattle.hsm_system.specs.Awaiting.{awaited_by, heard_next, heard_of}
use Rattle.hsm_system.specs.Events.{IsDone}
use Rattle.hsm_system.specs.Goes.{EndsBy, EndsIn, Goes, GoesBy, HearsOf, HearsReply}
use Rattle.hsm_system.specs.Lives.{living_of}
use Rattle.hsm_system.specs.Running.{AwaitsSuch, Recalling, Migrating, hears_next}
use Rattle.hsm_system.specs.Stops.{stop_answer}
use Rattle.hsm_system.specs.Systems.{System, Awaits, IsAwaited, Rests, hearing, started}
use Rattle.hsm_system.specs.declared.awaited.Awaited.{Awaited}
use Rattle.hsm_system.specs.declared.awaited.Outcome.{Outcome}
use Rattle.hsm_system.specs.declared.daemons.Running.{Running}
use Rattle.hsm_system.specs.declared.stops.Stop.{Stop}
use Rattle.hsm_system.specs.declared.stops.Stop.TheVariants as stop
use Rattle.hsm_system.proofs.AfterEvents.{event_goes}
use Rattle.hsm_system.proofs.Leading.{done_enters, goes_itself, goes_then, heard_store}
use Rattle.hsm_replay.specs.Stopped.{IsOnDrive}
use Rattle.hsm_threads.specs.Deeds.{entered}
use Rattle.hsm_threads.specs.Lots.{Lot, Tells as TellsOutcome}
use Rattle.hsm_threads.specs.Steps.{IsStepOf, called_by, closes, lacks, stop_of}
use Rattle.hsm_threads.specs.declared.steps.Asked.{Asked}
use Rattle.hsm_threads.specs.declared.steps.Asked.TheVariants as asked

-- where the run goes on it has answered itself
pub answers_itself : {D : Type 0} (g : disk.Ghosts D) (old : Store D) (actor : Actor) (asked : Action) (given : Answer) (new : Store D) → IsAnswer g old actor asked given new → ((why : Stop) → given ≢ stop_answer why asked)
    → IsOwnSeen (Tells g new.files.disk) (superblock_of old.opened) (state_of old) actor asked given
answers_itself g old actor asked given new (inl closed) goes = absurd (goes stop.Disk closed.answer)
answers_itself g old actor asked given new (inr (inl lacks)) goes = absurd (goes stop.Memory lacks.answer)
answers_itself g old actor asked given new (inr (inr (inl failed))) goes = absurd (goes stop.Disk failed.answer)
answers_itself g old actor asked given new (inr (inr (inr done))) goes = done.answer

-- ---- tests

pub untold_by : {P : Type 0} (b : Bool) → IsTrue b ↔ P → b ≡ false → P → ⊥
untold_by b same failed is = let wrong : true ≡ false = sym (same.1 is) ∙ failed in cc wrong

pub not_waiting : {P : Type 0} (b : Bool) → IsTrue b ↔ P → (P → ⊥) → b ≡ false
not_waiting true same none = absurd (none (same.0 refl))
not_waiting false same none = refl

pub no_stop : (o : Option Stop) → is_some o ≡ false → o ≡ None
no_stop None is = refl
no_stop (Some why) is = let wrong : true ≡ false = is in cc wrong

-- ---- deeds of one call

pub nothing_done : {D : Type 0} (old new : System D) (IsPart : List Deed → Type 0) → IsPart [] → new ≡ old → GoesBy IsPart old new
nothing_done old new IsPart is same = ([], is, subst (λ (s : System _). Goes [] old s) (sym same) (goes_itself old))

module _ {D : Type 0} (g : disk.Ghosts D) (actor : Actor) (asked : Action) (none : NamesNoFault asked) (old new : System D) (works : old.store.files.failed ≡ false) where
  broken_event : {T : Type 0} (result : Result T Stop) (done : IsDone g actor asked result old new) → done.given ≡ fault_of asked → EndsBy stop.Disk (Enters (entry_of actor asked (fault_of asked)) ∷ []) [] old new
      → Goes (Enters (entry_of actor asked done.given) ∷ []) old new
  broken_event result done is (inl told) = subst (λ (a : Answer). Goes (Enters (entry_of actor asked a) ∷ []) old new) (sym is) told.0
  broken_event result done is (inr untold) = let wrong : true ≡ false = sym untold.1.0 ∙ works in cc wrong

  -- its entry is the one that the history has
  entered_as : (given told : Answer) → new.store.history ≡ old.store.history ++ entry_of actor asked given ∷ [] → Goes (Enters (entry_of actor asked told) ∷ []) old new → Goes (Enters (entry_of actor asked given) ∷ []) old new
  entered_as given told kept goes = record {
    limits = goes.limits;
    leads = record { entries = kept; recall = goes.leads.recall; migrate = goes.leads.migrate; right = All-from_recursion IsRight (Enters (entry_of actor asked given) ∷ []) (none, tt) };
  }

  pub event_deeds : (result : Result (Unit {0}) Stop) (done : IsDone g actor asked result old new) → Goes (entered (stop_of result) (entry_of actor asked done.given)) old new
  event_deeds (Ok x) done =
      let one = (done_enters g actor asked none old new (Ok x) done).done in entered_as done.given one.1.0 done.kept (subst (λ (deeds : List Deed). Goes deeds old new) one.1.2 one.2)
  event_deeds (Err stop.Disk) done = broken_event (Err stop.Disk) done done.stops (done_enters g actor asked none old new (Err stop.Disk) done).stopped
  event_deeds (Err stop.Memory) done = (done_enters g actor asked none old new (Err stop.Memory) done).stopped.0

  closed_event : EndsBy stop.Disk (Enters (entry_of actor asked (fault_of asked)) ∷ []) [] old new → new.store.files.failed ≡ true
  closed_event (inl told) = told.1.1
  closed_event (inr untold) = let wrong : true ≡ false = sym untold.1.0 ∙ works in cc wrong

  pub event_closed : (result : Result (Unit {0}) Stop) → IsDone g actor asked result old new → new.store.files.failed ≡ closes (stop_of result)
  event_closed (Ok x) done = done.runs.works works
  event_closed (Err stop.Disk) done = closed_event (done_enters g actor asked none old new (Err stop.Disk) done).stopped
  event_closed (Err stop.Memory) done = done.runs.works works

-- ---- a daemon's step

module _ {D : Type 0} (daemon : Daemon) (old new : System D) where
  abbrev Begins : Act → Result Asked Stop → Type 0
  Begins given result = GoesBy (λ (rest : List Deed). IsStepOf daemon result (Gives daemon given ∷ rest)) old new

  module _ (sid : Sid) (call : DmCall) (works : old.store.files.failed ≡ false) where
    stopped_comes : (why : Stop) → EndsIn daemon sid call why old new → Begins (act.Dm sid call) (Err why)
    stopped_comes stop.Disk (inl broke) = (Breaks daemon sid call ∷ [], (sid, call, refl), broke.0)
    stopped_comes stop.Disk (inr closed) = let wrong : true ≡ false = sym closed.1.0 ∙ works in cc wrong
    stopped_comes stop.Memory lacks = (Loses daemon ∷ [], inl (sid, call, refl), lacks.0)

    pub call_comes : (result : Result (Unit {0}) Stop) → OnOk result (HearsReply daemon sid call old new) → IfErr result (λ why. EndsIn daemon sid call why old new) → Begins (act.Dm sid call) (called_by result)
    call_comes (Ok tt) hears ends = (Hears daemon (act.Dm sid call) (heard.Dm hears.0) ∷ [], (sid, call, hears.0, refl), hears.1)
    call_comes (Err why) hears ends = stopped_comes why ends

  pub rest_comes : Goes (Hears daemon act.Idle Nothing ∷ []) old new → Begins act.Idle (Ok asked.Rests)
  rest_comes goes = (Hears daemon act.Idle Nothing ∷ [], refl, goes)

  pub left_comes : (given : Act) → IsOnDrive given → new ≡ old → Begins given (Ok (asked.Performs given))
  left_comes given is same = nothing_done old new (λ (rest : List Deed). IsStepOf daemon (Ok (asked.Performs given)) (Gives daemon given ∷ rest)) (is, refl) same

  pub lacked_step : (why : Stop) → why ≡ stop.Memory → Goes (Loses daemon ∷ []) old new → GoesBy (IsStepOf daemon (Err why)) old new
  lacked_step stop.Memory is goes = (Loses daemon ∷ [], inr refl, goes)
  lacked_step stop.Disk is goes = let wrong : stop.Disk ≡ stop.Memory = is in cc wrong

  pub begun_step : (result : Result Asked Stop) (given : Act) (mid : System D) → Goes (Gives daemon given ∷ []) old mid → GoesBy (λ (rest : List Deed). IsStepOf daemon result (Gives daemon given ∷ rest)) mid new → GoesBy (IsStepOf daemon result) old new
  begun_step result given mid first then = (Gives daemon given ∷ then.0, then.1, goes_then (Gives daemon given ∷ []) then.0 old mid new first then.2)

-- ---- what they leave of the store

pub started_store : {D : Type 0} (daemon : Daemon) (old new : System D) → new ≡ started daemon old → new.store ≡ old.store
started_store daemon old new is = ap (λ (s : System _). s.store) is ∙ same daemon
  where
    same : (d : Daemon) → (started d old).store ≡ old.store
    same Recall = refl
    same Migrate = refl

module _ {D : Type 0} (daemon : Daemon) (old new : System D) where
  pub moved_store : (asked : Act) → MovesOn daemon old asked new → new.store ≡ old.store
  moved_store asked is = moved daemon is
    where
      moved : (d : Daemon) → MovesOn d old asked new → new.store ≡ old.store
      moved Recall is = ap (λ (s : System D). s.store) is.6
      moved Migrate is = ap (λ (s : System D). s.store) is.6

  pub hears_store : (told : Heard) → new ≡ hearing daemon told old → new.store ≡ old.store
  hears_store told is = ap (λ (s : System D). s.store) is ∙ heard_store daemon told old

  pub may_hear_store : (told : Heard) (heard : Bool) → (heard ≡ true → new ≡ hearing daemon told old) → (heard ≡ false → new ≡ old) → new.store ≡ old.store
  may_hear_store told true taken dropped = hears_store told (taken refl)
  may_hear_store told false taken dropped = ap (λ (s : System D). s.store) (dropped refl)

  module _ (g : disk.Ghosts D) (sid : Sid) (call : DmCall) where
    pub called_opened : (result : Result (Unit {0}) Stop) → OnOk result (Answers g daemon sid call old new) → IfErr result (λ why. StopsFor g daemon sid call why old new) → new.store.opened ≡ old.store.opened
    called_opened (Ok tt) answers stops = ap (λ (s : Store D). s.opened) (ap (λ (s : System D). s.store) answers.3 ∙ heard_store daemon (heard.Dm answers.0) answers.1) ∙ (event_goes g old.store _ _ _ answers.1.store answers.2.made.told).opened
    called_opened (Err why) answers stops = ap (λ (s : Store D). s.opened) (ap (λ (s : System D). s.store) stops.2 ∙ heard_store daemon Nothing stops.0) ∙ (event_goes g old.store _ _ _ stops.0.store stops.1.made.told).opened

    -- it works on, unless the disk failed
    called_closed_by : (why : Stop) (left : System D) → KeepsStop sid call why old.store left.store → left.store.files.failed ≡ closes (Some why)
    called_closed_by stop.Disk left kept = kept.0
    called_closed_by stop.Memory left kept = kept.0

    pub called_closed : (result : Result (Unit {0}) Stop) → OnOk result (Answers g daemon sid call old new) → IfErr result (λ why. StopsFor g daemon sid call why old new) → new.store.files.failed ≡ closes (stop_of result)
    called_closed (Ok tt) answers stops = ap (λ (s : Store D). s.files.failed) (ap (λ (s : System D). s.store) answers.3 ∙ heard_store daemon (heard.Dm answers.0) answers.1) ∙ answers.2.still
    called_closed (Err why) answers stops = ap (λ (s : Store D). s.files.failed) (ap (λ (s : System D). s.store) stops.2 ∙ heard_store daemon Nothing stops.0) ∙ called_closed_by why stops.0 stops.1.kept

-- A machine without memory leaves the store.
pub lacked_store : {D : Type 0} (daemon : Daemon) (old new : System D) (why : Stop) → LacksMemory daemon old why new → new.store ≡ old.store
lacked_store daemon old new why is = ap (λ (s : System _). s.store) is.loses ∙ heard_store daemon Nothing old

pub lacked_open : {D : Type 0} (daemon : Daemon) (old new : System D) (why : Stop) → LacksMemory daemon old why new → old.store.files.failed ≡ false → new.store.files.failed ≡ closes (Some why)
lacked_open daemon old new why is works = ap (λ (s : Store _). s.files.failed) (lacked_store daemon old new why is) ∙ works ∙ ap (λ (w : Stop). closes (Some w)) (sym is.lacks)

pub lacked_closed : (why : Option Stop) → closes (option_or why (Some stop.Memory)) ≡ closes why
lacked_closed None = refl
lacked_closed (Some stop.Disk) = refl
lacked_closed (Some stop.Memory) = refl

pub lacked_lacks : (why : Option Stop) → lacks (option_or why (Some stop.Memory)) ≡ false → lacks why ≡ false
lacked_lacks None is = refl
lacked_lacks (Some why) is = is

pub lacked_stop : (why : Option Stop) → option_or why (Some stop.Memory) ≡ None → ⊥
lacked_stop None is = let wrong : Some stop.Memory ≡ None = is in cc wrong
lacked_stop (Some why) is = let wrong : Some why ≡ None = is in cc wrong

-- ---- what a daemon came to

module _ {D : Type 0} where
  rests_now : (daemon : Daemon) (s : System D) → Awaits daemon act.Idle s → Rests daemon s
  rests_now Recall s is = at s.recall is.1
    where
      at : (o : Option Recalling) → o ≡ Some is.0 → IfSome o (λ (r : Recalling). r.machine.asked ≡ act.Idle)
      at o same = subst (λ (o : Option Recalling). IfSome o (λ (r : Recalling). r.machine.asked ≡ act.Idle)) (sym same) is.3
  rests_now Migrate s is = at s.migrate is.1
    where
      at : (o : Option Migrating) → o ≡ Some is.0 → IfSome o (λ (r : Migrating). r.machine.asked ≡ act.Idle)
      at o same = subst (λ (o : Option Migrating). IfSome o (λ (r : Migrating). r.machine.asked ≡ act.Idle)) (sym same) is.3

  rests_hearing : (daemon : Daemon) (s : System D) (told : Heard) → Rests daemon s → Rests daemon (hearing daemon told s)
  rests_hearing Recall s told is = at s.recall is
    where
      at : (o : Option Recalling) → IfSome o (λ (r : Recalling). r.machine.asked ≡ act.Idle) → IfSome (option_map (hears_next told) o) (λ (r : Recalling). r.machine.asked ≡ act.Idle)
      at None is = tt
      at (Some r) is = is
  rests_hearing Migrate s told is = at s.migrate is
    where
      at : (o : Option Migrating) → IfSome o (λ (r : Migrating). r.machine.asked ≡ act.Idle) → IfSome (option_map (hears_next told) o) (λ (r : Migrating). r.machine.asked ≡ act.Idle)
      at None is = tt
      at (Some r) is = is

  -- it has given a rest, and rests
  pub rests_on : (daemon : Daemon) (old new : System D) (taken : Bool) → Awaits daemon act.Idle old → (taken ≡ true → new ≡ hearing daemon Nothing old) → (taken ≡ false → new ≡ old) → Rests daemon new
  rests_on daemon old new true awaits hears same = subst (λ (s : System D). Rests daemon s) (sym (hears refl)) (rests_hearing daemon old Nothing (rests_now daemon old awaits))
  rests_on daemon old new false awaits hears same = subst (λ (s : System D). Rests daemon s) (sym (same refl)) (rests_now daemon old awaits)

pub called_stop : (result : Result (Unit {0}) Stop) → stop_of (called_by result) ≡ stop_of result
called_stop (Ok x) = refl
called_stop (Err why) = refl

-- ---- what it is told

-- one that waits hears nothing yet
waits_silent : {M : Type 0} (o : Option (Running M)) (awaited : Awaited) (told : Heard) → AwaitsSuch awaited o → option_map living_of (option_map (hears_next told) o) ≡ option_map living_of o → ⊥
waits_silent {M = M} o awaited told waits same =
    let r : Running M = waits.0 in
    let at : Some (living r.machine (Some told)) ≡ Some (living r.machine (heard_next r.next)) = subst (λ (x : Option (Running M)). option_map living_of (option_map (hears_next told) x) ≡ option_map living_of x) waits.1 same in
    let heard : Some told ≡ heard_next r.next = hears_alike (living r.machine (Some told)) (living r.machine (heard_next r.next)) at in
    let wrong : Some told ≡ None = heard ∙ ap heard_next waits.2 in
    cc wrong
  where
    hears_alike : (x y : Living M) → Some x ≡ Some y → x.hears ≡ y.hears
    hears_alike x y is = let same : x ≡ y = cc is in ap (λ (z : Living M). z.hears) same

module _ {D : Type 0} where
  -- so hearing it is a deed
  hears_some : (daemon : Daemon) (outcome : Outcome) (old new : System D) → IsAwaited daemon outcome old → new ≡ hearing daemon (heard_of outcome) old → Goes [] old new → ⊥
  hears_some Recall outcome old new waits is goes = waits_silent old.recall (awaited_by outcome) (heard_of outcome) waits (ap (λ (s : System D). option_map living_of s.recall) (sym is) ∙ goes.leads.recall)
  hears_some Migrate outcome old new waits is goes = waits_silent old.migrate (awaited_by outcome) (heard_of outcome) waits (ap (λ (s : System D). option_map living_of s.migrate) (sym is) ∙ goes.leads.migrate)

  module _ (daemon : Daemon) (outcome : Outcome) (old : Lot D) (new : System D) where
    abbrev left : Lot D
    left = record old { system = new }

    hears_one : IsAwaited daemon outcome old.system → new ≡ hearing daemon (heard_of outcome) old.system → GoesBy (HearsOf daemon outcome) old.system new → TellsOutcome daemon outcome true old left
    hears_one waits is goes = by goes.1
      where
        by : HearsOf daemon outcome goes.0 → TellsOutcome daemon outcome true old left
        by (inl none) = absurd (hears_some daemon outcome old.system new waits is (subst (λ (deeds : List Deed). Goes deeds old.system new) none goes.2))
        by (inr one) = (one.0, one.1, subst (λ (deeds : List Deed). Goes deeds old.system new) one.2 goes.2, ap (λ (s : System D). record old { system = s }) is)

    pub tells_outcome : (told : Bool) → IsTrue told ↔ IsAwaited daemon outcome old.system → (told ≡ true → new ≡ hearing daemon (heard_of outcome) old.system) → (told ≡ false → new ≡ old.system) → GoesBy (HearsOf daemon outcome) old.system new
        → TellsOutcome daemon outcome told old left
    tells_outcome true awaited taken dropped goes = hears_one (awaited.0 refl) (taken refl) goes
    tells_outcome false awaited taken dropped goes = ap (λ (s : System D). record old { system = s }) (dropped refl)
