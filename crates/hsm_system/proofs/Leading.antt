-- What each call of a system is by its deeds.
use Rattle.std.proofs.Common.{◌≡◌, ◌∙◌, ◌∷◌, ◌++◌, [], Bool, true, false, List, Option, Some, None, option_map, Result, Ok, Err, OnOk, OnErr, inl, inr}
use Rattle.std.proofs.Common.{refl, sym, ap, subst, append-nil}
use Rattle.std.proofs.lemmas.List.Elements.{All-from_recursion}
use Rattle.std.specs.List.{cons_option}
use Rattle.std.specs.Option.{option_or}
use Rattle.std.specs.Prelude.{IfOk, IfErr, IfSome, MatchOption}
use Rattle.disk_model.specs.declared.device.Disk as disk
use Rattle.hsm_types.specs.declared.daemons.Act.{Act}
use Rattle.hsm_types.specs.declared.daemons.Act.TheVariants as act
use Rattle.hsm_types.specs.declared.daemons.Daemon.{Daemon}
use Rattle.hsm_types.specs.declared.daemons.Daemon.TheVariants.{Recall, Migrate}
use Rattle.hsm_types.specs.declared.daemons.Heard.{Heard}
use Rattle.hsm_types.specs.declared.daemons.Heard.TheVariants as heard
use Rattle.hsm_types.specs.declared.daemons.Heard.TheVariants.{Nothing}
use Rattle.hsm_types.specs.declared.dm.DmCall.{DmCall}
use Rattle.hsm_types.specs.declared.keys.Sid.{Sid}
use Rattle.plain_model.specs.declared.entries.Action.{Action}
use Rattle.plain_model.specs.declared.entries.Action.TheVariants as action
use Rattle.plain_model.specs.declared.entries.Actor.{Actor}
use Rattle.plain_model.specs.declared.entries.Actor.TheVariants.{Session}
use Rattle.plain_model.specs.declared.entries.Answer.TheVariants as answer
use Rattle.plain_model.specs.Faults.{fault_of}
use Rattle.plain_model.specs.declared.entries.Entry.{Entry}
use Rattle.hsm_core.specs.Answers.{entry_of}
use Rattle.hsm_core.specs.Store.{Store}
use Rattle.hsm_policy.specs.Settings.{Numbers}
use Rattle.migrate_daemon.specs.Machine as migrate
use Rattle.deeds.specs.Deeds.{Deed, Enters, Starts, Kills, Refreshes, Gives, Hears, Breaks, Loses, entries_of, Fits, IsRight, NamesNoFault}
use Rattle.deeds.specs.Leads.{Leads, nothing_done}
use Rattle.deeds.specs.Lives.{hearing as living, Lives, life, untold, Workings, MovesTo, Move, Begins, Ends, Renews, Asks, Learns, Fails, Misses}
use Rattle.hsm_system.specs.Acts.{Answers, GivesNone, LacksMemory, MovesOn, StopsFor}
use Rattle.hsm_system.specs.Stops.{reply_of}
use Rattle.hsm_system.specs.Awaiting.{IsSo, awaited_by, awaited_of, heard_next, heard_of}
use Rattle.hsm_system.specs.Events.{IsDone}
use Rattle.hsm_system.specs.Goes.{EndsBy, EndsIn, EntersBy, HasClosed, StillWorks, WasClosed, Goes, GoesBy, HearsOf, HearsReply, Holds, LosesOf, situation_of}
use Rattle.hsm_system.specs.Lives.{recalls, migrates, living_of}
use Rattle.hsm_system.specs.Running.{Recalling, Migrating, AwaitsNow, WaitsNow, first_of, hears_next, untold_next}
use Rattle.hsm_system.specs.Systems.{System, Awaits, IsAwaited, IsDown, IsSystem, Waits, migrate_again, started, killed, refreshed, hearing}
use Rattle.hsm_system.specs.declared.awaited.Outcome.{Outcome}
use Rattle.hsm_system.specs.declared.daemons.Next.{Next}
use Rattle.hsm_system.specs.declared.daemons.Next.TheVariants.{Hears as HearsNext, Waits as WaitsOn}
use Rattle.hsm_system.specs.declared.daemons.Running.{Running}
use Rattle.hsm_system.specs.declared.stops.Stop.{Stop}
use Rattle.hsm_system.specs.declared.stops.Stop.TheVariants as stop
use Rattle.deeds.proofs.Leading.{leads_on}
use Rattle.hsm_system.proofs.Done.{session_stop}
use Rattle.hsm_system.proofs.AfterEvents.{StoreEnds, event_ends, event_served, event_works}
use Rattle.hsm_system.proofs.Outcomes.{outcome_fits}
use Rattle.hsm_system.proofs.Waiting.{awaits_one}

-- ---- one daemon, without its store

untold_once : (next : Next) → heard_next (untold_next next) ≡ option_map untold (heard_next next)
untold_once (HearsNext told) = refl
untold_once (WaitsOn awaited) = refl

module _ {M : Type 0} where
  runs_as : (o : Option (Running M)) (r : Running M) (heard : Option Heard) → o ≡ Some r → heard_next r.next ≡ heard → option_map living_of o ≡ Some (living r.machine heard)
  runs_as o r heard runs is = ap (λ (x : Option (Running M)). option_map living_of x) runs ∙ ap (λ (h : Option Heard). Some (living r.machine h)) is

  runs_one : (o : Option (Running M)) → (o ≡ None → ⊥) → (r : Running M) × (o ≡ Some r)
  runs_one None runs = absurd (runs refl)
  runs_one (Some r) runs = (r, refl)

  waits_up : (o : Option (Running M)) → WaitsNow o → o ≡ None → ⊥
  waits_up o waits down = let wrong : Some waits.0 ≡ None = sym waits.1 ∙ down in cc wrong

  module _ (w : Workings M) where
    abbrev To : Move → Option (Running M) → Option (Running M) → Type 0
    To move old new = MovesTo w move (option_map living_of old) (option_map living_of new)

    begins : (o : Option (Running M)) → To Begins o (option_or o (Some (first_of w.first)))
    begins None = refl
    begins (Some r) = refl

    asks : (act : Act) (o : Option (Running M)) (r : Running M) (told : Heard) (machine : M) → o ≡ Some r → r.next ≡ HearsNext told → w.StepsOn r.machine told act machine → To (Asks act) o (Some (record { machine = machine; next = WaitsOn (awaited_of act) }))
    asks act o r told machine runs hears goes = (r.machine, told, machine, runs_as o r (Some told) runs (ap heard_next hears), goes, refl)

    learns : (act : Act) (told : Heard) (o : Option (Running M)) → AwaitsNow w.asked act o → Fits act told → To (Learns act told) o (option_map (hears_next told) o)
    learns act told o awaits fits = (awaits.0.machine, runs_as o awaits.0 None awaits.1 awaits.2, awaits.3, fits, ap (λ (x : Option (Running M)). option_map living_of (option_map (hears_next told) x)) awaits.1)

    fails : (sid : Sid) (call : DmCall) (o : Option (Running M)) → AwaitsNow w.asked (act.Dm sid call) o → To (Fails sid call) o (option_map (hears_next Nothing) o)
    fails sid call o awaits = (awaits.0.machine, runs_as o awaits.0 None awaits.1 awaits.2, awaits.3, ap (λ (x : Option (Running M)). option_map living_of (option_map (hears_next Nothing) x)) awaits.1)

    misses : (o : Option (Running M)) → (o ≡ None → ⊥) → To Misses o (option_map (hears_next Nothing) o)
    misses o runs = let one = runs_one o runs in
        (living_of one.0, ap (λ (x : Option (Running M)). option_map living_of x) one.1, ap (λ (x : Option (Running M)). option_map living_of (option_map (hears_next Nothing) x)) one.1)

renews : (limits : Numbers) (o : Option Migrating) → To (migrates limits) Renews o (option_map migrate_again o)
renews limits None = refl
renews limits (Some m) = ap (λ (h : Option Heard). Some (living (migrate.freshened m.machine) h)) (untold_once m.next)

module _ {D : Type 0} where
  -- nothing was done
  pub goes_itself : (s : System D) → Goes [] s s
  goes_itself s = record { limits = refl; leads = record { entries = sym (append-nil s.store.history); recall = refl; migrate = refl; right = All-from_recursion IsRight [] tt } }

  -- one behind the other
  pub goes_then : (deeds more : List Deed) (a b c : System D) → Goes deeds a b → Goes more b c → Goes (deeds ++ more) a c
  goes_then deeds more a b c first then = record {
    limits = then.limits ∙ first.limits;
    leads = leads_on recalls (migrates a.limits) deeds more (situation_of a) (situation_of b) (situation_of c) first.leads
        (subst (λ (limits : Numbers). Leads recalls (migrates limits) more (situation_of b) (situation_of c)) first.limits then.leads);
  }

  pub holds_then : (deeds more : List Deed) (old new : System D) → Holds deeds old → Goes more old new → Holds (deeds ++ more) new
  holds_then deeds more old new holds goes = subst (λ (limits : Numbers). Leads recalls (migrates limits) (deeds ++ more) nothing_done (situation_of new)) (sym goes.limits)
      (leads_on recalls (migrates old.limits) deeds more nothing_done (situation_of old) (situation_of new) holds goes.leads)

  -- ---- a deed of one daemon, and what it leaves of the store

  -- of recall
  recall_moved : (deed : Deed) (move : Move) (old new : System D) (store : Store D) (r : Option Recalling) → new ≡ record old { store = store; recall = r } → store.history ≡ old.store.history ++ entries_of (deed ∷ [])
      → (life Recall (deed ∷ []) ≡ move ∷ []) × (life Migrate (deed ∷ []) ≡ []) × IsRight deed → To recalls move old.recall r → Goes (deed ∷ []) old new
  recall_moved deed move old new store r is added alone moved = subst (λ (s : System D). Goes (deed ∷ []) old s) (sym is) (record {
    limits = refl;
    leads = record {
      entries = added;
      recall = subst (λ (moves : List Move). Lives recalls moves (option_map living_of old.recall) (option_map living_of r)) (sym alone.0) (option_map living_of r, moved, refl);
      migrate = rw alone.1 refl;
      right = All-from_recursion IsRight (deed ∷ []) (alone.2, tt);
    };
  })

  -- of migration
  migrate_moved : (deed : Deed) (move : Move) (old new : System D) (store : Store D) (m : Option Migrating) → new ≡ record old { store = store; migrate = m } → store.history ≡ old.store.history ++ entries_of (deed ∷ [])
      → (life Migrate (deed ∷ []) ≡ move ∷ []) × (life Recall (deed ∷ []) ≡ []) × IsRight deed → To (migrates old.limits) move old.migrate m → Goes (deed ∷ []) old new
  migrate_moved deed move old new store m is added alone moved = subst (λ (s : System D). Goes (deed ∷ []) old s) (sym is) (record {
    limits = refl;
    leads = record {
      entries = added;
      recall = rw alone.1 refl;
      migrate = subst (λ (moves : List Move). Lives (migrates old.limits) moves (option_map living_of old.migrate) (option_map living_of m)) (sym alone.0) (option_map living_of m, moved, refl);
      right = All-from_recursion IsRight (deed ∷ []) (alone.2, tt);
    };
  })

  -- with no entry
  none_added : (store old : Store D) → store.history ≡ old.history → store.history ≡ old.history ++ []
  none_added store old same = same ∙ sym (append-nil old.history)

  none_more : (old : Store D) → old.history ≡ old.history ++ []
  none_more old = none_added old old refl

  -- ---- started, killed, refreshed

  pub started_goes : (daemon : Daemon) (old new : System D) → new ≡ started daemon old → Goes (Starts daemon ∷ []) old new
  started_goes Recall old new is = recall_moved (Starts Recall) Begins old new old.store _ is (none_more old.store) (refl, refl, tt) (begins recalls old.recall)
  started_goes Migrate old new is = migrate_moved (Starts Migrate) Begins old new old.store _ is (none_more old.store) (refl, refl, tt) (begins (migrates old.limits) old.migrate)

  pub killed_goes : (daemon : Daemon) (old new : System D) → new ≡ killed daemon old → Goes (Kills daemon ∷ []) old new
  killed_goes Recall old new is = recall_moved (Kills Recall) Ends old new old.store None is (none_more old.store) (refl, refl, tt) refl
  killed_goes Migrate old new is = migrate_moved (Kills Migrate) Ends old new old.store None is (none_more old.store) (refl, refl, tt) refl

  pub refreshed_goes : (old new : System D) → new ≡ refreshed old → Goes (Refreshes ∷ []) old new
  refreshed_goes old new is = migrate_moved Refreshes Renews old new old.store _ is (none_more old.store) (refl, refl, tt) (renews old.limits old.migrate)

  -- ---- an act is given

  pub gives_goes : (daemon : Daemon) (asked : Act) (old new : System D) → MovesOn daemon old asked new → Goes (Gives daemon asked ∷ []) old new
  gives_goes Recall asked old new is = recall_moved (Gives Recall asked) (Asks asked) old new old.store _ is.6 (none_more old.store) (refl, refl, tt) (asks recalls asked old.recall is.0 is.2 is.1 is.3 is.4 is.5)
  gives_goes Migrate asked old new is = migrate_moved (Gives Migrate asked) (Asks asked) old new old.store _ is.6 (none_more old.store) (refl, refl, tt) (asks (migrates old.limits) asked old.migrate is.0 is.2 is.1 is.3 is.4 is.5)

  -- and waited for
  pub gives_awaits : (daemon : Daemon) (asked : Act) (old new : System D) → MovesOn daemon old asked new → Awaits daemon asked new
  gives_awaits Recall asked old new is = subst (λ (s : System D). Awaits Recall asked s) (sym is.6) (record { machine = is.1; next = WaitsOn (awaited_of asked) }, refl, refl, is.5.asked)
  gives_awaits Migrate asked old new is = subst (λ (s : System D). Awaits Migrate asked s) (sym is.6) (record { machine = is.1; next = WaitsOn (awaited_of asked) }, refl, refl, is.5.asked)

  -- ---- what it was to hear is lost, perhaps behind an event of which the store keeps nothing

  pub loses_goes : (daemon : Daemon) (old new : System D) (store : Store D) → new ≡ hearing daemon Nothing (record old { store = store }) → store.history ≡ old.store.history → (IsDown daemon old → ⊥) → Goes (Loses daemon ∷ []) old new
  loses_goes Recall old new store is same runs = recall_moved (Loses Recall) Misses old new store _ is (none_added store old.store same) (refl, refl, tt) (misses recalls old.recall runs)
  loses_goes Migrate old new store is same runs = migrate_moved (Loses Migrate) Misses old new store _ is (none_added store old.store same) (refl, refl, tt) (misses (migrates old.limits) old.migrate runs)

  waits_runs : (daemon : Daemon) (s : System D) → Waits daemon s → IsDown daemon s → ⊥
  waits_runs Recall s waits = waits_up s.recall waits
  waits_runs Migrate s waits = waits_up s.migrate waits

  pub awaits_runs : (daemon : Daemon) (asked : Act) (s : System D) → Awaits daemon asked s → IsDown daemon s → ⊥
  awaits_runs Recall asked s awaits = waits_up s.recall (awaits.0, awaits.1, awaits.2)
  awaits_runs Migrate asked s awaits = waits_up s.migrate (awaits.0, awaits.1, awaits.2)

  -- ---- the call that it gave

  -- The daemon hears this of its act, perhaps by an entry of the store.
  heard_goes : (daemon : Daemon) (asked : Act) (told : Heard) (old new : System D) (store : Store D) → new ≡ hearing daemon told (record old { store = store })
      → store.history ≡ old.store.history ++ entries_of (Hears daemon asked told ∷ []) → Awaits daemon asked old → Fits asked told → Goes (Hears daemon asked told ∷ []) old new
  heard_goes Recall asked told old new store is added awaits fits = recall_moved (Hears Recall asked told) (Learns asked told) old new store _ is added (refl, refl, tt) (learns recalls asked told old.recall awaits fits)
  heard_goes Migrate asked told old new store is added awaits fits = migrate_moved (Hears Migrate asked told) (Learns asked told) old new store _ is added (refl, refl, tt) (learns (migrates old.limits) asked told old.migrate awaits fits)

  -- Its call was answered with a fault of the disk.
  breaks_goes : (daemon : Daemon) (sid : Sid) (call : DmCall) (old new : System D) (store : Store D) → new ≡ hearing daemon Nothing (record old { store = store })
      → store.history ≡ old.store.history ++ entries_of (Breaks daemon sid call ∷ []) → Awaits daemon (act.Dm sid call) old → Goes (Breaks daemon sid call ∷ []) old new
  breaks_goes Recall sid call old new store is added awaits = recall_moved (Breaks Recall sid call) (Fails sid call) old new store _ is added (refl, refl, tt) (fails recalls sid call old.recall awaits)
  breaks_goes Migrate sid call old new store is added awaits = migrate_moved (Breaks Migrate sid call) (Fails sid call) old new store _ is added (refl, refl, tt) (fails (migrates old.limits) sid call old.migrate awaits)

  -- to hear something leaves the store
  pub heard_store : (daemon : Daemon) (told : Heard) (s : System D) → (hearing daemon told s).store ≡ s.store
  heard_store Recall told s = refl
  heard_store Migrate told s = refl

  -- so what is so of the store is so behind it
  left_so : (daemon : Daemon) (old new : System D) (store : Store D) → new ≡ hearing daemon Nothing (record old { store = store }) → (IsSoOf : Store D → Type 0) → IsSoOf store → IsSoOf new.store
  left_so daemon old new store is IsSoOf so = subst IsSoOf (sym (ap (λ (s : System D). s.store) is ∙ heard_store daemon Nothing (record old { store = store }))) so

  module _ (g : disk.Ghosts D) (daemon : Daemon) (sid : Sid) (call : DmCall) (old new : System D) (awaits : Awaits daemon (act.Dm sid call) old) where
    pub answered_hears : (is : Answers g daemon sid call old new) → Goes (Hears daemon (act.Dm sid call) (heard.Dm is.0) ∷ []) old new
    answered_hears is = heard_goes daemon (act.Dm sid call) (heard.Dm is.0) old new is.1.store (is.3 ∙ ap (λ (s : System D). hearing daemon (heard.Dm is.0) s) is.2.made.rest) is.2.added awaits (is.2.served stop.Disk, is.2.served stop.Memory)

    answers_goes : Answers g daemon sid call old new → HearsReply daemon sid call old new
    answers_goes is = (is.0, answered_hears is)

    ends : (why : Stop) (store : Store D) → new ≡ hearing daemon Nothing (record old { store = store }) → StoreEnds why (Session sid) (action.Dm call) old.store store → EndsIn daemon sid call why old new
    ends stop.Disk store is (inl broke) = inl (breaks_goes daemon sid call old new store is broke.0 awaits, left_so daemon old new store is (λ (s : Store D). HasClosed old.store s) broke.1)
    ends stop.Disk store is (inr closed) = inr (loses_goes daemon old new store is (ap (λ (s : Store D). s.history) closed.1) (awaits_runs daemon (act.Dm sid call) old awaits), left_so daemon old new store is (λ (s : Store D). WasClosed old.store s) closed)
    ends stop.Memory store is lacks = (loses_goes daemon old new store is lacks.0 (awaits_runs daemon (act.Dm sid call) old awaits), left_so daemon old new store is (λ (s : Store D). StillWorks old.store s) lacks.1)

    pub stops_goes : (why : Stop) → StopsFor g daemon sid call why old new → EndsIn daemon sid call why old new
    stops_goes why is = ends why is.0.store (is.2 ∙ ap (λ (s : System D). hearing daemon Nothing s) is.1.made.rest) (event_ends g old.store (Session sid) (action.Dm call) (answer.Dm (reply_of why)) is.0.store why is.1.made.told (session_stop why call))

  -- ---- what came of an act that was performed outside

  pub taken_goes : (daemon : Daemon) (asked : Act) (outcome : Outcome) (old new : System D) → Awaits daemon asked old → awaited_of asked ≡ awaited_by outcome → IsSo outcome → new ≡ hearing daemon (heard_of outcome) old → Goes (Hears daemon asked (heard_of outcome) ∷ []) old new
  taken_goes daemon asked outcome old new awaits same so is =
      let fits = outcome_fits asked outcome same so in
      heard_goes daemon asked (heard_of outcome) old new old.store is (none_more old.store ∙ ap (λ (o : Option Entry). old.store.history ++ cons_option o []) (sym fits.1)) awaits fits.0

  -- it was taken where it is awaited, and else nothing is done
  pub taken_or_not : (daemon : Daemon) (outcome : Outcome) (old new : System D) (taken : Bool) → IsSystem old → IsSo outcome → (taken ≡ true → IsAwaited daemon outcome old) → (taken ≡ true → new ≡ hearing daemon (heard_of outcome) old) → (taken ≡ false → new ≡ old)
      → GoesBy (HearsOf daemon outcome) old new
  taken_or_not daemon outcome old new true is so awaited taken dropped =
      let one = awaits_one daemon outcome old is (awaited refl) in
      (Hears daemon one.0 (heard_of outcome) ∷ [], inr (one.0, one.2, refl), taken_goes daemon one.0 outcome old new one.1 one.2 so (taken refl))
  taken_or_not daemon outcome old new false is so awaited taken dropped = ([], inl refl, subst (λ (s : System D). Goes [] old s) (sym (dropped refl)) (goes_itself old))

  -- it waited, or nothing is done
  pub lost_or_not : (daemon : Daemon) (old new : System D) (lost : Bool) → (lost ≡ true → Waits daemon old) → (lost ≡ true → new ≡ hearing daemon Nothing old) → (lost ≡ false → new ≡ old) → GoesBy (LosesOf daemon) old new
  lost_or_not daemon old new true waits lost kept = (Loses daemon ∷ [], inr refl, loses_goes daemon old new old.store (lost refl) refl (waits_runs daemon old (waits refl)))
  lost_or_not daemon old new false waits lost kept = ([], inl refl, subst (λ (s : System D). Goes [] old s) (sym (kept refl)) (goes_itself old))

  -- ---- an event that no daemon makes

  entered_goes : (e : Entry) (old : System D) (store : Store D) → NamesNoFault e.action → store.history ≡ old.store.history ++ e ∷ [] → Goes (Enters e ∷ []) old (record old { store = store })
  entered_goes e old store none added = record { limits = refl; leads = record { entries = added; recall = refl; migrate = refl; right = All-from_recursion IsRight (Enters e ∷ []) (none, tt) } }

  nothing_entered : (old : System D) (store : Store D) → store.history ≡ old.store.history → Goes [] old (record old { store = store })
  nothing_entered old store same = record { limits = refl; leads = record { entries = none_added store old.store same; recall = refl; migrate = refl; right = All-from_recursion IsRight [] tt } }

  module _ (g : disk.Ghosts D) (actor : Actor) (asked : Action) (none : NamesNoFault asked) (old new : System D) where
    entered_ends : (why : Stop) (store : Store D) → StoreEnds why actor asked old.store store → EndsBy why (Enters (entry_of actor asked (fault_of asked)) ∷ []) [] old (record old { store = store })
    entered_ends stop.Disk store (inl broke) = inl (entered_goes (entry_of actor asked (fault_of asked)) old store none broke.0, broke.1)
    entered_ends stop.Disk store (inr closed) = inr (nothing_entered old store (ap (λ (s : Store D). s.history) closed.1), closed)
    entered_ends stop.Memory store lacks = (nothing_entered old store lacks.0, lacks.1)

    pub done_enters : {T : Type 0} (result : Result T Stop) → IsDone g actor asked result old new → EntersBy actor asked result old new
    done_enters (Ok x) done = record {
      done = (
        Enters (entry_of actor asked done.given) ∷ [],
        (done.given, event_served g old.store actor asked done.given new.store done.answer done.goes, refl),
        subst (λ (s : System D). Goes (Enters (entry_of actor asked done.given) ∷ []) old s) (sym done.rest) (entered_goes (entry_of actor asked done.given) old new.store none done.kept),
      );
      works = event_works g old.store actor asked done.given new.store done.answer done.goes;
      stopped = tt;
    }
    done_enters (Err why) done = record {
      done = tt;
      works = tt;
      stopped = subst (λ (s : System D). EndsBy why (Enters (entry_of actor asked (fault_of asked)) ∷ []) [] old s) (sym done.rest) (entered_ends why new.store (event_ends g old.store actor asked done.given new.store why done.answer done.stops));
    }

  -- ---- as each call says it

  pub given_goes : (daemon : Daemon) (old new : System D) (result : Result (Option Act) Stop)
      → IfOk result (λ (given : Option Act). MatchOption given (GivesNone daemon old × (new ≡ old)) (λ (asked : Act). MovesOn daemon old asked new))
      → IfOk result (λ (given : Option Act). IfSome given (λ (asked : Act). Goes (Gives daemon asked ∷ []) old new × Awaits daemon asked new))
  given_goes daemon old new (Ok None) is = tt
  given_goes daemon old new (Ok (Some asked)) is = (gives_goes daemon asked old new is, gives_awaits daemon asked old new is)
  given_goes daemon old new (Err why) is = tt

  pub lacked_goes : (daemon : Daemon) (old new : System D) (result : Result (Option Act) Stop) → IfErr result (λ why. LacksMemory daemon old why new) → OnErr result (Goes (Loses daemon ∷ []) old new)
  lacked_goes daemon old new (Ok given) is = tt
  lacked_goes daemon old new (Err why) is = loses_goes daemon old new old.store is.loses refl is.runs

  module _ (g : disk.Ghosts D) (daemon : Daemon) (sid : Sid) (call : DmCall) (old new : System D) (awaits : Awaits daemon (act.Dm sid call) old) where
    pub answered_goes : (result : Result (Unit {0}) Stop) → OnOk result (Answers g daemon sid call old new) → OnOk result (HearsReply daemon sid call old new)
    answered_goes (Ok tt) is = answers_goes g daemon sid call old new awaits is
    answered_goes (Err why) is = tt

    pub stopped_goes : (result : Result (Unit {0}) Stop) → IfErr result (λ why. StopsFor g daemon sid call why old new) → IfErr result (λ why. EndsIn daemon sid call why old new)
    stopped_goes (Ok tt) is = tt
    stopped_goes (Err why) is = stops_goes g daemon sid call old new awaits why is
