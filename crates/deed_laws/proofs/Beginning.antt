-- Behind deeds a daemon's first act asks for all sessions, and it begins anew only where its session is gone or it knows of none.
use Rattle.std.proofs.Common.{◌≡◌, ◌⊎◌, ◌∙◌, List, [], ◌∷◌, ◌++◌, All, Option, None, Some, IfSome, inl, inr, refl, sym, ap, subst}
use Rattle.std.specs.Prelude.{MatchOption}
use Rattle.std.specs.Option.{option_map}
use Rattle.std.proofs.lemmas.List.Elements.{All-head, All-tail}
use Rattle.std.proofs.lemmas.Option.{none-some, same_Some}
use Rattle.hsm_types.specs.declared.daemons.Act.{Act}
use Rattle.hsm_types.specs.declared.daemons.Act.TheVariants.{Dm, Copy, Fetch, Idle}
use Rattle.hsm_types.specs.declared.daemons.Daemon.{Daemon}
use Rattle.hsm_types.specs.declared.daemons.Daemon.TheVariants.{Recall, Migrate}
use Rattle.hsm_types.specs.declared.daemons.Heard.{Heard}
use Rattle.hsm_types.specs.declared.daemons.Heard.TheVariants as heard
use Rattle.hsm_types.specs.declared.daemons.Heard.TheVariants.{Nothing}
use Rattle.hsm_types.specs.declared.dm.DmCall.{DmCall}
use Rattle.hsm_types.specs.declared.dm.DmCall.TheVariants as call
use Rattle.hsm_types.specs.declared.dm.DmRefusal.TheVariants.{NoSession}
use Rattle.hsm_types.specs.declared.dm.DmReply.TheVariants as reply
use Rattle.hsm_types.specs.declared.keys.Sid.{Sid}
use Rattle.hsm_policy.specs.Settings.{Numbers}
use Rattle.daemon_session.specs.Members.{IsRefusedOne}
use Rattle.daemon_session.specs.Seats.{Seat, no_seat, first_id, IsSeated, Refuses, LeadsOn, NeedsNone, MayBegin, MayMake, MayEnter}
use Rattle.migrate_daemon.specs.Known as migrates
use Rattle.migrate_daemon.specs.Machine as migrate
use Rattle.migrate_daemon.specs.Passes.{Pass}
use Rattle.recall_daemon.specs.Known as recalls
use Rattle.recall_daemon.specs.Machine as recall
use Rattle.deeds.specs.Answers.{IsStill, IsLast}
use Rattle.deeds.specs.Deeds.{Deed, Gives, Starts}
use Rattle.deeds.specs.Given.{Given, none_given, given_behind, asked_in, given_in}
use Rattle.deeds.specs.Leads.{Situation, nothing_done, Leads}
use Rattle.deeds.specs.Lives.{Workings, Living, Move, Begins, Ends, Renews, Asks, Learns, Fails, Misses, hearing, untold, life, MovesTo, Lives}
use Rattle.deeds.proofs.Answering.{hears_last}
use Rattle.deeds.proofs.Giving.{given_exactly}
use Rattle.deeds.proofs.Leading.{leads_through}
use Rattle.deeds.proofs.Living.{lives_apart}
use Rattle.hsm_system.specs.Lives as lives
use Rattle.deed_laws.specs.Beginning.{asks_all, GivesNone, IsAtStart, HasLostSession, ServedBeginsRight}
use Rattle.deed_laws.specs.Knowing.{seat_behind}
use Rattle.deed_laws.proofs.Machines.{recall_sits, migrate_sits, recall_seat, recall_heard, migrate_seat, migrate_heard, recall_behind, migrate_behind, seat_in}
use Rattle.deed_laws.proofs.OneWay.{OneWay, GoesOneWay, one_way_on, has_no_session}
use Rattle.deed_laws.proofs.Sitting.{Sits, Sound, IsSound, sound_on, along}

-- ---- what is given first

unseated : (sid : Sid) → IsSeated no_seat sid → ⊥
unseated sid seated = none-some sid seated.session

no_make : (old : Sid) → MayMake no_seat old → ⊥
no_make old (inl beside) = none-some [] beside.1
no_make old (inr found) = none-some old found

only_all : (d : Daemon) (sid : Sid) (c : DmCall) → MayEnter d no_seat Idle Nothing sid c → Dm sid c ≡ asks_all
only_all d sid call.GetAllSessions may = ap (λ (x : Sid). Dm x call.GetAllSessions) may.0
only_all d sid (call.QuerySession target) may = absurd (none-some (target ∷ may.1.2.0) may.1.2.1)
only_all d sid (call.CreateSession old info) may = absurd (no_make old may.1.2)
only_all d sid (call.SetDisp kinds) may = absurd (none-some sid may.1.0)
only_all d sid call.GetAllTokens may = absurd (none-some sid may.1.0)
only_all d sid (call.FindEventMsg t room) may = absurd (none-some sid may.1.0)
only_all d sid c may = absurd may.1

recall_calls : (sid : Sid) (c : DmCall) → recalls.MayCall recalls.nothing_known Idle Nothing sid c → Dm sid c ≡ asks_all
recall_calls sid (call.GetEvents most room) may = absurd (unseated sid may.0)
recall_calls sid (call.RequestRight t h right) may = absurd (unseated sid may.0)
recall_calls sid (call.GetFileAttr t h) may = absurd (unseated sid may.0)
recall_calls sid (call.GetAllocInfo t h) may = absurd (unseated sid may.0)
recall_calls sid (call.Restore t h segment bytes) may = absurd (unseated sid may.0)
recall_calls sid (call.Respond t response) may = absurd (unseated sid may.0)
recall_calls sid c may = only_all Recall sid c may

never_refused : IsRefusedOne Idle Nothing → ⊥
never_refused is = let wrong : Idle ≡ Dm first_id (call.CreateSession is.0 is.1) = is.3 in cc

recall_first : (given : Act) → recalls.MayGive recalls.nothing_known Idle Nothing given → given ≡ asks_all
recall_first (Dm sid c) may = recall_calls sid c may
recall_first (Copy volume h segment bytes) may = absurd may
recall_first (Fetch entry) may = absurd (none-some may.1.0 may.1.2)
recall_first Idle (inl all) = let wrong = all.0.1 in cc
recall_first Idle (inr refused) = absurd (never_refused refused)

module _ (limits : Numbers) (fresh : migrates.Known) (none : fresh.seat ≡ no_seat) (old new : Pass) where
  abbrev MigrateMay : Act → Type 0
  MigrateMay given = migrate.MayGive limits fresh old new Idle Nothing given

  no_session : (sid : Sid) → IsSeated fresh.seat sid → ⊥
  no_session sid seated = unseated sid (subst (λ (s : Seat). IsSeated s sid) none seated)

  migrate_calls : (sid : Sid) (c : DmCall) → MigrateMay (Dm sid c) → Dm sid c ≡ asks_all
  migrate_calls sid (call.GetRegion t h) may = absurd (no_session new.sid may.1.seated)
  migrate_calls sid (call.SetRegion t h regions) may = absurd (no_session new.sid may.1.seated)
  migrate_calls sid (call.ReadInvis t h offset len) may = absurd (no_session new.sid may.1.seated)
  migrate_calls sid (call.Seal t h segment entry) may = absurd (no_session new.sid may.1.seated)
  migrate_calls sid (call.PunchHole t h offset len) may = absurd (no_session new.sid may.1.seated)
  migrate_calls sid call.GetSpace may = absurd (no_session sid may.0.seated)
  migrate_calls sid call.GetTable may = absurd (no_session sid may.0.seated)
  migrate_calls sid (call.GetEvents most room) may = absurd (no_session sid may.0.seated)
  migrate_calls sid (call.Respond t response) may = absurd (no_session sid may.0)
  migrate_calls sid c may = only_all Migrate sid c (subst (λ (s : Seat). MayEnter Migrate s Idle Nothing sid c) none may)

  migrate_first : (given : Act) → MigrateMay given → given ≡ asks_all
  migrate_first (Dm sid c) may = migrate_calls sid c may
  migrate_first (Copy volume h segment bytes) may = absurd (no_session new.sid may.1.seated)
  migrate_first (Fetch entry) may = absurd may
  migrate_first Idle (inl all) = absurd all.0
  migrate_first Idle (inr refused) = absurd (never_refused refused)

-- ---- how a machine begins

-- It is new up to its first act, and begins as StepsOn says.
record Begun {M : Type 0} (d : Daemon) (w : Workings M) (sits : Sits d w) : Type 1 where
  IsNew : M → Type 0
  first : IsNew w.first
  again : (m : M) → IsNew m → IsNew (w.again m)
  at_once : (m : M) (given : Act) (n : M) → IsNew m → w.StepsOn m Nothing given n → given ≡ asks_all
  gone : (m : M) (told : Heard) (given : Act) (n : M) → w.StepsOn m told given n → Refuses (w.asked m) told → given ≡ asks_all
  anew : (m : M) (told : Heard) (sid : Sid) (n : M) → w.StepsOn m told (Dm sid call.GetAllSessions) n → MayBegin (sits.told m told) (w.asked m) told
  nothing : (m : M) (told : Heard) → NeedsNone (w.asked m) → (LeadsOn (w.asked m) told → ⊥) → (sits.seat m).sid ≡ None → (sits.told m told).sid ≡ None

-- what tells nothing of use gives it no session
recall_none : (k : recalls.Known) (asked : Act) (told : Heard) → NeedsNone asked → (LeadsOn asked told → ⊥) → k.seat.sid ≡ None → (recalls.knows_by k asked told).seat.sid ≡ None
recall_none k (Dm sid call.GetAllSessions) (heard.Dm (reply.Sids ids)) needs leads none = absurd (leads tt)
recall_none k (Dm sid call.GetAllSessions) told needs leads none = none
recall_none k (Dm sid (call.QuerySession target)) (heard.Dm (reply.Info info)) needs leads none = absurd (leads tt)
recall_none k (Dm sid (call.QuerySession target)) told needs leads none = none
recall_none k (Dm sid (call.CreateSession old info)) (heard.Dm (reply.Session new)) needs leads none = absurd (leads tt)
recall_none k (Dm sid (call.CreateSession old info)) told needs leads none = none
recall_none k asked told needs leads none = absurd needs

migrate_none : (limits : Numbers) (k : migrates.Known) (asked : Act) (told : Heard) → NeedsNone asked → (LeadsOn asked told → ⊥) → k.seat.sid ≡ None → (migrates.knows_by limits k asked told).seat.sid ≡ None
migrate_none limits k (Dm sid call.GetAllSessions) (heard.Dm (reply.Sids ids)) needs leads none = absurd (leads tt)
migrate_none limits k (Dm sid call.GetAllSessions) told needs leads none = none
migrate_none limits k (Dm sid (call.QuerySession target)) (heard.Dm (reply.Info info)) needs leads none = absurd (leads tt)
migrate_none limits k (Dm sid (call.QuerySession target)) told needs leads none = none
migrate_none limits k (Dm sid (call.CreateSession old info)) (heard.Dm (reply.Session new)) needs leads none = absurd (leads tt)
migrate_none limits k (Dm sid (call.CreateSession old info)) told needs leads none = none
migrate_none limits k asked told needs leads none = absurd needs

recall_begins : Begun Recall lives.recalls recall_sits
recall_begins = record {
  IsNew = λ (m : recall.Machine). m ≡ recall.started;
  first = refl;
  again = λ m new. new;
  at_once = λ m given n new goes. recall_first given (subst (λ (x : recall.Machine). recalls.MayGive (recalls.knows_by x.known x.asked Nothing) x.asked Nothing given) new goes.may);
  gone = λ m told given n goes refuses. goes.begins refuses;
  anew = λ m told sid n goes. subst (λ (s : Seat). MayBegin s m.asked told) (sym (recall_heard m told)) goes.may.1;
  nothing = λ m told needs leads none. ap (λ (s : Seat). s.sid) (recall_heard m told) ∙ recall_none m.known m.asked told needs leads (sym (ap (λ (s : Seat). s.sid) (recall_seat m)) ∙ none);
}

migrate_begins : (limits : Numbers) → Begun Migrate (lives.migrates limits) (migrate_sits limits)
migrate_begins limits = record {
  IsNew = λ (m : migrate.Machine). (m.known.seat ≡ no_seat) × (m.asked ≡ Idle);
  first = (refl, refl);
  again = λ m new. new;
  at_once = λ m given n new goes. migrate_first m.limits m.known new.0 m.pass n.pass given (subst (λ (a : Act). migrate.MayGive m.limits (migrates.knows_by m.limits m.known a Nothing) m.pass n.pass a Nothing given) new.1 goes.may);
  gone = λ m told given n goes refuses. goes.begins refuses;
  anew = λ m told sid n goes. subst (λ (s : Seat). MayBegin s m.asked told) (sym (migrate_heard limits m told)) goes.may.1;
  nothing = λ m told needs leads none. ap (λ (s : Seat). s.sid) (migrate_heard limits m told) ∙ migrate_none m.limits m.known m.asked told needs leads (sym (ap (λ (s : Seat). s.sid) (migrate_seat limits m)) ∙ none);
}

-- ---- one life

module _ {M : Type 0} (d : Daemon) (w : Workings M) (sits : Sits d w) (begins : Begun d w sits) where
  -- it is new, and hears nothing
  record IsUntouched (r : Living M) : Type 0 where
    new : begins.IsNew r.machine
    hears : r.hears ≡ Some Nothing

  abbrev Untouched : Option (Living M) → Type 0
  Untouched r = IfSome r IsUntouched

  untouched_on : (move : Move) (old new : Option (Living M)) → GivesNone move → MovesTo w move old new → Untouched old → Untouched new
  untouched_on Begins None new gives to is = subst Untouched (sym to) (record { new = begins.first; hears = refl })
  untouched_on Begins (Some r) new gives to is = subst Untouched (sym to) is
  untouched_on Ends old new gives to is = absurd gives
  untouched_on Renews None new gives to is = subst Untouched (sym to) tt
  untouched_on Renews (Some r) new gives to is = subst Untouched (sym to) (record { new = begins.again r.machine is.new; hears = ap (λ (o : Option Heard). option_map untold o) is.hears })
  untouched_on (Asks asked) old new gives to is = absurd gives
  untouched_on (Learns asked told) old new gives to is = let was : IsUntouched (hearing to.0 None) = subst Untouched to.1 is in subst Untouched (sym to.4) (record { new = was.new; hears = absurd (none-some Nothing was.hears) })
  untouched_on (Fails sid c) old new gives to is = let was : IsUntouched (hearing to.0 None) = subst Untouched to.1 is in subst Untouched (sym to.3) (record { new = was.new; hears = refl })
  untouched_on Misses old new gives to is = let was : IsUntouched to.0 = subst Untouched to.1 is in subst Untouched (sym to.2) (record { new = was.new; hears = refl })

  untouched : (moves : List Move) (old new : Option (Living M)) → All GivesNone moves → Lives w moves old new → Untouched old → Untouched new
  untouched [] old new none lived is = subst Untouched (sym lived) is
  untouched (move ∷ moves) old new none lived is = untouched moves lived.0 new (All-tail GivesNone move moves none) lived.2 (untouched_on move old lived.0 (All-head GivesNone move moves none) lived.1 is)

  -- one that has given no act doesn't run
  none_runs : (r : Option (Living M)) → asked_in w r ≡ None → r ≡ None
  none_runs None is = refl
  none_runs (Some r) is = absurd (none-some _ (sym is))

  -- what it gives first
  first_act : (given : Act) (at next : Option (Living M)) → Untouched at → MovesTo w (Asks given) at next → given ≡ asks_all
  first_act given at next is to =
      let was : IsUntouched (hearing to.0 (Some to.1)) = subst Untouched to.3 is in
      let nothing : to.1 ≡ Nothing = same_Some to.1 Nothing was.hears in
      begins.at_once to.0 given to.2 was.new (subst (λ (h : Heard). w.StepsOn to.0 h given to.2) nothing to.4)

  begun_from : (old new : Option (Living M)) → old ≡ None → MovesTo w Begins old new → Untouched new
  begun_from None new none to = subst Untouched (sym to) (record { new = begins.first; hears = refl })
  begun_from (Some r) new none to = absurd (none-some r (sym none))

  starts_so : (since : List Move) (given : Act) (down up at next : Option (Living M)) → asked_in w down ≡ None → MovesTo w Begins down up → All GivesNone since → Lives w since up at → MovesTo w (Asks given) at next → given ≡ asks_all
  starts_so since given down up at next none starts still lived to = first_act given at next (untouched since up at still lived (begun_from down up (none_runs down none) starts)) to

  -- ---- where its session is gone

  abbrev gone : Heard
  gone = heard.Dm (reply.Refused NoSession)

  -- it hears so of its call
  abbrev HearsGone : Sid → DmCall → Living M → Type 0
  HearsGone sid c r = (w.asked r.machine ≡ Dm sid c) × (r.hears ≡ Some gone)

  abbrev Gone : Sid → DmCall → Option (Living M) → Type 0
  Gone sid c r = MatchOption r ⊥ (HearsGone sid c)

  gone_on : (sid : Sid) (c : DmCall) (move : Move) (old new : Option (Living M)) → IsStill move → MovesTo w move old new → Gone sid c old → Gone sid c new
  gone_on sid c Begins None new still to is = absurd is
  gone_on sid c Begins (Some r) new still to is = subst (Gone sid c) (sym to) is
  gone_on sid c Renews None new still to is = absurd is
  gone_on sid c Renews (Some r) new still to is = subst (Gone sid c) (sym to) (w.still r.machine ∙ is.0, ap (λ (o : Option Heard). option_map untold o) is.1)
  gone_on sid c move old new still to is = absurd still

  gone_through : (sid : Sid) (c : DmCall) (moves : List Move) (old new : Option (Living M)) → All IsStill moves → Lives w moves old new → Gone sid c old → Gone sid c new
  gone_through sid c [] old new still lived is = subst (Gone sid c) (sym lived) is
  gone_through sid c (move ∷ moves) old new still lived is = gone_through sid c moves lived.0 new (All-tail IsStill move moves still) lived.2 (gone_on sid c move old lived.0 (All-head IsStill move moves still) lived.1 is)

  goes_anew : (sid : Sid) (c : DmCall) (given : Act) (at next : Option (Living M)) → Gone sid c at → MovesTo w (Asks given) at next → given ≡ asks_all
  goes_anew sid c given at next is to =
      let was : HearsGone sid c (hearing to.0 (Some to.1)) = subst (Gone sid c) to.3 is in
      begins.gone to.0 to.1 given to.2 to.4 (subst (λ (a : Act). Refuses a to.1) (sym was.0) (same_Some to.1 gone was.1))

  gone_so : (sid : Sid) (c : DmCall) (moves : List Move) (given : Act) (at next : Option (Living M)) → IsLast (Learns (Dm sid c) gone) moves → Lives w moves None at → MovesTo w (Asks given) at next → given ≡ asks_all
  gone_so sid c moves given at next last lived to =
      let parts = lives_apart w last.before (Learns (Dm sid c) gone ∷ last.since) None at (subst (λ (l : List Move). Lives w l None at) last.parted lived) in
      let learns = parts.2.1 in
      goes_anew sid c given at next (gone_through sid c last.since parts.2.0 at last.still parts.2.2 (subst (Gone sid c) (sym learns.4) (learns.2, refl))) to

  -- ---- where it begins anew

  abbrev LostLast : List Move → Type 0
  LostLast moves = (sid : Sid) × (c : DmCall) × IsLast (Learns (Dm sid c) gone) moves

  lost_call : (moves : List Move) (asked : Act) (told : Heard) → Refuses asked told → (told ≡ Nothing) ⊎ IsLast (Learns asked told) moves → LostLast moves
  lost_call moves (Dm sid c) told refuses (inl none) = let wrong : Nothing ≡ gone = sym none ∙ refuses in absurd cc
  lost_call moves (Dm sid c) told refuses (inr last) = (sid, c, subst (λ (h : Heard). IsLast (Learns (Dm sid c) h) moves) refuses last)
  lost_call moves (Copy volume h segment bytes) told refuses last = absurd refuses
  lost_call moves (Fetch entry) told refuses last = absurd refuses
  lost_call moves Idle told refuses last = absurd refuses

  sound_behind : (moves : List Move) (at : Option (Living M)) → Lives w moves None at → Sound d w sits at
  sound_behind moves at lived = along d w sits (λ ms r. Sound d w sits r) (λ before move old new to sound is. sound_on d w sits move old new to sound) moves [] None at lived tt tt

  one_way : (moves : List Move) (at : Option (Living M)) → Lives w moves None at → OneWay d w sits at
  one_way moves at lived = along d w sits (λ ms r. OneWay d w sits r) (λ before move old new to sound is. one_way_on d w sits move old new to sound is) moves [] None at lived tt tt

  abbrev BeginsAnew : List Move → Seat → Type 0
  BeginsAnew moves seat = (seat.sid ≡ None) ⊎ LostLast moves

  module _ (moves : List Move) (m : M) (told : Heard) (lived : Lives w moves None (Some (hearing m (Some told)))) where
    anew_by : MayBegin (sits.told m told) (w.asked m) told → BeginsAnew moves (sits.told m told)
    anew_by (inl rests) = inl rests.0
    anew_by (inr (inl refuses)) = inr (lost_call moves (w.asked m) told refuses (hears_last w moves m told lived))
    anew_by (inr (inr no_use)) =
        let sound : IsSound d w sits (hearing m (Some told)) = sound_behind moves (Some (hearing m (Some told))) lived in
        let one : GoesOneWay d w sits (hearing m (Some told)) = one_way moves (Some (hearing m (Some told))) lived in
        inl (begins.nothing m told no_use.0 no_use.1 (has_no_session d w sits (sits.seat m) (w.asked m) sound.given no_use.0 one.given))

  anew_so : (moves : List Move) (sid : Sid) (at next : Option (Living M)) → Lives w moves None at → MovesTo w (Asks (Dm sid call.GetAllSessions)) at next → BeginsAnew moves (seat_in d w sits at)
  anew_so moves sid at next lived to =
      let here : Lives w moves None (Some (hearing to.0 (Some to.1))) = subst (λ (r : Option (Living M)). Lives w moves None r) to.3 lived in
      subst (λ (r : Option (Living M)). BeginsAnew moves (seat_in d w sits r)) (sym to.3) (anew_by moves to.0 to.1 here (begins.anew to.0 to.1 sid to.2 to.4))

-- ---- the law

module _ (limits : Numbers) (end : Situation recall.Machine migrate.Machine) (before : List Deed) (given : Act) (rest : List Deed) where
  abbrev LedBy : Daemon → Type 0
  LedBy d = Leads lives.recalls (lives.migrates limits) (before ++ Gives d given ∷ rest) nothing_done end

  abbrev Situated : Type 0
  Situated = Situation recall.Machine migrate.Machine

  abbrev LedTo : List Deed → Situated → Type 0
  LedTo deeds to = Leads lives.recalls (lives.migrates limits) deeds nothing_done to

  -- behind what was done before the start, too
  start_of : (d : Daemon) (at : IsAtStart d before) (mid : Situated) → LedTo before mid → (from : Situated) × LedTo at.before from × Leads lives.recalls (lives.migrates limits) (Starts d ∷ at.since) from mid
  start_of d at mid led = leads_through lives.recalls (lives.migrates limits) at.before (Starts d ∷ at.since) nothing_done mid (subst (λ (ds : List Deed). LedTo ds mid) at.parted led)

  given_to : (deeds : List Deed) (to : Situated) → LedTo deeds to → given_in lives.recalls (lives.migrates limits) to ≡ given_behind deeds none_given
  given_to deeds to led = given_exactly lives.recalls (lives.migrates limits) deeds nothing_done to led

  first_by : (d : Daemon) → LedBy d → IsAtStart d before → given ≡ asks_all
  first_by Recall led at =
      let mid = leads_through lives.recalls (lives.migrates limits) before (Gives Recall given ∷ rest) nothing_done end led in
      let from = start_of Recall at mid.0 mid.1 in
      starts_so Recall lives.recalls recall_sits recall_begins (life Recall at.since) given from.0.recall from.2.recall.0 mid.0.recall mid.2.recall.0
      (ap (λ (g : Given). g.recall) (given_to at.before from.0 from.1) ∙ at.started) from.2.recall.1 at.none from.2.recall.2 mid.2.recall.1
  first_by Migrate led at =
      let mid = leads_through lives.recalls (lives.migrates limits) before (Gives Migrate given ∷ rest) nothing_done end led in
      let from = start_of Migrate at mid.0 mid.1 in
      starts_so Migrate (lives.migrates limits) (migrate_sits limits) (migrate_begins limits) (life Migrate at.since) given from.0.migrate from.2.migrate.0 mid.0.migrate mid.2.migrate.0
      (ap (λ (g : Given). g.migrate) (given_to at.before from.0 from.1) ∙ at.started) from.2.migrate.1 at.none from.2.migrate.2 mid.2.migrate.1

  next_by : (d : Daemon) → LedBy d → HasLostSession d before → given ≡ asks_all
  next_by Recall led lost =
      let mid = leads_through lives.recalls (lives.migrates limits) before (Gives Recall given ∷ rest) nothing_done end led in
      gone_so Recall lives.recalls recall_sits recall_begins lost.0 lost.1 (life Recall before) given mid.0.recall mid.2.recall.0 lost.2 mid.1.recall mid.2.recall.1
  next_by Migrate led lost =
      let mid = leads_through lives.recalls (lives.migrates limits) before (Gives Migrate given ∷ rest) nothing_done end led in
      gone_so Migrate (lives.migrates limits) (migrate_sits limits) (migrate_begins limits) lost.0 lost.1 (life Migrate before) given mid.0.migrate mid.2.migrate.0 lost.2 mid.1.migrate mid.2.migrate.1

anew_by_deeds : (limits : Numbers) (end : Situation recall.Machine migrate.Machine) (before : List Deed) (d : Daemon) (sid : Sid) (rest : List Deed) → LedBy limits end before (Dm sid call.GetAllSessions) rest d
    → ((seat_behind limits d before).sid ≡ None) ⊎ HasLostSession d before
anew_by_deeds limits end before Recall sid rest led =
    let mid = leads_through lives.recalls (lives.migrates limits) before (Gives Recall (Dm sid call.GetAllSessions) ∷ rest) nothing_done end led in
    subst (λ (s : Seat). (s.sid ≡ None) ⊎ HasLostSession Recall before) (sym (recall_behind limits before mid.0 mid.1))
    (anew_so Recall lives.recalls recall_sits recall_begins (life Recall before) sid mid.0.recall mid.2.recall.0 mid.1.recall mid.2.recall.1)
anew_by_deeds limits end before Migrate sid rest led =
    let mid = leads_through lives.recalls (lives.migrates limits) before (Gives Migrate (Dm sid call.GetAllSessions) ∷ rest) nothing_done end led in
    subst (λ (s : Seat). (s.sid ≡ None) ⊎ HasLostSession Migrate before) (sym (migrate_behind limits before mid.0 mid.1))
    (anew_so Migrate (lives.migrates limits) (migrate_sits limits) (migrate_begins limits) (life Migrate before) sid mid.0.migrate mid.2.migrate.0 mid.1.migrate mid.2.migrate.1)

pub begins_right : (limits : Numbers) (deeds : List Deed) → ServedBeginsRight limits deeds
begins_right limits deeds (end, leads) = record {
  first = λ before d given rest parted at. first_by limits end before given rest d (led parted) at;
  next = λ before d given rest parted lost. next_by limits end before given rest d (led parted) lost;
  anew = λ before d sid rest parted. anew_by_deeds limits end before d sid rest (led parted);
}
  where
    led : {others : List Deed} → deeds ≡ others → Leads lives.recalls (lives.migrates limits) others nothing_done end
    led {others = others} parted = subst (λ (ds : List Deed). Leads lives.recalls (lives.migrates limits) ds nothing_done end) parted leads
