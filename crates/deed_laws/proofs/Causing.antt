-- Behind deeds each answer that names a fault of a medium is caused: what recall knows was told after the access was parked.
use Rattle.std.proofs.Common.{◌≡◌, ◌∙◌, ◌⊎◌, ℕ, List, [], ◌∷◌, ◌++◌, Option, None, Some, IfSome, Err, false, inl, inr, refl, sym, ap, subst}
use Rattle.std.proofs.Common.{append_assoc, append-nil}
use Rattle.std.specs.List.{cons_option}
use Rattle.std.specs.Option.{unwrap_or}
use Rattle.std.proofs.lemmas.Option.{none-some, same_Some}
use Rattle.hsm_types.specs.Sessions.{no_sessions}
use Rattle.hsm_types.specs.declared.daemons.Act.{Act}
use Rattle.hsm_types.specs.declared.daemons.Act.TheVariants as act
use Rattle.hsm_types.specs.declared.daemons.Daemon.TheVariants.{Recall, Migrate}
use Rattle.hsm_types.specs.declared.daemons.Heard.{Heard}
use Rattle.hsm_types.specs.declared.daemons.Heard.TheVariants as heard
use Rattle.hsm_types.specs.declared.daemons.Heard.TheVariants.{Nothing}
use Rattle.hsm_types.specs.declared.dm.DmCall.{DmCall}
use Rattle.hsm_types.specs.declared.dm.DmCall.TheVariants as call
use Rattle.hsm_types.specs.declared.dm.DmRefusal.TheVariants.{Disk}
use Rattle.hsm_types.specs.declared.dm.DmReply.{DmReply}
use Rattle.hsm_types.specs.declared.dm.DmReply.TheVariants as reply
use Rattle.hsm_types.specs.declared.dm.Response.TheVariants.{Media}
use Rattle.hsm_types.specs.declared.keys.Sid.{Sid}
use Rattle.hsm_types.specs.declared.keys.Token.{Token}
use Rattle.hsm_types.specs.declared.media.Fault.{Fault}
use Rattle.hsm_types.specs.declared.media.Fault.TheVariants.{Failed, Damaged}
use Rattle.hsm_types.specs.declared.media.FetchRefusal.TheVariants as fetching
use Rattle.hsm_types.specs.declared.stores.Superblock.{Superblock}
use Rattle.hsm_types.specs.declared.stubs.StubEntry.{StubEntry}
use Rattle.plain_model.specs.declared.entries.Action.TheVariants.{Dm}
use Rattle.plain_model.specs.declared.entries.Actor.TheVariants.{Session}
use Rattle.plain_model.specs.declared.entries.Answer.TheVariants.{Dm as Told}
use Rattle.plain_model.specs.declared.entries.Entry.{Entry}
use Rattle.plain_model.specs.Exact.{ExactSeen}
use Rattle.plain_model.specs.State.{Held, State, just_opened}
use Rattle.hsm_policy.specs.Settings.{Numbers}
use Rattle.daemon_session.specs.declared.events.Kept.{Kept}
use Rattle.hsm_core.specs.Packed.{HandsBy}
use Rattle.migrate_daemon.specs.Known as migrates
use Rattle.migrate_daemon.specs.Machine as migrate
use Rattle.migrate_daemon.specs.Passes.{Pass}
use Rattle.recall_daemon.specs.Known as recalls
use Rattle.recall_daemon.specs.Machine as recall
use Rattle.marked_history.specs.Caused.{IsCausedBy, Caused}
use Rattle.marked_history.specs.Served as served
use Rattle.marked_history.proofs.Causing.{RestsOn, EventOf, IsKnownBy, HandOf, GivenBy, nothing_by, known_more, asked_parked, call_by, cause_of, given_by}
use Rattle.marked_history.proofs.Causing.{no_fault}
use Rattle.marked_history.proofs.Lists.{place, none_there}
use Rattle.marked_history.proofs.Remembering.{changed_kept}
use Rattle.deeds.specs.Deeds.{Deed, Enters, entry_in, entries_of, entry_of, call_told, Fits, IsOf, NamesNoFault}
use Rattle.deeds.specs.Lives.{Living, Move, Begins, Ends, Renews, Asks, Learns, Fails, Misses, hearing, move_of, deed_by, MovesTo}
use Rattle.deeds.proofs.Living.{entries_then}
use Rattle.hsm_system.specs.Lives as lives
use Rattle.deed_laws.specs.Caused.{ServedIsCaused}
use Rattle.deed_laws.proofs.Keeping.{remarked_keep}
use Rattle.deed_laws.proofs.Machines.{recall_sits, migrate_sits, recall_missed, recall_asked}
use Rattle.deed_laws.proofs.Sitting.{Sound, IsSound}
use Rattle.deed_laws.proofs.Walking.{after, Happens, behind, IsBehind, behind_more}
use Rattle.deed_laws.proofs.Walking as walking

-- ---- what recall's acts rest on

abbrev ActRests : recalls.Known → Act → Type 0
ActRests k (act.Dm x c) = RestsOn k x c
ActRests k asked = Unit {0}

call_rests : (k : recalls.Known) (asked : Act) (told : Heard) (x : Sid) (c : DmCall) → recalls.MayCall k asked told x c → RestsOn k x c
call_rests k asked told x (call.RequestRight t h right) may = (may.3.0, (false, may.3.1.is_kept), may.3.2, may.3.3)
call_rests k asked told x (call.GetAllocInfo t h) may = (may.0.session, (may.2.0, may.2.1))
call_rests k asked told x c may = tt

-- so they do with what is known once it is given
asked_rests : (k : recalls.Known) (x : Sid) (c : DmCall) → RestsOn k x c → RestsOn (recalls.asks k c) x c
asked_rests k x call.GetAllSessions rests = tt
asked_rests k x (call.CreateSession old info) rests = tt
asked_rests k x (call.RequestRight t h right) rests = rests
asked_rests k x (call.Respond t response) rests = tt
asked_rests k x c rests = rests

-- ---- the fault of a fetch is one of the object of its entry

names_of : (entry : StubEntry) (fault : Fault) → IsOf entry fault → served.IsOf entry fault
names_of entry (Failed volume object before after) is = (is.0, is.1)
names_of entry (Damaged volume object want got) is = (is.0, is.1, is.2)

-- what is heard fits the act, or says nothing
abbrev HearsSo : Act → Option Heard → Type 0
HearsSo asked hears = IfSome hears (λ told. (told ≡ Nothing) ⊎ Fits asked told)

named_by : (asked : Act) (told : Heard) (entry : StubEntry) (fault : Fault) → asked ≡ act.Fetch entry → told ≡ heard.Fetched (Err (fetching.Media fault)) → (told ≡ Nothing) ⊎ Fits asked told → served.IsOf entry fault
named_by asked told entry fault same is (inl none) = let wrong : Nothing ≡ heard.Fetched (Err (fetching.Media fault)) = sym none ∙ is in absurd (cc wrong)
named_by asked told entry fault same is (inr fits) =
    names_of entry fault (subst (λ (a : Act). Fits a (heard.Fetched (Err (fetching.Media fault)))) same (subst (Fits asked) is fits))

-- ---- acts that name no fault

abbrev NamesNone : Act → Type 0
NamesNone (act.Dm x (call.Respond t (Media fault))) = ⊥
NamesNone asked = Unit {0}

migrate_none : (limits : Numbers) (k : migrates.Known) (old new : Pass) (asked : Act) (told : Heard) (given : Act) → migrate.MayGive limits k old new asked told given → NamesNone given
migrate_none limits k old new asked told (act.Dm x (call.Respond t (Media fault))) may = absurd (no_fault k.punched fault may.3)
migrate_none limits k old new asked told given may = tt

abbrev NoneNamed : Option (Living migrate.Machine) → Type 0
NoneNamed m = IfSome m (λ (r : Living migrate.Machine). NamesNone r.machine.asked)

none_on : (limits : Numbers) (move : Move) (old new : Option (Living migrate.Machine)) → MovesTo (lives.migrates limits) move old new → NoneNamed old → NoneNamed new
none_on limits Begins None new to is = subst NoneNamed (sym to) tt
none_on limits Begins (Some r) new to is = subst NoneNamed (sym to) is
none_on limits Ends old new to is = subst NoneNamed (sym to) tt
none_on limits Renews None new to is = subst NoneNamed (sym to) tt
none_on limits Renews (Some r) new to is = subst NoneNamed (sym to) is
none_on limits (Asks asked) old new to is =
    let may = to.4.may in
    subst NoneNamed (sym to.5) (subst NamesNone (sym to.4.asked) (migrate_none to.0.limits (migrates.knows_by to.0.limits to.0.known to.0.asked to.1) to.0.pass to.2.pass to.0.asked to.1 asked may))
none_on limits (Learns asked told) old new to is = subst NoneNamed (sym to.4) (subst NoneNamed to.1 is)
none_on limits (Fails x c) old new to is = subst NoneNamed (sym to.3) (subst NoneNamed to.1 is)
none_on limits Misses old new to is = let was : NoneNamed (Some to.0) = subst NoneNamed to.1 is in subst NoneNamed (sym to.2) was

module _ (s : Superblock) (st : State) where
  -- ---- what recall knows, by entries

  abbrev KnownBy : List Entry → recalls.Known → Type 0
  KnownBy = IsKnownBy s st

  asks_known : (es : List Entry) (k : recalls.Known) (x : Sid) (c : DmCall) → KnownBy es k → RestsOn k x c → KnownBy es (recalls.asks k c)
  asks_known es k x call.GetAllSessions is rests = nothing_by s st es
  asks_known es k x (call.CreateSession old info) is rests = nothing_by s st es
  asks_known es k x (call.RequestRight t h right) is rests = record { kept = is.kept; hand = record { parked = asked_parked s st es k.seat.kept t h is.kept rests; told = λ y same. tt } }
  asks_known es k x (call.Respond t response) is rests = record { kept = is.kept; hand = tt }
  asks_known es k x c is rests = is

  gives_known : (es : List Entry) (k : recalls.Known) (asked : Act) → KnownBy es k → ActRests k asked → KnownBy es (recalls.asks_by k asked)
  gives_known es k (act.Dm x c) is rests = asks_known es k x c is rests
  gives_known es k act.Idle is rests = record { kept = changed_kept (EventOf s st es) (λ (e : Kept). record e { marked = false }) (λ e. refl) k.seat.kept is.kept; hand = is.hand }
  gives_known es k asked is rests = is

  -- its call has no answer
  missed_hand : (es : List Entry) (k : recalls.Known) (c : DmCall) → HandOf s st es k → HandOf s st es (recalls.misses k c)
  missed_hand es k (call.RequestRight t h right) is = tt
  missed_hand es k (call.GetFileAttr t h) is = tt
  missed_hand es k (call.GetAllocInfo t h) is = tt
  missed_hand es k (call.Restore t h segment bytes) is = tt
  missed_hand es k (call.Respond t response) is = tt
  missed_hand es k c is = is

  missed_known : (es : List Entry) (k : recalls.Known) (asked : Act) → KnownBy es k → KnownBy es (recalls.knows_by k asked Nothing)
  missed_known es k (act.Dm x c) is = record { kept = remarked_keep (EventOf s st es) k.seat (recalls.misses k c).seat (recall_missed k c) is.kept; hand = missed_hand es k c is.hand }
  missed_known es k asked is = is

  -- what is heard of an act that is no call tells nothing of sessions
  heard_known : (es : List Entry) (k : recalls.Known) (asked : Act) (told : Heard) → Fits asked told → call_told asked told ≡ None → KnownBy es k → KnownBy es (recalls.knows_by k asked told)
  heard_known es k (act.Dm x c) (heard.Dm a) fits none is = absurd (none-some _ (sym none))
  heard_known es k (act.Dm x c) told fits none is = absurd fits
  heard_known es k asked told fits none is = is

  -- ---- one life

  -- where an answer for a fault is given, it is caused
  abbrev IsCause : List Entry → Act → Type 0
  IsCause es (act.Dm x (call.Respond t (Media fault))) = IsCausedBy s st es x t fault
  IsCause es asked = Unit {0}

  cause_more : (es more : List Entry) (asked : Act) → IsCause es asked → IsCause (es ++ more) asked
  cause_more es more (act.Dm x (call.Respond t (Media fault))) is = record {
    before = is.before;
    token = is.token;
    handle = is.handle;
    segments = is.segments;
    rest = is.rest ++ more;
    entry = is.entry;
    parted = ap (λ (l : List Entry). l ++ more) is.parted ∙ append_assoc is.before _ more;
    parked = is.parked;
    away = is.away;
    names = is.names;
  }
  cause_more es more asked is = tt

  gives_cause : (es : List Entry) (k : recalls.Known) (asked : Act) (told : Heard) (given : Act) → KnownBy es k → (told ≡ Nothing) ⊎ Fits asked told → recalls.MayGive k asked told given → IsCause es given
  gives_cause es k asked told (act.Dm x (call.Respond t (Media fault))) is fits may =
      let fetched = may.1.3 in
      cause_of s st es k x t fault may.1.0 fetched.0 is may.0.session may.1.1 may.1.2 fetched.3 (named_by asked told fetched.0.entry fault fetched.1 fetched.2 fits)
  gives_cause es k asked told given is fits may = tt

  record Knows (es : List Entry) (r : Living recall.Machine) : Type 0 where
    given : KnownBy es r.machine.known
    now : KnownBy es (recalls.knows_by r.machine.known r.machine.asked (unwrap_or r.hears Nothing))
    rests : ActRests r.machine.known r.machine.asked
    hears : HearsSo r.machine.asked r.hears
    cause : IsCause es r.machine.asked

  abbrev Knowing : List Entry → Option (Living recall.Machine) → Type 0
  Knowing es r = IfSome r (Knows es)

  knowing_more : (es more : List Entry) (r : Option (Living recall.Machine)) → Knowing es r → Knowing (es ++ more) r
  knowing_more es more None is = tt
  knowing_more es more (Some r) is = record {
    given = known_more s st es more r.machine.known is.given;
    now = known_more s st es more (recalls.knows_by r.machine.known r.machine.asked (unwrap_or r.hears Nothing)) is.now;
    rests = is.rests;
    hears = is.hears;
    cause = cause_more es more r.machine.asked is.cause;
  }

  -- it hears nothing, or awaits what it will
  none_heard : (es : List Entry) (m : recall.Machine) → KnownBy es m.known → ActRests m.known m.asked → IsCause es m.asked → Knows es (hearing m (Some Nothing))
  none_heard es m is rests cause = record { given = is; now = missed_known es m.known m.asked is; rests = rests; hears = inl refl; cause = cause }

  awaits : (es : List Entry) (m : recall.Machine) → KnownBy es m.known → ActRests m.known m.asked → IsCause es m.asked → Knows es (hearing m None)
  awaits es m is rests cause = record { given = is; now = missed_known es m.known m.asked is; rests = rests; hears = tt; cause = cause }

  act_rests : (k : recalls.Known) (asked : Act) (told : Heard) (given : Act) → recalls.MayGive k asked told given → ActRests k given
  act_rests k asked told (act.Dm x c) may = call_rests k asked told x c may
  act_rests k asked told given may = tt

  given_rests : (k : recalls.Known) (given : Act) → ActRests k given → ActRests (recalls.asks_by k given) given
  given_rests k (act.Dm x c) rests = asked_rests k x c rests
  given_rests k given rests = tt

  gave : (es : List Entry) (m : recall.Machine) (told : Heard) (given : Act) (n : recall.Machine) → recall.StepsOn m told given n → Knows es (hearing m (Some told)) → Knows es (hearing n None)
  gave es m told given n goes is =
      let k : recalls.Known = recalls.knows_by m.known m.asked told in
      let rests : ActRests k given = act_rests k m.asked told given goes.may in
      awaits es n (subst (KnownBy es) (sym goes.known) (gives_known es k given is.now rests))
      (subst (λ (a : Act). ActRests n.known a) (sym goes.asked) (subst (λ (x : recalls.Known). ActRests x given) (sym goes.known) (given_rests k given rests)))
      (subst (IsCause es) (sym goes.asked) (gives_cause es k m.asked told given is.now is.hears goes.may))

  -- what the store gives with an entry
  abbrev Tells : List Entry → Option Entry → Type 0
  Tells es None = Unit {0}
  Tells es (Some e) = GivenBy s st es e.actor e.action e.answer

  abbrev With : List Entry → Move → List Entry
  With es move = es ++ cons_option (entry_in (deed_by Recall move)) []

  answered : (es : List Entry) (x : Sid) (c : DmCall) (a : DmReply) (m : recall.Machine) → m.asked ≡ act.Dm x c → Fits (act.Dm x c) (heard.Dm a) → recalls.asks m.known c ≡ m.known → GivenBy s st es (Session x) (Dm c) (Told a) → Knows es (hearing m None)
      → Knows (es ++ entry_of (Session x) (Dm c) (Told a) ∷ []) (hearing m (Some (heard.Dm a)))
  answered es x c a m same fits twice given was =
      let more : List Entry = entry_of (Session x) (Dm c) (Told a) ∷ [] in
      let known : KnownBy (es ++ more) (recalls.hears m.known c a) = subst (λ (k : recalls.Known). KnownBy (es ++ more) (recalls.hears k c a)) twice (call_by s st es x m.known was.given c a given (subst (ActRests m.known) same was.rests)) in
      record {
        given = known_more s st es more m.known was.given;
        now = subst (λ (asked : Act). KnownBy (es ++ more) (recalls.knows_by m.known asked (heard.Dm a))) (sym same) known;
        rests = was.rests;
        hears = inr (subst (λ (asked : Act). Fits asked (heard.Dm a)) (sym same) fits);
        cause = cause_more es more m.asked was.cause;
      }

  heard_on : (es : List Entry) (asked : Act) (told : Heard) (m : recall.Machine) → m.asked ≡ asked → Fits asked told → call_told asked told ≡ None → Knows es (hearing m None) → Knows es (hearing m (Some told))
  heard_on es asked told m same fits none was = record {
    given = was.given;
    now = subst (λ (a : Act). KnownBy es (recalls.knows_by m.known a told)) (sym same) (heard_known es m.known asked told fits none was.given);
    rests = was.rests;
    hears = inr (subst (λ (a : Act). Fits a told) (sym same) fits);
    cause = was.cause;
  }

  knows_on : (es : List Entry) (move : Move) (old new : Option (Living recall.Machine)) → move_of Recall (deed_by Recall move) ≡ Some move → MovesTo lives.recalls move old new → Sound Recall lives.recalls recall_sits old → Tells es (entry_in (deed_by Recall move)) → Knowing es old
      → Knowing (With es move) new
  knows_on es Begins None new own to sound tells is = knowing_more es [] new (subst (Knowing es) (sym to) (none_heard es recall.started (nothing_by s st es) tt tt))
  knows_on es Begins (Some r) new own to sound tells is = knowing_more es [] new (subst (Knowing es) (sym to) is)
  knows_on es Ends old new own to sound tells is = subst (Knowing (With es Ends)) (sym to) tt
  knows_on es Renews old new own to sound tells is = absurd (none-some _ own)
  knows_on es (Asks asked) old new own to sound tells is = knowing_more es [] new (subst (Knowing es) (sym to.5) (gave es to.0 to.1 asked to.2 to.4 (subst (Knowing es) to.3 is)))
  knows_on es (Learns (act.Dm x c) (heard.Dm a)) old new own to sound tells is =
      let so : IsSound Recall lives.recalls recall_sits (hearing to.0 None) = subst (Sound Recall lives.recalls recall_sits) to.1 sound in
      subst (Knowing (With es (Learns (act.Dm x c) (heard.Dm a)))) (sym to.4) (answered es x c a to.0 to.2 to.3 (recall_asked to.0 so.so x c to.2) tells (subst (Knowing es) to.1 is))
  knows_on es (Learns asked told) old new own to sound tells is = knowing_more es (cons_option (call_told asked told) []) new (subst (Knowing es) (sym to.4) (heard_on es asked told to.0 to.2 to.3 refl (subst (Knowing es) to.1 is)))
  knows_on es (Fails x c) old new own to sound tells is =
      let was : Knows es (hearing to.0 None) = subst (Knowing es) to.1 is in
      knowing_more es (cons_option (entry_in (deed_by Recall (Fails x c))) []) new (subst (Knowing es) (sym to.3) (none_heard es to.0 was.given was.rests was.cause))
  knows_on es Misses old new own to sound tells is =
      let was : Knows es to.0 = subst (Knowing es) to.1 is in
      knowing_more es [] new (subst (Knowing es) (sym to.2) (none_heard es to.0.machine was.given was.rests was.cause))

  -- ---- answers that name a fault

  abbrev fault_answered : Sid → Token → Fault → Entry
  fault_answered x t fault = entry_of (Session x) (Dm (call.Respond t (Media fault))) (Told reply.Done)

  abbrev IsMade : Option Entry → Sid → Token → Fault → Type 0
  IsMade o x t fault = o ≡ Some (fault_answered x t fault)

  caused_more : (es : List Entry) (o : Option Entry) → ((x : Sid) (t : Token) (fault : Fault) → IsMade o x t fault → IsCausedBy s st es x t fault) → Caused s st es → Caused s st (es ++ cons_option o [])
  caused_more es None last is = subst (Caused s st) (sym (append-nil es)) is
  caused_more es (Some e) last is = λ before x t fault rest parted. elim (place es e before (fault_answered x t fault) rest parted) [
    | inl here ↦ subst (λ (l : List Entry). IsCausedBy s st l x t fault) (sym here.0) (last x t fault (ap (λ (y : Entry). Some y) (sym here.1)))
    | inr own ↦ is before x t fault own.0 own.2
  ]

  line_cause : (es : List Entry) (e : Entry) → NamesNoFault e.action → (x : Sid) (t : Token) (fault : Fault) → IsMade (Some e) x t fault → IsCausedBy s st es x t fault
  line_cause es e right x t fault same = absurd (subst (λ (y : Entry). NamesNoFault y.action) (same_Some e (fault_answered x t fault) same) right)

  -- recall's act was caused where it was given
  own_cause : (es : List Entry) (move : Move) (old new : Option (Living recall.Machine)) → MovesTo lives.recalls move old new → Knowing es old → (x : Sid) (t : Token) (fault : Fault) → IsMade (entry_in (deed_by Recall move)) x t fault → IsCausedBy s st es x t fault
  own_cause es (Learns (act.Dm y c) (heard.Dm a)) old new to is x t fault same =
      let one : entry_of (Session y) (Dm c) (Told a) ≡ fault_answered x t fault = same_Some (entry_of (Session y) (Dm c) (Told a)) (fault_answered x t fault) same in
      let who : Session y ≡ Session x = ap (λ (e : Entry). e.actor) one in
      let what : Dm c ≡ Dm (call.Respond t (Media fault)) = ap (λ (e : Entry). e.action) one in
      let by : y ≡ x = cc who in
      let made : c ≡ call.Respond t (Media fault) = cc what in
      let was : Knows es (hearing to.0 None) = subst (Knowing es) to.1 is in
      subst (IsCause es) (to.2 ∙ (λ i. act.Dm (by i) (made i))) was.cause
  own_cause es (Fails y c) old new to is x t fault same =
      let one : entry_of (Session y) (Dm c) (Told (reply.Refused Disk)) ≡ fault_answered x t fault = same_Some (entry_of (Session y) (Dm c) (Told (reply.Refused Disk))) (fault_answered x t fault) same in
      let told : Told (reply.Refused Disk) ≡ Told reply.Done = ap (λ (e : Entry). e.answer) one in
      absurd (cc told)
  own_cause es move old new to is x t fault same = absurd (none-some _ same)

  -- and migration names none
  other_cause : (limits : Numbers) (es : List Entry) (move : Move) (old new : Option (Living migrate.Machine)) → MovesTo (lives.migrates limits) move old new → NoneNamed old → (x : Sid) (t : Token) (fault : Fault) → IsMade (entry_in (deed_by Migrate move)) x t fault
      → IsCausedBy s st es x t fault
  other_cause limits es (Learns (act.Dm y c) (heard.Dm a)) old new to is x t fault same =
      let one : entry_of (Session y) (Dm c) (Told a) ≡ fault_answered x t fault = same_Some (entry_of (Session y) (Dm c) (Told a)) (fault_answered x t fault) same in
      let who : Session y ≡ Session x = ap (λ (e : Entry). e.actor) one in
      let what : Dm c ≡ Dm (call.Respond t (Media fault)) = ap (λ (e : Entry). e.action) one in
      let by : y ≡ x = cc who in
      let made : c ≡ call.Respond t (Media fault) = cc what in
      let was : NamesNone to.0.asked = subst NoneNamed to.1 is in
      absurd (subst NamesNone (to.2 ∙ (λ i. act.Dm (by i) (made i))) was)
  other_cause limits es (Fails y c) old new to is x t fault same =
      let one : entry_of (Session y) (Dm c) (Told (reply.Refused Disk)) ≡ fault_answered x t fault = same_Some (entry_of (Session y) (Dm c) (Told (reply.Refused Disk))) (fault_answered x t fault) same in
      let told : Told (reply.Refused Disk) ≡ Told reply.Done = ap (λ (e : Entry). e.answer) one in
      absurd (cc told)
  other_cause limits es move old new to is x t fault same = absurd (none-some _ same)

  -- ---- whole runs

  with_deed : (done : List Deed) (x : Deed) → entries_of (done ++ x ∷ []) ≡ entries_of done ++ cons_option (entry_in x) []
  with_deed done x = entries_then done (x ∷ [])

  module _ (es : List Entry) (none : st.sessions ≡ no_sessions) (exact : ExactSeen ⊥ s st es) where
    abbrev IsWhole : List Deed → List Deed → Type 0
    IsWhole done rest = es ≡ entries_of done ++ entries_of rest

    whole_more : (done rest : List Deed) (x : Deed) → IsWhole done (x ∷ rest) → IsWhole (done ++ x ∷ []) rest
    whole_more done rest x whole =
        whole ∙ ap (λ (l : List Entry). entries_of done ++ l) (entries_then (x ∷ []) rest) ∙ sym (append_assoc (entries_of done) (entries_of (x ∷ [])) (entries_of rest))
        ∙ ap (λ (l : List Entry). l ++ entries_of rest) (sym (with_deed done x))

    tells_by : (done : List Deed) (later : List Entry) (now : State) (o : Option Entry) → IsBehind s st done now → es ≡ entries_of done ++ cons_option o later → Happens s (Unit {0}) now o → Tells (entries_of done) o
    tells_by done later now None here whole happens = tt
    tells_by done later now (Some e) here whole happens =
        given_by s st es none exact (entries_of done) e.actor e.action e.answer later whole (subst (λ (y : State). HandsBy y e.actor e.action e.answer) here (happens.1 tt))

    record AreCaused (done rest : List Deed) (now : State) (r : Option (Living recall.Machine)) (m : Option (Living migrate.Machine)) : Type 0 where
      pub here : IsBehind s st done now
      pub whole : IsWhole done rest
      pub recall : Knowing (entries_of done) r
      pub migrate : NoneNamed m
      pub caused : Caused s st (entries_of done)

    -- a deed more
    more : (done rest : List Deed) (x : Deed) (now : State) (r : Option (Living recall.Machine)) (m : Option (Living migrate.Machine)) → IsBehind s st done now → IsWhole done (x ∷ rest) → Knowing (entries_of done ++ cons_option (entry_in x) []) r → NoneNamed m
        → Caused s st (entries_of done ++ cons_option (entry_in x) []) → AreCaused (done ++ x ∷ []) rest (after s now (entry_in x)) r m
    more done rest x now r m here whole recall migrate caused = record {
      here = behind_more s st done x now here;
      whole = whole_more done rest x whole;
      recall = subst (λ (l : List Entry). Knowing l r) (sym (with_deed done x)) recall;
      migrate = migrate;
      caused = subst (Caused s st) (sym (with_deed done x)) caused;
    }

    are_caused : (limits : Numbers) → walking.Keeps lives.recalls (lives.migrates limits) recall_sits (migrate_sits limits) s (Unit {0}) AreCaused
    are_caused limits = record {
      line = λ done rest now e r m right ordered happens is.
          more done rest (Enters e) now r m is.here is.whole (knowing_more (entries_of done) (e ∷ []) r is.recall) is.migrate (caused_more (entries_of done) (Some e) (line_cause (entries_of done) e right) is.caused);
      recall = λ done rest now move old new m own other to sound ordered happens is.
          more done rest (deed_by Recall move) now new m is.here is.whole (knows_on (entries_of done) move old new own to sound (tells_by done (entries_of rest) now (entry_in (deed_by Recall move)) is.here is.whole happens) is.recall) is.migrate
          (caused_more (entries_of done) (entry_in (deed_by Recall move)) (own_cause (entries_of done) move old new to is.recall) is.caused);
      migrate = λ done rest now move r old new own other to sound ordered happens is.
          more done rest (deed_by Migrate move) now r new is.here is.whole (knowing_more (entries_of done) (cons_option (entry_in (deed_by Migrate move)) []) r is.recall) (none_on limits move old new to is.migrate)
          (caused_more (entries_of done) (entry_in (deed_by Migrate move)) (other_cause limits (entries_of done) move old new to is.migrate) is.caused);
    }

    first_caused : (deeds : List Deed) → es ≡ entries_of deeds → AreCaused [] deeds st None None
    first_caused deeds whole = record { here = refl; whole = whole; recall = tt; migrate = tt; caused = λ before x t fault rest parted. absurd (none_there before (fault_answered x t fault) rest parted) }

-- ---- the law

pub is_caused : (limits : Numbers) (s : Superblock) (base : ℕ) (h : Held) (deeds : List Deed) → ServedIsCaused limits s base h deeds
is_caused limits s base h deeds (end, leads) run packed =
    let st : State = just_opened base h in
    let es : List Entry = entries_of deeds in
    (behind lives.recalls (lives.migrates limits) recall_sits (migrate_sits limits) s (Unit {0}) (AreCaused s st es refl run.exact) (are_caused s st es refl run.exact limits) base h deeds end leads run (λ packs. packed)
    (first_caused s st es refl run.exact deeds refl)).caused
