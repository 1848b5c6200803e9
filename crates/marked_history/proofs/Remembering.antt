-- Which session a daemon has after each answer, and what is true of each event that it keeps.
use Rattle.std.proofs.Common.{◌≡◌, ℕ, Bool, true, false, not, List, [], ◌∷◌, drop, map, Option, None, Some, refl, sym, subst}
use Rattle.std.proofs.lemmas.Bool.{true≢false}
use Rattle.std.proofs.lemmas.List.Elements.{All-nil, All-cons, All-head, All-tail, All-weaker, All-append, All-filter, All-map}
use Rattle.std.specs.Prelude.{IfSome, if◌then◌else◌}
use Rattle.std.specs.List.{All, filter_map, cons_option}
use Rattle.std.specs.Option.{option_map}
use Rattle.std.specs.Str.{bytes_eq}
use Rattle.hsm_types.specs.Daemons.{information, kinds_of}
use Rattle.hsm_types.specs.Messages.{takes}
use Rattle.hsm_types.specs.Sessions.{SessionTable}
use Rattle.hsm_types.specs.declared.daemons.Daemon.{Daemon}
use Rattle.hsm_types.specs.declared.daemons.Daemon.TheVariants.{Recall, Migrate}
use Rattle.hsm_types.specs.declared.dm.DmCall.{DmCall}
use Rattle.hsm_types.specs.declared.dm.DmCall.TheVariants as call
use Rattle.hsm_types.specs.declared.dm.DmRefusal.TheVariants as why
use Rattle.hsm_types.specs.declared.dm.DmReply.{DmReply}
use Rattle.hsm_types.specs.declared.dm.DmReply.TheVariants as reply
use Rattle.hsm_types.specs.declared.keys.Handle.{Handle}
use Rattle.hsm_types.specs.declared.keys.Sid.{Sid}
use Rattle.hsm_types.specs.declared.keys.Token.{Token}
use Rattle.hsm_types.specs.declared.messages.Message.{Message}
use Rattle.event_msgs.specs.Reading.{told}
use Rattle.event_msgs.proofs.ToldMessages.{packed_told}
use Rattle.dm_service.specs.Handing.{HandsOut}
use Rattle.hsm_policy.specs.Settings.{Numbers}
use Rattle.daemon_session.specs.declared.events.Event.{Event}
use Rattle.daemon_session.specs.declared.events.Kept.{Kept}
use Rattle.daemon_session.specs.Seats.{Seat, has_kept_token, forgot, told_info, seat_asks, seat_hears}
use Rattle.daemon_session.specs.Tellings.{event_on, own_event, events_in}
use Rattle.recall_daemon.specs.Known as recall
use Rattle.recall_daemon.proofs.Outcomes.{Keeps, seat_so}
use Rattle.migrate_daemon.specs.Known as migrate
use Rattle.marked_history.proofs.Seating.{migrate_so}
use Rattle.marked_history.proofs.Carrying.{Each, handed_each, one_each, queue_of_each, outstanding_message_each}

-- ---- its session

-- the calls that lead to another session
abbrev pub leads : DmCall → Bool
leads call.GetAllSessions = true
leads (call.CreateSession old info) = true
leads c = false

info_sid : (d : Daemon) (seat : Seat) (target : Sid) (info : List ℕ) → (told_info d target info seat).sid ≡ seat.sid
info_sid d seat target info = elim (bytes_eq info (information d)) as (λ (b : Bool). (if b then record seat { found = Some target } else record seat { others = option_map (λ (ids : List Sid). drop 1 ids) seat.others }).sid ≡ seat.sid) [ true ↦ refl | false ↦ refl ]

pub stays : (d : Daemon) (seat : Seat) (c : DmCall) (a : DmReply) → leads c ≡ false → (seat_hears d (seat_asks seat c) c a).sid ≡ seat.sid
stays d seat call.GetAllSessions a other = absurd (true≢false other)
stays d seat (call.CreateSession old info) a other = absurd (true≢false other)
stays d seat (call.QuerySession target) (reply.Info info) other = info_sid d seat target info
stays d seat (call.SetDisp kinds) reply.Done other = refl
stays d seat call.GetAllTokens (reply.Tokens tokens) other = refl
stays d seat (call.FindEventMsg t room) (reply.Packed bytes tokens) other = refl
stays d seat (call.FindEventMsg t room) (reply.Refused why.NoToken) other = refl
stays d seat (call.FindEventMsg t room) (reply.Refused (why.NotYours owner)) other = refl
stays d seat (call.GetEvents most room) (reply.Packed bytes tokens) other = refl
stays d seat (call.Respond t response) reply.Done other = refl
stays d seat (call.Respond t response) (reply.Refused why.NoToken) other = refl
stays d seat (call.Respond t response) (reply.Refused (why.NotYours owner)) other = refl
stays d seat c a other = refl

-- ---- its events

pub cons_each : {X : Type 0} (P : X → Type 0) (first : Option X) (rest : List X) → IfSome first P → All P rest → All P (cons_option first rest)
cons_each P None rest is each = each
cons_each P (Some x) rest is each = All-cons P x rest is each

module _ (E : Event → Type 0) where
  abbrev pub IsKeptSo : Kept → Type 0
  IsKeptSo k = E k.event

  abbrev pub AllKept : List Kept → Type 0
  AllKept kept = All IsKeptSo kept

  -- so is each event that the answer tells
  abbrev pub TellsOnly : Daemon → DmCall → DmReply → Type 0
  TellsOnly d (call.GetEvents most room) (reply.Packed bytes tokens) = AllKept (events_in d bytes)
  TellsOnly d (call.FindEventMsg t room) (reply.Packed bytes tokens) = AllKept (events_in d bytes)
  TellsOnly d c a = Unit {0}

  pub changed_kept : (f : Kept → Kept) → ((k : Kept) → (f k).event ≡ k.event) → (kept : List Kept) → AllKept kept → AllKept (map f kept)
  changed_kept f same kept each = All-map IsKeptSo f kept (All-weaker IsKeptSo (λ k. IsKeptSo (f k)) (λ k is. subst E (sym (same k)) is) kept each)

  forgot_kept : (u : Token) (kept : List Kept) → AllKept kept → AllKept (forgot u kept)
  forgot_kept u kept each = All-filter (λ k. not (has_kept_token u k)) IsKeptSo kept each

  info_kept : (d : Daemon) (seat : Seat) (target : Sid) (info : List ℕ) → AllKept seat.kept → AllKept (told_info d target info seat).kept
  info_kept d seat target info each = elim (bytes_eq info (information d)) as (λ (b : Bool). AllKept (if b then record seat { found = Some target } else record seat { others = option_map (λ (ids : List Sid). drop 1 ids) seat.others }).kept) [ true ↦ each | false ↦ each ]

  seat_kept : (d : Daemon) (seat : Seat) (c : DmCall) (a : DmReply) → AllKept seat.kept → TellsOnly d c a → AllKept (seat_hears d seat c a).kept
  seat_kept d seat call.GetAllSessions (reply.Sids ids) each tells = each
  seat_kept d seat (call.QuerySession target) (reply.Info info) each tells = info_kept d seat target info each
  seat_kept d seat (call.CreateSession old info) (reply.Session sid) each tells = All-nil IsKeptSo
  seat_kept d seat (call.SetDisp kinds) reply.Done each tells = each
  seat_kept d seat call.GetAllTokens (reply.Tokens tokens) each tells = each
  seat_kept d seat (call.FindEventMsg t room) (reply.Packed bytes tokens) each tells = All-append IsKeptSo seat.kept (events_in d bytes) each tells
  seat_kept d seat (call.FindEventMsg t room) (reply.Refused why.NoToken) each tells = each
  seat_kept d seat (call.FindEventMsg t room) (reply.Refused (why.NotYours owner)) each tells = each
  seat_kept d seat (call.GetEvents most room) (reply.Packed bytes tokens) each tells = All-append IsKeptSo seat.kept (events_in d bytes) each tells
  seat_kept d seat (call.Respond t response) reply.Done each tells = forgot_kept t seat.kept each
  seat_kept d seat (call.Respond t response) (reply.Refused why.NoToken) each tells = forgot_kept t seat.kept each
  seat_kept d seat (call.Respond t response) (reply.Refused (why.NotYours owner)) each tells = forgot_kept t seat.kept each
  seat_kept d seat c a each tells = each

  pub asks_kept : (seat : Seat) (c : DmCall) → AllKept seat.kept → AllKept (seat_asks seat c).kept
  asks_kept seat call.GetAllSessions each = All-nil IsKeptSo
  asks_kept seat (call.CreateSession old info) each = All-nil IsKeptSo
  asks_kept seat c each = each

  pub keeps_kept : (d : Daemon) (seat : Seat) (c : DmCall) (a : DmReply) → AllKept seat.kept → TellsOnly d c a → Keeps (λ s. AllKept s.kept) c a (seat_hears d (seat_asks seat c) c a)
  keeps_kept d seat c a each tells =
      let next : Seat = seat_hears d (seat_asks seat c) c a in
      let is : AllKept next.kept = seat_kept d (seat_asks seat c) c a (asks_kept seat c each) tells in
      record { is = is; marks = λ f same. changed_kept f same next.kept is; drops = λ u on gone. forgot_kept u next.kept is }

  pub recall_kept : (k : recall.Known) (c : DmCall) (a : DmReply) → AllKept k.seat.kept → TellsOnly Recall c a → AllKept (recall.hears (recall.asks k c) c a).seat.kept
  recall_kept k c a each tells = seat_so (λ s. AllKept s.kept) k c a (keeps_kept Recall k.seat c a each tells)

  pub migrate_kept : (limits : Numbers) (k : migrate.Known) (c : DmCall) (a : DmReply) → AllKept k.seat.kept → TellsOnly Migrate c a → AllKept (migrate.hears limits (migrate.asks k c) c a).seat.kept
  migrate_kept limits k c a each tells = migrate_so (λ s. AllKept s.kept) limits k c a (keeps_kept Migrate k.seat c a each tells)

  -- where it is true of the event of each message of the sessions, it is true of what is handed out
  module _ (d : Daemon) (P : Message → Type 0) (told_one : (m : Message) (h : Handle) → P m → takes (kinds_of d) m.kind ≡ true → m.handle ≡ Some h → E (event_on m h)) where
    event_kept : (m : Message) (own : Bool) (found : Option Handle) → P m → takes (kinds_of d) m.kind ≡ own → m.handle ≡ found
        → IfSome (if own then option_map (λ (h : Handle). record { event = event_on m h; marked = false }) found else None) IsKeptSo
    event_kept m false found is own has = tt
    event_kept m true None is own has = tt
    event_kept m true (Some h) is own has = told_one m h is own has

    events_kept : (messages : List Message) → All P messages → AllKept (filter_map (own_event d) messages)
    events_kept [] each = All-nil IsKeptSo
    events_kept (m ∷ more) each = cons_each IsKeptSo (own_event d m) _ (event_kept m (takes (kinds_of d) m.kind) m.handle (All-head P m more each) refl refl) (events_kept more (All-tail P m more each))

    pub tells_each : (t : SessionTable) (x : Sid) (c : DmCall) (a : DmReply) → Each P t → HandsOut t x c a → TellsOnly d c a
    tells_each t x (call.GetEvents most room) (reply.Packed bytes tokens) each hands =
        events_kept (told bytes) (subst (λ (l : List Message). All P l) (packed_told bytes _ hands) (handed_each P most room _ (queue_of_each P x t each)))
    tells_each t x (call.FindEventMsg u room) (reply.Packed bytes tokens) each hands =
        events_kept (told bytes) (subst (λ (l : List Message). All P l) (packed_told bytes _ hands) (one_each P _ (outstanding_message_each P u t each)))
    tells_each t x c a each hands = tt
