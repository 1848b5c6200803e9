-- In a served history a daemon with a session keeps each event of its kinds that is outstanding to that session, but for those that lines of the script took.
use Rattle.std.proofs.Common.{◌≡◌, ℕ, ◌+◌, List, [], ◌∷◌, ◌++◌, Option, None, Some, refl, sym, ap, subst, append_assoc, ◌∙◌}
use Rattle.std.specs.Prelude.{Contains}
use Rattle.hsm_types.specs.Sessions.{SessionTable}
use Rattle.hsm_types.specs.declared.daemons.Daemon.{Daemon}
use Rattle.hsm_types.specs.declared.daemons.Daemon.TheVariants.{Recall, Migrate}
use Rattle.hsm_types.specs.declared.dm.DmCall.{DmCall}
use Rattle.hsm_types.specs.declared.dm.DmCall.TheVariants as call
use Rattle.hsm_types.specs.declared.dm.DmReply.{DmReply}
use Rattle.hsm_types.specs.declared.dm.DmReply.TheVariants as reply
use Rattle.hsm_types.specs.declared.keys.Sid.{Sid}
use Rattle.hsm_types.specs.declared.keys.Token.{Token}
use Rattle.hsm_types.specs.declared.stores.Superblock.{Superblock}
use Rattle.plain_model.specs.declared.entries.Action.{Action}
use Rattle.plain_model.specs.declared.entries.Action.TheVariants.{Dm}
use Rattle.plain_model.specs.declared.entries.Actor.{Actor}
use Rattle.plain_model.specs.declared.entries.Actor.TheVariants.{Session}
use Rattle.plain_model.specs.declared.entries.Answer.{Answer}
use Rattle.plain_model.specs.declared.entries.Answer.TheVariants.{Dm as Told}
use Rattle.plain_model.specs.declared.entries.Entry.{Entry}
use Rattle.plain_model.specs.State.{Held, State, just_opened}
use Rattle.plain_model.specs.Stands.{InOrder}
use Rattle.plain_model.specs.Exact.{IsAnswer, left_by, state_by}
use Rattle.dm_service.specs.Handing.{HandsOut}
use Rattle.hsm_policy.specs.Settings.{Numbers}
use Rattle.daemon_session.specs.Seats.{Seat}
use Rattle.recall_daemon.specs.Known as recall
use Rattle.recall_daemon.proofs.Outcomes.{AsksOn, seat_so}
use Rattle.migrate_daemon.specs.Known as migrate
use Rattle.hsm_core.specs.Answers.{entry_of}
use Rattle.hsm_core.specs.Packed.{HandsBy}
use Rattle.marked_history.specs.Marks.{Mark, entries_of, answered_call_by, no_daemons, made}
use Rattle.marked_history.specs.Served.{Shown, nothing_shown, with_entry, learned, shown, RecallMay, MigrateMay, IsServedBy}
use Rattle.marked_history.specs.Tokens.{line_told, FindsAgain, IsTaken, KeepsAll, ServedKeepsAll}
use Rattle.marked_history.proofs.Carrying.{Each, none_each}
use Rattle.marked_history.proofs.Seating.{migrate_so}
use Rattle.marked_history.proofs.Seen.{over, is_over, ordered_over, hands_over}
use Rattle.marked_history.proofs.Walking.{KeptBy, kept_behind}
use Rattle.marked_history.proofs.Leaving.{left_given}
use Rattle.marked_history.proofs.Lists.{all_and}
use Rattle.marked_history.proofs.Accounting.{Finds, AllAccounted, none_accounted, seated_keeps}
use Rattle.marked_history.proofs.BothSeats.{Moves, AreApart, moves_given, moves_apart, later_given, after, keeps_all, keeps_moved, line_on, other_on}
use Rattle.marked_history.proofs.BothSeats.{other_way, left_tokened}
use Rattle.marked_history.proofs.OwnSeats.{HasToken, IsGiven, SeatMay}

-- ---- tokens that lines took

found_call : (d : Daemon) (t : Token) (x : Sid) (c : DmCall) (a : DmReply) → FindsAgain d t (made d x c a) → Finds c a t
found_call d t x c a found =
    let asked : Dm c ≡ Dm (call.FindEventMsg t found.1) = ap (λ (m : Mark). m.entry.action) found.4 in
    let told : Told a ≡ Told (reply.Packed found.2 found.3) = ap (λ (m : Mark). m.entry.answer) found.4 in
    let one : call.FindEventMsg t found.1 ≡ c = cc asked in
    let other : reply.Packed found.2 found.3 ≡ a = cc told in
    subst (λ (y : DmCall). Finds y a t) one (subst (λ (y : DmReply). Finds (call.FindEventMsg t found.1) y t) other refl)

not_by : (d : Daemon) (t : Token) (m : Mark) → (m.by ≡ Some d → ⊥) → FindsAgain d t m → ⊥
not_by d t m other is = other (ap (λ (x : Mark). x.by) is.4)

taken_more : (d : Daemon) (marks : List Mark) (m : Mark) (t : Token) → (FindsAgain d t m → ⊥) → IsTaken d marks t → IsTaken d (marks ++ m ∷ []) t
taken_more d marks m t other was = record {
  before = was.before;
  sid = was.sid;
  most = was.most;
  room = was.room;
  bytes = was.bytes;
  tokens = was.tokens;
  rest = was.rest ++ m ∷ [];
  parted = ap (λ (l : List Mark). l ++ m ∷ []) was.parted ∙ append_assoc was.before (line_told was.sid (call.GetEvents was.most was.room) (reply.Packed was.bytes was.tokens) ∷ was.rest) (m ∷ []);
  given = was.given;
  lost = all_and (λ x. FindsAgain d t x → ⊥) was.rest m was.lost other;
}

-- of a line that was given the token
taken_by : (d : Daemon) (marks : List Mark) (sid : Sid) (most room : ℕ) (bytes : List ℕ) (tokens : List Token) (t : Token) → Contains tokens t → IsTaken d (marks ++ line_told sid (call.GetEvents most room) (reply.Packed bytes tokens) ∷ []) t
taken_by d marks sid most room bytes tokens t is = record {
  before = marks;
  sid = sid;
  most = most;
  room = room;
  bytes = bytes;
  tokens = tokens;
  rest = [];
  parted = refl;
  given = is;
  lost = tt;
}

-- ---- a call of either daemon

recall_rests : (k : recall.Known) (x : Sid) (c : DmCall) → RecallMay k x c → SeatMay k.seat x c
recall_rests k x call.GetAllTokens may = may.0
recall_rests k x (call.FindEventMsg t room) may = (may.0, may.3)
recall_rests k x (call.GetEvents most room) may = may.0.session
recall_rests k x (call.Respond t response) may = may.0.session
recall_rests k x c may = tt

migrate_rests : (k : migrate.Known) (x : Sid) (c : DmCall) → MigrateMay k x c → SeatMay k.seat x c
migrate_rests k x call.GetAllTokens may = may.0
migrate_rests k x (call.FindEventMsg t room) may = (may.0, may.3)
migrate_rests k x (call.GetEvents most room) may = may.0.session
migrate_rests k x (call.Respond t response) may = may.0.session
migrate_rests k x c may = tt

-- a call on an event is made in its session
recall_on : (k : recall.Known) (x : Sid) (c : DmCall) → RecallMay k x c → (u : Token) → AsksOn u c → k.seat.sid ≡ Some x
recall_on k x (call.RequestRight t h r) may u on = may.0.session
recall_on k x (call.GetFileAttr t h) may u on = may.0.session
recall_on k x (call.GetAllocInfo t h) may u on = may.0.session
recall_on k x (call.Restore t h j bytes) may u on = may.0.session
recall_on k x c may u on = absurd on

migrate_on : (k : migrate.Known) (x : Sid) (c : DmCall) → MigrateMay k x c → (u : Token) → AsksOn u c → k.seat.sid ≡ Some x
migrate_on k x (call.RequestRight t h r) may u on = absurd may
migrate_on k x (call.GetFileAttr t h) may u on = absurd may
migrate_on k x (call.GetAllocInfo t h) may u on = absurd may
migrate_on k x (call.Restore t h j bytes) may u on = absurd may
migrate_on k x c may u on = absurd on

module _ (s : Superblock) (st : State) (ordered : InOrder st) (tokened : Each HasToken st.sessions) (done : List Mark) (x : Sid) where
  recall_call : (k : recall.Known) → IsGiven st.sessions k.seat → AllAccounted Recall (IsTaken Recall done) st.sessions k.seat → (c : DmCall) (a : DmReply) → RecallMay k x c → HandsOut st.sessions x c a → IsAnswer s st (Session x) (Dm c) (Told a)
      → AllAccounted Recall (IsTaken Recall (done ++ made Recall x c a ∷ [])) (after s st x c a) (recall.hears (recall.asks k c) c a).seat
  recall_call k given each c a may hands is =
      seat_so (AllAccounted Recall (IsTaken Recall (done ++ made Recall x c a ∷ [])) (after s st x c a)) k c a (keeps_all s st ordered Recall (IsTaken Recall done) (IsTaken Recall (done ++ made Recall x c a ∷ [])) tokened x k.seat given each c a (λ u other was. taken_more Recall done (made Recall x c a) u (λ found. other (found_call Recall u x c a found)) was) (recall_rests k x c may) hands is (recall_on k x c may))

  recall_moves : (k : recall.Known) (c : DmCall) (a : DmReply) → IsAnswer s st (Session x) (Dm c) (Told a) → Moves st.sessions (after s st x c a) k.seat (recall.hears (recall.asks k c) c a).seat
  recall_moves k c a is = seat_so (Moves st.sessions (after s st x c a) k.seat) k c a (keeps_moved s st x Recall k.seat c a is)

  migrate_call : (limits : Numbers) (k : migrate.Known) → IsGiven st.sessions k.seat → AllAccounted Migrate (IsTaken Migrate done) st.sessions k.seat → (c : DmCall) (a : DmReply) → MigrateMay k x c → HandsOut st.sessions x c a → IsAnswer s st (Session x) (Dm c) (Told a)
      → AllAccounted Migrate (IsTaken Migrate (done ++ made Migrate x c a ∷ [])) (after s st x c a) (migrate.hears limits (migrate.asks k c) c a).seat
  migrate_call limits k given each c a may hands is =
      migrate_so (AllAccounted Migrate (IsTaken Migrate (done ++ made Migrate x c a ∷ [])) (after s st x c a)) limits k c a (keeps_all s st ordered Migrate (IsTaken Migrate done) (IsTaken Migrate (done ++ made Migrate x c a ∷ [])) tokened x k.seat given each c a (λ u other was. taken_more Migrate done (made Migrate x c a) u (λ found. other (found_call Migrate u x c a found)) was) (migrate_rests k x c may) hands is (migrate_on k x c may))

  migrate_moves : (limits : Numbers) (k : migrate.Known) (c : DmCall) (a : DmReply) → IsAnswer s st (Session x) (Dm c) (Told a) → Moves st.sessions (after s st x c a) k.seat (migrate.hears limits (migrate.asks k c) c a).seat
  migrate_moves limits k c a is = migrate_so (Moves st.sessions (after s st x c a) k.seat) limits k c a (keeps_moved s st x Migrate k.seat c a is)

-- ---- any entry

-- what is known of both daemons
record Follows (marks : List Mark) (t : SessionTable) (k : Shown) : Type 0 where
  pub recall : AllAccounted Recall (IsTaken Recall marks) t k.recall.seat
  pub migrate : AllAccounted Migrate (IsTaken Migrate marks) t k.migrate.seat
  pub recall_given : IsGiven t k.recall.seat
  pub migrate_given : IsGiven t k.migrate.seat
  pub apart : AreApart k.recall.seat k.migrate.seat

module _ (s : Superblock) (st : State) (ordered : InOrder st) (done : List Mark) where
  line_more : (d : Daemon) (seat : Seat) (who : Actor) (what : Action) (answer : Answer) → IsAnswer s st who what answer → IsGiven st.sessions seat → AllAccounted d (IsTaken d done) st.sessions seat
      → AllAccounted d (IsTaken d (done ++ no_daemons (entry_of who what answer) ∷ [])) (left_by s st who what answer).sessions seat
  line_more d seat who what answer is given each =
      line_on s st ordered d (IsTaken d done) (IsTaken d (done ++ no_daemons (entry_of who what answer) ∷ [])) seat who what answer is given
      (λ u was. taken_more d done (no_daemons (entry_of who what answer)) u (not_by d u (no_daemons (entry_of who what answer)) (λ by. cc)) was)
      (λ sid most room bytes tokens u who_is what_is answer_is there.
      subst (λ (e : Entry). IsTaken d (done ++ no_daemons e ∷ []) u) (λ i. entry_of (sym who_is i) (sym what_is i) (sym answer_is i)) (taken_by d done sid most room bytes tokens u there))
      each

  other_more : (d e : Daemon) (seat other : Seat) (x : Sid) (c : DmCall) (a : DmReply) → (Some e ≡ Some d → ⊥) → AreApart seat other → SeatMay other x c → IsAnswer s st (Session x) (Dm c) (Told a) → IsGiven st.sessions seat
      → AllAccounted d (IsTaken d done) st.sessions seat → AllAccounted d (IsTaken d (done ++ made e x c a ∷ [])) (left_by s st (Session x) (Dm c) (Told a)).sessions seat
  other_more d e seat other x c a differ apart may is given each =
      other_on s st ordered d (IsTaken d done) (IsTaken d (done ++ made e x c a ∷ [])) seat other x c a apart may is given (λ u was. taken_more d done (made e x c a) u (not_by d u (made e x c a) differ) was) each

  module _ (tokened : Each HasToken st.sessions) (limits : Numbers) (k : Shown) (f : Follows done st.sessions k) where
    step : (by : Option Daemon) (who : Actor) (what : Action) (answer : Answer) → IsAnswer s st who what answer → HandsBy st who what answer → IsServedBy by k (record { entry = entry_of who what answer; by = by })
        → Follows (done ++ (record { entry = entry_of who what answer; by = by }) ∷ []) (left_by s st who what answer).sessions (with_entry limits by (answered_call_by who what answer) k)
    step None who what answer is hands served = record {
      recall = line_more Recall k.recall.seat who what answer is f.recall_given f.recall;
      migrate = line_more Migrate k.migrate.seat who what answer is f.migrate_given f.migrate;
      recall_given = later_given st.sessions (left_by s st who what answer).sessions k.recall.seat (left_given s st who what answer) f.recall_given;
      migrate_given = later_given st.sessions (left_by s st who what answer).sessions k.migrate.seat (left_given s st who what answer) f.migrate_given;
      apart = f.apart;
    }
    step (Some Recall) (Session x) (Dm c) (Told a) is hands served =
        let moves = recall_moves s st ordered tokened done x k.recall c a is in
        record {
          recall = recall_call s st ordered tokened done x k.recall f.recall_given f.recall c a served hands is;
          migrate = other_more Migrate Recall k.migrate.seat k.recall.seat x c a (λ same. cc) (other_way k.recall.seat k.migrate.seat f.apart) (recall_rests k.recall x c served) is f.migrate_given f.migrate;
          recall_given = moves_given st.sessions (after s st x c a) k.recall.seat (recall.hears (recall.asks k.recall c) c a).seat (left_given s st (Session x) (Dm c) (Told a)) moves f.recall_given;
          migrate_given = later_given st.sessions (after s st x c a) k.migrate.seat (left_given s st (Session x) (Dm c) (Told a)) f.migrate_given;
          apart = moves_apart st.sessions (after s st x c a) k.recall.seat (recall.hears (recall.asks k.recall c) c a).seat k.migrate.seat moves f.migrate_given f.apart;
        }
    step (Some Migrate) (Session x) (Dm c) (Told a) is hands served =
        let moves = migrate_moves s st ordered tokened done x limits k.migrate c a is in
        record {
          recall = other_more Recall Migrate k.recall.seat k.migrate.seat x c a (λ same. cc) f.apart (migrate_rests k.migrate x c served) is f.recall_given f.recall;
          migrate = migrate_call s st ordered tokened done x limits k.migrate f.migrate_given f.migrate c a served hands is;
          recall_given = later_given st.sessions (after s st x c a) k.recall.seat (left_given s st (Session x) (Dm c) (Told a)) f.recall_given;
          migrate_given = moves_given st.sessions (after s st x c a) k.migrate.seat (migrate.hears limits (migrate.asks k.migrate c) c a).seat (left_given s st (Session x) (Dm c) (Told a)) moves f.migrate_given;
          apart = other_way (migrate.hears limits (migrate.asks k.migrate c) c a).seat k.recall.seat
              (moves_apart st.sessions (after s st x c a) k.migrate.seat (migrate.hears limits (migrate.asks k.migrate c) c a).seat k.recall.seat moves f.recall_given (other_way k.recall.seat k.migrate.seat f.apart));
        }
    step (Some d) who what answer is hands served = absurd served

-- ---- whole histories

-- with tokens of all messages
abbrev AllFollow : List Mark → State → Shown → Type 0
AllFollow done now k = Each HasToken now.sessions × Follows done now.sessions k

all_follow : (limits : Numbers) (s : Superblock) → KeptBy limits s AllFollow
all_follow limits s done now k m ordered answer hands served is =
    let there = is_over s now m.entry.actor m.entry.action m.entry.answer answer in (
      left_tokened s now is.0 m.entry.actor m.entry.action m.entry.answer,
      subst (λ (left : State). Follows (done ++ m ∷ []) left.sessions (learned limits k m)) (sym there.left)
          (step s (over now there.seen) (ordered_over now there.seen ordered) done is.0 limits k is.1 m.by m.entry.actor m.entry.action m.entry.answer there.exact (hands_over now there.seen m.entry.actor m.entry.action m.entry.answer hands) served),
    )

first_follows : (t : SessionTable) → Follows [] t nothing_shown
first_follows t = record {
  recall = none_accounted Recall t (IsTaken Recall []) nothing_shown.recall.seat refl;
  migrate = none_accounted Migrate t (IsTaken Migrate []) nothing_shown.migrate.seat refl;
  recall_given = λ sid own. absurd cc;
  migrate_given = λ sid own. absurd cc;
  apart = λ a b mine theirs equal. absurd cc;
}

follows_keeps : (daemon : Daemon) (limits : Numbers) (s : Superblock) (st : State) (marks : List Mark) → Follows marks (state_by s st (entries_of marks)).sessions (shown limits nothing_shown marks) → KeepsAll daemon limits s st marks
follows_keeps Recall limits s st marks f sid m seated there own = seated_keeps Recall (state_by s st (entries_of marks)).sessions (IsTaken Recall marks) (shown limits nothing_shown marks).recall.seat f.recall sid m seated there own
follows_keeps Migrate limits s st marks f sid m seated there own = seated_keeps Migrate (state_by s st (entries_of marks)).sessions (IsTaken Migrate marks) (shown limits nothing_shown marks).migrate.seat f.migrate sid m seated there own

pub served_keeps_all : (daemon : Daemon) (limits : Numbers) (s : Superblock) (base : ℕ) (h : Held) (marks : List Mark) (es : List Entry) → ServedKeepsAll daemon limits s base h marks es
served_keeps_all daemon limits s base h marks es same served run packed =
    follows_keeps daemon limits s (just_opened base h) marks
    (kept_behind limits s AllFollow (all_follow limits s) base h marks es same served run packed (none_each HasToken, first_follows (just_opened base h).sessions)).1
