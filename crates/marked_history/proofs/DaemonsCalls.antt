-- Where each call is a daemon's own, the tables are daemons', and each daemon knows of its sessions what is so of them.
use Rattle.std.proofs.Common.{◌≡◌, ◌∙◌, ℕ, Bool, true, false, List, [], ◌∷◌, drop, Option, None, Some, is_some, inl, inr, refl, sym, ap, subst, arith}
use Rattle.std.proofs.lemmas.Bool.{false≢true}
use Rattle.std.proofs.lemmas.List.Elements.{All-nil}
use Rattle.std.proofs.lemmas.Option.{none-some, same_Some}
use Rattle.std.proofs.lemmas.Slice.Eq.{bytes_eq-Decides}
use Rattle.std.specs.Prelude.{◌⊎◌, if◌then◌else◌, Contains}
use Rattle.std.specs.List.{AllByRecursion}
use Rattle.std.specs.Map.{keys_of}
use Rattle.std.specs.Option.{option_map}
use Rattle.std.specs.Str.{bytes_eq}
use Rattle.hsm_types.specs.Daemons.{information, kinds_of}
use Rattle.hsm_types.specs.Sessions.{LiveSession, SessionTable, session_of, info_of, lives, dead_session, next_sid, with_session, with_kinds}
use Rattle.hsm_types.specs.declared.calls.Reply.{Reply}
use Rattle.hsm_types.specs.declared.daemons.Daemon.{Daemon}
use Rattle.hsm_types.specs.declared.daemons.Daemon.TheVariants.{Recall, Migrate}
use Rattle.hsm_types.specs.declared.dm.DmCall.{DmCall}
use Rattle.hsm_types.specs.declared.dm.DmCall.TheVariants as call
use Rattle.hsm_types.specs.declared.dm.DmRefusal.TheVariants as why
use Rattle.hsm_types.specs.declared.dm.DmReply.{DmReply}
use Rattle.hsm_types.specs.declared.dm.DmReply.TheVariants as reply
use Rattle.hsm_types.specs.declared.dm.Kinds.{Kinds}
use Rattle.hsm_types.specs.declared.keys.Sid.{Sid}
use Rattle.hsm_types.specs.declared.stores.Superblock.{Superblock}
use Rattle.plain_model.specs.declared.entries.Action.{Action}
use Rattle.plain_model.specs.declared.entries.Action.TheVariants.{Dm}
use Rattle.plain_model.specs.declared.entries.Actor.{Actor}
use Rattle.plain_model.specs.declared.entries.Actor.TheVariants.{Session}
use Rattle.plain_model.specs.declared.entries.Answer.{Answer}
use Rattle.plain_model.specs.declared.entries.Answer.TheVariants.{Dm as Told}
use Rattle.plain_model.specs.Effects.{change_of}
use Rattle.plain_model.specs.State.{Held, State, just_opened, changed}
use Rattle.plain_model.specs.Services.{bytes_or_none, dm_judged}
use Rattle.plain_model.specs.Stands.{InOrder}
use Rattle.plain_model.specs.Exact.{IsAnswer, left_by}
use Rattle.plain_model.proofs.Judged.{none_first, passes}
use Rattle.hsm_policy.specs.Settings.{Numbers}
use Rattle.daemon_session.specs.Seats.{Seat, no_seat, new_seat, told_info, seat_asks, seat_hears, MayMake}
use Rattle.recall_daemon.specs.Known as recall
use Rattle.recall_daemon.proofs.Outcomes.{but_kept}
use Rattle.migrate_daemon.specs.Known as migrate
use Rattle.hsm_core.specs.Answers.{entry_of}
use Rattle.marked_history.specs.Marks.{Mark, AnsweredCall, answered_call_by}
use Rattle.marked_history.specs.Served.{Shown, nothing_shown, with_exchange, with_entry, learned, RecallMay, MigrateMay, MayCall, IsServedBy}
use Rattle.marked_history.specs.Settling.{IsCalledByDaemon}
use Rattle.marked_history.specs.Tokens.{seat_of}
use Rattle.marked_history.proofs.AnyAnswer.{call_so, others_so}
use Rattle.marked_history.proofs.DaemonsTables.{GetsItsKinds, Has, Tables, Leaves, leaves_all, posted_tables, posted_leaves, delivered_tables, delivered_leaves}
use Rattle.marked_history.proofs.DaemonsTables.{answered_tables, answered_leaves, set_served, set_leaves, set_tables, new_has, made_leaves, made_tables}
use Rattle.marked_history.proofs.Handing.{PostsParked}
use Rattle.marked_history.proofs.Informing.{informed_lives, listed}
use Rattle.marked_history.proofs.Leaving.{own_reply, done_left, same_left}
use Rattle.marked_history.proofs.Lists.{all_first, all_at, first_or_rest}
use Rattle.marked_history.proofs.Outstanding.{below}
use Rattle.marked_history.proofs.Seating.{seat_by}
use Rattle.marked_history.proofs.Seen.{over, is_over, ordered_over}
use Rattle.marked_history.proofs.Walking.{KeptBy}

-- ---- what a seat knows

-- A daemon's session, and the one that it found, have its information. Each that has is among those that it was told and has not asked after. Where it set
-- its kinds the session takes them all.
pub record Sits (d : Daemon) (t : SessionTable) (sid found : Option Sid) (others : Option (List Sid)) (set : Bool) : Type 0 where
  pub here : (x : Sid) → sid ≡ Some x → Has d x t
  pub known : (x : Sid) → found ≡ Some x → Has d x t
  pub told : (rest : List Sid) → others ≡ Some rest → found ≡ None → (x : Sid) → Has d x t → Contains rest x
  pub ready : (x : Sid) → sid ≡ Some x → set ≡ true → GetsItsKinds d x t

abbrev pub SitsAt : Daemon → SessionTable → Seat → Type 0
SitsAt d t seat = Sits d t seat.sid seat.found seat.others seat.set

pub none_sits : (d : Daemon) (t : SessionTable) → SitsAt d t no_seat
none_sits d t = record { here = λ x own. absurd (none-some _ own); known = λ x own. absurd (none-some _ own); told = λ rest others none. absurd (none-some _ others); ready = λ x own. absurd (none-some _ own) }

sits_on : (d : Daemon) (t u : SessionTable) (sid found : Option Sid) (others : Option (List Sid)) (set : Bool) → Leaves d t u → Sits d t sid found others set → Sits d u sid found others set
sits_on d t u sid found others set leaves is = record {
  here = λ x own. leaves.more x (is.here x own);
  known = λ x own. leaves.more x (is.known x own);
  told = λ rest all none x has. is.told rest all none x (leaves.fewer x has);
  ready = λ x own so. leaves.served x (is.here x own) (is.ready x own so);
}

-- ---- which calls a daemon makes of the tables

abbrev MayChange : Daemon → Seat → Sid → DmCall → Type 0
MayChange d seat x (call.QuerySession target) = (seat.found ≡ None) × ((rest : List Sid) × (seat.others ≡ Some (target ∷ rest)))
MayChange d seat x (call.CreateSession old info) = (info ≡ information d) × MayMake seat old
MayChange d seat x (call.SetDisp kinds) = (seat.sid ≡ Some x) × (kinds ≡ kinds_of d)
MayChange d seat x call.DestroySession = ⊥
MayChange d seat x (call.CreateUserEvent body) = ⊥
MayChange d seat x (call.SendMsg target body) = ⊥
MayChange d seat x c = Unit {0}

recall_changes : (k : recall.Known) (x : Sid) (c : DmCall) → RecallMay k x c → MayChange Recall k.seat x c
recall_changes k x (call.QuerySession target) may = (may.1, may.2)
recall_changes k x (call.CreateSession old info) may = (may.1, may.2)
recall_changes k x (call.SetDisp kinds) may = (may.0, may.2)
recall_changes k x call.DestroySession may = may
recall_changes k x (call.CreateUserEvent body) may = may
recall_changes k x (call.SendMsg target body) may = may
recall_changes k x c may = tt

migrate_changes : (k : migrate.Known) (x : Sid) (c : DmCall) → MigrateMay k x c → MayChange Migrate k.seat x c
migrate_changes k x (call.QuerySession target) may = (may.1, may.2)
migrate_changes k x (call.CreateSession old info) may = (may.1, may.2)
migrate_changes k x (call.SetDisp kinds) may = (may.0, may.2)
migrate_changes k x call.DestroySession may = may
migrate_changes k x (call.CreateUserEvent body) may = may
migrate_changes k x (call.SendMsg target body) may = may
migrate_changes k x c may = tt

changes : (d : Daemon) (k : Shown) (x : Sid) (c : DmCall) → MayCall d k x c → MayChange d (seat_of d k) x c
changes Recall k x c may = recall_changes k.recall x c may
changes Migrate k x c may = migrate_changes k.migrate x c may

-- ---- a call of a daemon

module _ (s : Superblock) (st : State) (ordered : InOrder st) (tables : Tables st.sessions) (d : Daemon) (x : Sid) where
  abbrev now : SessionTable
  now = st.sessions

  abbrev after : DmCall → DmReply → SessionTable
  after c a = (left_by s st (Session x) (Dm c) (Told a)).sessions

  abbrev changes_to : DmCall → SessionTable
  changes_to c = (changed (change_of x c) st).sessions

  module _ (seat : Seat) (sits : SitsAt d now seat) where
    -- what leaves its own sessions, and those of the other
    abbrev LeavesAll : SessionTable → Type 0
    LeavesAll u = Tables u × ((e : Daemon) → Leaves e now u)

    abbrev LeavesOther : SessionTable → Type 0
    LeavesOther u = Tables u × ((e : Daemon) → (d ≡ e → ⊥) → Leaves e now u)

    stays_all : LeavesAll now
    stays_all = (tables, λ e. leaves_all e now)

    -- ---- a session is made

    module _ (old : Sid) (may : MayMake seat old) where
      own_old : (z : LiveSession) → session_of old now ≡ Some z → z.info ≡ information d
      own_old z there = elim may [
        | inl beside ↦ absurd (none-some _ (sym (below old 0 now.given now.live ordered.ascend (omega (arith, beside.0))) ∙ there))
        | inr found ↦ same_Some z.info (information d) (sym (ap (λ (o : Option LiveSession). option_map (λ (y : LiveSession). y.info) o) there) ∙ sits.known old found)
      ]

      none_else : (y : Sid) → Has d y now → y.0 ≡ old.0
      none_else y has = elim may [
        | inl beside ↦ absurd (let among = sits.told [] beside.1 beside.2 y has in let within = among.1 in omega (arith, within))
        | inr found ↦ tables.single d y old has (sits.known old found)
      ]

      makes_tables : Tables (with_session old (information d) now)
      makes_tables = made_tables d old now ordered.ascend tables own_old none_else

      makes_leaves : (e : Daemon) → (d ≡ e → ⊥) → Leaves e now (with_session old (information d) now)
      makes_leaves = made_leaves d old now ordered.ascend tables own_old none_else

      makes_has : Has d (next_sid now) (with_session old (information d) now)
      makes_has = new_has d old now ordered.ascend tables own_old none_else

      made_sits : (new : Sid) → new ≡ next_sid now → SitsAt d (with_session old (information d) now) (new_seat old new)
      made_sits new which = record {
        here = λ y own. subst (λ (z : Sid). Has d z (with_session old (information d) now)) (sym which ∙ same_Some new y own) makes_has;
        known = λ y own. absurd (none-some _ own);
        told = λ rest others none. absurd (none-some _ others);
        ready = λ y own set. absurd (false≢true set);
      }

    -- ---- any other call

    sets_all : (kinds : Kinds) → seat.sid ≡ Some x → kinds ≡ kinds_of d → LeavesAll (with_kinds x kinds now)
    sets_all kinds own same = subst (λ (z : Kinds). LeavesAll (with_kinds x z now)) (sym same) (set_tables d x now (sits.here x own) tables, set_leaves d x now (sits.here x own) tables)

    changes_all : (c : DmCall) → MayChange d seat x c → ((old : Sid) (info : List ℕ) → c ≡ call.CreateSession old info → ⊥) → LeavesAll (changes_to c)
    changes_all (call.CreateSession old info) may other = absurd (other old info refl)
    changes_all call.DestroySession may other = absurd may
    changes_all (call.SetDisp kinds) may other = sets_all kinds may.0 may.1
    changes_all (call.GetEvents most room) may other = (delivered_tables x _ now tables, delivered_leaves x _ now)
    changes_all (call.Respond token response) may other = (answered_tables x token now tables, answered_leaves x token now)
    changes_all (call.CreateUserEvent body) may other = absurd may
    changes_all (call.SendMsg target body) may other = absurd may
    changes_all c may other = stays_all

    others_only : (u : SessionTable) → LeavesAll u → LeavesOther u
    others_only u all = (all.0, λ e apart. all.1 e)

    creates_other : (old : Sid) (info : List ℕ) → (info ≡ information d) × MayMake seat old → LeavesOther (with_session old info now)
    creates_other old info may = subst (λ (l : List ℕ). LeavesOther (with_session old l now)) (sym may.0) (makes_tables old may.1, makes_leaves old may.1)

    changes_other : (c : DmCall) → MayChange d seat x c → LeavesOther (changes_to c)
    changes_other (call.CreateSession old info) may = creates_other old info may
    changes_other call.DestroySession may = absurd may
    changes_other (call.SetDisp kinds) may = others_only (with_kinds x kinds now) (sets_all kinds may.0 may.1)
    changes_other (call.GetEvents most room) may = others_only _ (changes_all (call.GetEvents most room) tt (λ old info same. cc))
    changes_other (call.Respond token response) may = others_only _ (changes_all (call.Respond token response) tt (λ old info same. cc))
    changes_other (call.CreateUserEvent body) may = absurd may
    changes_other (call.SendMsg target body) may = absurd may
    changes_other c may = others_only now stays_all

    pub called_other : (c : DmCall) (a : DmReply) → MayChange d seat x c → LeavesOther (after c a)
    called_other c a may = call_so s st LeavesOther (others_only now stays_all) x c a (changes_other c may)

    called_all : (c : DmCall) (a : DmReply) → MayChange d seat x c → ((old : Sid) (info : List ℕ) → c ≡ call.CreateSession old info → ⊥) → LeavesAll (after c a)
    called_all c a may other = call_so s st LeavesAll stays_all x c a (changes_all c may other)

    -- ---- what its seat knows then

    still : (c : DmCall) (a : DmReply) → MayChange d seat x c → ((old : Sid) (info : List ℕ) → c ≡ call.CreateSession old info → ⊥) → SitsAt d (after c a) seat
    still c a may other = sits_on d now (after c a) seat.sid seat.found seat.others seat.set ((called_all c a may other).1 d) sits

    lists : (a : DmReply) → IsAnswer s st (Session x) (Dm call.GetAllSessions) (Told a) → SitsAt d (after call.GetAllSessions a) (seat_hears d no_seat call.GetAllSessions a)
    lists (reply.Sids ids) is =
        let told : reply.Sids ids ≡ reply.Sids (keys_of now.live) = (own_reply s st x call.GetAllSessions (reply.Sids ids) is refl).1 in
        let all : ids ≡ keys_of now.live = cc told in
        subst (λ (t : SessionTable). Sits d t None None (Some ids) false) (sym (same_left s st x call.GetAllSessions (reply.Sids ids) refl)) (record {
          here = λ y own. absurd (none-some _ own);
          known = λ y own. absurd (none-some _ own);
          told = λ rest others none y has. subst (λ (l : List Sid). Contains l y) (sym all ∙ same_Some ids rest others) (listed y now (informed_lives y now (information d) has));
          ready = λ y own. absurd (none-some _ own);
        })
    lists a is = none_sits d (after call.GetAllSessions a)

    creates : (old : Sid) (info : List ℕ) (a : DmReply) → (info ≡ information d) × MayMake seat old → IsAnswer s st (Session x) (Dm (call.CreateSession old info)) (Told a)
        → SitsAt d (after (call.CreateSession old info) a) (seat_hears d no_seat (call.CreateSession old info) a)
    creates old info (reply.Session new) may is =
        let given : reply.Session new ≡ reply.Session (next_sid now) = (own_reply s st x (call.CreateSession old info) (reply.Session new) is refl).1 in
        let which : new ≡ next_sid now = cc given in
        subst (λ (t : SessionTable). SitsAt d t (new_seat old new)) (sym (done_left s st x (call.CreateSession old info) (reply.Session new) refl))
        (subst (λ (l : List ℕ). SitsAt d (with_session old l now) (new_seat old new)) (sym may.0) (made_sits old may.1 new which))
    creates old info a may is = none_sits d (after (call.CreateSession old info) a)

    module _ (target : Sid) (info : List ℕ) (is : IsAnswer s st (Session x) (Dm (call.QuerySession target)) (Told (reply.Info info))) where
      judged : (dm_judged s st x (call.QuerySession target) ≡ None) × (reply.Info info ≡ reply.Info (bytes_or_none (info_of target now)))
      judged = own_reply s st x (call.QuerySession target) (reply.Info info) is refl

      target_lives : lives target now ≡ true
      target_lives = passes (lives target now) why.NoSession (none_first (dead_session target now) [] judged.0).0

      told_as : (found : Option LiveSession) → session_of target now ≡ found → info_of target now ≡ Some info
      told_as None none = absurd (false≢true (sym (ap (λ (o : Option LiveSession). is_some o) none) ∙ target_lives))
      told_as (Some z) there =
          let own : info_of target now ≡ Some z.info = ap (λ (o : Option LiveSession). option_map (λ (y : LiveSession). y.info) o) there in
          let told : info ≡ bytes_or_none (info_of target now) = let same = judged.1 in cc same in
          own ∙ ap (λ (l : List ℕ). Some l) (sym (told ∙ ap (λ (o : Option (List ℕ)). bytes_or_none o) own))

      -- where it has the daemon's information it is found, and else it isn't one of the daemon's
      informed : (b : Bool) → bytes_eq info (information d) ≡ b → (rest : List Sid) → seat.others ≡ Some (target ∷ rest) → seat.found ≡ None → SitsAt d now seat
          → SitsAt d now (if b then record seat { found = Some target } else record seat { others = option_map (λ (ids : List Sid). drop 1 ids) seat.others })
      informed true own rest asks none sat =
          let same : info ≡ information d = (bytes_eq-Decides info (information d)).0 own in
          record {
            here = sat.here;
            known = λ y found. subst (λ (z : Sid). Has d z now) (same_Some target y found) (told_as (session_of target now) refl ∙ ap (λ (l : List ℕ). Some l) same);
            told = λ fewer others wrong. absurd (none-some _ (sym wrong));
            ready = sat.ready;
          }
      informed false other rest asks none sat = record {
        here = sat.here;
        known = sat.known;
        told = λ fewer others wrong y has.
            let left : rest ≡ fewer = same_Some rest fewer (ap (λ (o : Option (List Sid)). option_map (λ (ids : List Sid). drop 1 ids) o) (sym asks) ∙ others) in
            subst (λ (l : List Sid). Contains l y) left (passed y has (first_or_rest target rest y (sat.told (target ∷ rest) asks none y has)));
        ready = sat.ready;
      }
        where
          passed : (y : Sid) → Has d y now → (target ≡ y) ⊎ Contains rest y → Contains rest y
          passed y has (inr later) = later
          passed y has (inl one) =
              let same : info ≡ information d = same_Some info (information d) (sym (told_as (session_of target now) refl) ∙ subst (λ (z : Sid). info_of z now ≡ Some (information d)) (sym one) has) in
              absurd (false≢true (sym other ∙ (bytes_eq-Decides info (information d)).1 same))

    queries : (target : Sid) (a : DmReply) → MayChange d seat x (call.QuerySession target) → IsAnswer s st (Session x) (Dm (call.QuerySession target)) (Told a) → SitsAt d (after (call.QuerySession target) a) (seat_hears d seat (call.QuerySession target) a)
    queries target (reply.Info info) may is =
        subst (λ (t : SessionTable). SitsAt d t (told_info d target info seat)) (sym (same_left s st x (call.QuerySession target) (reply.Info info) refl))
        (informed target info is (bytes_eq info (information d)) refl may.1.0 may.1.1 may.0 sits)
    queries target a may is = still (call.QuerySession target) a may (λ old info same. cc)

    disposes : (kinds : Kinds) (a : DmReply) → MayChange d seat x (call.SetDisp kinds) → SitsAt d (after (call.SetDisp kinds) a) (seat_hears d seat (call.SetDisp kinds) a)
    disposes kinds reply.Done may =
        let was = still (call.SetDisp kinds) reply.Done may (λ old info same. cc) in
        record { here = was.here; known = was.known; told = was.told; ready = λ y own set. subst (λ (z : Sid). GetsItsKinds d z (after (call.SetDisp kinds) reply.Done)) (same_Some x y (sym may.0 ∙ own)) served }
      where
        served : GetsItsKinds d x (after (call.SetDisp kinds) reply.Done)
        served =
            subst (λ (t : SessionTable). GetsItsKinds d x t) (sym (done_left s st x (call.SetDisp kinds) reply.Done refl))
            (subst (λ (z : Kinds). GetsItsKinds d x (with_kinds x z now)) (sym may.1) (set_served d x now (sits.here x may.0)))
    disposes kinds a may = still (call.SetDisp kinds) a may (λ old info same. cc)

    own_sits : (c : DmCall) (a : DmReply) → MayChange d seat x c → IsAnswer s st (Session x) (Dm c) (Told a) → SitsAt d (after c a) (seat_hears d (seat_asks seat c) c a)
    own_sits call.GetAllSessions a may is = lists a is
    own_sits (call.CreateSession old info) a may is = creates old info a may is
    own_sits (call.QuerySession target) a may is = queries target a may is
    own_sits (call.SetDisp kinds) a may is = disposes kinds a may
    own_sits call.GetAllTokens (reply.Tokens tokens) may is = still call.GetAllTokens (reply.Tokens tokens) tt (λ old info same. cc)
    own_sits (call.FindEventMsg t room) (reply.Packed bytes tokens) may is = still (call.FindEventMsg t room) (reply.Packed bytes tokens) tt (λ old info same. cc)
    own_sits (call.FindEventMsg t room) (reply.Refused why.NoToken) may is = still (call.FindEventMsg t room) (reply.Refused why.NoToken) tt (λ old info same. cc)
    own_sits (call.FindEventMsg t room) (reply.Refused (why.NotYours owner)) may is = still (call.FindEventMsg t room) (reply.Refused (why.NotYours owner)) tt (λ old info same. cc)
    own_sits (call.GetEvents most room) (reply.Packed bytes tokens) may is = still (call.GetEvents most room) (reply.Packed bytes tokens) tt (λ old info same. cc)
    own_sits (call.Respond t response) reply.Done may is = still (call.Respond t response) reply.Done tt (λ old info same. cc)
    own_sits (call.Respond t response) (reply.Refused why.NoToken) may is = still (call.Respond t response) (reply.Refused why.NoToken) tt (λ old info same. cc)
    own_sits (call.Respond t response) (reply.Refused (why.NotYours owner)) may is = still (call.Respond t response) (reply.Refused (why.NotYours owner)) tt (λ old info same. cc)
    own_sits c a may is = still c a may (λ old info same. cc)

-- ---- both daemons, behind any entry

pub record AllSit (t : SessionTable) (k : Shown) : Type 0 where
  pub tables : Tables t
  pub recall : SitsAt Recall t k.recall.seat
  pub migrate : SitsAt Migrate t k.migrate.seat

pub sits_of : (d : Daemon) (t : SessionTable) (k : Shown) → AllSit t k → SitsAt d t (seat_of d k)
sits_of Recall t k is = is.recall
sits_of Migrate t k is = is.migrate

module _ (s : Superblock) (st : State) (ordered : InOrder st) (k : Shown) (is : AllSit st.sessions k) where
  -- an entry that is no call leaves all seats
  parked_on : (after : State) (c : ℕ) (answer : Reply) → PostsParked s st after c answer → AllSit after.sessions k
  parked_on after c answer (inl same) = subst (λ (t : SessionTable). AllSit t k) (sym same) is
  parked_on after c answer (inr p) = subst (λ (t : SessionTable). AllSit t k) (sym p.posts) (record {
    tables = posted_tables p.message p.wanted st.sessions ordered.ascend is.tables;
    recall = sits_on Recall st.sessions _ k.recall.seat.sid k.recall.seat.found k.recall.seat.others k.recall.seat.set (posted_leaves p.message p.wanted st.sessions ordered.ascend Recall) is.recall;
    migrate = sits_on Migrate st.sessions _ k.migrate.seat.sid k.migrate.seat.found k.migrate.seat.others k.migrate.seat.set (posted_leaves p.message p.wanted st.sessions ordered.ascend Migrate) is.migrate;
  })

  no_call : (who : Actor) (what : Action) (answer : Answer) → ((sid : Sid) → who ≡ Session sid → ⊥) → AllSit (left_by s st who what answer).sessions k
  no_call who what answer none = others_so s st (λ t. AllSit t k) is parked_on who what answer none

  module _ (limits : Numbers) (x : Sid) (c : DmCall) (a : DmReply) (answer : IsAnswer s st (Session x) (Dm c) (Told a)) where
    abbrev exchange : AnsweredCall
    exchange = record { sid = x; call = c; reply = a }

    abbrev table_then : SessionTable
    table_then = (left_by s st (Session x) (Dm c) (Told a)).sessions

    own : (d : Daemon) → MayCall d k x c → SitsAt d table_then (seat_of d (with_exchange limits d exchange k))
    own d may =
        seat_by (SitsAt d table_then) limits d k exchange (but_kept (SitsAt d table_then) c a (seat_hears d (seat_asks (seat_of d k) c) c a)
        (λ kept. own_sits s st ordered is.tables d x (seat_of d k) (sits_of d st.sessions k is) c a (changes d k x c may) answer))

    left : (d : Daemon) → MayCall d k x c → Tables table_then × ((e : Daemon) → (d ≡ e → ⊥) → Leaves e st.sessions table_then)
    left d may = called_other s st ordered is.tables d x (seat_of d k) (sits_of d st.sessions k is) c a (changes d k x c may)

    call_on : (d : Daemon) → MayCall d k x c → AllSit table_then (with_exchange limits d exchange k)
    call_on Recall may = record {
      tables = (left Recall may).0;
      recall = own Recall may;
      migrate = sits_on Migrate st.sessions table_then k.migrate.seat.sid k.migrate.seat.found k.migrate.seat.others k.migrate.seat.set ((left Recall may).1 Migrate (λ same. cc)) is.migrate;
    }
    call_on Migrate may = record {
      tables = (left Migrate may).0;
      recall = sits_on Recall st.sessions table_then k.recall.seat.sid k.recall.seat.found k.recall.seat.others k.recall.seat.set ((left Migrate may).1 Recall (λ same. cc)) is.recall;
      migrate = own Migrate may;
    }

  step : (limits : Numbers) (by : Option Daemon) (who : Actor) (what : Action) (answer : Answer) → IsAnswer s st who what answer → ((sid : Sid) → who ≡ Session sid → (d : Daemon) × (by ≡ Some d)) → IsServedBy by k (record { entry = entry_of who what answer; by = by })
      → AllSit (left_by s st who what answer).sessions (with_entry limits by (answered_call_by who what answer) k)
  step limits None who what answer exact called served = no_call who what answer (λ sid same. none-some _ (called sid same).1)
  step limits (Some d) (Session x) (Dm c) (Told a) exact called served = call_on limits x c a exact d served
  step limits (Some d) who what answer exact called served = absurd served

-- ---- whole histories

-- behind marks of which each call is a daemon's
abbrev pub SitsBehind : List Mark → State → Shown → Type 0
SitsBehind done now k = AllByRecursion IsCalledByDaemon done → AllSit now.sessions k

pub sit_on : (limits : Numbers) (s : Superblock) → KeptBy limits s SitsBehind
sit_on limits s done now k m ordered answer hands served was called =
    let there = is_over s now m.entry.actor m.entry.action m.entry.answer answer in
    subst (λ (after : State). AllSit after.sessions (learned limits k m)) (sym there.left)
    (step s (over now there.seen) (ordered_over now there.seen ordered) k (was (all_first IsCalledByDaemon done (m ∷ []) called)) limits m.by m.entry.actor m.entry.action m.entry.answer there.exact (all_at IsCalledByDaemon done m [] called) served)

pub first_sits : (base : ℕ) (h : Held) → SitsBehind [] (just_opened base h) nothing_shown
first_sits base h called = record {
  tables = record { owned = All-nil _; single = λ d a b mine theirs. absurd (none-some _ mine); wanted = All-nil _ };
  recall = none_sits Recall _;
  migrate = none_sits Migrate _;
}
