-- In deeds that are served a daemon makes a session beside the others only where it was told all of them, and none had its information.
use Rattle.std.proofs.Common.{◌≡◌, ◌∙◌, ℕ, ◌<◌, ◌≤◌, Bool, true, false, All, List, [], ◌∷◌, ◌++◌, drop, Option, None, Some, is_some, inl, inr, refl, sym, ap}
use Rattle.std.proofs.Common.{subst, append_assoc, append-nil, arith}
use Rattle.std.proofs.lemmas.Bool.{false≢true}
use Rattle.std.proofs.lemmas.List.Elements.{All-nil, All-push}
use Rattle.std.proofs.lemmas.Option.{none-some, same_Some}
use Rattle.std.proofs.lemmas.Slice.Eq.{bytes_eq-Decides}
use Rattle.std.specs.List.{cons_option}
use Rattle.std.specs.Map.{keys_of}
use Rattle.std.specs.Option.{option_map}
use Rattle.std.specs.Prelude.{Contains}
use Rattle.std.specs.Str.{bytes_eq}
use Rattle.hsm_types.specs.Daemons.{information}
use Rattle.hsm_types.specs.Sessions.{SessionTable, session_of, info_of, lives, dead_session}
use Rattle.hsm_types.specs.declared.daemons.Act.TheVariants as act
use Rattle.hsm_types.specs.declared.daemons.Daemon.{Daemon}
use Rattle.hsm_types.specs.declared.daemons.Daemon.TheVariants.{Recall, Migrate}
use Rattle.hsm_types.specs.declared.daemons.Heard.TheVariants as heard
use Rattle.hsm_types.specs.declared.dm.DmCall.{DmCall}
use Rattle.hsm_types.specs.declared.dm.DmCall.TheVariants as call
use Rattle.hsm_types.specs.declared.dm.DmRefusal.TheVariants as why
use Rattle.hsm_types.specs.declared.dm.DmReply.{DmReply}
use Rattle.hsm_types.specs.declared.dm.DmReply.TheVariants as reply
use Rattle.hsm_types.specs.declared.keys.Sid.{Sid}
use Rattle.hsm_types.specs.declared.stores.Superblock.{Superblock}
use Rattle.plain_model.specs.declared.entries.Action.TheVariants.{Dm}
use Rattle.plain_model.specs.declared.entries.Actor.TheVariants.{Session}
use Rattle.plain_model.specs.declared.entries.Answer.TheVariants.{Dm as Told}
use Rattle.plain_model.specs.declared.entries.Entry.{Entry}
use Rattle.plain_model.specs.Exact.{ExactSeen, left_by, state_by}
use Rattle.plain_model.specs.Laws.{IsRunSeen}
use Rattle.plain_model.specs.Services.{bytes_or_none, service, dm_judged}
use Rattle.plain_model.specs.Stands.{InOrder}
use Rattle.plain_model.specs.State.{Held, State, just_opened}
use Rattle.plain_model.proofs.Histories.{ExactSeen-first}
use Rattle.plain_model.proofs.Judged.{none_first, passes}
use Rattle.hsm_policy.specs.Settings.{Numbers}
use Rattle.daemon_session.specs.Seats.{Seat, first_id, MayMake}
use Rattle.migrate_daemon.specs.Machine as migrate
use Rattle.recall_daemon.specs.Machine as recall
use Rattle.marked_history.proofs.Informing.{Stays, informed_lives, has_info, listed, lives_within, left_stays}
use Rattle.marked_history.proofs.Leaving.{left_given, is_refused, own_reply}
use Rattle.marked_history.proofs.Lists.{none_in, first_or_rest}
use Rattle.marked_history.proofs.Seen.{over, IsOver, is_over}
use Rattle.marked_history.proofs.Ways.{Way, way_of, no_way, way_told, way_next}
use Rattle.deeds.specs.Deeds.{Deed, Enters, Gives, Hears, entry_in, entries_of}
use Rattle.deeds.specs.Leads.{Situation, nothing_done, Leads}
use Rattle.deeds.specs.Lives.{Workings, Living, Move, Asks, Learns, hearing, move_of, life, deed_by, MovesTo}
use Rattle.deeds.proofs.Leading.{leads_through}
use Rattle.deeds.proofs.Living.{entries_then, life_then}
use Rattle.hsm_system.specs.Lives.{recalls, migrates}
use Rattle.deed_laws.specs.DaemonSessions.{StaysOn, IsAlone, ServedMakesAnew}
use Rattle.deed_laws.proofs.KnownOnTheWay.{HearsOn, KeepsWay, Both, KnowsWay, way_more, way_on}
use Rattle.deed_laws.proofs.Machines.{recall_sits, migrate_sits}
use Rattle.deed_laws.proofs.Sitting.{HasGiven, Sits, Sound}
use Rattle.deed_laws.proofs.Walking.{after, Happens, behind, IsBehind, behind_more}
use Rattle.deed_laws.proofs.Walking as walking

-- ---- a deed more

abbrev StaysBy : Option Move → Type 0
StaysBy None = Unit {0}
StaysBy (Some move) = StaysOn move

stays_more : (moves : List Move) (o : Option Move) → StaysBy o → All StaysOn moves → All StaysOn (moves ++ cons_option o [])
stays_more moves None stays last = subst (All StaysOn) (sym (append-nil moves)) last
stays_more moves (Some move) stays last = All-push StaysOn moves move last stays

line_none : (d : Daemon) (e : Entry) → StaysBy (move_of d (Enters e))
line_none Recall e = tt
line_none Migrate e = tt

-- ---- sessions with the daemon's information

-- it has it, or is gone
abbrev MayLive : Daemon → Sid → SessionTable → Type 0
MayLive d sid t = (sid.0 ≤ t.given) × Stays (Some (information d)) (info_of sid t)

stays_on : (first now next : Option (List ℕ)) → Stays first now → Stays now next → Stays first next
stays_on first now next (inl none) (inl gone) = inl gone
stays_on first now next (inl none) (inr same) = inl (same ∙ none)
stays_on first now next (inr own) (inl gone) = inl gone
stays_on first now next (inr own) (inr same) = inr (same ∙ own)

no_info : (found : Option (List ℕ)) → found ≡ None → is_some found ≡ true → ⊥
no_info found none some = false≢true (sym (ap (λ (o : Option (List ℕ)). is_some o) none) ∙ some)

module _ (s : Superblock) (now : State) (x : Sid) where
  abbrev IsAnswered : DmCall → DmReply → Type 0
  IsAnswered c a = IsOver s now (Session x) (Dm c) (Told a)

  -- what isn't refused is served over what is seen
  own_over : (c : DmCall) (a : DmReply) (is : IsAnswered c a) → is_refused a ≡ false → (dm_judged s (over now is.seen) x c ≡ None) × (a ≡ (service s (over now is.seen) x c).reply)
  own_over c a is fine = own_reply s (over now is.seen) x c a is.exact fine

  -- who is told of a session's information is told it as it is
  lives_told : (target : Sid) (info : List ℕ) → IsAnswered (call.QuerySession target) (reply.Info info) → is_some (session_of target now.sessions) ≡ true
  lives_told target info is = passes (lives target now.sessions) why.NoSession (none_first (dead_session target now.sessions) [] (own_over (call.QuerySession target) (reply.Info info) is refl).0).0

  told_as : (target : Sid) (info : List ℕ) → IsAnswered (call.QuerySession target) (reply.Info info) → info ≡ bytes_or_none (info_of target now.sessions)
  told_as target info is = let told : reply.Info info ≡ reply.Info (bytes_or_none (info_of target now.sessions)) = (own_over (call.QuerySession target) (reply.Info info) is refl).1 in cc

  -- so a session with the daemon's information isn't told to be another's
  told_own : (d : Daemon) (target : Sid) (info : List ℕ) → IsAnswered (call.QuerySession target) (reply.Info info) → MayLive d target now.sessions → info ≡ information d
  told_own d target info is live = by live.1
    where
      by : Stays (Some (information d)) (info_of target now.sessions) → info ≡ information d
      by (inl none) = absurd (no_info (info_of target now.sessions) none (has_info target now.sessions (lives_told target info is)))
      by (inr own) = told_as target info is ∙ ap (λ (o : Option (List ℕ)). bytes_or_none o) own

  passes_by : (d : Daemon) (target sid : Sid) (info : List ℕ) (rest : List Sid) → IsAnswered (call.QuerySession target) (reply.Info info) → bytes_eq info (information d) ≡ false → MayLive d sid now.sessions → Contains (target ∷ rest) sid → Contains rest sid
  passes_by d target sid info rest is other live among = elim (first_or_rest target rest sid among) [
    | inl same ↦ absurd (false≢true (sym other ∙ (bytes_eq-Decides info (information d)).1 (told_own d target info is (subst (λ (y : Sid). MayLive d y now.sessions) (sym same) live))))
    | inr later ↦ later
  ]

module _ (s : Superblock) (st : State) where
  module _ (d : Daemon) where
    abbrev told_all : List Sid → Deed
    told_all ids = Hears d (act.Dm first_id call.GetAllSessions) (heard.Dm (reply.Sids ids))

    -- The daemon was told all sessions, and goes on there. Of those with its information the ones that live are among the rest.
    record Asked (done : List Deed) (now : State) (rest : List Sid) : Type 0 where
      before : List Deed
      ids : List Sid
      since : List Deed
      parted : done ≡ before ++ told_all ids ∷ since
      last : All StaysOn (life d since)
      left : (sid : Sid) → info_of sid (state_by s st (entries_of before)).sessions ≡ Some (information d) → Contains rest sid × MayLive d sid now.sessions

    record Comes (done : List Deed) (now : State) (way : Way) : Type 0 where
      real : (old : Sid) → way.found ≡ Some old → 0 < old.0
      asked : (rest : List Sid) → way.others ≡ Some rest → way.found ≡ None → Asked done now rest

    knows_none : (done : List Deed) (now : State) → Comes done now no_way
    knows_none done now = record { real = λ old own. absurd (none-some _ own); asked = λ rest others none. absurd (none-some _ others) }

    -- ---- behind one deed

    module _ (now : State) (ordered : InOrder now) where
      may_live : (sid : Sid) (o : Option Entry) → MayLive d sid now.sessions → MayLive d sid (after s now o).sessions
      may_live sid None is = is
      may_live sid (Some e) is =
          let low = is.0 in
          let grown = left_given s now e.actor e.action e.answer in
          (omega arith, stays_on (Some (information d)) (info_of sid now.sessions) (info_of sid (after s now (Some e)).sessions) is.1 (left_stays s now ordered sid is.0 e.actor e.action e.answer))

      module _ (done : List Deed) (x : Deed) (stays : StaysBy (move_of d x)) where
        abbrev More : List Sid → Type 0
        More = Asked (done ++ x ∷ []) (after s now (entry_in x))

        asked_more : (rest fewer : List Sid) → ((sid : Sid) → MayLive d sid now.sessions → Contains rest sid → Contains fewer sid) → Asked done now rest → More fewer
        asked_more rest fewer keeps is = record {
          before = is.before;
          ids = is.ids;
          since = is.since ++ x ∷ [];
          parted = ap (λ (l : List Deed). l ++ x ∷ []) is.parted ∙ append_assoc is.before (told_all is.ids ∷ is.since) (x ∷ []);
          last = subst (All StaysOn) (sym (life_then d is.since (x ∷ []))) (stays_more (life d is.since) (move_of d x) stays is.last);
          left = λ sid own. let still = is.left sid own in (keeps sid still.1 still.0, may_live sid (entry_in x) still.1);
        }

        comes_more : (way : Way) → Comes done now way → Comes (done ++ x ∷ []) (after s now (entry_in x)) way
        comes_more way is = record { real = is.real; asked = λ rest others none. asked_more rest rest (λ sid live there. there) (is.asked rest others none) }

      -- ---- an answer of its own

      module _ (done : List Deed) (x : Sid) where
        abbrev heard_of : DmCall → DmReply → Deed
        heard_of c a = Hears d (act.Dm x c) (heard.Dm a)

        abbrev then : DmCall → DmReply → State
        then c a = left_by s now (Session x) (Dm c) (Told a)

        abbrev Next : DmCall → DmReply → Way → Type 0
        Next c a way = Comes (done ++ heard_of c a ∷ []) (then c a) way

        starts : (ids : List Sid) → x ≡ first_id → IsBehind s st done now → IsAnswered s now x call.GetAllSessions (reply.Sids ids) → Asked (done ++ heard_of call.GetAllSessions (reply.Sids ids) ∷ []) (then call.GetAllSessions (reply.Sids ids)) ids
        starts ids first here is = record {
          before = done;
          ids = ids;
          since = [];
          parted = ap (λ (y : Sid). done ++ Hears d (act.Dm y call.GetAllSessions) (heard.Dm (reply.Sids ids)) ∷ []) first;
          last = All-nil StaysOn;
          left = λ sid own.
              let info : info_of sid now.sessions ≡ Some (information d) = ap (λ (y : State). info_of sid y.sessions) here ∙ own in
              let alive = informed_lives sid now.sessions (information d) info in
              let given = lives_within sid now.sessions ordered.ascend alive in
              (subst (λ (l : List Sid). Contains l sid) (sym all) (listed sid now.sessions alive), may_live sid (entry_in (heard_of call.GetAllSessions (reply.Sids ids))) (given.1, inr info));
        }
          where
            all : ids ≡ keys_of now.sessions.live
            all = let told : reply.Sids ids ≡ reply.Sids (keys_of now.sessions.live) = (own_over s now x call.GetAllSessions (reply.Sids ids) is refl).1 in cc

        lists : (way : Way) (a : DmReply) → x ≡ first_id → IsBehind s st done now → IsAnswered s now x call.GetAllSessions a → Next call.GetAllSessions a (way_next d way call.GetAllSessions a)
        lists way (reply.Sids ids) first here is = record {
          real = λ old own. absurd (none-some _ own);
          asked = λ rest others none. subst (Asked (done ++ heard_of call.GetAllSessions (reply.Sids ids) ∷ []) (then call.GetAllSessions (reply.Sids ids))) (same_Some ids rest others) (starts ids first here is);
        }
        lists way a first here is = knows_none (done ++ heard_of call.GetAllSessions a ∷ []) (then call.GetAllSessions a)

        module _ (way : Way) (comes : Comes done now way) where
          told : (target : Sid) (info : List ℕ) (rest : List Sid) → StaysBy (move_of d (heard_of (call.QuerySession target) (reply.Info info))) → way.others ≡ Some (target ∷ rest) → IsAnswered s now x (call.QuerySession target) (reply.Info info) → (b : Bool)
              → bytes_eq info (information d) ≡ b → Next (call.QuerySession target) (reply.Info info) (way_told b target way)
          told target info rest stays asks is true own = record {
            real = λ old same. subst (λ (y : Sid). 0 < y.0) (same_Some target old same) (lives_within target now.sessions ordered.ascend (lives_told s now x target info is)).0;
            asked = λ fewer others none. absurd (none-some _ (sym none));
          }
          told target info rest stays asks is false other = record {
            real = comes.real;
            asked = λ fewer others none.
                let left : rest ≡ fewer = same_Some rest fewer (ap (λ (o : Option (List Sid)). option_map (λ (ids : List Sid). drop 1 ids) o) (sym asks) ∙ others) in
                subst (Asked (done ++ heard_of (call.QuerySession target) (reply.Info info) ∷ []) (then (call.QuerySession target) (reply.Info info))) left
                (asked_more done (heard_of (call.QuerySession target) (reply.Info info)) stays (target ∷ rest) rest (λ sid live among. passes_by s now x d target sid info rest is other live among) (comes.asked (target ∷ rest) asks none));
          }

          queries : (target : Sid) (a : DmReply) (rest : List Sid) → StaysBy (move_of d (heard_of (call.QuerySession target) a)) → way.others ≡ Some (target ∷ rest) → IsAnswered s now x (call.QuerySession target) a
              → Next (call.QuerySession target) a (way_next d way (call.QuerySession target) a)
          queries target (reply.Info info) rest stays asks is = told target info rest stays asks is (bytes_eq info (information d)) refl
          queries target a rest stays asks is = comes_more done (heard_of (call.QuerySession target) a) stays way comes

          comes_own : (seat : Seat) (c : DmCall) (a : DmReply) → way ≡ way_of seat → HasGiven d seat (act.Dm x c) → StaysBy (move_of d (heard_of c a)) → IsBehind s st done now → IsAnswered s now x c a → Next c a (way_next d way c a)
          comes_own seat call.GetAllSessions a same given stays here is = lists way a given.0 here is
          comes_own seat (call.CreateSession old info) a same given stays here is = knows_none (done ++ heard_of (call.CreateSession old info) a ∷ []) (then (call.CreateSession old info) a)
          comes_own seat (call.QuerySession target) a same given stays here is = queries target a given.0.2.0 stays (ap (λ (y : Way). y.others) same ∙ given.0.2.1) is
          comes_own seat c a same given stays here is = comes_more done (heard_of c a) stays way comes

      -- ---- a move of its own

      module _ (done : List Deed) (here : IsBehind s st done now) where
        abbrev Then : Move → Way → Type 0
        Then move = Comes (done ++ deed_by d move ∷ []) (after s now (entry_in (deed_by d move)))

        stays_by : (move : Move) → move_of d (deed_by d move) ≡ Some move → StaysOn move → StaysBy (move_of d (deed_by d move))
        stays_by move own stays = subst StaysBy (sym own) stays

        comes_heard : (move : Move) → move_of d (deed_by d move) ≡ Some move → Happens s ⊥ now (entry_in (deed_by d move)) → HearsOn d (Comes done now) (Then move) move
        comes_heard (Learns (act.Dm x c) (heard.Dm a)) own happens = λ seat given comes.
            comes_own done x (way_of seat) comes seat c a refl given (stays_by (Learns (act.Dm x c) (heard.Dm a)) own tt) here (is_over s now (Session x) (Dm c) (Told a) happens.0)
        comes_heard move own happens = tt

        comes_kept : (move : Move) → move_of d (deed_by d move) ≡ Some move → Happens s ⊥ now (entry_in (deed_by d move)) → KeepsWay d (Comes done now) (Then move) move
        comes_kept move own happens = record {
          none = knows_none (done ++ deed_by d move ∷ []) (after s now (entry_in (deed_by d move)));
          stays = λ stays way. comes_more done (deed_by d move) (stays_by move own stays) way;
          hears = comes_heard move own happens;
        }

        module _ {M : Type 0} (w : Workings M) (sits : Sits d w) where
          own_on : (move : Move) (old new : Option (Living M)) → move_of d (deed_by d move) ≡ Some move → MovesTo w move old new → Sound d w sits old → Happens s ⊥ now (entry_in (deed_by d move))
              → KnowsWay d w sits (Comes done now) old → KnowsWay d w sits (Then move) new
          own_on move old new own to sound happens was = way_on d w sits (Comes done now) (Then move) move old new (comes_kept move own happens) to sound was

          other_on : (x : Deed) → StaysBy (move_of d x) → (r : Option (Living M)) → KnowsWay d w sits (Comes done now) r → KnowsWay d w sits (Comes (done ++ x ∷ []) (after s now (entry_in x))) r
          other_on x stays r was = way_more d w sits (Comes done now) (Comes (done ++ x ∷ []) (after s now (entry_in x))) (comes_more done x stays) r was

    -- ---- a call for a session beside the others

    alone : (done : List Deed) (now : State) → Asked done now [] → IsAlone s st d done
    alone done now is = record { before = is.before; ids = is.ids; since = is.since; parted = is.parted; last = is.last; none = λ there. none_in there.0 (is.left there.0 there.1).0 }

    made_beside : (done : List Deed) (now : State) (seat : Seat) → MayMake seat first_id → Comes done now (way_of seat) → IsAlone s st d done
    made_beside done now seat (inl beside) comes = alone done now (comes.asked [] beside.1 beside.2)
    made_beside done now seat (inr known) comes = let real = comes.real first_id known in absurd (omega arith)

    made_anew : {M : Type 0} (w : Workings M) (sits : Sits d w) (done : List Deed) (now : State) (sid : Sid) (info : List ℕ) (at next : Option (Living M)) → KnowsWay d w sits (Comes done now) at
        → MovesTo w (Asks (act.Dm sid (call.CreateSession first_id info))) at next → IsAlone s st d done
    made_anew w sits done now sid info at next knows to =
        let was : Both d w sits (Comes done now) (hearing to.0 (Some to.1)) = subst (KnowsWay d w sits (Comes done now)) to.3 knows in
        made_beside done now (sits.told to.0 to.1) (sits.may to.0 to.1 sid (call.CreateSession first_id info) to.2 to.4).2 was.now

-- ---- whole runs

no_move : (o : Option Move) → o ≡ None → StaysBy o
no_move o none = subst StaysBy (sym none) tt

module _ {R M : Type 0} (wr : Workings R) (wm : Workings M) (sr : Sits Recall wr) (sm : Sits Migrate wm) (s : Superblock) (st : State) where
  record BothCome (done rest : List Deed) (now : State) (r : Option (Living R)) (m : Option (Living M)) : Type 0 where
    pub here : IsBehind s st done now
    pub recall : KnowsWay Recall wr sr (Comes s st Recall done now) r
    pub migrate : KnowsWay Migrate wm sm (Comes s st Migrate done now) m

  both_come : walking.Keeps wr wm sr sm s ⊥ BothCome
  both_come = record {
    line = λ done rest now e r m right ordered happens is. record {
      here = behind_more s st done (Enters e) now is.here;
      recall = other_on s st Recall now ordered done is.here wr sr (Enters e) (line_none Recall e) r is.recall;
      migrate = other_on s st Migrate now ordered done is.here wm sm (Enters e) (line_none Migrate e) m is.migrate;
    };
    recall = λ done rest now move old new m own other to sound ordered happens is. record {
      here = behind_more s st done (deed_by Recall move) now is.here;
      recall = own_on s st Recall now ordered done is.here wr sr move old new own to sound happens is.recall;
      migrate = other_on s st Migrate now ordered done is.here wm sm (deed_by Recall move) (no_move (move_of Migrate (deed_by Recall move)) other) m is.migrate;
    };
    migrate = λ done rest now move r old new own other to sound ordered happens is. record {
      here = behind_more s st done (deed_by Migrate move) now is.here;
      recall = other_on s st Recall now ordered done is.here wr sr (deed_by Migrate move) (no_move (move_of Recall (deed_by Migrate move)) other) r is.recall;
      migrate = own_on s st Migrate now ordered done is.here wm sm move old new own to sound happens is.migrate;
    };
  }

-- ---- the law

pub makes_anew : (limits : Numbers) (s : Superblock) (base : ℕ) (h : Held) (deeds : List Deed) → ServedMakesAnew limits s base h deeds
makes_anew limits s base h deeds (end, leads) run before d sid info rest parted = by d parted (subst (λ (ds : List Deed). Leads recalls (migrates limits) ds nothing_done end) parted leads)
  where
    first : State
    first = just_opened base h

    run_to : (later : List Deed) → deeds ≡ before ++ later → IsRunSeen ⊥ s base h (entries_of before)
    run_to later same = record { opening = run.opening; exact = ExactSeen-first ⊥ s first (entries_of before) (entries_of later) (subst (ExactSeen ⊥ s first) (ap entries_of same ∙ entries_then before later) run.exact) }

    come : (later : List Deed) → deeds ≡ before ++ later → (mid : Situation recall.Machine migrate.Machine) → Leads recalls (migrates limits) before nothing_done mid
        → BothCome recalls (migrates limits) recall_sits (migrate_sits limits) s first before [] (state_by s first (entries_of before)) mid.recall mid.migrate
    come later same mid led =
        behind recalls (migrates limits) recall_sits (migrate_sits limits) s ⊥ (BothCome recalls (migrates limits) recall_sits (migrate_sits limits) s first) (both_come recalls (migrates limits) recall_sits (migrate_sits limits) s first) base h before mid led
        (run_to later same) (λ wrong. absurd wrong) (record { here = refl; recall = tt; migrate = tt })

    by : (d : Daemon) → deeds ≡ before ++ Gives d (act.Dm sid (call.CreateSession first_id info)) ∷ rest → Leads recalls (migrates limits) (before ++ Gives d (act.Dm sid (call.CreateSession first_id info)) ∷ rest) nothing_done end → IsAlone s first d before
    by Recall same led =
        let mid = leads_through recalls (migrates limits) before (Gives Recall (act.Dm sid (call.CreateSession first_id info)) ∷ rest) nothing_done end led in
        made_anew s first Recall recalls recall_sits before (state_by s first (entries_of before)) sid info mid.0.recall mid.2.recall.0 (come (Gives Recall (act.Dm sid (call.CreateSession first_id info)) ∷ rest) same mid.0 mid.1).recall mid.2.recall.1
    by Migrate same led =
        let mid = leads_through recalls (migrates limits) before (Gives Migrate (act.Dm sid (call.CreateSession first_id info)) ∷ rest) nothing_done end led in
        made_anew s first Migrate (migrates limits) (migrate_sits limits) before (state_by s first (entries_of before)) sid info mid.0.migrate mid.2.migrate.0 (come (Gives Migrate (act.Dm sid (call.CreateSession first_id info)) ∷ rest) same mid.0 mid.1).migrate mid.2.migrate.1
