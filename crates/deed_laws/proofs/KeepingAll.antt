-- In deeds that are served a daemon with a session keeps each event of its kinds that is outstanding to that session, but for those that lines took, and
-- those of answers that are lost.
use Rattle.std.proofs.Common.{◌≡◌, ◌∙◌, ◌⊎◌, ℕ, Bool, true, false, List, [], ◌∷◌, ◌++◌, Option, None, Some, inl, inr, refl, sym, ap, subst}
use Rattle.std.specs.List.{cons_option}
use Rattle.hsm_types.specs.Sessions.{SessionTable}
use Rattle.hsm_types.specs.declared.daemons.Act.TheVariants as act
use Rattle.hsm_types.specs.declared.daemons.Daemon.{Daemon}
use Rattle.hsm_types.specs.declared.daemons.Daemon.TheVariants.{Recall, Migrate}
use Rattle.hsm_types.specs.declared.daemons.Heard.TheVariants as heard
use Rattle.hsm_types.specs.declared.daemons.Heard.TheVariants.{Nothing}
use Rattle.hsm_types.specs.declared.dm.DmCall.{DmCall}
use Rattle.hsm_types.specs.declared.dm.DmRefusal.TheVariants.{Disk}
use Rattle.hsm_types.specs.declared.dm.DmReply.{DmReply}
use Rattle.hsm_types.specs.declared.dm.DmReply.TheVariants.{Refused}
use Rattle.hsm_types.specs.declared.keys.Sid.{Sid}
use Rattle.hsm_types.specs.declared.keys.Token.{Token}
use Rattle.hsm_types.specs.declared.stores.Superblock.{Superblock}
use Rattle.plain_model.specs.declared.entries.Action.TheVariants.{Dm}
use Rattle.plain_model.specs.declared.entries.Actor.TheVariants.{Session}
use Rattle.plain_model.specs.declared.entries.Answer.TheVariants.{Dm as Told}
use Rattle.plain_model.specs.declared.entries.Entry.{Entry}
use Rattle.plain_model.specs.State.{Held, State, just_opened}
use Rattle.plain_model.specs.Stands.{InOrder}
use Rattle.plain_model.specs.Exact.{IsAnswer, left_by, state_by}
use Rattle.dm_service.specs.Handing.{HandsOut}
use Rattle.hsm_policy.specs.Settings.{Numbers}
use Rattle.daemon_session.specs.Seats.{Seat}
use Rattle.migrate_daemon.specs.Machine as migrate
use Rattle.recall_daemon.specs.Machine as recall
use Rattle.marked_history.specs.Tokens.{KeepsEvent}
use Rattle.marked_history.proofs.Accounting.{AllAccounted, seated_keeps}
use Rattle.marked_history.proofs.BothSeats.{left_tokened}
use Rattle.marked_history.proofs.Carrying.{Each, none_each}
use Rattle.marked_history.proofs.OwnSeats.{HasToken}
use Rattle.marked_history.proofs.Seen.{over, is_over, ordered_over}
use Rattle.deeds.specs.Deeds.{Deed, Enters, Breaks, Hears, entry_in, entries_of}
use Rattle.deeds.specs.Leads.{Situation, nothing_done, Leads}
use Rattle.deeds.specs.Lives.{Workings, Living, Move, Begins, Learns, Fails, hearing, move_of, deed_by, life, MovesTo}
use Rattle.hsm_system.specs.Lives.{recalls, migrates}
use Rattle.deed_laws.specs.Keeping.{loses_next, IsTaken, IsLost, KeepsAll, ServedKeepsAll}
use Rattle.deed_laws.specs.Knowing.{seat_behind}
use Rattle.deed_laws.proofs.UnknownTokens.{Gone, gone_more, gone_end, no_entry, not_own}
use Rattle.deed_laws.proofs.Machines.{recall_sits, migrate_sits, seat_in, recall_behind, migrate_behind}
use Rattle.deed_laws.proofs.Seats as seats
use Rattle.deed_laws.proofs.Seats.{Seats, seats_of, Stands, Both, other_side, first_both}
use Rattle.deed_laws.proofs.Sitting.{Sits, Sound, IsSound, unheard}
use Rattle.deed_laws.proofs.Walking as walking
use Rattle.deed_laws.proofs.Walking.{after, Happens, behind}

-- ---- two daemons, by the deeds that are done and those that come

abbrev AreBoth : (d e : Daemon) (done rest : List Deed) → SessionTable → Seats → Seats → Type 0
AreBoth d e done rest t v w = Both d e (Gone d done rest) (Gone e done rest) t (loses_next (life d rest)) (loses_next (life e rest)) v w

line_move : (d : Daemon) (e : Entry) → move_of d (Enters e) ≡ None
line_move Recall e = refl
line_move Migrate e = refl

abbrev loses_by : Option Move → List Move → Bool
loses_by o moves = loses_next (cons_option o moves)

module _ (d e : Daemon) (done rest : List Deed) (t : SessionTable) (v w : Seats) where
  -- what comes next of each, behind the first of the rest
  parted : (x : Deed) (mine theirs : Option Move) → move_of d x ≡ mine → move_of e x ≡ theirs → AreBoth d e done (x ∷ rest) t v w → Both d e (Gone d done (x ∷ rest)) (Gone e done (x ∷ rest)) t (loses_by mine (life d rest)) (loses_by theirs (life e rest)) v w
  parted x mine theirs own other is =
      subst (λ (o : Option Move). Both d e (Gone d done (x ∷ rest)) (Gone e done (x ∷ rest)) t (loses_by o (life d rest)) (loses_by theirs (life e rest)) v w) own
      (subst (λ (o : Option Move). Both d e (Gone d done (x ∷ rest)) (Gone e done (x ∷ rest)) t (loses_by (move_of d x) (life d rest)) (loses_by o (life e rest)) v w) other is)

-- ---- on what the disk holds

module _ (s : Superblock) (st : State) (ordered : InOrder st) (done rest : List Deed) where
  line_at : (d e : Daemon) (entry : Entry) (v w : Seats) → IsAnswer s st entry.actor entry.action entry.answer → AreBoth d e done (Enters entry ∷ rest) st.sessions v w
      → AreBoth d e (done ++ Enters entry ∷ []) rest (left_by s st entry.actor entry.action entry.answer).sessions v w
  line_at d e entry v w is_so both =
      let is = parted d e done rest st.sessions v w (Enters entry) None None (line_move d entry) (line_move e entry) both in
      record { own = seats.line_taken s st ordered done rest d entry (loses_next (life d rest)) v is_so is.own; other = seats.line_taken s st ordered done rest e entry (loses_next (life e rest)) w is_so is.other; apart = is.apart }

  module _ {M : Type 0} (d e : Daemon) (w : Workings M) (sits : Sits d w) (theirs : Seats) (old new : Option (Living M)) where
    abbrev mine : Option (Living M) → Seats
    mine r = seats_of d w sits r

    -- a move that is an entry
    broken_at : (x : Sid) (c : DmCall) → move_of d (Breaks d x c) ≡ Some (Fails x c) → move_of e (Breaks d x c) ≡ None → MovesTo w (Fails x c) old new → IsAnswer s st (Session x) (Dm c) (Told (Refused Disk)) → AreBoth d e done (Breaks d x c ∷ rest) st.sessions (mine old) theirs
        → AreBoth d e (done ++ Breaks d x c ∷ []) rest (left_by s st (Session x) (Dm c) (Told (Refused Disk))).sessions (mine new) theirs
    broken_at x c own other to is_so both =
        let is = parted d e done rest st.sessions (mine old) theirs (Breaks d x c) (Some (Fails x c)) None own other both in
        let then : SessionTable = (left_by s st (Session x) (Dm c) (Told (Refused Disk))).sessions in
        let was = seats.broken_stands s st ordered done rest d d x c (loses_next (life d rest)) (mine (Some (hearing to.0 None))) is_so
        (subst (λ (r : Option (Living M)). Stands d (Gone d done (Breaks d x c ∷ rest)) st.sessions (loses_next (life d rest)) (mine r)) to.1 is.own) in
        let apart = subst (λ (r : Option (Living M)). seats.Aparts (mine r) theirs) to.1 is.apart in
        let there = seats.broken_stands s st ordered done rest e d x c (loses_next (life e rest)) theirs is_so is.other in
        subst (λ (r : Option (Living M)). AreBoth d e (done ++ Breaks d x c ∷ []) rest then (mine r) theirs) (sym to.3)
        (seats.rests d e w sits (Gone d (done ++ Breaks d x c ∷ []) rest) (Gone e (done ++ Breaks d x c ∷ []) rest) then (loses_next (life e rest)) theirs (loses_next (life d rest)) to.0 (Some Nothing)
        (unheard d w sits to.0) was.given_id (was.given (inl refl)) apart.0 there)

    answered_at : (x : Sid) (c : DmCall) (a : DmReply) → move_of d (Hears d (act.Dm x c) (heard.Dm a)) ≡ Some (Learns (act.Dm x c) (heard.Dm a)) → move_of e (Hears d (act.Dm x c) (heard.Dm a)) ≡ None → MovesTo w (Learns (act.Dm x c) (heard.Dm a)) old new → Sound d w sits old
        → Each HasToken st.sessions → HandsOut st.sessions x c a → IsAnswer s st (Session x) (Dm c) (Told a) → AreBoth d e done (Hears d (act.Dm x c) (heard.Dm a) ∷ rest) st.sessions (mine old) theirs
        → AreBoth d e (done ++ Hears d (act.Dm x c) (heard.Dm a) ∷ []) rest (left_by s st (Session x) (Dm c) (Told a)).sessions (mine new) theirs
    answered_at x c a own other to sound tokened hands is_so both =
        let deed : Deed = Hears d (act.Dm x c) (heard.Dm a) in
        let is = parted d e done rest st.sessions (mine old) theirs deed (Some (Learns (act.Dm x c) (heard.Dm a))) None own other both in
        subst (λ (r : Option (Living M)). AreBoth d e (done ++ deed ∷ []) rest (left_by s st (Session x) (Dm c) (Told a)).sessions (mine r) theirs) (sym to.4)
        (seats.answered s st ordered done rest d x c a is_so e w sits tokened hands other (loses_next (life e rest)) theirs to.0 to.2 (subst (Sound d w sits) to.1 sound)
        (subst (λ (r : Option (Living M)). Both d e (Gone d done (deed ∷ rest)) (Gone e done (deed ∷ rest)) st.sessions (loses_next (life d rest)) (loses_next (life e rest)) (mine r) theirs) to.1 is))

-- ---- on any disk

module _ (s : Superblock) (now : State) (ordered : InOrder now) (done rest : List Deed) where
  line_on : (d e : Daemon) (entry : Entry) (v w : Seats) → Happens s (Unit {0}) now (Some entry) → AreBoth d e done (Enters entry ∷ rest) now.sessions v w → AreBoth d e (done ++ Enters entry ∷ []) rest (after s now (Some entry)).sessions v w
  line_on d e entry v w happens both =
      let there = is_over s now entry.actor entry.action entry.answer happens.0 in
      subst (λ (left : State). AreBoth d e (done ++ Enters entry ∷ []) rest left.sessions v w) (sym there.left) (line_at s (over now there.seen) (ordered_over now there.seen ordered) done rest d e entry v w there.exact both)

  module _ {M : Type 0} (d e : Daemon) (w : Workings M) (sits : Sits d w) (theirs : Seats) (tokened : Each HasToken now.sessions) where
    still_on : (move : Move) (old new : Option (Living M)) → move_of d (deed_by d move) ≡ Some move → move_of e (deed_by d move) ≡ None → MovesTo w move old new → entry_in (deed_by d move) ≡ None
        → AreBoth d e done (deed_by d move ∷ rest) now.sessions (seats_of d w sits old) theirs → AreBoth d e (done ++ deed_by d move ∷ []) rest now.sessions (seats_of d w sits new) theirs
    still_on move old new own other to none both =
        let deed : Deed = deed_by d move in
        let is = parted d e done rest now.sessions (seats_of d w sits old) theirs deed (Some move) None own other both in
        let later : (u : Token) → Gone d done (deed ∷ rest) u → Gone d (done ++ deed ∷ []) rest u = λ u was. gone_more d done deed rest u (λ found. absurd (no_entry d u deed none found)) was in
        let theirs_later : (u : Token) → Gone e done (deed ∷ rest) u → Gone e (done ++ deed ∷ []) rest u = λ u was. gone_more e done deed rest u (λ found. absurd (not_own e u deed other found)) was in
        seats.still d e w sits (Gone d (done ++ deed ∷ []) rest) (Gone e (done ++ deed ∷ []) rest) now.sessions (loses_next (life e rest)) theirs move (life d rest) old new to none (record {
          own = seats.later_stands d (Gone d done (deed ∷ rest)) (Gone d (done ++ deed ∷ []) rest) now.sessions (loses_next (move ∷ life d rest)) (seats_of d w sits old) later is.own;
          other = seats.later_stands e (Gone e done (deed ∷ rest)) (Gone e (done ++ deed ∷ []) rest) now.sessions (loses_next (life e rest)) theirs theirs_later is.other;
          apart = is.apart;
        })

    own_on : (move : Move) (old new : Option (Living M)) → move_of d (deed_by d move) ≡ Some move → move_of e (deed_by d move) ≡ None → MovesTo w move old new → Sound d w sits old → Happens s (Unit {0}) now (entry_in (deed_by d move))
        → AreBoth d e done (deed_by d move ∷ rest) now.sessions (seats_of d w sits old) theirs → AreBoth d e (done ++ deed_by d move ∷ []) rest (after s now (entry_in (deed_by d move))).sessions (seats_of d w sits new) theirs
    own_on (Learns (act.Dm x c) (heard.Dm a)) old new own other to sound happens both =
        let there = is_over s now (Session x) (Dm c) (Told a) happens.0 in
        subst (λ (left : State). AreBoth d e (done ++ Hears d (act.Dm x c) (heard.Dm a) ∷ []) rest left.sessions (seats_of d w sits new) theirs) (sym there.left)
        (answered_at s (over now there.seen) (ordered_over now there.seen ordered) done rest d e w sits theirs old new x c a own other to sound tokened (happens.1 tt) there.exact both)
    own_on (Fails x c) old new own other to sound happens both =
        let there = is_over s now (Session x) (Dm c) (Told (Refused Disk)) happens.0 in
        subst (λ (left : State). AreBoth d e (done ++ Breaks d x c ∷ []) rest left.sessions (seats_of d w sits new) theirs) (sym there.left)
        (broken_at s (over now there.seen) (ordered_over now there.seen ordered) done rest d e w sits theirs old new x c own other to there.exact both)
    own_on move old new own other to sound happens both = still_on move old new own other to refl both

-- ---- whole runs

module _ {R M : Type 0} (wr : Workings R) (wm : Workings M) (sr : Sits Recall wr) (sm : Sits Migrate wm) (s : Superblock) where
  -- all messages have tokens, and both daemons stand so
  record Stand (done rest : List Deed) (now : State) (r : Option (Living R)) (m : Option (Living M)) : Type 0 where
    pub tokened : Each HasToken now.sessions
    pub both : AreBoth Recall Migrate done rest now.sessions (seats_of Recall wr sr r) (seats_of Migrate wm sm m)

  tokened_on : (now : State) (o : Option Entry) → Each HasToken now.sessions → Each HasToken (after s now o).sessions
  tokened_on now None is = is
  tokened_on now (Some e) is = left_tokened s now is e.actor e.action e.answer

  turned : (d e : Daemon) (done rest : List Deed) (t : SessionTable) (v w : Seats) → AreBoth d e done rest t v w → AreBoth e d done rest t w v
  turned d e done rest t v w both = other_side d e (Gone d done rest) (Gone e done rest) t (loses_next (life d rest)) (loses_next (life e rest)) v w both

  stand_on : walking.Keeps wr wm sr sm s (Unit {0}) Stand
  stand_on = record {
    line = λ done rest now e r m right ordered happens is. record {
      tokened = tokened_on now (Some e) is.tokened;
      both = line_on s now ordered done rest Recall Migrate e (seats_of Recall wr sr r) (seats_of Migrate wm sm m) happens is.both;
    };
    recall = λ done rest now move old new m own other to sound ordered happens is. record {
      tokened = tokened_on now (entry_in (deed_by Recall move)) is.tokened;
      both = own_on s now ordered done rest Recall Migrate wr sr (seats_of Migrate wm sm m) is.tokened move old new own other to sound happens is.both;
    };
    migrate = λ done rest now move r old new own other to sound ordered happens is. record {
      tokened = tokened_on now (entry_in (deed_by Migrate move)) is.tokened;
      both = turned Migrate Recall (done ++ deed_by Migrate move ∷ []) rest (after s now (entry_in (deed_by Migrate move))).sessions (seats_of Migrate wm sm new) (seats_of Recall wr sr r)
          (own_on s now ordered done rest Migrate Recall wm sm (seats_of Recall wr sr r) is.tokened move old new own other to sound happens
          (turned Recall Migrate done (deed_by Migrate move ∷ rest) now.sessions (seats_of Recall wr sr r) (seats_of Migrate wm sm old) is.both));
    };
  }

  first_stand : (base : ℕ) (h : Held) (deeds : List Deed) → Stand [] deeds (just_opened base h) None None
  first_stand base h deeds = record {
    tokened = none_each HasToken;
    both = first_both Recall Migrate (Gone Recall [] deeds) (Gone Migrate [] deeds) (just_opened base h).sessions (loses_next (life Recall deeds)) (loses_next (life Migrate deeds));
  }

-- ---- the law

seat_is : {M : Type 0} (d : Daemon) (w : Workings M) (sits : Sits d w) (r : Option (Living M)) → seat_in d w sits r ≡ (seats_of d w sits r).now
seat_is d w sits None = refl
seat_is d w sits (Some r) = refl

keeps_or : (d : Daemon) (deeds : List Deed) (seat : Seat) (t : Token) → KeepsEvent seat.kept t ⊎ Gone d deeds [] t → KeepsEvent seat.kept t ⊎ (IsTaken d deeds t ⊎ IsLost d deeds t)
keeps_or d deeds seat t (inl keeps) = inl keeps
keeps_or d deeds seat t (inr gone) = inr (gone_end d deeds t gone)

accounted : (d : Daemon) (limits : Numbers) (s : Superblock) (st : State) (deeds : List Deed) → AllAccounted d (Gone d deeds []) (state_by s st (entries_of deeds)).sessions (seat_behind limits d deeds) → KeepsAll d limits s st deeds
accounted d limits s st deeds each sid m seated there own =
    keeps_or d deeds (seat_behind limits d deeds) m.token (seated_keeps d (state_by s st (entries_of deeds)).sessions (Gone d deeds []) (seat_behind limits d deeds) each sid m seated there own)

pub keeps_all : (daemon : Daemon) (limits : Numbers) (s : Superblock) (base : ℕ) (h : Held) (deeds : List Deed) → ServedKeepsAll daemon limits s base h deeds
keeps_all daemon limits s base h deeds (end, leads) run packed = accounted daemon limits s (just_opened base h) deeds (each daemon)
  where
    is : Stand recalls (migrates limits) recall_sits (migrate_sits limits) s deeds [] (state_by s (just_opened base h) (entries_of deeds)) end.recall end.migrate
    is = behind recalls (migrates limits) recall_sits (migrate_sits limits) s (Unit {0}) (Stand recalls (migrates limits) recall_sits (migrate_sits limits) s) (stand_on recalls (migrates limits) recall_sits (migrate_sits limits) s) base h deeds end leads run (λ packs. packed)
        (first_stand recalls (migrates limits) recall_sits (migrate_sits limits) s base h deeds)

    each : (d : Daemon) → AllAccounted d (Gone d deeds []) (state_by s (just_opened base h) (entries_of deeds)).sessions (seat_behind limits d deeds)
    each Recall =
        subst (AllAccounted Recall (Gone Recall deeds []) (state_by s (just_opened base h) (entries_of deeds)).sessions) (sym (recall_behind limits deeds end leads ∙ seat_is Recall recalls recall_sits end.recall)) (is.both.own.now refl)
    each Migrate =
        subst (AllAccounted Migrate (Gone Migrate deeds []) (state_by s (just_opened base h) (entries_of deeds)).sessions) (sym (migrate_behind limits deeds end leads ∙ seat_is Migrate (migrates limits) (migrate_sits limits) end.migrate)) (is.both.other.now refl)
