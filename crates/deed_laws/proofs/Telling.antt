-- Behind deeds the message of a token is the one that told of the event that a daemon keeps, and of the file that recall was given.
use Rattle.std.proofs.Common.{◌≡◌, ◌∙◌, ℕ, ◌≤◌, true, false, List, [], ◌∷◌, ◌++◌, All, Bool, Option, None, Some, inl, inr, refl, sym, ap, subst, arith}
use Rattle.std.proofs.lemmas.Bool.{false≢true}
use Rattle.std.proofs.lemmas.List.Elements.{All-nil, All-weaker, All-contains}
use Rattle.std.specs.Prelude.{Contains}
use Rattle.hsm_types.specs.declared.daemons.Act.TheVariants as act
use Rattle.hsm_types.specs.declared.daemons.Daemon.{Daemon}
use Rattle.hsm_types.specs.declared.daemons.Daemon.TheVariants.{Recall, Migrate}
use Rattle.hsm_types.specs.declared.daemons.Heard.TheVariants as heard
use Rattle.hsm_types.specs.declared.dm.DmCall.TheVariants.{RequestRight}
use Rattle.hsm_types.specs.declared.dm.DmReply.TheVariants.{Done}
use Rattle.hsm_types.specs.declared.dm.Right.TheVariants.{Excl}
use Rattle.hsm_types.specs.declared.keys.FileKey.{FileKey}
use Rattle.hsm_types.specs.declared.keys.Handle.{Handle}
use Rattle.hsm_types.specs.declared.keys.Sid.{Sid}
use Rattle.hsm_types.specs.declared.keys.Token.{Token}
use Rattle.hsm_types.specs.declared.messages.Message.{Message}
use Rattle.hsm_types.specs.declared.stores.Superblock.{Superblock}
use Rattle.plain_model.specs.declared.entries.Entry.{Entry}
use Rattle.plain_model.specs.State.{Held, State, just_opened}
use Rattle.plain_model.specs.Stands.{InOrder}
use Rattle.plain_model.specs.Exact.{state_by}
use Rattle.hsm_policy.specs.Settings.{Numbers}
use Rattle.daemon_session.specs.declared.events.Kept.{Kept}
use Rattle.daemon_session.specs.Seats.{Seat}
use Rattle.migrate_daemon.specs.Machine as migrate
use Rattle.recall_daemon.specs.Machine as recall
use Rattle.marked_history.specs.Served.{IsTold}
use Rattle.marked_history.specs.Tokens.{IsPresent, Tells}
use Rattle.marked_history.proofs.Carrying.{none_each}
use Rattle.marked_history.proofs.Lists.{none_there, place}
use Rattle.marked_history.proofs.TellingOne.{Register, unknown, IsListed, IsRegister, Next, seen_next, IsEventOf, IsKeptOf, IsFileOf, event_next, file_next}
use Rattle.marked_history.proofs.TellingOne.{tells_only, file_told, event_tells, file_tells}
use Rattle.deeds.specs.Deeds.{Deed, Enters, Hears, entry_in, entries_of}
use Rattle.deeds.specs.Leads.{Situation, nothing_done, Leads}
use Rattle.deeds.specs.Lives.{Workings, Living, Move, Begins, Learns, deed_by, hearing, MovesTo}
use Rattle.hsm_system.specs.Lives.{recalls, migrates}
use Rattle.deed_laws.specs.Knowing.{seat_behind}
use Rattle.deed_laws.specs.Telling.{IsGranted, ServedTellsOne}
use Rattle.deed_laws.proofs.Sitting.{HasGiven, Sits, Sound, IsSound}
use Rattle.deed_laws.proofs.Machines.{recall_sits, migrate_sits, seat_in, recall_behind, migrate_behind}
use Rattle.deed_laws.proofs.Walking.{after, Happens, behind}
use Rattle.deed_laws.proofs.Walking as walking
use Rattle.deed_laws.proofs.Keeping as keeping
use Rattle.deed_laws.proofs.Keeping.{TellsIn}

least : (n : ℕ) → n ≤ n
least n = omega arith

-- ---- the register behind one deed

next_after : (s : Superblock) (now : State) (f : Register) → IsRegister f now.ledger.top now.sessions → InOrder now → (o : Option Entry) → Happens s (Unit {0}) now o → Next f now.ledger.top (after s now o)
next_after s now f is ordered None happens = record { next = f; rises = least now.ledger.top; same = λ n old. refl; is = is }
next_after s now f is ordered (Some e) happens = seen_next s now f is e.actor e.action e.answer ordered happens.0

-- ---- what daemons keep

module _ {M : Type 0} (d : Daemon) (w : Workings M) (sits : Sits d w) where
  -- each event is that of its token's message
  abbrev Keeps : Register → ℕ → Option (Living M) → Type 0
  Keeps f top r = keeping.Kept (IsEventOf d f top) d w sits r

  keeps_next : (f g : Register) (top above : ℕ) → top ≤ above → ((n : ℕ) → n ≤ top → g n ≡ f n) → (r : Option (Living M)) → Keeps f top r → Keeps g above r
  keeps_next f g top above rises same None is = tt
  keeps_next f g top above rises same (Some r) is = record {
    given = All-weaker (IsKeptOf d f top) (IsKeptOf d g above) (λ x. event_next f g top above rises same d x.event) _ is.given;
    now = All-weaker (IsKeptOf d f top) (IsKeptOf d g above) (λ x. event_next f g top above rises same d x.event) _ is.now;
  }

  tells_in : (s : Superblock) (now : State) (f : Register) → IsRegister f now.ledger.top now.sessions → (move : Move) → Happens s (Unit {0}) now (entry_in (deed_by d move)) → TellsIn (IsEventOf d f now.ledger.top) d move
  tells_in s now f is (Learns (act.Dm x c) (heard.Dm a)) happens = tells_only d f now.ledger.top now.sessions x c a is.each (happens.1 tt)
  tells_in s now f is move happens = tt

  keeps_on : (s : Superblock) (now : State) (f : Register) → IsRegister f now.ledger.top now.sessions → (move : Move) (old new : Option (Living M)) → MovesTo w move old new → Sound d w sits old → Happens s (Unit {0}) now (entry_in (deed_by d move))
      → Keeps f now.ledger.top old → Keeps f now.ledger.top new
  keeps_on s now f is move old new to sound happens keep = keeping.keep_on (IsEventOf d f now.ledger.top) d w sits move old new to sound (tells_in s now f is move happens) keep

  seat_keeps : (f : Register) (top : ℕ) (r : Option (Living M)) → Keeps f top r → All (IsKeptOf d f top) (seat_in d w sits r).kept
  seat_keeps f top None is = All-nil (IsKeptOf d f top)
  seat_keeps f top (Some r) is = is.now

-- ---- files that recall was given

abbrev Grants : Deed → Sid → Token → Handle → Type 0
Grants x sid t h = x ≡ Hears Recall (act.Dm sid (RequestRight t h Excl)) (heard.Dm Done)

granted_more : (done : List Deed) (x : Deed) (F : Token → FileKey → Type 0) → ((sid : Sid) (t : Token) (h : Handle) → Grants x sid t h → F t h.key) → ((t : Token) (k : FileKey) → IsGranted done t k → F t k)
    → (t : Token) (k : FileKey) → IsGranted (done ++ x ∷ []) t k → F t k
granted_more done x F last before t k is = elim (place done x is.before (Hears Recall (act.Dm is.sid (RequestRight t is.handle Excl)) (heard.Dm Done)) is.rest is.parted) [
  | inl here ↦ subst (F t) is.file (last is.sid t is.handle (sym here.1))
  | inr own ↦ before t k (record { before = is.before; sid = is.sid; handle = is.handle; rest = own.0; parted = own.2; file = is.file })
]

abbrev is_recalls : Deed → Bool
is_recalls (Hears Recall asked told) = true
is_recalls x = false

not_migrates : (move : Move) → is_recalls (deed_by Migrate move) ≡ false
not_migrates Begins = refl
not_migrates move = refl

module _ {R : Type 0} (w : Workings R) (sits : Sits Recall w) (f : Register) (top : ℕ) where
  told_file : (seat : Seat) (t : Token) (h : Handle) → All (IsKeptOf Recall f top) seat.kept → IsTold seat.kept t h → IsFileOf f top t h.key
  told_file seat t h keep told =
      let own : IsEventOf Recall f top told.0 = All-contains (IsKeptOf Recall f top) seat.kept (record { event = told.0; marked = told.1.0 }) keep told.1.1 in
      subst (λ (u : Token). IsFileOf f top u h.key) told.2 (record {
        within = own.within;
        tells = file_told f top told.0 h own told.3;
      })

  -- it had asked for it by an event that it keeps
  granted_last : (move : Move) (old new : Option (Living R)) → MovesTo w move old new → Sound Recall w sits old → Keeps Recall w sits f top old → (sid : Sid) (t : Token) (h : Handle) → Grants (deed_by Recall move) sid t h → IsFileOf f top t h.key
  granted_last (Learns asked told) old new to sound keep sid t h is =
      let sat : IsSound Recall w sits (hearing to.0 None) = subst (Sound Recall w sits) to.1 sound in
      let kept : keeping.AllSo (IsEventOf Recall f top) Recall w sits (hearing to.0 None) = subst (Keeps Recall w sits f top) to.1 keep in
      let same : asked ≡ act.Dm sid (RequestRight t h Excl) = cc is in
      let given : HasGiven Recall (sits.seat to.0) (act.Dm sid (RequestRight t h Excl)) = subst (HasGiven Recall (sits.seat to.0)) (to.2 ∙ same) sat.given in
      told_file (sits.seat to.0) t h kept.given given.0.2
  granted_last move old new to sound keep sid t h is = absurd (cc is)

-- ---- whole runs

module _ {R M : Type 0} (wr : Workings R) (mw : Workings M) (rs : Sits Recall wr) (ms : Sits Migrate mw) (s : Superblock) where
  record Registered (done rest : List Deed) (now : State) (r : Option (Living R)) (m : Option (Living M)) : Type 0 where
    pub register : Register
    pub is : IsRegister register now.ledger.top now.sessions
    pub recall : Keeps Recall wr rs register now.ledger.top r
    pub migrate : Keeps Migrate mw ms register now.ledger.top m
    pub granted : (t : Token) (k : FileKey) → IsGranted done t k → IsFileOf register now.ledger.top t k

  -- a deed more, by which they keep so much
  more : (done rest : List Deed) (now : State) (x : Deed) (r : Option (Living R)) (m : Option (Living M)) (f : Register) → IsRegister f now.ledger.top now.sessions → InOrder now → Happens s (Unit {0}) now (entry_in x)
      → Keeps Recall wr rs f now.ledger.top r → Keeps Migrate mw ms f now.ledger.top m → ((t : Token) (k : FileKey) → IsGranted (done ++ x ∷ []) t k → IsFileOf f now.ledger.top t k)
      → Registered (done ++ x ∷ []) rest (after s now (entry_in x)) r m
  more done rest now x r m f is ordered happens rk mk granted =
      let next = next_after s now f is ordered (entry_in x) happens in
      record {
        register = next.next;
        is = next.is;
        recall = keeps_next Recall wr rs f next.next now.ledger.top _ next.rises next.same r rk;
        migrate = keeps_next Migrate mw ms f next.next now.ledger.top _ next.rises next.same m mk;
        granted = λ t k given. file_next f next.next now.ledger.top _ next.rises next.same t k (granted t k given);
      }

  registered : walking.Keeps wr mw rs ms s (Unit {0}) Registered
  registered = record {
    line = λ done rest now e r m right ordered happens was.
        more done rest now (Enters e) r m was.register was.is ordered happens was.recall was.migrate
        (granted_more done (Enters e) (IsFileOf was.register now.ledger.top) (λ sid t h same. absurd (cc same)) was.granted);
    recall = λ done rest now move old new m mine theirs to sound ordered happens was.
        more done rest now (deed_by Recall move) new m was.register was.is ordered happens (keeps_on Recall wr rs s now was.register was.is move old new to sound happens was.recall) was.migrate
        (granted_more done (deed_by Recall move) (IsFileOf was.register now.ledger.top) (granted_last wr rs was.register now.ledger.top move old new to sound was.recall) was.granted);
    migrate = λ done rest now move r old new mine theirs to sound ordered happens was.
        more done rest now (deed_by Migrate move) r new was.register was.is ordered happens was.recall (keeps_on Migrate mw ms s now was.register was.is move old new to sound happens was.migrate)
        (granted_more done (deed_by Migrate move) (IsFileOf was.register now.ledger.top) (λ sid t h same. absurd (false≢true (sym (not_migrates move) ∙ ap is_recalls same))) was.granted);
  }

  -- nothing is listed of a store that was just opened
  first_registered : (base : ℕ) (h : Held) (deeds : List Deed) → Registered [] deeds (just_opened base h) None None
  first_registered base h deeds = record {
    register = λ n. unknown;
    is = record { none = refl; fresh = λ n past. refl; each = none_each (IsListed (λ n. unknown) 0) };
    recall = tt;
    migrate = tt;
    granted = λ t k given. absurd (none_there given.before _ given.rest given.parted);
  }

-- ---- the law

module _ (limits : Numbers) (s : Superblock) (deeds : List Deed) (end : Situation recall.Machine migrate.Machine) (leads : Leads recalls (migrates limits) deeds nothing_done end) (now : State)
    (r : Registered recalls (migrates limits) recall_sits (migrate_sits limits) s deeds [] now end.recall end.migrate) where
  kept_tells : (d : Daemon) (k : Kept) (m : Message) → Contains (seat_behind limits d deeds).kept k → IsPresent now.sessions m → m.token ≡ k.event.token → Tells d k.event m
  kept_tells Recall k m has there same =
      event_tells now r.register r.is Recall k.event m (All-contains (IsKeptOf Recall r.register now.ledger.top) _ k
      (seat_keeps Recall recalls recall_sits r.register now.ledger.top end.recall r.recall) (subst (λ (seat : Seat). Contains seat.kept k) (recall_behind limits deeds end leads) has)) there same
  kept_tells Migrate k m has there same =
      event_tells now r.register r.is Migrate k.event m (All-contains (IsKeptOf Migrate r.register now.ledger.top) _ k
      (seat_keeps Migrate (migrates limits) (migrate_sits limits) r.register now.ledger.top end.migrate r.migrate) (subst (λ (seat : Seat). Contains seat.kept k) (migrate_behind limits deeds end leads) has)) there same

pub tells_one : (limits : Numbers) (s : Superblock) (base : ℕ) (h : Held) (deeds : List Deed) → ServedTellsOne limits s base h deeds
tells_one limits s base h deeds (end, leads) run packed =
    let now : State = state_by s (just_opened base h) (entries_of deeds) in
    let r = behind recalls (migrates limits) recall_sits (migrate_sits limits) s (Unit {0}) (Registered recalls (migrates limits) recall_sits (migrate_sits limits) s) (registered recalls (migrates limits) recall_sits (migrate_sits limits) s) base h deeds end leads run (λ packs. packed)
    (first_registered recalls (migrates limits) recall_sits (migrate_sits limits) s base h deeds) in
    record {
      kept = kept_tells limits s deeds end leads now r;
      granted = λ u k m given there same. file_tells now r.register r.is u k m (r.granted u k given) there same;
    }
