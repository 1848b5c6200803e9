-- Both machines sit so, and what they know goes on as the fold says.
use Rattle.std.proofs.Common.{◌≡◌, ◌∙◌, ℕ, Bool, true, false, None, List, Option, Some, inl, inr, refl, sym, ap, subst}
use Rattle.std.specs.Prelude.{if◌then◌else◌}
use Rattle.std.specs.Option.{option_map}
use Rattle.std.proofs.lemmas.Option.{none-some}
use Rattle.hsm_types.specs.declared.daemons.Act.{Act}
use Rattle.hsm_types.specs.declared.daemons.Act.TheVariants as act
use Rattle.hsm_types.specs.declared.daemons.Daemon.{Daemon}
use Rattle.hsm_types.specs.declared.daemons.Daemon.TheVariants.{Recall, Migrate}
use Rattle.hsm_types.specs.declared.daemons.Heard.{Heard}
use Rattle.hsm_types.specs.declared.daemons.Heard.TheVariants as heard
use Rattle.hsm_types.specs.declared.dm.DmCall.{DmCall}
use Rattle.hsm_types.specs.declared.dm.DmCall.TheVariants as call
use Rattle.hsm_types.specs.declared.dm.DmReply.{DmReply}
use Rattle.hsm_types.specs.declared.dm.DmReply.TheVariants as reply
use Rattle.hsm_types.specs.declared.keys.Sid.{Sid}
use Rattle.hsm_types.specs.declared.keys.Token.{Token}
use Rattle.hsm_policy.specs.Settings.{Numbers}
use Rattle.daemon_session.specs.declared.events.Kept.{Kept}
use Rattle.daemon_session.specs.Seats.{Seat, has_kept_token, seat_asks, seat_hears}
use Rattle.recall_daemon.specs.Known as recalls
use Rattle.recall_daemon.specs.Machine as recall
use Rattle.recall_daemon.proofs.Outcomes.{Remarks, Keeps, seat_so}
use Rattle.migrate_daemon.specs.Known as migrates
use Rattle.migrate_daemon.specs.Machine as migrate
use Rattle.migrate_daemon.specs.Passes.{Pass}
use Rattle.marked_history.proofs.Seating.{migrate_so}
use Rattle.deeds.specs.Deeds.{Deed, call_told}
use Rattle.deeds.specs.Leads.{Situation, nothing_done, Leads}
use Rattle.deeds.specs.Lives.{untold, life, Workings, Living}
use Rattle.deeds.specs.KnownByMoves.{Standing, standing_of, IsKnown}
use Rattle.deeds.proofs.Living.{exactly}
use Rattle.hsm_system.specs.Lives as lives
use Rattle.deed_laws.specs.Knowing.{Counted, recall_knows, migrate_knows, known_now, seat_or_none, seat_behind}
use Rattle.deed_laws.proofs.Sitting.{Remarked, Gave, MayAsk, Sits, seat_now}

-- ---- recall

-- its knowledge is that of one that has asked
abbrev RecallAsked : recall.Machine → Type 0
RecallAsked m = (x : Sid) (c : DmCall) → m.asked ≡ act.Dm x c → recalls.asks m.known c ≡ m.known

abbrev recall_told : recall.Machine → Heard → Seat
recall_told m told = (recalls.knows_by m.known m.asked told).seat

recall_twice : (k : recalls.Known) (c : DmCall) → recalls.asks (recalls.asks k c) c ≡ recalls.asks k c
recall_twice k call.GetAllSessions = refl
recall_twice k (call.CreateSession old info) = refl
recall_twice k (call.RequestRight t h right) = refl
recall_twice k (call.Respond t response) = refl
recall_twice k c = refl

recall_asks : (k : recalls.Known) (c : DmCall) → (recalls.asks k c).seat ≡ seat_asks k.seat c
recall_asks k call.GetAllSessions = refl
recall_asks k (call.CreateSession old info) = refl
recall_asks k (call.RequestRight t h right) = refl
recall_asks k (call.Respond t response) = refl
recall_asks k c = refl

recall_gave : (k : recalls.Known) (asked : Act) → Gave k.seat asked (recalls.asks_by k asked).seat
recall_gave k (act.Dm x c) = recall_asks k c
recall_gave k act.Idle = inr (λ (e : Kept). record e { marked = false }, λ e. refl, refl)
recall_gave k (act.Copy volume h segment bytes) = inl refl
recall_gave k (act.Fetch entry) = inl refl

recall_had_asked : (k : recalls.Known) (asked : Act) (x : Sid) (c : DmCall) → asked ≡ act.Dm x c → recalls.asks (recalls.asks_by k asked) c ≡ recalls.asks_by k asked
recall_had_asked k asked x c is = subst (λ (a : Act). recalls.asks (recalls.asks_by k a) c ≡ recalls.asks_by k a) (sym is) (recall_twice k c)

recall_may : (k : recalls.Known) (asked : Act) (told : Heard) (x : Sid) (c : DmCall) → recalls.MayCall k asked told x c → MayAsk Recall k.seat x c
recall_may k asked told x call.GetAllSessions may = may.0
recall_may k asked told x (call.GetEvents most room) may = may.0
recall_may k asked told x (call.Respond t response) may = may.0
recall_may k asked told x (call.RequestRight t h right) may = (may.0, may.1, (may.3.0, (false, may.3.1.is_kept), may.3.2, may.3.3))
recall_may k asked told x (call.GetFileAttr t h) may = may.0
recall_may k asked told x (call.GetAllocInfo t h) may = may.0
recall_may k asked told x (call.Restore t h segment bytes) may = may.0
recall_may k asked told x c may = may.1

abbrev marked_one : Token → Kept → Kept
marked_one t k = if has_kept_token t k then record k { marked = true } else k

one_remarked : (t : Token) → Remarks (marked_one t)
one_remarked t k = elim (has_kept_token t k) as (λ (b : Bool). (if b then record k { marked = true } else k).event ≡ k.event) [ true ↦ refl | false ↦ refl ]

off_remarked : (t : Token) (k : recalls.Known) → Remarked k.seat (recalls.put_off t k).seat
off_remarked t k = inr (marked_one t, one_remarked t, refl)

pub recall_missed : (k : recalls.Known) (c : DmCall) → Remarked k.seat (recalls.misses k c).seat
recall_missed k (call.RequestRight t h right) = off_remarked t k
recall_missed k (call.GetFileAttr t h) = off_remarked t k
recall_missed k (call.GetAllocInfo t h) = off_remarked t k
recall_missed k (call.Restore t h segment bytes) = off_remarked t k
recall_missed k (call.Respond t response) = off_remarked t k
recall_missed k c = inl refl

recall_unanswered : (k : recalls.Known) (asked : Act) (told : Heard) → call_told asked told ≡ None → Remarked k.seat (recalls.knows_by k asked told).seat
recall_unanswered k (act.Dm x c) (heard.Dm a) none = absurd (none-some _ (sym none))
recall_unanswered k (act.Dm x c) told none = recall_missed k c
recall_unanswered k asked told none = inl refl

recall_answered : (m : recall.Machine) (x : Sid) (c : DmCall) (a : DmReply) (P : Seat → Type 0) → RecallAsked m → m.asked ≡ act.Dm x c → Keeps P c a (seat_hears Recall (seat_asks m.known.seat c) c a) → P (recall_told m (heard.Dm a))
recall_answered m x c a P so is keeps =
    subst (λ (asked : Act). P (recalls.knows_by m.known asked (heard.Dm a)).seat) (sym is) (subst (λ (k : recalls.Known). P (recalls.hears k c a).seat) (so x c is) (seat_so P m.known c a keeps))

-- being told of the space is to it as hearing nothing
recall_space : (k : recalls.Known) (c : DmCall) (used total : ℕ) → (recalls.misses k c).seat ≡ (recalls.hears k c (reply.Space used total)).seat
recall_space k call.GetAllSessions used total = refl
recall_space k c used total = refl

recall_again : (k : recalls.Known) (asked : Act) (told : Heard) → (recalls.knows_by k asked (untold told)).seat ≡ (recalls.knows_by k asked told).seat
recall_again k (act.Dm x c) (heard.Dm (reply.Space used total)) = recall_space k c used total
recall_again k asked (heard.Dm (reply.Space used total)) = refl
recall_again k asked told = refl

pub recall_sits : Sits Recall lives.recalls
recall_sits = record {
  seat = λ (m : recall.Machine). m.known.seat;
  told = recall_told;
  IsSo = RecallAsked;
  first = refl;
  first_so = λ x c is. cc;
  again = λ m. refl;
  again_told = λ m h. recall_again m.known m.asked h;
  again_so = λ m so. so;
  gives = λ m h asked n goes. subst (λ (k : recalls.Known). Gave (recall_told m h) asked k.seat) (sym goes.known) (recall_gave (recalls.knows_by m.known m.asked h) asked);
  gives_so = λ m h asked n goes x c is. subst (λ (k : recalls.Known). recalls.asks k c ≡ k) (sym goes.known) (recall_had_asked (recalls.knows_by m.known m.asked h) asked x c (sym goes.asked ∙ is));
  may = λ m h x c n goes. recall_may (recalls.knows_by m.known m.asked h) m.asked h x c goes.may;
  answered = recall_answered;
  unanswered = λ m h none. recall_unanswered m.known m.asked h none;
}

-- of one that sits so
pub recall_asked : (m : recall.Machine) → recall_sits.IsSo m → (x : Sid) (c : DmCall) → m.asked ≡ act.Dm x c → recalls.asks m.known c ≡ m.known
unfolding recall_sits
recall_asked m so = so

-- its seats are those of what it knows
pub recall_seat : (m : recall.Machine) → recall_sits.seat m ≡ m.known.seat
unfolding recall_sits
recall_seat m = refl

pub recall_heard : (m : recall.Machine) (told : Heard) → recall_sits.told m told ≡ (recalls.knows_by m.known m.asked told).seat
unfolding recall_sits
recall_heard m told = refl

pub recall_known : IsKnown lives.recalls (λ (m : recall.Machine). m.known) recall_knows
recall_known = record { first = refl; again = λ m. refl; goes = λ old told asked new goes. goes.known }

-- ---- migration

abbrev MigrateAsked : migrate.Machine → Type 0
MigrateAsked m = (x : Sid) (c : DmCall) → m.asked ≡ act.Dm x c → migrates.asks m.known c ≡ m.known

abbrev migrate_told : migrate.Machine → Heard → Seat
migrate_told m told = (migrates.knows_by m.limits m.known m.asked told).seat

abbrev fresh : migrates.Known → migrates.Known
fresh k = record k { space = None; fresh = true }

migrate_twice : (k : migrates.Known) (c : DmCall) → migrates.asks (migrates.asks k c) c ≡ migrates.asks k c
migrate_twice k call.GetAllSessions = refl
migrate_twice k (call.CreateSession old info) = refl
migrate_twice k c = refl

fresh_asks : (k : migrates.Known) (c : DmCall) → migrates.asks (fresh k) c ≡ fresh (migrates.asks k c)
fresh_asks k call.GetAllSessions = refl
fresh_asks k (call.CreateSession old info) = refl
fresh_asks k c = refl

migrate_asks : (k : migrates.Known) (c : DmCall) → (migrates.asks k c).seat ≡ seat_asks k.seat c
migrate_asks k call.GetAllSessions = refl
migrate_asks k (call.CreateSession old info) = refl
migrate_asks k c = refl

migrate_gave : (k : migrates.Known) (asked : Act) → Gave k.seat asked (migrates.asks_by k asked).seat
migrate_gave k (act.Dm x c) = migrate_asks k c
migrate_gave k act.Idle = inl refl
migrate_gave k asked = inl refl

migrate_had_asked : (k : migrates.Known) (asked : Act) (x : Sid) (c : DmCall) → asked ≡ act.Dm x c → migrates.asks (migrates.asks_by k asked) c ≡ migrates.asks_by k asked
migrate_had_asked k asked x c is = subst (λ (a : Act). migrates.asks (migrates.asks_by k a) c ≡ migrates.asks_by k a) (sym is) (migrate_twice k c)

migrate_may : (limits : Numbers) (k : migrates.Known) (old new : Pass) (asked : Act) (told : Heard) (x : Sid) (c : DmCall) → migrate.MayGive limits k old new asked told (act.Dm x c) → MayAsk Migrate k.seat x c
migrate_may limits k old new asked told x call.GetAllSessions may = may.0
migrate_may limits k old new asked told x (call.GetEvents most room) may = may.0.seated
migrate_may limits k old new asked told x (call.Respond t response) may = may.0
migrate_may limits k old new asked told x call.GetSpace may = may.0.seated
migrate_may limits k old new asked told x call.GetTable may = may.0.seated
migrate_may limits k old new asked told x (call.GetRegion t h) may = tt
migrate_may limits k old new asked told x (call.SetRegion t h regions) may = tt
migrate_may limits k old new asked told x (call.ReadInvis t h offset len) may = tt
migrate_may limits k old new asked told x (call.Seal t h segment entry) may = tt
migrate_may limits k old new asked told x (call.PunchHole t h offset len) may = tt
migrate_may limits k old new asked told x c may = may.1

migrate_unanswered : (limits : Numbers) (k : migrates.Known) (asked : Act) (told : Heard) → call_told asked told ≡ None → Remarked k.seat (migrates.knows_by limits k asked told).seat
migrate_unanswered limits k (act.Dm x c) (heard.Dm a) none = absurd (none-some _ (sym none))
migrate_unanswered limits k asked told none = inl refl

migrate_answered : (m : migrate.Machine) (x : Sid) (c : DmCall) (a : DmReply) (P : Seat → Type 0) → MigrateAsked m → m.asked ≡ act.Dm x c → Keeps P c a (seat_hears Migrate (seat_asks m.known.seat c) c a) → P (migrate_told m (heard.Dm a))
migrate_answered m x c a P so is keeps =
    subst (λ (asked : Act). P (migrates.knows_by m.limits m.known asked (heard.Dm a)).seat) (sym is) (subst (λ (k : migrates.Known). P (migrates.hears m.limits k c a).seat) (so x c is) (migrate_so P m.limits m.known c a keeps))

-- a pass may begin again: the seat stays
space_seat : (limits : Numbers) (k : migrates.Known) (c : DmCall) (used total : ℕ) → (migrates.hears limits k c (reply.Space used total)).seat ≡ k.seat
space_seat limits k call.GetSpace used total = refl
space_seat limits k c used total = refl

fresh_hears : (limits : Numbers) (k : migrates.Known) (c : DmCall) (a : DmReply) → (migrates.hears limits (fresh k) c a).seat ≡ (migrates.hears limits k c a).seat
fresh_hears limits k call.GetSpace (reply.Space used total) = refl
fresh_hears limits k call.GetSpace a = refl
fresh_hears limits k call.GetTable (reply.Table table) = refl
fresh_hears limits k call.GetTable a = refl
fresh_hears limits k (call.PunchHole t h offset len) reply.Done = refl
fresh_hears limits k (call.PunchHole t h offset len) a = refl
fresh_hears limits k c a = refl

fresh_answer : (limits : Numbers) (k : migrates.Known) (x : Sid) (c : DmCall) (a : DmReply) → (migrates.knows_by limits (fresh k) (act.Dm x c) (untold (heard.Dm a))).seat ≡ (migrates.hears limits k c a).seat
fresh_answer limits k x c (reply.Space used total) = sym (space_seat limits k c used total)
fresh_answer limits k x c a = fresh_hears limits k c a

fresh_told : (limits : Numbers) (k : migrates.Known) (asked : Act) (told : Heard) → (migrates.knows_by limits (fresh k) asked (untold told)).seat ≡ (migrates.knows_by limits k asked told).seat
fresh_told limits k (act.Dm x c) (heard.Dm a) = fresh_answer limits k x c a
fresh_told limits k asked told = refl

pub migrate_sits : (limits : Numbers) → Sits Migrate (lives.migrates limits)
migrate_sits limits = record {
  seat = λ (m : migrate.Machine). m.known.seat;
  told = migrate_told;
  IsSo = MigrateAsked;
  first = refl;
  first_so = λ x c is. cc;
  again = λ m. refl;
  again_told = λ m h. fresh_told m.limits m.known m.asked h;
  again_so = λ m so x c is. fresh_asks m.known c ∙ ap fresh (so x c is);
  gives = λ m h asked n goes. subst (λ (k : migrates.Known). Gave (migrate_told m h) asked k.seat) (sym goes.known) (migrate_gave (migrates.knows_by m.limits m.known m.asked h) asked);
  gives_so = λ m h asked n goes x c is. subst (λ (k : migrates.Known). migrates.asks k c ≡ k) (sym goes.known) (migrate_had_asked (migrates.knows_by m.limits m.known m.asked h) asked x c (sym goes.asked ∙ is));
  may = λ m h x c n goes. migrate_may m.limits (migrates.knows_by m.limits m.known m.asked h) m.pass n.pass m.asked h x c goes.may;
  answered = migrate_answered;
  unanswered = λ m h none. migrate_unanswered m.limits m.known m.asked h none;
}

pub migrate_seat : (limits : Numbers) (m : migrate.Machine) → (migrate_sits limits).seat m ≡ m.known.seat
unfolding migrate_sits
migrate_seat limits m = refl

pub migrate_heard : (limits : Numbers) (m : migrate.Machine) (told : Heard) → (migrate_sits limits).told m told ≡ (migrates.knows_by m.limits m.known m.asked told).seat
unfolding migrate_sits
migrate_heard limits m told = refl

abbrev counted : migrate.Machine → Counted
counted m = record { limits = m.limits; known = m.known }

pub migrate_known : (limits : Numbers) → IsKnown (lives.migrates limits) counted (migrate_knows limits)
migrate_known limits = record { first = refl; again = λ m. refl; goes = λ old told asked new goes. ap (λ (n : Numbers). record { limits = n; known = new.known }) goes.limits ∙ ap (λ (k : migrates.Known). record { limits = old.limits; known = k }) goes.known }

-- ---- what is known of their seats by deeds

module _ {M : Type 0} (d : Daemon) (w : Workings M) (sits : Sits d w) where
  -- of one that runs, with what it has heard
  abbrev pub seat_in : Option (Living M) → Seat
  seat_in r = seat_or_none (option_map (seat_now d w sits) r)

recall_seen : (r : Option (Living recall.Machine)) → seat_in Recall lives.recalls recall_sits r ≡ seat_or_none (option_map (λ (k : recalls.Known). k.seat) (option_map (known_now recall_knows) (option_map (standing_of lives.recalls (λ (m : recall.Machine). m.known)) r)))
unfolding recall_sits
recall_seen None = refl
recall_seen (Some r) = refl

migrate_seen : (limits : Numbers) (m : Option (Living migrate.Machine))
    → seat_in Migrate (lives.migrates limits) (migrate_sits limits) m ≡ seat_or_none (option_map (λ (c : Counted). c.known.seat) (option_map (known_now (migrate_knows limits)) (option_map (standing_of (lives.migrates limits) counted) m)))
unfolding migrate_sits
migrate_seen limits None = refl
migrate_seen limits (Some m) = refl

-- the fold tells it
module _ (limits : Numbers) (deeds : List Deed) (end : Situation recall.Machine migrate.Machine) (leads : Leads lives.recalls (lives.migrates limits) deeds nothing_done end) where
  pub recall_behind : seat_behind limits Recall deeds ≡ seat_in Recall lives.recalls recall_sits end.recall
  recall_behind =
      sym (recall_seen end.recall ∙ ap (λ (s : Option (Standing recalls.Known)). seat_or_none (option_map (λ (k : recalls.Known). k.seat) (option_map (known_now recall_knows) s)))
      (exactly lives.recalls (λ (m : recall.Machine). m.known) recall_knows recall_known (life Recall deeds) None end.recall leads.recall))

  pub migrate_behind : seat_behind limits Migrate deeds ≡ seat_in Migrate (lives.migrates limits) (migrate_sits limits) end.migrate
  migrate_behind =
      sym (migrate_seen limits end.migrate ∙ ap (λ (s : Option (Standing Counted)). seat_or_none (option_map (λ (c : Counted). c.known.seat) (option_map (known_now (migrate_knows limits)) s)))
      (exactly (lives.migrates limits) counted (migrate_knows limits) (migrate_known limits) (life Migrate deeds) None end.migrate leads.migrate))
