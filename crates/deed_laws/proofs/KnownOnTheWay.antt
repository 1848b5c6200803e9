-- What a daemon knows on its way to a session goes on by each of its moves.
use Rattle.std.proofs.Common.{◌≡◌, Option, None, Some, IfSome, inl, inr, refl, sym, ap, subst}
use Rattle.hsm_types.specs.declared.daemons.Act.{Act}
use Rattle.hsm_types.specs.declared.daemons.Act.TheVariants as act
use Rattle.hsm_types.specs.declared.daemons.Daemon.{Daemon}
use Rattle.hsm_types.specs.declared.daemons.Heard.{Heard}
use Rattle.hsm_types.specs.declared.daemons.Heard.TheVariants as heard
use Rattle.hsm_types.specs.declared.daemons.Heard.TheVariants.{Nothing}
use Rattle.hsm_types.specs.declared.dm.DmCall.{DmCall}
use Rattle.hsm_types.specs.declared.dm.DmCall.TheVariants as call
use Rattle.hsm_types.specs.declared.dm.DmReply.{DmReply}
use Rattle.hsm_types.specs.declared.keys.Sid.{Sid}
use Rattle.daemon_session.specs.Seats.{Seat, seat_asks, seat_hears}
use Rattle.recall_daemon.proofs.Outcomes.{but_kept}
use Rattle.marked_history.proofs.Ways.{Way, way_of, no_way, way_next, seat_next}
use Rattle.deeds.specs.Deeds.{call_told}
use Rattle.deeds.specs.Lives.{Workings, Living, Move, Begins, Ends, Renews, Asks, Learns, Fails, Misses, hearing, renewed, MovesTo}
use Rattle.deed_laws.specs.DaemonSessions.{StaysOn}
use Rattle.deed_laws.proofs.Sitting.{Remarked, Gave, HasGiven, Sits, Sound, IsSound, given_seat, seat_now, unheard}

module _ (d : Daemon) (Was Is : Way → Type 0) where
  -- so of what it knew where it made a call is so with the answer
  abbrev pub HearsOn : Move → Type 0
  HearsOn (Learns (act.Dm x c) (heard.Dm a)) = (s : Seat) → HasGiven d s (act.Dm x c) → Was (way_of s) → Is (way_next d (way_of s) c a)
  HearsOn move = Unit {0}

  -- Behind the move it is so where it was so before: of one that knows nothing, of one that stays on, and with an answer.
  pub record KeepsWay (move : Move) : Type 0 where
    pub none : Is no_way
    pub stays : StaysOn move → (way : Way) → Was way → Is way
    pub hears : HearsOn move

remarked_way : (s t : Seat) → Remarked s t → way_of t ≡ way_of s
remarked_way s t (inl same) = ap way_of same
remarked_way s t (inr is) = ap way_of is.2

module _ {M : Type 0} (d : Daemon) (w : Workings M) (sits : Sits d w) where
  -- by what it knew where it gave its act, and with what it has heard
  pub record Both (P : Way → Type 0) (r : Living M) : Type 0 where
    pub given : P (way_of (given_seat d w sits r))
    pub now : P (way_of (seat_now d w sits r))

  abbrev pub KnowsWay : (Way → Type 0) → Option (Living M) → Type 0
  KnowsWay P r = IfSome r (Both P)

  module _ (P : Way → Type 0) where
    remarked_so : (s t : Seat) → Remarked s t → P (way_of s) → P (way_of t)
    remarked_so s t remarked is = subst P (sym (remarked_way s t remarked)) is

    -- it hears nothing, or awaits what it will
    none_heard : (m : M) → P (way_of (sits.seat m)) → Both P (hearing m (Some Nothing))
    none_heard m is = record { given = is; now = remarked_so (sits.seat m) (sits.told m Nothing) (unheard d w sits m) is }

    awaits : (m : M) → P (way_of (sits.seat m)) → Both P (hearing m None)
    awaits m is = record { given = is; now = remarked_so (sits.seat m) (sits.told m Nothing) (unheard d w sits m) is }

    renews : (m : M) (hears : Option Heard) → Both P (hearing m hears) → Both P (renewed w (hearing m hears))
    renews m None is = awaits (w.again m) (subst (λ (s : Seat). P (way_of s)) (sym (sits.again m)) is.given)
    renews m (Some told) is = record { given = subst (λ (s : Seat). P (way_of s)) (sym (sits.again m)) is.given; now = subst (λ (s : Seat). P (way_of s)) (sym (sits.again_told m told)) is.now }

  -- what is so of each way that is so
  pub way_more : (Was Is : Way → Type 0) → ((way : Way) → Was way → Is way) → (r : Option (Living M)) → KnowsWay Was r → KnowsWay Is r
  way_more Was Is more None was = tt
  way_more Was Is more (Some r) was = record { given = more (way_of (given_seat d w sits r)) was.given; now = more (way_of (seat_now d w sits r)) was.now }

  module _ (Was Is : Way → Type 0) where
    abbrev Keeps : Move → Type 0
    Keeps = KeepsWay d Was Is

    asked_way : (s : Seat) (x : Sid) (c : DmCall) → Keeps (Asks (act.Dm x c)) → Was (way_of s) → Is (way_of (seat_asks s c))
    asked_way s x call.GetAllSessions keeps was = keeps.none
    asked_way s x (call.CreateSession old info) keeps was = keeps.none
    asked_way s x c keeps was = keeps.stays tt (way_of s) was

    gave_way : (s : Seat) (asked : Act) (t : Seat) → Gave s asked t → Keeps (Asks asked) → Was (way_of s) → Is (way_of t)
    gave_way s (act.Dm x c) t gave keeps was = subst (λ (u : Seat). Is (way_of u)) (sym gave) (asked_way s x c keeps was)
    gave_way s act.Idle t gave keeps was = remarked_so Is s t gave (keeps.stays tt (way_of s) was)
    gave_way s (act.Copy volume h segment bytes) t gave keeps was = remarked_so Is s t gave (keeps.stays tt (way_of s) was)
    gave_way s (act.Fetch entry) t gave keeps was = remarked_so Is s t gave (keeps.stays tt (way_of s) was)

    learns : (m : M) (asked : Act) (told : Heard) → w.asked m ≡ asked → IsSound d w sits (hearing m None) → Keeps (Learns asked told) → Was (way_of (sits.seat m)) → Is (way_of (sits.told m told))
    learns m (act.Dm x c) (heard.Dm a) same sound keeps was =
        let given : HasGiven d (sits.seat m) (act.Dm x c) = subst (HasGiven d (sits.seat m)) same sound.given in
        let P : Seat → Type 0 = λ (s : Seat). Is (way_of s) in
        sits.answered m x c a P sound.so same (but_kept P c a (seat_hears d (seat_asks (sits.seat m) c) c a) (λ kept. subst Is (sym (seat_next d (sits.seat m) c a)) (keeps.hears (sits.seat m) given was)))
    learns m asked told same sound keeps was = remarked_so Is (sits.seat m) (sits.told m told) (sits.unanswered m told (ap (λ (y : Act). call_told y told) same)) (keeps.stays tt (way_of (sits.seat m)) was)

    pub way_on : (move : Move) (old new : Option (Living M)) → Keeps move → MovesTo w move old new → Sound d w sits old → KnowsWay Was old → KnowsWay Is new
    way_on Begins None new keeps to sound was = subst (KnowsWay Is) (sym to) (none_heard Is w.first (subst (λ (s : Seat). Is (way_of s)) (sym sits.first) keeps.none))
    way_on Begins (Some r) new keeps to sound was = subst (KnowsWay Is) (sym to) (way_more Was Is (keeps.stays tt) (Some r) was)
    way_on Ends old new keeps to sound was = subst (KnowsWay Is) (sym to) tt
    way_on Renews None new keeps to sound was = subst (KnowsWay Is) (sym to) tt
    way_on Renews (Some r) new keeps to sound was = subst (KnowsWay Is) (sym to) (renews Is r.machine r.hears (way_more Was Is (keeps.stays tt) (Some r) was))
    way_on (Asks asked) old new keeps to sound was =
        let is : Both Was (hearing to.0 (Some to.1)) = subst (KnowsWay Was) to.3 was in
        subst (KnowsWay Is) (sym to.5) (awaits Is to.2 (gave_way (sits.told to.0 to.1) asked (sits.seat to.2) (sits.gives to.0 to.1 asked to.2 to.4) keeps is.now))
    way_on (Learns asked told) old new keeps to sound was =
        let is : Both Was (hearing to.0 None) = subst (KnowsWay Was) to.1 was in
        subst (KnowsWay Is) (sym to.4)
        (record { given = keeps.stays tt (way_of (sits.seat to.0)) is.given; now = learns to.0 asked told to.2 (subst (Sound d w sits) to.1 sound) keeps is.given })
    way_on (Fails sid c) old new keeps to sound was =
        let is : Both Was (hearing to.0 None) = subst (KnowsWay Was) to.1 was in
        subst (KnowsWay Is) (sym to.3) (none_heard Is to.0 (keeps.stays tt (way_of (sits.seat to.0)) is.given))
    way_on Misses old new keeps to sound was =
        let is : Both Was to.0 = subst (KnowsWay Was) to.1 was in
        subst (KnowsWay Is) (sym to.2) (none_heard Is to.0.machine (keeps.stays tt (way_of (sits.seat to.0.machine)) is.given))
