-- A daemon that has a session has no ids left to ask after. So what tells it nothing of use of sessions leaves it without one.
use Rattle.std.proofs.Common.{◌≡◌, ◌⊎◌, ◌∙◌, ℕ, Bool, true, false, List, ◌∷◌, drop, Option, None, Some, IfSome, inl, inr, refl, sym, ap, subst}
use Rattle.std.specs.Prelude.{if◌then◌else◌}
use Rattle.std.specs.Option.{option_map}
use Rattle.std.specs.Str.{bytes_eq}
use Rattle.std.proofs.lemmas.Option.{none-some}
use Rattle.hsm_types.specs.Daemons.{information}
use Rattle.hsm_types.specs.declared.daemons.Act.{Act}
use Rattle.hsm_types.specs.declared.daemons.Act.TheVariants as act
use Rattle.hsm_types.specs.declared.daemons.Daemon.{Daemon}
use Rattle.hsm_types.specs.declared.daemons.Heard.{Heard}
use Rattle.hsm_types.specs.declared.daemons.Heard.TheVariants as heard
use Rattle.hsm_types.specs.declared.daemons.Heard.TheVariants.{Nothing}
use Rattle.hsm_types.specs.declared.dm.DmCall.{DmCall}
use Rattle.hsm_types.specs.declared.dm.DmCall.TheVariants as call
use Rattle.hsm_types.specs.declared.dm.DmRefusal.TheVariants as why
use Rattle.hsm_types.specs.declared.dm.DmReply.{DmReply}
use Rattle.hsm_types.specs.declared.dm.DmReply.TheVariants as reply
use Rattle.hsm_types.specs.declared.keys.Sid.{Sid}
use Rattle.daemon_session.specs.Seats.{Seat, NeedsNone, seat_asks, seat_hears, told_info}
use Rattle.recall_daemon.proofs.Outcomes.{but_kept}
use Rattle.deeds.specs.Deeds.{call_told}
use Rattle.deeds.specs.Lives.{Workings, Living, Move, Begins, Ends, Renews, Asks, Learns, Fails, Misses, hearing, renewed, MovesTo}
use Rattle.deed_laws.proofs.Sitting.{Remarked, Gave, HasGiven, Sits, Sound, IsSound, given_seat, seat_now, unheard}

abbrev pub IsOneWay : Seat → Type 0
IsOneWay s = (s.sid ≡ None) ⊎ (s.others ≡ None)

-- ---- one answer

module _ (d : Daemon) (s : Seat) (is : IsOneWay s) where
  abbrev drop_one : Option (List Sid) → Option (List Sid)
  drop_one others = option_map (λ (ids : List Sid). drop 1 ids) others

  dropped_way : IsOneWay (record s { others = drop_one s.others })
  dropped_way = elim is [ inl none ↦ inl none | inr none ↦ inr (ap drop_one none) ]

  info_way : (target : Sid) (info : List ℕ) → IsOneWay (told_info d target info s)
  info_way target info = elim (bytes_eq info (information d)) as (λ (b : Bool). IsOneWay (if b then record s { found = Some target } else record s { others = option_map (λ (ids : List Sid). drop 1 ids) s.others })) [ true ↦ is | false ↦ dropped_way ]

  seat_way : (c : DmCall) (a : DmReply) → IsOneWay (seat_hears d (seat_asks s c) c a)
  seat_way call.GetAllSessions (reply.Sids ids) = inl refl
  seat_way call.GetAllSessions a = inl refl
  seat_way (call.CreateSession old info) (reply.Session sid) = inr refl
  seat_way (call.CreateSession old info) a = inl refl
  seat_way (call.QuerySession target) (reply.Info info) = info_way target info
  seat_way (call.QuerySession target) a = is
  seat_way (call.SetDisp kinds) reply.Done = is
  seat_way call.GetAllTokens (reply.Tokens tokens) = is
  seat_way (call.FindEventMsg t room) (reply.Packed bytes tokens) = is
  seat_way (call.FindEventMsg t room) (reply.Refused why.NoToken) = is
  seat_way (call.FindEventMsg t room) (reply.Refused (why.NotYours owner)) = is
  seat_way (call.GetEvents most room) (reply.Packed bytes tokens) = is
  seat_way (call.Respond t response) reply.Done = is
  seat_way (call.Respond t response) (reply.Refused why.NoToken) = is
  seat_way (call.Respond t response) (reply.Refused (why.NotYours owner)) = is
  seat_way c a = is

asked_way : (s : Seat) → IsOneWay s → (c : DmCall) → IsOneWay (seat_asks s c)
asked_way s is call.GetAllSessions = inl refl
asked_way s is (call.CreateSession old info) = inl refl
asked_way s is c = is

remarked_way : (s t : Seat) → Remarked s t → IsOneWay s → IsOneWay t
remarked_way s t (inl same) is = subst IsOneWay (sym same) is
remarked_way s t (inr other) is = subst IsOneWay (sym other.2) is

gave_way : (s : Seat) (asked : Act) (t : Seat) → Gave s asked t → IsOneWay s → IsOneWay t
gave_way s (act.Dm x c) t gave is = subst IsOneWay (sym gave) (asked_way s is c)
gave_way s act.Idle t gave is = remarked_way s t gave is
gave_way s (act.Copy volume h segment bytes) t gave is = remarked_way s t gave is
gave_way s (act.Fetch entry) t gave is = remarked_way s t gave is

-- ---- one move

module _ {M : Type 0} (d : Daemon) (w : Workings M) (sits : Sits d w) where
  -- by what it knew where it gave its act, and with what it has heard
  pub record GoesOneWay (r : Living M) : Type 0 where
    pub given : IsOneWay (given_seat d w sits r)
    pub now : IsOneWay (seat_now d w sits r)

  abbrev pub OneWay : Option (Living M) → Type 0
  OneWay r = IfSome r GoesOneWay

  -- it hears nothing, or awaits what it will
  none_heard : (m : M) → IsOneWay (sits.seat m) → GoesOneWay (hearing m (Some Nothing))
  none_heard m is = record { given = is; now = remarked_way (sits.seat m) (sits.told m Nothing) (unheard d w sits m) is }

  awaits : (m : M) → IsOneWay (sits.seat m) → GoesOneWay (hearing m None)
  awaits m is = record { given = is; now = remarked_way (sits.seat m) (sits.told m Nothing) (unheard d w sits m) is }

  renews : (m : M) (hears : Option Heard) → GoesOneWay (hearing m hears) → GoesOneWay (renewed w (hearing m hears))
  renews m None is = awaits (w.again m) (subst IsOneWay (sym (sits.again m)) is.given)
  renews m (Some told) is = record { given = subst IsOneWay (sym (sits.again m)) is.given; now = subst IsOneWay (sym (sits.again_told m told)) is.now }

  learns : (m : M) (asked : Act) (told : Heard) → w.asked m ≡ asked → IsSound d w sits (hearing m None) → IsOneWay (sits.seat m) → IsOneWay (sits.told m told)
  learns m (act.Dm x c) (heard.Dm a) same sound is =
      sits.answered m x c a IsOneWay sound.so same (but_kept IsOneWay c a (seat_hears d (seat_asks (sits.seat m) c) c a) (λ kept. seat_way d (sits.seat m) is c a))
  learns m asked told same sound is = remarked_way (sits.seat m) (sits.told m told) (sits.unanswered m told (ap (λ (y : Act). call_told y told) same)) is

  pub one_way_on : (move : Move) (old new : Option (Living M)) → MovesTo w move old new → Sound d w sits old → OneWay old → OneWay new
  one_way_on Begins None new to sound is = subst OneWay (sym to) (none_heard w.first (subst IsOneWay (sym sits.first) (inl refl)))
  one_way_on Begins (Some r) new to sound is = subst OneWay (sym to) is
  one_way_on Ends old new to sound is = subst OneWay (sym to) tt
  one_way_on Renews None new to sound is = subst OneWay (sym to) tt
  one_way_on Renews (Some r) new to sound is = subst OneWay (sym to) (renews r.machine r.hears is)
  one_way_on (Asks asked) old new to sound is =
      let was : GoesOneWay (hearing to.0 (Some to.1)) = subst OneWay to.3 is in
      subst OneWay (sym to.5) (awaits to.2 (gave_way (sits.told to.0 to.1) asked (sits.seat to.2) (sits.gives to.0 to.1 asked to.2 to.4) was.now))
  one_way_on (Learns asked told) old new to sound is =
      let was : GoesOneWay (hearing to.0 None) = subst OneWay to.1 is in
      subst OneWay (sym to.4) (record { given = was.given; now = learns to.0 asked told to.2 (subst (Sound d w sits) to.1 sound) was.given })
  one_way_on (Fails sid c) old new to sound is = let was : GoesOneWay (hearing to.0 None) = subst OneWay to.1 is in subst OneWay (sym to.3) (none_heard to.0 was.given)
  one_way_on Misses old new to sound is = let was : GoesOneWay to.0 = subst OneWay to.1 is in subst OneWay (sym to.2) (none_heard to.0.machine was.given)

  -- ---- what tells nothing of use

  -- without a session it asks what needs none
  pub has_no_session : (s : Seat) (asked : Act) → HasGiven d s asked → NeedsNone asked → IsOneWay s → s.sid ≡ None
  has_no_session s (act.Dm x call.GetAllSessions) given needs is = ap (λ (t : Seat). t.sid) (sym given.1)
  has_no_session s (act.Dm x (call.CreateSession old info)) given needs is = ap (λ (t : Seat). t.sid) (sym given.1)
  has_no_session s (act.Dm x (call.QuerySession target)) given needs (inl none) = none
  has_no_session s (act.Dm x (call.QuerySession target)) given needs (inr none) = let wrong : None ≡ Some (target ∷ given.0.2.0) = sym none ∙ given.0.2.1 in absurd (none-some _ wrong)
  has_no_session s asked given needs is = absurd needs
