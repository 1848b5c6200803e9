-- What is so of each event that a daemon is told is so of each that it keeps.
use Rattle.std.proofs.Common.{◌≡◌, ◌∙◌, List, Option, None, Some, IfSome, inl, inr, refl, sym, ap, subst}
use Rattle.std.proofs.lemmas.List.Elements.{All-nil}
use Rattle.hsm_types.specs.declared.daemons.Act.{Act}
use Rattle.hsm_types.specs.declared.daemons.Act.TheVariants as act
use Rattle.hsm_types.specs.declared.daemons.Daemon.{Daemon}
use Rattle.hsm_types.specs.declared.daemons.Heard.{Heard}
use Rattle.hsm_types.specs.declared.daemons.Heard.TheVariants as heard
use Rattle.hsm_types.specs.declared.daemons.Heard.TheVariants.{Nothing}
use Rattle.daemon_session.specs.declared.events.Event.{Event}
use Rattle.daemon_session.specs.Seats.{Seat, no_seat, seat_asks}
use Rattle.marked_history.proofs.Remembering.{IsKeptSo, AllKept, TellsOnly, changed_kept, asks_kept, keeps_kept}
use Rattle.deeds.specs.Deeds.{call_told}
use Rattle.deeds.specs.Lives.{Workings, Living, Move, Begins, Ends, Renews, Asks, Learns, Fails, Misses, hearing, begun, renewed, MovesTo}
use Rattle.deed_laws.proofs.Sitting.{Remarked, Gave, Sits, Sound, IsSound, given_seat, seat_now, unheard}

-- so is each that an answer tells
abbrev pub TellsIn : (Event → Type 0) → Daemon → Move → Type 0
TellsIn E d (Learns (act.Dm x c) (heard.Dm a)) = TellsOnly E d c a
TellsIn E d move = Unit {0}

module _ (E : Event → Type 0) where
  abbrev Keep : Seat → Type 0
  Keep seat = AllKept E seat.kept

  pub remarked_keep : (s t : Seat) → Remarked s t → Keep s → Keep t
  remarked_keep s t (inl same) keep = subst Keep (sym same) keep
  remarked_keep s t (inr is) keep = subst Keep (sym is.2) (changed_kept E is.0 is.1 s.kept keep)

  gave_keep : (s : Seat) (asked : Act) (t : Seat) → Gave s asked t → Keep s → Keep t
  gave_keep s (act.Dm x c) t gave keep = subst Keep (sym gave) (asks_kept E s c keep)
  gave_keep s act.Idle t gave keep = remarked_keep s t gave keep
  gave_keep s (act.Copy volume h segment bytes) t gave keep = remarked_keep s t gave keep
  gave_keep s (act.Fetch entry) t gave keep = remarked_keep s t gave keep

  module _ {M : Type 0} (d : Daemon) (w : Workings M) (sits : Sits d w) where
    -- where it gave its act, and with what it has heard
    pub record AllSo (r : Living M) : Type 0 where
      pub given : Keep (given_seat d w sits r)
      pub now : Keep (seat_now d w sits r)

    abbrev pub Kept : Option (Living M) → Type 0
    Kept r = IfSome r AllSo

    abbrev Known : Option (Living M) → Type 0
    Known = Sound d w sits

    -- it hears nothing, or awaits what it will
    none_heard : (m : M) → Keep (sits.seat m) → AllSo (hearing m (Some Nothing))
    none_heard m keep = record { given = keep; now = remarked_keep (sits.seat m) (sits.told m Nothing) (unheard d w sits m) keep }

    awaits : (m : M) → Keep (sits.seat m) → AllSo (hearing m None)
    awaits m keep = record { given = keep; now = remarked_keep (sits.seat m) (sits.told m Nothing) (unheard d w sits m) keep }

    learns : (m : M) (asked : Act) (told : Heard) → w.asked m ≡ asked → IsSound d w sits (hearing m None) → TellsIn E d (Learns asked told) → Keep (sits.seat m) → Keep (sits.told m told)
    learns m (act.Dm x c) (heard.Dm a) same sound tells keep = sits.answered m x c a Keep sound.so same (keeps_kept E d (sits.seat m) c a keep tells)
    learns m asked told same sound tells keep = remarked_keep (sits.seat m) (sits.told m told) (sits.unanswered m told (ap (λ (y : Act). call_told y told) same)) keep

    renews : (r : Living M) → AllSo r → AllSo (renewed w r)
    renews r is = renews_by r.machine r.hears is
      where
        renews_by : (m : M) (hears : Option Heard) → AllSo (hearing m hears) → AllSo (renewed w (hearing m hears))
        renews_by m None keep = awaits (w.again m) (subst Keep (sym (sits.again m)) keep.given)
        renews_by m (Some told) keep = record { given = subst Keep (sym (sits.again m)) keep.given; now = subst Keep (sym (sits.again_told m told)) keep.now }

    pub keep_on : (move : Move) (old new : Option (Living M)) → MovesTo w move old new → Known old → TellsIn E d move → Kept old → Kept new
    keep_on Begins None new to sound tells keep = subst Kept (sym to) (none_heard w.first (subst Keep (sym sits.first) (All-nil (IsKeptSo E))))
    keep_on Begins (Some r) new to sound tells keep = subst Kept (sym to) keep
    keep_on Ends old new to sound tells keep = subst Kept (sym to) tt
    keep_on Renews None new to sound tells keep = subst Kept (sym to) tt
    keep_on Renews (Some r) new to sound tells keep = subst Kept (sym to) (renews r keep)
    keep_on (Asks asked) old new to sound tells keep =
        let was : AllSo (hearing to.0 (Some to.1)) = subst Kept to.3 keep in
        subst Kept (sym to.5) (awaits to.2 (gave_keep (sits.told to.0 to.1) asked (sits.seat to.2) (sits.gives to.0 to.1 asked to.2 to.4) was.now))
    keep_on (Learns asked told) old new to sound tells keep =
        let was : AllSo (hearing to.0 None) = subst Kept to.1 keep in
        subst Kept (sym to.4) (record { given = was.given; now = learns to.0 asked told to.2 (subst Known to.1 sound) tells was.given })
    keep_on (Fails sid c) old new to sound tells keep = let was : AllSo (hearing to.0 None) = subst Kept to.1 keep in subst Kept (sym to.3) (none_heard to.0 was.given)
    keep_on Misses old new to sound tells keep = let was : AllSo to.0 = subst Kept to.1 keep in subst Kept (sym to.2) (none_heard to.0.machine was.given)
