-- How what a daemon knows of its session goes on: one form for both machines.
use Rattle.std.proofs.Common.{◌≡◌, ◌⊎◌, List, [], ◌∷◌, ◌++◌, map, Option, None, Some, IfSome, refl, sym, subst, append_assoc, append-nil}
use Rattle.std.specs.Option.{unwrap_or}
use Rattle.hsm_types.specs.declared.daemons.Act.{Act}
use Rattle.hsm_types.specs.declared.daemons.Act.TheVariants as act
use Rattle.hsm_types.specs.declared.daemons.Daemon.{Daemon}
use Rattle.hsm_types.specs.declared.daemons.Daemon.TheVariants.{Recall, Migrate}
use Rattle.hsm_types.specs.declared.daemons.Heard.{Heard}
use Rattle.hsm_types.specs.declared.daemons.Heard.TheVariants as heard
use Rattle.hsm_types.specs.declared.daemons.Heard.TheVariants.{Nothing}
use Rattle.hsm_types.specs.declared.dm.DmCall.{DmCall}
use Rattle.hsm_types.specs.declared.dm.DmCall.TheVariants as call
use Rattle.hsm_types.specs.declared.dm.DmReply.{DmReply}
use Rattle.hsm_types.specs.declared.dm.Right.TheVariants.{Excl}
use Rattle.hsm_types.specs.declared.keys.Sid.{Sid}
use Rattle.daemon_session.specs.declared.events.Kept.{Kept}
use Rattle.daemon_session.specs.Seats.{Seat, no_seat, first_id, seat_asks, seat_hears, IsSeated, MayGoOn}
use Rattle.recall_daemon.proofs.Outcomes.{Remarks, Keeps}
use Rattle.marked_history.specs.Served.{IsTold}
use Rattle.deeds.specs.Deeds.{call_told}
use Rattle.deeds.specs.Lives.{Workings, Living, Move, Begins, Ends, Renews, Asks, Learns, Fails, Misses, hearing, begun, renewed, untold, MovesTo, Lives}

-- ---- seats

-- the same but for which events are marked
abbrev pub Remarked : Seat → Seat → Type 0
Remarked s t = (t ≡ s) ⊎ ((f : Kept → Kept) × Remarks f × (t ≡ record s { kept = map f s.kept }))

-- what an act leaves of the seat by which it was given
abbrev pub Gave : Seat → Act → Seat → Type 0
Gave s (act.Dm x c) t = t ≡ seat_asks s c
Gave s asked t = Remarked s t

-- which calls a daemon may make by its seat
abbrev pub MayAsk : Daemon → Seat → Sid → DmCall → Type 0
MayAsk d s x call.GetAllSessions = x ≡ first_id
MayAsk d s x (call.GetEvents most room) = IsSeated s x
MayAsk d s x (call.Respond t response) = IsSeated s x
MayAsk Recall s x (call.RequestRight t h right) = IsSeated s x × (right ≡ Excl) × IsTold s.kept t h
MayAsk Recall s x (call.GetFileAttr t h) = IsSeated s x
MayAsk Recall s x (call.GetAllocInfo t h) = IsSeated s x
MayAsk Recall s x (call.Restore t h segment bytes) = IsSeated s x
MayAsk Migrate s x call.GetSpace = IsSeated s x
MayAsk Migrate s x call.GetTable = IsSeated s x
MayAsk Migrate s x (call.GetRegion t h) = Unit {0}
MayAsk Migrate s x (call.SetRegion t h regions) = Unit {0}
MayAsk Migrate s x (call.ReadInvis t h offset len) = Unit {0}
MayAsk Migrate s x (call.Seal t h segment entry) = Unit {0}
MayAsk Migrate s x (call.PunchHole t h offset len) = Unit {0}
MayAsk d s x c = MayGoOn d s x c

-- and what is so of the seat where one is made: with a call for a session it has none
abbrev pub HasAsked : Daemon → Seat → Sid → DmCall → Type 0
HasAsked d s x (call.CreateSession old info) = Unit {0}
HasAsked d s x c = MayAsk d s x c

abbrev pub HasGiven : Daemon → Seat → Act → Type 0
HasGiven d s (act.Dm x c) = HasAsked d s x c × (seat_asks s c ≡ s)
HasGiven d s asked = Unit {0}

asks_twice : (s : Seat) (c : DmCall) → seat_asks (seat_asks s c) c ≡ seat_asks s c
asks_twice s call.GetAllSessions = refl
asks_twice s (call.CreateSession old info) = refl
asks_twice s c = refl

has_asked : (d : Daemon) (s : Seat) (x : Sid) (c : DmCall) → MayAsk d s x c → HasAsked d (seat_asks s c) x c
has_asked d s x call.GetAllSessions may = may
has_asked d s x (call.CreateSession old info) may = tt
has_asked d s x c may = may

-- ---- a machine

-- How a machine sits: what its seat is where it has given its act, and with what it hears of that; and that both go on as a seat does. What else is so of it is
-- its own matter.
pub record Sits {M : Type 0} (d : Daemon) (w : Workings M) : Type 1 where
  pub seat : M → Seat
  pub told : M → Heard → Seat
  pub IsSo : M → Type 0
  pub first : seat w.first ≡ no_seat
  pub first_so : IsSo w.first
  pub again : (m : M) → seat (w.again m) ≡ seat m
  pub again_told : (m : M) (h : Heard) → told (w.again m) (untold h) ≡ told m h
  pub again_so : (m : M) → IsSo m → IsSo (w.again m)
  pub gives : (m : M) (h : Heard) (asked : Act) (n : M) → w.StepsOn m h asked n → Gave (told m h) asked (seat n)
  pub gives_so : (m : M) (h : Heard) (asked : Act) (n : M) → w.StepsOn m h asked n → IsSo n
  pub may : (m : M) (h : Heard) (x : Sid) (c : DmCall) (n : M) → w.StepsOn m h (act.Dm x c) n → MayAsk d (told m h) x c
  pub answered : (m : M) (x : Sid) (c : DmCall) (a : DmReply) (P : Seat → Type 0) → IsSo m → w.asked m ≡ act.Dm x c → Keeps P c a (seat_hears d (seat_asks (seat m) c) c a) → P (told m (heard.Dm a))
  pub unanswered : (m : M) (h : Heard) → call_told (w.asked m) h ≡ None → Remarked (seat m) (told m h)

no_call : (asked : Act) → call_told asked Nothing ≡ None
no_call (act.Dm x c) = refl
no_call asked = refl

module _ {M : Type 0} (d : Daemon) (w : Workings M) (sits : Sits d w) where
  -- the seat where it gave its act, and the one with what it has heard
  abbrev pub given_seat : Living M → Seat
  given_seat r = sits.seat r.machine

  abbrev pub seat_now : Living M → Seat
  seat_now r = sits.told r.machine (unwrap_or r.hears Nothing)

  pub unheard : (m : M) → Remarked (sits.seat m) (sits.told m Nothing)
  unheard m = sits.unanswered m Nothing (no_call (w.asked m))

  -- ---- what is so of each machine that lives

  pub record IsSound (r : Living M) : Type 0 where
    pub so : sits.IsSo r.machine
    pub given : HasGiven d (sits.seat r.machine) (w.asked r.machine)

  abbrev pub Sound : Option (Living M) → Type 0
  Sound r = IfSome r IsSound

  begins_sound : IsSound (begun w)
  begins_sound = record { so = sits.first_so; given = subst (HasGiven d (sits.seat w.first)) (sym w.rests) tt }

  renews_sound : (r : Living M) → IsSound r → IsSound (renewed w r)
  renews_sound r is = record {
    so = sits.again_so r.machine is.so;
    given = subst (λ (s : Seat). HasGiven d s (w.asked (w.again r.machine))) (sym (sits.again r.machine)) (subst (HasGiven d (sits.seat r.machine)) (sym (w.still r.machine)) is.given);
  }

  gave_given : (m : M) (h : Heard) (asked : Act) (n : M) → w.StepsOn m h asked n → HasGiven d (sits.seat n) asked
  gave_given m h (act.Dm x c) n goes =
      subst (λ (s : Seat). HasGiven d s (act.Dm x c)) (sym (sits.gives m h (act.Dm x c) n goes)) (has_asked d (sits.told m h) x c (sits.may m h x c n goes), asks_twice (sits.told m h) c)
  gave_given m h asked n goes = tt

  asks_sound : (m : M) (h : Heard) (asked : Act) (n : M) → w.StepsOn m h asked n → IsSound (hearing n None)
  asks_sound m h asked n goes = record { so = sits.gives_so m h asked n goes; given = subst (HasGiven d (sits.seat n)) (sym (w.gives m h asked n goes)) (gave_given m h asked n goes) }

  pub sound_on : (move : Move) (old new : Option (Living M)) → MovesTo w move old new → Sound old → Sound new
  sound_on Begins None new to is = subst Sound (sym to) begins_sound
  sound_on Begins (Some r) new to is = subst Sound (sym to) is
  sound_on Ends old new to is = subst Sound (sym to) tt
  sound_on Renews None new to is = subst Sound (sym to) tt
  sound_on Renews (Some r) new to is = subst Sound (sym to) (renews_sound r is)
  sound_on (Asks asked) old new to is = subst Sound (sym to.5) (asks_sound to.0 to.1 asked to.2 to.4)
  sound_on (Learns asked told) old new to is = let was : IsSound (hearing to.0 None) = subst Sound to.1 is in subst Sound (sym to.4) (record { so = was.so; given = was.given })
  sound_on (Fails sid c) old new to is = let was : IsSound (hearing to.0 None) = subst Sound to.1 is in subst Sound (sym to.3) (record { so = was.so; given = was.given })
  sound_on Misses old new to is = let was : IsSound to.0 = subst Sound to.1 is in subst Sound (sym to.2) (record { so = was.so; given = was.given })

  -- ---- along a life

  -- what each move keeps, of the moves so far and of what lives behind them, is so behind all
  module _ (P : List Move → Option (Living M) → Type 0) (on : (before : List Move) (move : Move) (old new : Option (Living M)) → MovesTo w move old new → Sound old → P before old → P (before ++ move ∷ []) new) where
    pub along : (moves before : List Move) (old new : Option (Living M)) → Lives w moves old new → Sound old → P before old → P (before ++ moves) new
    along [] before old new lives sound is = subst (λ (l : List Move). P l new) (sym (append-nil before)) (subst (P before) (sym lives) is)
    along (move ∷ moves) before old new lives sound is =
        subst (λ (l : List Move). P l new) (append_assoc before (move ∷ []) moves)
        (along moves (before ++ move ∷ []) lives.0 new lives.2 (sound_on move old lives.0 lives.1 sound) (on before move old lives.0 lives.1 sound is))
