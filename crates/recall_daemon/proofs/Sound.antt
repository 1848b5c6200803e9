-- From its start on the machine is on its way to a session, or at work.
use Rattle.std.proofs.Common.{◌≡◌, ℕ, ◌⊎◌, ⊎_elim, Bool, true, false, List, ◌∷◌, Some, None, refl, sym, ap₂, subst, inl, inr, if◌then◌else◌}
use Rattle.hsm_types.specs.declared.daemons.Act.{Act}
use Rattle.hsm_types.specs.declared.daemons.Act.TheVariants.{Dm, Copy, Fetch, Idle}
use Rattle.hsm_types.specs.declared.daemons.Heard.{Heard}
use Rattle.hsm_types.specs.declared.daemons.Heard.TheVariants as heard
use Rattle.hsm_types.specs.declared.dm.DmCall.TheVariants.{CreateSession, GetAllSessions, QuerySession, SetDisp, GetAllTokens, FindEventMsg}
use Rattle.hsm_types.specs.declared.dm.DmCall.TheVariants.{GetEvents, Respond, RequestRight, GetFileAttr, GetAllocInfo, Restore}
use Rattle.hsm_types.specs.declared.dm.DmReply.TheVariants as reply
use Rattle.hsm_types.specs.declared.dm.DmRefusal.TheVariants as why
use Rattle.hsm_types.specs.declared.dm.Kinds.{Kinds}
use Rattle.hsm_types.specs.declared.keys.Sid.{Sid}
use Rattle.hsm_types.specs.declared.keys.Token.{Token}
use Rattle.daemon_session.specs.Members.{IsRefusedOne}
use Rattle.daemon_session.specs.Seats.{Seat, first_id, IsSeated, Refuses}
use Rattle.recall_daemon.specs.Known.{Known, taken, nothing_known, knows_by, asks_by, ArePutOff, HasAll, MayGive}
use Rattle.recall_daemon.specs.Machine.{Machine, started, StepsOn}
use Rattle.recall_daemon.specs.Bounds.{IsSettled, IsAtWork, IsOutside, IsComing, IsOnWay, IsSound, TellsOfFew}
use Rattle.recall_daemon.proofs.Nearing.{clash, each_act_nears}

-- ---- what it hears on its way

-- it made a session, and has no event in hand
record IsArriving (asked : Act) (told : Heard) (k : Known) : Type 0 where
  hand : k.hand ≡ None
  others : k.seat.others ≡ None
  found : k.seat.found ≡ None
  taken : IsRefusedOne asked told → ⊥

abbrev Arrives : Act → Heard → Known → Type 0
Arrives asked told k = IsOutside k ⊎ IsArriving asked told k

one_sid : (b : Bool) (x y : Seat) → x.sid ≡ None → y.sid ≡ None → (if b then x else y).sid ≡ None
one_sid true x y first second = first
one_sid false x y first second = second

listed : (old : Known) (sid : Sid) (told : Heard) → IsOutside old → IsOutside (knows_by old (Dm sid GetAllSessions) told)
listed old sid (heard.Dm (reply.Sids ids)) outside = record { hand = outside.hand; sid = outside.sid }
listed old sid (heard.Dm answer) outside = record { hand = outside.hand; sid = outside.sid }
listed old sid told outside = outside

queried : (old : Known) (sid target : Sid) (told : Heard) → IsOutside old → IsOutside (knows_by old (Dm sid (QuerySession target)) told)
queried old sid target (heard.Dm (reply.Info info)) outside = record { hand = outside.hand; sid = one_sid _ _ _ outside.sid outside.sid }
queried old sid target (heard.Dm answer) outside = record { hand = outside.hand; sid = outside.sid }
queried old sid target told outside = outside

no_session_made : (old : Known) → old ≡ nothing_known → IsOutside old
no_session_made old none = rw none (record { hand = refl; sid = refl })

made : (old : Known) (sid previous : Sid) (info : List ℕ) (told : Heard) → old ≡ nothing_known → Arrives (Dm sid (CreateSession previous info)) told (knows_by old (Dm sid (CreateSession previous info)) told)
made old sid previous info (heard.Dm (reply.Session new)) none = inr (record { hand = rw none refl; others = refl; found = refl; taken = λ one. let told = one.4 in cc })
made old sid previous info (heard.Dm answer) none = inl (no_session_made old none)
made old sid previous info told none = inl (no_session_made old none)

arriving : (asked : Act) (told : Heard) (old k : Known) → IsComing old → k.hand ≡ old.hand → k.seat.others ≡ old.seat.others → k.seat.found ≡ old.seat.found → (IsRefusedOne asked told → ⊥) → Arrives asked told k
arriving asked told old k coming hand others found taken = inr (record { hand = rw hand coming.hand; others = rw others coming.others; found = rw found coming.found; taken = taken })

set : (old : Known) (sid : Sid) (kinds : Kinds) (told : Heard) → IsComing old → Arrives (Dm sid (SetDisp kinds)) told (knows_by old (Dm sid (SetDisp kinds)) told)
set old sid kinds (heard.Dm reply.Done) coming = arriving _ _ old _ coming refl refl refl (λ one. let asked = one.3 in cc)
set old sid kinds (heard.Dm answer) coming = arriving _ _ old _ coming refl refl refl (λ one. let asked = one.3 in cc)
set old sid kinds told coming = arriving _ _ old _ coming refl refl refl (λ one. let asked = one.3 in cc)

recollected : (old : Known) (sid : Sid) (told : Heard) → IsComing old → Arrives (Dm sid GetAllTokens) told (knows_by old (Dm sid GetAllTokens) told)
recollected old sid (heard.Dm (reply.Tokens tokens)) coming = arriving _ _ old _ coming refl refl refl (λ one. let asked = one.3 in cc)
recollected old sid (heard.Dm answer) coming = arriving _ _ old _ coming refl refl refl (λ one. let asked = one.3 in cc)
recollected old sid told coming = arriving _ _ old _ coming refl refl refl (λ one. let asked = one.3 in cc)

found_again : (old : Known) (sid : Sid) (t : Token) (room : ℕ) (told : Heard) → IsComing old → Arrives (Dm sid (FindEventMsg t room)) told (knows_by old (Dm sid (FindEventMsg t room)) told)
found_again old sid t room (heard.Dm (reply.Packed bytes tokens)) coming = arriving _ _ old _ coming refl refl refl (λ one. let asked = one.3 in cc)
found_again old sid t room (heard.Dm (reply.Refused why.NoToken)) coming = arriving _ _ old _ coming refl refl refl (λ one. let asked = one.3 in cc)
found_again old sid t room (heard.Dm (reply.Refused (why.NotYours owner))) coming = arriving _ _ old _ coming refl refl refl (λ one. let asked = one.3 in cc)
found_again old sid t room (heard.Dm (reply.Refused w)) coming = arriving _ _ old _ coming refl refl refl (λ one. let asked = one.3 in cc)
found_again old sid t room (heard.Dm answer) coming = arriving _ _ old _ coming refl refl refl (λ one. let asked = one.3 in cc)
found_again old sid t room told coming = arriving _ _ old _ coming refl refl refl (λ one. let asked = one.3 in cc)

arrives : (old : Known) (asked : Act) (told : Heard) → IsOnWay old asked → Arrives asked told (knows_by old asked told)
arrives old (Dm sid GetAllSessions) told on = inl (listed old sid told on)
arrives old (Dm sid (QuerySession target)) told on = inl (queried old sid target told on)
arrives old (Dm sid (CreateSession previous info)) told on = made old sid previous info told on
arrives old (Dm sid (SetDisp kinds)) told on = set old sid kinds told on
arrives old (Dm sid GetAllTokens) told on = recollected old sid told on
arrives old (Dm sid (FindEventMsg t room)) told on = found_again old sid t room told on
arrives old Idle told on = inl on
arrives old asked told on = absurd on

-- ---- what it gives then

abbrev Gives : ℕ → Act → Known → Type 0
Gives most act k = IsSound most (record { known = asks_by k act; asked = act })

seatless : (k : Known) (sid : Sid) → IsOutside k → IsSeated k.seat sid → ⊥
seatless k sid outside seated = let session = seated.session in let both = rw outside.sid at session in cc

sidless : (k : Known) (sid : Sid) → IsOutside k → k.seat.sid ≡ Some sid → ⊥
sidless k sid outside is = let both = rw outside.sid at is in cc

begins : (most : ℕ) (k : Known) (sid : Sid) → Gives most (Dm sid GetAllSessions) k
begins most k sid = inr (record { hand = refl; sid = refl })

from_outside : (most : ℕ) (asked : Act) (told : Heard) (k : Known) (act : Act) → IsOutside k → MayGive k asked told act → Gives most act k
from_outside most asked told k (Dm sid GetAllSessions) outside may = begins most k sid
from_outside most asked told k (Dm sid (QuerySession target)) outside may = inr outside
from_outside most asked told k (Dm sid (CreateSession previous info)) outside may = inr refl
from_outside most asked told k (Dm sid (SetDisp kinds)) outside may = absurd (sidless k sid outside may.1.0)
from_outside most asked told k (Dm sid GetAllTokens) outside may = absurd (sidless k sid outside may.1.0)
from_outside most asked told k (Dm sid (FindEventMsg t room)) outside may = absurd (sidless k sid outside may.1.0)
from_outside most asked told k (Dm sid (GetEvents max room)) outside may = absurd (seatless k sid outside may.0)
from_outside most asked told k (Dm sid (RequestRight t h right)) outside may = absurd (seatless k sid outside may.0)
from_outside most asked told k (Dm sid (GetFileAttr t h)) outside may = absurd (seatless k sid outside may.0)
from_outside most asked told k (Dm sid (GetAllocInfo t h)) outside may = absurd (seatless k sid outside may.0)
from_outside most asked told k (Dm sid (Restore t h j bytes)) outside may = absurd (seatless k sid outside may.0)
from_outside most asked told k (Dm sid (Respond t response)) outside may = absurd (seatless k sid outside may.0)
from_outside most asked told k (Dm sid call) outside may = absurd may.1
from_outside most asked told k (Copy volume handle segment bytes) outside may = absurd may
from_outside most asked told k (Fetch entry) outside may = absurd (clash k may.1.0 outside.hand may.1.2)
from_outside most asked told k Idle outside may = inr (record { hand = outside.hand; sid = outside.sid })

coming : (asked : Act) (told : Heard) (k : Known) → IsArriving asked told k → ((sid : Sid) → IsSeated k.seat sid → ⊥) → IsComing k
coming asked told k arriving unseated = record { hand = arriving.hand; others = arriving.others; found = arriving.found; unseated = unseated }

settled : (asked : Act) (told : Heard) (k : Known) (sid : Sid) → IsArriving asked told k → IsSeated k.seat sid → IsSettled k.seat
settled asked told k sid arriving seated = record { sid = sid; seated = seated; others = arriving.others; found = arriving.found }

unset : (k : Known) (sid : Sid) → k.seat.set ≡ false → IsSeated k.seat sid → ⊥
unset k sid is seated = let both = rw seated.set at is in cc

untold : (k : Known) (sid : Sid) → k.seat.unfound ≡ None → IsSeated k.seat sid → ⊥
untold k sid is seated = let both = rw seated.found at is in cc

unfound : (k : Known) (sid : Sid) (t : Token) (rest : List Token) → k.seat.unfound ≡ Some (t ∷ rest) → IsSeated k.seat sid → ⊥
unfound k sid t rest is seated = let both = rw seated.found at is in cc

no_rest : (old : Known) (asked : Act) (told : Heard) (k : Known) → IsOnWay old asked → IsArriving asked told k → (HasAll asked told × ArePutOff k.seat.kept) ⊎ IsRefusedOne asked told → ⊥
no_rest old asked told k on arriving rests = ⊎_elim (λ (all : HasAll asked told × ArePutOff k.seat.kept). rw all.0.1 at on) (λ one. arriving.taken one) rests

from_arriving : (most : ℕ) (old : Known) (asked : Act) (told : Heard) (k : Known) (act : Act) → IsOnWay old asked → IsArriving asked told k → MayGive k asked told act → Gives most act k
from_arriving most old asked told k (Dm sid GetAllSessions) on at may = begins most k sid
from_arriving most old asked told k (Dm sid (QuerySession target)) on at may = let others = may.1.2.1 in let both = rw at.others at others in cc
from_arriving most old asked told k (Dm sid (CreateSession previous info)) on at may = inr refl
from_arriving most old asked told k (Dm sid (SetDisp kinds)) on at may = inr (coming asked told k at (λ sid seated. unset k sid may.1.1 seated))
from_arriving most old asked told k (Dm sid GetAllTokens) on at may = inr (coming asked told k at (λ sid seated. untold k sid may.1.2 seated))
from_arriving most old asked told k (Dm sid (FindEventMsg t room)) on at may = inr (coming asked told k at (λ sid seated. unfound k sid t may.1.3.0 may.1.3.1 seated))
from_arriving most old asked told k (Dm sid (GetEvents max room)) on at may = inl (record { settled = settled asked told k sid at may.0; on_event = may.3 })
from_arriving most old asked told k (Dm sid (RequestRight t h right)) on at may =
    let next = may.3 in inl (record { settled = settled asked told k sid at may.0; on_event = ((next.0, next.1.is_kept, next.2), record { hand = taken t h; is = refl; token = refl; away = refl }) })
from_arriving most old asked told k (Dm sid (GetFileAttr t h)) on at may = absurd (clash k may.2.0 at.hand may.2.1.0)
from_arriving most old asked told k (Dm sid (GetAllocInfo t h)) on at may = absurd (clash k may.2.0 at.hand may.2.1.0)
from_arriving most old asked told k (Dm sid (Restore t h j bytes)) on at may = absurd (clash k may.1.0 at.hand may.1.2.0)
from_arriving most old asked told k (Dm sid (Respond t response)) on at may = absurd (clash k may.1.0 at.hand may.1.1)
from_arriving most old asked told k (Dm sid call) on at may = absurd may.1
from_arriving most old asked told k (Copy volume handle segment bytes) on at may = absurd may
from_arriving most old asked told k (Fetch entry) on at may = absurd (clash k may.1.0 at.hand may.1.2)
from_arriving most old asked told k Idle on at may = absurd (no_rest old asked told k on at may)

-- ---- the laws

sound_by : (most : ℕ) (old new : Machine) (told : Heard) (act : Act) → StepsOn old told act new → Gives most act (knows_by old.known old.asked told) → IsSound most new
sound_by most old new told act going sound = subst (λ (m : Machine). IsSound most m) (ap₂ (λ (k : Known) (a : Act). record { known = k; asked = a }) (sym going.known) (sym going.asked)) sound

on_way : (most : ℕ) (old : Machine) (told : Heard) (act : Act) (new : Machine) → IsOnWay old.known old.asked → StepsOn old told act new → IsSound most new
on_way most old told act new on going = sound_by most old new told act going (⊎_elim
    (λ outside. from_outside most old.asked told _ act outside going.may)
    (λ (arriving : IsArriving old.asked told (knows_by old.known old.asked told)). from_arriving most old.known old.asked told _ act on arriving going.may)
    (arrives old.known old.asked told on))

refused_or_not : (asked : Act) (told : Heard) → Refuses asked told ⊎ (Refuses asked told → ⊥)
refused_or_not (Dm sid call) (heard.Dm (reply.Refused why.NoSession)) = inl refl
refused_or_not (Dm sid call) (heard.Dm (reply.Refused w)) = inr (λ is. cc)
refused_or_not (Dm sid call) (heard.Dm answer) = inr (λ is. cc)
refused_or_not (Dm sid call) told = inr (λ is. cc)
refused_or_not asked told = inr (λ is. is)

at_work : (most : ℕ) (old : Machine) (told : Heard) (act : Act) (new : Machine) → IsAtWork most old → TellsOfFew most told → StepsOn old told act new → IsSound most new
at_work most old told act new work few going = ⊎_elim
    (λ refused. sound_by most old new told act going (rw (going.begins refused) (begins most (knows_by old.known old.asked told) first_id)))
    (λ lives. inl (each_act_nears most old told act new work few lives going).at_work)
    (refused_or_not old.asked told)

pub starts_sound : (most : ℕ) → IsSound most started
starts_sound most = inr (record { hand = refl; sid = refl })

pub stays_sound : (most : ℕ) (old : Machine) (told : Heard) (act : Act) (new : Machine) → IsSound most old → TellsOfFew most told → StepsOn old told act new → IsSound most new
stays_sound most old told act new sound few going = ⊎_elim (λ work. at_work most old told act new work few going) (λ on. on_way most old told act new on going) sound

unseated : (k : Known) (asked : Act) (sid : Sid) → IsOnWay k asked → IsSeated k.seat sid → ⊥
unseated k (Dm s GetAllSessions) sid on seated = seatless k sid on seated
unseated k (Dm s (QuerySession target)) sid on seated = seatless k sid on seated
unseated k (Dm s (CreateSession previous info)) sid on seated = seatless k sid (no_session_made k on) seated
unseated k (Dm s (SetDisp kinds)) sid on seated = on.unseated sid seated
unseated k (Dm s GetAllTokens) sid on seated = on.unseated sid seated
unseated k (Dm s (FindEventMsg t room)) sid on seated = on.unseated sid seated
unseated k Idle sid on seated = seatless k sid on seated
unseated k asked sid on seated = on

pub works_where_seated : (most : ℕ) (m : Machine) (sid : Sid) → IsSound most m → IsSeated m.known.seat sid → IsAtWork most m
works_where_seated most m sid sound seated = ⊎_elim (λ work. work) (λ on. absurd (unseated m.known m.asked sid on seated)) sound
