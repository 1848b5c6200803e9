-- Each act on an event leaves fewer to come.
use Rattle.std.proofs.Common.{◌≡◌, ℕ, zero, suc, ◌+◌, ◌-◌, ◌*◌, ◌<◌, ◌≤◌, ◌⊎◌, ⊎_elim, List, [], length, Some, None, refl, sym, ap₂, subst, arith}
use Rattle.std.proofs.Common.{mul-le-mul_right, one-mul}
use Rattle.hsm_types.specs.declared.daemons.Act.{Act}
use Rattle.hsm_types.specs.declared.daemons.Act.TheVariants.{Dm, Copy, Fetch, Idle}
use Rattle.hsm_types.specs.declared.daemons.Heard.{Heard}
use Rattle.hsm_types.specs.declared.daemons.Heard.TheVariants as heard
use Rattle.hsm_types.specs.declared.dm.DmCall.{DmCall}
use Rattle.hsm_types.specs.declared.dm.DmCall.TheVariants.{CreateSession, GetAllSessions, QuerySession, SetDisp, GetAllTokens, FindEventMsg}
use Rattle.hsm_types.specs.declared.dm.DmCall.TheVariants.{GetEvents, Respond, RequestRight, GetFileAttr, GetAllocInfo, Restore}
use Rattle.hsm_types.specs.declared.dm.DmReply.TheVariants as reply
use Rattle.hsm_types.specs.declared.dm.Response.{Response}
use Rattle.hsm_types.specs.declared.dm.Right.{Right}
use Rattle.hsm_types.specs.declared.keys.Handle.{Handle}
use Rattle.hsm_types.specs.declared.keys.Sid.{Sid}
use Rattle.hsm_types.specs.declared.keys.Token.{Token}
use Rattle.hsm_types.specs.declared.stubs.StubEntry.{StubEntry}
use Rattle.hsm_types.specs.declared.daemons.Daemon.TheVariants.{Recall}
use Rattle.daemon_session.specs.declared.events.Kept.{Kept}
use Rattle.daemon_session.specs.Members.{IsRefusedOne}
use Rattle.daemon_session.specs.Seats.{Seat, Refuses, NeedsNone, LeadsOn, MayMake, MayEnter}
use Rattle.recall_daemon.specs.declared.away.Away.{Away}
use Rattle.recall_daemon.specs.Known.{Known, Hand, taken, asks_by, ArePutOff, HasAll, MayFetch, MayRest, MayCall, MayGive}
use Rattle.recall_daemon.specs.Machine.{Machine, StepsOn}
use Rattle.recall_daemon.specs.Bounds.{waiting, acts_of_one, acts_made, acts_left, still_away, IsWaiting, IsOnEvent, IsSettled, IsAtWork, TellsOfFew}
use Rattle.recall_daemon.specs.Bounds.{MovesOn, IsLast, Nears, Goes}
use Rattle.recall_daemon.proofs.Waiting.{put_off_waits_less}
use Rattle.recall_daemon.proofs.Answered.{IsBehind, IsHolding, Leaves, left_of, leaves, settled_with, some_away, still}

-- ---- the way to a session is not gone again

lives : (asked : Act) (told : Heard) → MovesOn asked told → Refuses asked told → ⊥
lives (Dm sid (GetEvents max room)) (heard.Dm (reply.Packed bytes tokens)) moves is = moves
lives (Dm sid call) told moves is = moves is
lives asked told moves is = is

needs_one : (most : ℕ) (old : Known) (asked : Act) → IsOnEvent most old asked → NeedsNone asked → ⊥
needs_one most old (Dm sid GetAllSessions) on needs = on
needs_one most old (Dm sid (QuerySession target)) on needs = on
needs_one most old (Dm sid (CreateSession previous info)) on needs = on
needs_one most old asked on needs = needs

no_begin : (most : ℕ) (old : Known) (asked : Act) (told : Heard) (s : Seat) → IsSettled s → IsOnEvent most old asked → (Refuses asked told → ⊥)
    → ((s.sid ≡ None) × (asked ≡ Idle)) ⊎ (Refuses asked told ⊎ (NeedsNone asked × (LeadsOn asked told → ⊥))) → ⊥
no_begin most old asked told s settled on lives begins = ⊎_elim
    (λ (none : (s.sid ≡ None) × (asked ≡ Idle)). let clash = rw settled.seated.session at none.0 in cc)
    (λ rest. ⊎_elim (λ is. lives is) (λ (needs : NeedsNone asked × (LeadsOn asked told → ⊥)). needs_one most old asked on needs.0) rest)
    begins

no_make : (s : Seat) (old : Sid) → IsSettled s → MayMake s old → ⊥
no_make s old settled makes = ⊎_elim
    (λ (beside : (old.0 ≡ 0) × (s.others ≡ Some []) × (s.found ≡ None)). let clash = rw settled.others at beside.1 in cc)
    (λ (found : s.found ≡ Some old). let clash = rw settled.found at found in cc)
    makes

no_entry : (most : ℕ) (old : Known) (asked : Act) (told : Heard) (s : Seat) (sid : Sid) (call : DmCall) → IsSettled s → IsOnEvent most old asked → (Refuses asked told → ⊥) → MayEnter Recall s asked told sid call → ⊥
no_entry most old asked told s sid GetAllSessions settled on lives enters = no_begin most old asked told s settled on lives enters.1
no_entry most old asked told s sid (QuerySession target) settled on lives enters = let others = enters.1.2.1 in let clash = rw settled.others at others in cc
no_entry most old asked told s sid (CreateSession previous info) settled on lives enters = no_make s previous settled enters.1.2
no_entry most old asked told s sid (SetDisp kinds) settled on lives enters = let unset = enters.1.1 in let clash = rw settled.seated.set at unset in cc
no_entry most old asked told s sid GetAllTokens settled on lives enters = let unfound = enters.1.2 in let clash = rw settled.seated.found at unfound in cc
no_entry most old asked told s sid (FindEventMsg t room) settled on lives enters = let unfound = enters.1.3.1 in let clash = rw settled.seated.found at unfound in cc
no_entry most old asked told s sid call settled on lives enters = enters.1

-- ---- numbers

waits_one : (t : Token) (kept : List Kept) → IsWaiting t kept → 1 ≤ length (waiting kept)
waits_one t kept waits = let less = put_off_waits_less t kept waits in omega (arith, less)

takes_all : (c n : ℕ) → 1 ≤ n → c ≤ n * c
takes_all c n some = let all : 1 * c ≤ n * c = mul-le-mul_right c some in let one : 1 * c ≡ c = one-mul c in omega (arith, all, one)

-- more of its acts are made
forward : (most made : ℕ) (old : Known) (asked : Act) (told : Heard) (k : Known) → IsHolding most (acts_made most old.hand asked) old asked told k → acts_made most old.hand asked < made → made ≤ acts_of_one most
    → length (waiting k.seat.kept) * acts_of_one most - made < left_of most old asked
forward most made old asked told k holding more few =
    let least = takes_all (acts_of_one most) (length (waiting old.seat.kept)) (waits_one holding.hand.token old.seat.kept holding.waits) in
    rw holding.seat (omega (arith, least, more, few))

-- ---- each act

pub clash : (k : Known) (hand : Hand) → k.hand ≡ None → k.hand ≡ Some hand → ⊥
clash k hand none is = let both = rw is at none in cc

abbrev Gives : ℕ → Known → Act → Heard → Act → Known → Type 0
Gives most old asked told act k = Nears most (record { known = old; asked = asked }) told act (record { known = asks_by k act; asked = act })

-- what holds of the hand that the machine is known to have
record Has (most : ℕ) (old : Known) (asked : Act) (told : Heard) (k : Known) (hand : Hand) : Type 0 where
  holding : IsHolding most (acts_made most old.hand asked) old asked told k
  same : holding.hand ≡ hand
  waits : IsWaiting hand.token k.seat.kept
  settled : IsSettled k.seat

has : (most : ℕ) (old : Known) (asked : Act) (told : Heard) (k : Known) (hand : Hand) → Leaves most old asked told k → k.hand ≡ Some hand → Has most old asked told k hand
has most old asked told k hand left is = ⊎_elim
    (λ (behind : IsBehind most (left_of most old asked) asked told k). absurd (clash k hand behind.hand is))
    (λ (holding : IsHolding most (acts_made most old.hand asked) old asked told k).
    let same : holding.hand ≡ hand = let first = holding.is in cc in
    record { holding = holding; same = same; waits = rw holding.seat (subst (λ (h : Hand). IsWaiting h.token old.seat.kept) same holding.waits); settled = rw holding.seat holding.settled })
    left

behind_it : (most : ℕ) (old : Known) (asked : Act) (told : Heard) (k : Known) → Leaves most old asked told k → k.hand ≡ None → IsBehind most (left_of most old asked) asked told k
behind_it most old asked told k left none = ⊎_elim (λ behind. behind) (λ (holding : IsHolding most (acts_made most old.hand asked) old asked told k). absurd (clash k holding.hand none holding.is)) left

requests : (most : ℕ) (old : Known) (asked : Act) (told : Heard) (k : Known) (sid : Sid) (t : Token) (h : Handle) (right : Right) → Leaves most old asked told k → MayCall k asked told sid (RequestRight t h right) → Gives most old asked told (Dm sid (RequestRight t h right)) k
requests most old asked told k sid t h right left may =
    let behind = behind_it most old asked told k left may.2 in
    let next = may.3 in
    let waits : IsWaiting t k.seat.kept = (next.0, next.1.is_kept, next.2) in
    let least = takes_all (acts_of_one most) (length (waiting k.seat.kept)) (waits_one t k.seat.kept waits) in
    record {
      at_work = record { settled = behind.settled; on_event = (waits, record { hand = taken t h; is = refl; token = refl; away = refl }) };
      less = λ moves last. let enough = behind.enough moves in omega (arith, least, enough);
    }

measures : (most : ℕ) (old : Known) (asked : Act) (told : Heard) (k : Known) (sid : Sid) (t : Token) (h : Handle) → Leaves most old asked told k → MayCall k asked told sid (GetFileAttr t h) → Gives most old asked told (Dm sid (GetFileAttr t h)) k
measures most old asked told k sid t h left may =
    let hand = may.2.0 in
    let holds = may.2.1 in
    let has = has most old asked told k hand left holds.0 in
    let made : acts_made most old.hand asked ≡ 1 = rw may.1.0 refl in
    record {
      at_work = record { settled = has.settled; on_event = (subst (λ t. IsWaiting t k.seat.kept) holds.1 has.waits, record { hand = hand; is = holds.0; token = holds.1; away = subst (λ (h : Hand). h.away ≡ None) has.same (has.holding.early (omega (arith, made))) }) };
      less = λ moves last. forward most 2 old asked told k has.holding (omega (arith, made)) (omega arith);
    }

maps : (most : ℕ) (old : Known) (asked : Act) (told : Heard) (k : Known) (sid : Sid) (t : Token) (h : Handle) → Leaves most old asked told k → MayCall k asked told sid (GetAllocInfo t h) → Gives most old asked told (Dm sid (GetAllocInfo t h)) k
maps most old asked told k sid t h left may =
    let hand = may.2.0 in
    let holds = may.2.1 in
    let has = has most old asked told k hand left holds.0 in
    let made : acts_made most old.hand asked ≡ 2 = rw may.1 refl in
    record {
      at_work = record { settled = has.settled; on_event = (subst (λ t. IsWaiting t k.seat.kept) holds.1 has.waits, record { hand = hand; is = holds.0; token = holds.1; away = subst (λ (h : Hand). h.away ≡ None) has.same (has.holding.early (omega (arith, made))) }) };
      less = λ moves last. forward most 3 old asked told k has.holding (omega (arith, made)) (omega arith);
    }

fetches : (most : ℕ) (old : Known) (asked : Act) (told : Heard) (k : Known) (entry : StubEntry) → Leaves most old asked told k → MayFetch k asked told entry → Gives most old asked told (Fetch entry) k
fetches most old asked told k entry left may =
    let hand = may.1.0 in
    let a = may.1.1 in
    let is = may.1.2 in
    let needed = may.1.5 in
    let has = has most old asked told k hand left is in
    let made = acts_made most old.hand asked in
    let enough : (length needed.away ≤ most) × (MovesOn asked told → made < 4 + 2 * (most - length needed.away)) =
    has.holding.fetches (rw has.same may.1.3) (rw has.same may.1.4) needed.away a (rw has.same needed.told) needed.needs.0 may.0 in
    let few = enough.0 in
    let some = some_away needed.away a needed.needs.0 in
    let number = still k hand needed.away is needed.told in
    record {
      at_work = record { settled = has.settled; on_event = (hand.token, a, has.waits, record { hand = hand; away = needed.away; is = is; token = refl; told = needed.told; few = few; one = needed.needs.0 }) };
      less = λ moves last. forward most (4 + 2 * (most - still_away k.hand)) old asked told k has.holding (let more = enough.1 moves in omega (arith, number, more)) (omega (arith, number, few, some));
    }

-- the segments that are away are those of before
same_away : (old k : Known) (hand before : Hand) (away there : List Away) → k.hand ≡ old.hand → k.hand ≡ Some hand → old.hand ≡ Some before → hand.away ≡ Some away → before.away ≡ Some there → there ≡ away
same_away old k hand before away there same is was told said =
    let one : before ≡ hand = cc in
    let now = subst (λ (h : Hand). h.away ≡ Some there) one said in cc

restores : (most : ℕ) (old : Known) (asked : Act) (told : Heard) (k : Known) (sid : Sid) (t : Token) (h : Handle) (j : ℕ) (bytes : List ℕ) → Leaves most old asked told k → IsOnEvent most old asked → MayCall k asked told sid (Restore t h j bytes) → Gives most old asked told (Dm sid (Restore t h j bytes)) k
restores most old asked told k sid t h j bytes left on may =
    let hand = may.1.0 in
    let a = may.1.1 in
    let holds = may.1.2 in
    let needed = may.1.3 in
    let has = has most old asked told k hand left holds.0 in
    let same = has.holding.fetched a.entry may.1.5 in
    let on_fetch = rw may.1.5 at on in
    let bringing = on_fetch.3 in
    let few : length needed.away ≤ most = subst (λ (l : List Away). length l ≤ most) (same_away old k hand bringing.hand needed.away bringing.away same holds.0 bringing.is needed.told bringing.told) bringing.few in
    let some = some_away needed.away a needed.needs.0 in
    let number = still k hand needed.away holds.0 needed.told in
    let made : acts_made most old.hand asked ≡ 4 + 2 * (most - still_away k.hand) = rw (may.1.5, same) refl in
    record {
      at_work = record { settled = has.settled; on_event = (a, may.1.4, subst (λ t. IsWaiting t k.seat.kept) holds.1 has.waits, record { hand = hand; away = needed.away; is = holds.0; token = holds.1; told = needed.told; few = few; one = needed.needs.0 }) };
      less = λ moves last. forward most (5 + 2 * (most - still_away k.hand)) old asked told k has.holding (omega (arith, made)) (omega (arith, number, few, some));
    }

responds : (most : ℕ) (old : Known) (asked : Act) (told : Heard) (k : Known) (sid : Sid) (t : Token) (response : Response) → Leaves most old asked told k → MayCall k asked told sid (Respond t response) → Gives most old asked told (Dm sid (Respond t response)) k
responds most old asked told k sid t response left may =
    let answers = may.1 in
    let has = has most old asked told k answers.0 left answers.1 in
    record {
      at_work = record { settled = has.settled; on_event = (subst (λ t. IsWaiting t k.seat.kept) answers.2 has.waits, refl) };
      less = λ moves last. forward most (acts_of_one most) old asked told k has.holding has.holding.few (omega arith);
    }

asks_for_events : (most : ℕ) (old : Known) (asked : Act) (told : Heard) (k : Known) (sid : Sid) (max room : ℕ) → Leaves most old asked told k → MayCall k asked told sid (GetEvents max room) → Gives most old asked told (Dm sid (GetEvents max room)) k
asks_for_events most old asked told k sid max room left may =
    let behind = behind_it most old asked told k left may.3 in
    record { at_work = record { settled = behind.settled; on_event = may.3 }; less = λ moves last. absurd (last tt) }

no_hand_at_rest : (most : ℕ) (old : Known) (asked : Act) (told : Heard) (k : Known) → IsOnEvent most old asked → (IsLast asked → ⊥) → MayRest k asked told → ⊥
no_hand_at_rest most old asked told k on serves rests = ⊎_elim
    (λ (all : HasAll asked told × ArePutOff k.seat.kept). serves (rw all.0.1 tt))
    (λ (one : IsRefusedOne asked told). rw one.3 at on)
    rests

rests : (most : ℕ) (old : Known) (asked : Act) (told : Heard) (k : Known) → Leaves most old asked told k → IsOnEvent most old asked → MayRest k asked told → Gives most old asked told Idle k
rests most old asked told k left on may = ⊎_elim
    (λ (behind : IsBehind most (left_of most old asked) asked told k). record { at_work = record { settled = settled_with k.seat _ behind.settled; on_event = behind.hand }; less = λ moves last. absurd (last tt) })
    (λ (holding : IsHolding most (acts_made most old.hand asked) old asked told k). absurd (no_hand_at_rest most old asked told k on holding.serves may))
    left

settled_now : (most : ℕ) (old : Known) (asked : Act) (told : Heard) (k : Known) → Leaves most old asked told k → IsSettled k.seat
settled_now most old asked told k left = ⊎_elim
    (λ (behind : IsBehind most (left_of most old asked) asked told k). behind.settled)
    (λ (holding : IsHolding most (acts_made most old.hand asked) old asked told k). rw holding.seat holding.settled)
    left

gives : (most : ℕ) (old : Known) (asked : Act) (told : Heard) (k : Known) (act : Act) → Leaves most old asked told k → IsOnEvent most old asked → (Refuses asked told → ⊥) → MayGive k asked told act → Gives most old asked told act k
gives most old asked told k (Dm sid (RequestRight t h right)) left on lives may = requests most old asked told k sid t h right left may
gives most old asked told k (Dm sid (GetFileAttr t h)) left on lives may = measures most old asked told k sid t h left may
gives most old asked told k (Dm sid (GetAllocInfo t h)) left on lives may = maps most old asked told k sid t h left may
gives most old asked told k (Dm sid (Restore t h j bytes)) left on lives may = restores most old asked told k sid t h j bytes left on may
gives most old asked told k (Dm sid (Respond t response)) left on lives may = responds most old asked told k sid t response left may
gives most old asked told k (Dm sid (GetEvents max room)) left on lives may = asks_for_events most old asked told k sid max room left may
gives most old asked told k (Dm sid call) left on lives may = absurd (no_entry most old asked told k.seat sid call (settled_now most old asked told k left) on lives may)
gives most old asked told k (Copy volume handle segment bytes) left on lives may = absurd may
gives most old asked told k (Fetch entry) left on lives may = fetches most old asked told k entry left may
gives most old asked told k Idle left on lives may = rests most old asked told k left on may

-- ---- the laws

pub each_act_nears : (most : ℕ) (old : Machine) (told : Heard) (act : Act) (new : Machine) → IsAtWork most old → TellsOfFew most told → (Refuses old.asked told → ⊥) → StepsOn old told act new → Nears most old told act new
each_act_nears most old told act new work few lives goes =
    let step = gives most old.known old.asked told _ act (leaves most old.known old.asked told work.settled work.on_event few lives) work.on_event lives goes.may in
    subst (λ (m : Machine). Nears most old told act m) (ap₂ (λ (k : Known) (a : Act). record { known = k; asked = a }) (sym goes.known) (sym goes.asked)) step

pub goes_no_further : (most n : ℕ) (m : Machine) → IsAtWork most m → Goes most n m → n ≤ acts_left most m
goes_no_further most zero m work goes = omega arith
goes_no_further most (suc n) m work goes =
    let near = each_act_nears most m goes.0 goes.1 goes.2 work goes.3 (lives m.asked goes.0 goes.4) goes.5 in
    let fewer = near.less goes.4 goes.6 in
    let rest = goes_no_further most n goes.2 near.at_work goes.7 in
    omega (arith, fewer, rest)
