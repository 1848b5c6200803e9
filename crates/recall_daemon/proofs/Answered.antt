-- What an answer leaves of the event in hand: it is behind the machine, or it is still in hand.
use Rattle.std.proofs.Common.{◌≡◌, ℕ, suc, ◌+◌, ◌-◌, ◌*◌, ◌<◌, ◌≤◌, ◌⊎◌, true, false, List, length, filter, Contains, Some, None, refl, ap, subst}
use Rattle.std.proofs.Common.{inl, inr, arith, mul-le-mul_right, suc-mul, true≢false, ◌∙◌}
use Rattle.hsm_types.specs.declared.daemons.Act.{Act}
use Rattle.hsm_types.specs.declared.daemons.Act.TheVariants.{Dm, Fetch, Idle}
use Rattle.hsm_types.specs.declared.daemons.Heard.{Heard}
use Rattle.hsm_types.specs.declared.daemons.Heard.TheVariants as heard
use Rattle.hsm_types.specs.declared.dm.DmCall.{DmCall}
use Rattle.hsm_types.specs.declared.dm.DmCall.TheVariants.{GetEvents, Respond, RequestRight, GetFileAttr, GetAllocInfo, Restore}
use Rattle.hsm_types.specs.declared.dm.DmReply.{DmReply}
use Rattle.hsm_types.specs.declared.dm.DmReply.TheVariants as reply
use Rattle.hsm_types.specs.declared.dm.DmRefusal.{DmRefusal}
use Rattle.hsm_types.specs.declared.dm.DmRefusal.TheVariants as why
use Rattle.hsm_types.specs.declared.dm.Response.{Response}
use Rattle.hsm_types.specs.declared.dm.Right.{Right}
use Rattle.hsm_types.specs.declared.keys.Handle.{Handle}
use Rattle.hsm_types.specs.declared.keys.Sid.{Sid}
use Rattle.hsm_types.specs.declared.keys.Token.{Token}
use Rattle.hsm_types.specs.declared.stubs.StubEntry.{StubEntry}
use Rattle.daemon_session.specs.declared.events.Kept.{Kept}
use Rattle.daemon_session.specs.Seats.{Seat, Refuses}
use Rattle.recall_daemon.specs.declared.away.Away.{Away}
use Rattle.recall_daemon.specs.Known.{Known, Hand, handling, put_off, dropped, failed, unrestored, knows_by, away_in, back_in, IsCalm}
use Rattle.recall_daemon.specs.Bounds.{waiting, acts_of_one, acts_made, still_away, IsWaiting, IsBegun, IsBringing, IsOnEvent, IsSettled, TellsOfFew}
use Rattle.recall_daemon.specs.Bounds.{MovesOn, IsLast}
use Rattle.recall_daemon.proofs.Outcomes.{Ends, failed_so, unrestored_so, unanswered_so}
use Rattle.recall_daemon.proofs.Waiting.{put_off_waits_less, forgot_waits_less, back_less, not_of}

-- ---- numbers

times : (c n m made : ℕ) → m < n → made ≤ c → m * c ≤ n * c - made
times c n m made less few = let more : suc m * c ≤ n * c = mul-le-mul_right c (omega (arith, less)) in let step : suc m * c ≡ m * c + c = suc-mul m c in omega (arith, more, step, few)

pub fewer : (most n m made : ℕ) → m < n → made ≤ acts_of_one most → m * acts_of_one most ≤ n * acts_of_one most - made
fewer most n m made less few = times (acts_of_one most) n m made less few

-- ---- what is left

-- the event is behind the machine
pub record IsBehind (most left : ℕ) (asked : Act) (told : Heard) (k : Known) : Type 0 where
  pub hand : k.hand ≡ None
  pub settled : IsSettled k.seat
  pub enough : MovesOn asked told → length (waiting k.seat.kept) * acts_of_one most ≤ left

-- the event is in hand, and so many of its acts are made
pub record IsHolding (most made : ℕ) (old : Known) (asked : Act) (told : Heard) (k : Known) : Type 0 where
  pub hand : Hand
  pub is : k.hand ≡ Some hand
  pub seat : k.seat ≡ old.seat
  pub settled : IsSettled old.seat
  pub waits : IsWaiting hand.token old.seat.kept
  pub few : made < acts_of_one most
  pub early : made ≤ 2 → hand.away ≡ None
  pub fetches : hand.gone ≡ false → hand.short ≡ false → (away : List Away) (a : Away) → hand.away ≡ Some away → Contains away a → IsCalm asked told → (length away ≤ most) × (MovesOn asked told → made < 4 + 2 * (most - length away))
  pub serves : IsLast asked → ⊥
  pub fetched : (entry : StubEntry) → asked ≡ Fetch entry → k.hand ≡ old.hand

abbrev pub left_of : ℕ → Known → Act → ℕ
left_of most k asked = length (waiting k.seat.kept) * acts_of_one most - acts_made most k.hand asked

abbrev pub Leaves : ℕ → Known → Act → Heard → Known → Type 0
Leaves most old asked told k = IsBehind most (left_of most old asked) asked told k ⊎ IsHolding most (acts_made most old.hand asked) old asked told k

-- ---- an event that is put off, or forgotten

pub settled_with : (s : Seat) (kept : List Kept) → IsSettled s → IsSettled (record s { kept = kept })
settled_with s kept settled = record { sid = settled.sid; seated = record { session = settled.seated.session; set = settled.seated.set; found = settled.seated.found }; others = settled.others; found = settled.found }

pub put_off_leaves : (most : ℕ) (old : Known) (asked : Act) (told : Heard) (t : Token) → IsSettled old.seat → IsWaiting t old.seat.kept → acts_made most old.hand asked ≤ acts_of_one most → Leaves most old asked told (put_off t old)
put_off_leaves most old asked told t settled waits few = inl (record {
  hand = refl;
  settled = settled_with old.seat _ settled;
  enough = λ moves. fewer most (length (waiting old.seat.kept)) _ (acts_made most old.hand asked) (put_off_waits_less t old.seat.kept waits) few;
})

pub dropped_leaves : (most : ℕ) (old : Known) (asked : Act) (told : Heard) (t : Token) → IsSettled old.seat → IsWaiting t old.seat.kept → acts_made most old.hand asked ≤ acts_of_one most → Leaves most old asked told (dropped t old)
dropped_leaves most old asked told t settled waits few = inl (record {
  hand = refl;
  settled = settled_with old.seat _ settled;
  enough = λ moves. fewer most (length (waiting old.seat.kept)) _ (acts_made most old.hand asked) (forgot_waits_less t old.seat.kept waits) few;
})

-- ---- an event that is in hand

-- a call on it was made
record ServesToken (most : ℕ) (old : Known) (asked : Act) (t : Token) : Type 0 where
  hand : Hand
  is : old.hand ≡ Some hand
  token : hand.token ≡ t
  settled : IsSettled old.seat
  waits : IsWaiting t old.seat.kept
  few : acts_made most old.hand asked < acts_of_one most
  early : acts_made most old.hand asked ≤ 2 → hand.away ≡ None
  serves : IsLast asked → ⊥
  other : (entry : StubEntry) → asked ≡ Fetch entry → ⊥

-- a fetch is made next where the segments are known, unless the file is gone, or there is no space
abbrev Fetches : ℕ → Hand → ℕ → Type 0
Fetches most hand made = hand.gone ≡ false → hand.short ≡ false → (away : List Away) (a : Away) → hand.away ≡ Some away → Contains away a → (length away ≤ most) × (made < 4 + 2 * (most - length away))

held : (most : ℕ) (old : Known) (asked : Act) (told : Heard) (t : Token) (f : Hand → Hand) (served : ServesToken most old asked t) → (f served.hand).token ≡ served.hand.token
    → (acts_made most old.hand asked ≤ 2 → (f served.hand).away ≡ served.hand.away) → Fetches most (f served.hand) (acts_made most old.hand asked) → Leaves most old asked told (handling f old)
held most old asked told t f served token away fetches = inr (record {
  hand = f served.hand;
  is = rw served.is refl;
  seat = refl;
  settled = served.settled;
  waits = rw (token, served.token) served.waits;
  few = served.few;
  early = λ early. away early ∙ served.early early;
  fetches = λ gone short away a is has calm. let both = fetches gone short away a is has in (both.0, λ moves. both.1);
  serves = served.serves;
  fetched = λ entry is. absurd (served.other entry is);
})

abbrev Lives : Act → Heard → Type 0
Lives asked told = Refuses asked told → ⊥

abbrev Answers : DmReply → Type 0
Answers answer = heard.Dm answer ≡ heard.Dm (reply.Refused why.NoSession) → ⊥

-- what becomes of it where the call isn't done, as its session lives
ends_leave : (most : ℕ) (old : Known) (asked : Act) (told : Heard) (t : Token) (answer : DmReply) → IsSettled old.seat → IsWaiting t old.seat.kept → acts_made most old.hand asked ≤ acts_of_one most → Answers answer → Ends (λ f. Leaves most old asked told (f old)) t answer
ends_leave most old asked told t answer settled waits few lives = record {
  stays = λ is. absurd (lives (ap (λ (a : DmReply). heard.Dm a) is));
  off = put_off_leaves most old asked told t settled waits few;
  drops = λ gone. dropped_leaves most old asked told t settled waits few;
}

gone_leaves : (most : ℕ) (old : Known) (asked : Act) (told : Heard) (t : Token) → ServesToken most old asked t → Leaves most old asked told (handling (λ (h : Hand). record h { gone = true }) old)
gone_leaves most old asked told t served = held most old asked told t (λ (h : Hand). record h { gone = true }) served refl (λ early. refl) (λ gone short away a is has. absurd (true≢false gone))

failed_leaves : (most : ℕ) (old : Known) (asked : Act) (told : Heard) (t : Token) (answer : DmReply) → ServesToken most old asked t → Answers answer → Leaves most old asked told (failed t answer old)
failed_leaves most old asked told t answer served lives =
    failed_so (λ f. Leaves most old asked told (f old)) t answer (gone_leaves most old asked told t served) (ends_leave most old asked told t answer served.settled served.waits (omega (arith, served.few)) lives)

unrestored_leaves : (most : ℕ) (old : Known) (asked : Act) (told : Heard) (t : Token) (w : DmRefusal) → ServesToken most old asked t → Answers (reply.Refused w) → Leaves most old asked told (unrestored t w old)
unrestored_leaves most old asked told t w served lives =
    unrestored_so (λ f. Leaves most old asked told (f old)) t w (gone_leaves most old asked told t served)
    (held most old asked told t (λ (h : Hand). record h { short = true }) served refl (λ early. refl) (λ gone short away a is has. absurd (true≢false short)))
    (ends_leave most old asked told t (reply.Refused w) served.settled served.waits (omega (arith, served.few)) lives)

-- ---- each call

none_is_away : (most made : ℕ) (hand : Hand) → hand.away ≡ None → Fetches most hand made
none_is_away most made hand none gone short away a is has = let none_is = rw none at is in cc

-- the answer changes nothing of it
stays : (most : ℕ) (old : Known) (asked : Act) (told : Heard) (t : Token) (served : ServesToken most old asked t) → Fetches most served.hand (acts_made most old.hand asked) → Leaves most old asked told old
stays most old asked told t served fetches = inr (record {
  hand = served.hand;
  is = served.is;
  seat = refl;
  settled = served.settled;
  waits = rw served.token served.waits;
  few = served.few;
  early = served.early;
  fetches = λ gone short away a is has calm. let both = fetches gone short away a is has in (both.0, λ moves. both.1);
  serves = served.serves;
  fetched = λ entry is. absurd (served.other entry is);
})

not_fetched : (sid : Sid) (call : DmCall) (entry : StubEntry) → Dm sid call ≡ Fetch entry → ⊥
not_fetched sid call entry is = cc

abbrev served_begun : (most : ℕ) (old : Known) (sid : Sid) (call : DmCall) (t : Token) → IsSettled old.seat → IsWaiting t old.seat.kept → IsBegun old t → acts_made most old.hand (Dm sid call) < acts_of_one most → (IsLast (Dm sid call) → ⊥) → ServesToken most old (Dm sid call) t
served_begun most old sid call t settled waits begun few serves = record {
  hand = begun.hand;
  is = begun.is;
  token = begun.token;
  settled = settled;
  waits = waits;
  few = few;
  early = λ early. begun.away;
  serves = serves;
  other = not_fetched sid _;
}

requested : (most : ℕ) (old : Known) (sid : Sid) (t : Token) (h : Handle) (right : Right) (told : Heard) → IsSettled old.seat → IsOnEvent most old (Dm sid (RequestRight t h right)) → TellsOfFew most told → Lives (Dm sid (RequestRight t h right)) told
    → Leaves most old (Dm sid (RequestRight t h right)) told (knows_by old (Dm sid (RequestRight t h right)) told)
requested most old sid t h right (heard.Dm reply.Done) settled on few lives = stays most old _ _ t (served_begun most old sid (RequestRight t h right) t settled on.0 on.1 (omega arith) (λ last. last)) (none_is_away most 1 on.1.hand on.1.away)
requested most old sid t h right (heard.Dm answer) settled on few lives = failed_leaves most old _ _ t answer (served_begun most old sid (RequestRight t h right) t settled on.0 on.1 (omega arith) (λ last. last)) lives
requested most old sid t h right told settled on few lives = put_off_leaves most old _ _ t settled on.0 (omega arith)

measured : (most : ℕ) (old : Known) (sid : Sid) (t : Token) (h : Handle) (told : Heard) → IsSettled old.seat → IsOnEvent most old (Dm sid (GetFileAttr t h)) → TellsOfFew most told → Lives (Dm sid (GetFileAttr t h)) told
    → Leaves most old (Dm sid (GetFileAttr t h)) told (knows_by old (Dm sid (GetFileAttr t h)) told)
measured most old sid t h (heard.Dm (reply.Attr size stamp blocks)) settled on few lives =
    held most old _ _ t (λ (hand : Hand). record hand { size = Some size }) (served_begun most old sid (GetFileAttr t h) t settled on.0 on.1 (omega arith) (λ last. last)) refl (λ early. refl) (none_is_away most 2 (record (on.1.hand) { size = Some size }) on.1.away)
measured most old sid t h (heard.Dm answer) settled on few lives = failed_leaves most old _ _ t answer (served_begun most old sid (GetFileAttr t h) t settled on.0 on.1 (omega arith) (λ last. last)) lives
measured most old sid t h told settled on few lives = put_off_leaves most old _ _ t settled on.0 (omega arith)

mapped_so : (most : ℕ) (there : List Away) (hand : Hand) → length there ≤ most → Fetches most (record hand { away = Some there }) 3
mapped_so most there hand few gone short away a is has = let same : there ≡ away = cc in subst (λ l. (length l ≤ most) × (3 < 4 + 2 * (most - length l))) same (few, omega arith)

mapped : (most : ℕ) (old : Known) (sid : Sid) (t : Token) (h : Handle) (told : Heard) → IsSettled old.seat → IsOnEvent most old (Dm sid (GetAllocInfo t h)) → TellsOfFew most told → Lives (Dm sid (GetAllocInfo t h)) told
    → Leaves most old (Dm sid (GetAllocInfo t h)) told (knows_by old (Dm sid (GetAllocInfo t h)) told)
mapped most old sid t h (heard.Dm (reply.Alloc segments)) settled on few lives =
    held most old _ _ t (λ (hand : Hand). record hand { away = Some (away_in segments) }) (served_begun most old sid (GetAllocInfo t h) t settled on.0 on.1 (omega arith) (λ last. last)) refl (λ early. absurd (omega (arith, early))) (mapped_so most (away_in segments) on.1.hand few)
mapped most old sid t h (heard.Dm answer) settled on few lives = failed_leaves most old _ _ t answer (served_begun most old sid (GetAllocInfo t h) t settled on.0 on.1 (omega arith) (λ last. last)) lives
mapped most old sid t h told settled on few lives = put_off_leaves most old _ _ t settled on.0 (omega arith)

-- ---- a segment that is brought back

pub still : (k : Known) (hand : Hand) (away : List Away) → k.hand ≡ Some hand → hand.away ≡ Some away → still_away k.hand ≡ length away
still k hand away is told = rw (is, told) refl

pub some_away : (away : List Away) (a : Away) → Contains away a → 1 ≤ length away
some_away away a has = let within = has.1 in omega (arith, within)

back_so : (most made j : ℕ) (hand : Hand) (there : List Away) → hand.away ≡ Some there → length there ≤ most → length (filter (not_of j) there) < length there → made ≡ 5 + 2 * (most - length there)
    → Fetches most (record hand { away = back_in j hand.away }) made
back_so most made j hand there told few less is_made gone short away a is has =
    let same : filter (not_of j) there ≡ away = let now = rw told at is in cc in
    subst (λ l. (length l ≤ most) × (made < 4 + 2 * (most - length l))) same (omega (arith, few, less), omega (arith, few, less, is_made))

abbrev served_bringing : (most : ℕ) (old : Known) (sid : Sid) (t : Token) (h : Handle) (j : ℕ) (bytes : List ℕ) (a : Away) → IsSettled old.seat → IsWaiting t old.seat.kept → IsBringing most old t a → ServesToken most old (Dm sid (Restore t h j bytes)) t
served_bringing most old sid t h j bytes a settled waits bringing =
    let some = some_away bringing.away a bringing.one in
    let few = bringing.few in
    let is = still old bringing.hand bringing.away bringing.is bringing.told in
    record {
      hand = bringing.hand;
      is = bringing.is;
      token = bringing.token;
      settled = settled;
      waits = waits;
      few = omega (arith, some, few, is);
      early = λ early. absurd (omega (arith, early));
      serves = λ last. last;
      other = not_fetched sid _;
    }

restored : (most : ℕ) (old : Known) (sid : Sid) (t : Token) (h : Handle) (j : ℕ) (bytes : List ℕ) (told : Heard) → IsSettled old.seat → IsOnEvent most old (Dm sid (Restore t h j bytes)) → TellsOfFew most told → Lives (Dm sid (Restore t h j bytes)) told
    → Leaves most old (Dm sid (Restore t h j bytes)) told (knows_by old (Dm sid (Restore t h j bytes)) told)
restored most old sid t h j bytes (heard.Dm reply.Done) settled on few lives =
    let bringing = on.3 in
    held most old _ _ t (λ (hand : Hand). record hand { away = back_in j hand.away }) (served_bringing most old sid t h j bytes on.0 settled on.2 on.3) refl (λ early. absurd (omega (arith, early)))
    (back_so most _ j bringing.hand bringing.away bringing.told bringing.few (back_less j bringing.away on.0 bringing.one on.1) (ap (λ n. 5 + 2 * (most - n)) (still old bringing.hand bringing.away bringing.is bringing.told)))
restored most old sid t h j bytes (heard.Dm (reply.Refused w)) settled on few lives = unrestored_leaves most old _ _ t w (served_bringing most old sid t h j bytes on.0 settled on.2 on.3) lives
restored most old sid t h j bytes (heard.Dm answer) settled on few lives = let served = served_bringing most old sid t h j bytes on.0 settled on.2 on.3 in put_off_leaves most old _ _ t settled on.2 (let few = served.few in omega (arith, few))
restored most old sid t h j bytes told settled on few lives = let served = served_bringing most old sid t h j bytes on.0 settled on.2 on.3 in put_off_leaves most old _ _ t settled on.2 (let few = served.few in omega (arith, few))

same_there : (hand : Hand) (there away : List Away) → hand.away ≡ Some there → hand.away ≡ Some away → there ≡ away
same_there hand there away told is = let both = rw told at is in cc

fetched : (most : ℕ) (old : Known) (entry : StubEntry) (told : Heard) → IsSettled old.seat → IsOnEvent most old (Fetch entry) → Leaves most old (Fetch entry) told (knows_by old (Fetch entry) told)
fetched most old entry told settled on =
    let bringing = on.3 in
    let some = some_away bringing.away on.1 bringing.one in
    let few = bringing.few in
    let is = still old bringing.hand bringing.away bringing.is bringing.told in
    inr (record {
      hand = bringing.hand;
      is = bringing.is;
      seat = refl;
      settled = settled;
      waits = rw bringing.token on.2;
      few = omega (arith, some, few, is);
      early = λ early. absurd (omega (arith, early));
      fetches = λ gone short away a is has calm. (subst (λ (l : List Away). length l ≤ most) (same_there bringing.hand bringing.away away bringing.told is) few, λ moves. absurd (moves calm));
      serves = λ last. last;
      fetched = λ entry is. refl;
    })

-- ---- the response, and the ends of a round

responded : (most : ℕ) (old : Known) (sid : Sid) (t : Token) (response : Response) (told : Heard) → IsSettled old.seat → IsOnEvent most old (Dm sid (Respond t response)) → TellsOfFew most told → Lives (Dm sid (Respond t response)) told
    → Leaves most old (Dm sid (Respond t response)) told (knows_by old (Dm sid (Respond t response)) told)
responded most old sid t response (heard.Dm reply.Done) settled on few lives = dropped_leaves most old _ _ t settled on.0 (omega arith)
responded most old sid t response (heard.Dm (reply.Refused w)) settled on few lives =
    unanswered_so (λ f. Leaves most old (Dm sid (Respond t response)) (heard.Dm (reply.Refused w)) (f old)) t w (ends_leave most old _ _ t (reply.Refused w) settled on.0 (omega arith) lives)
responded most old sid t response (heard.Dm answer) settled on few lives = put_off_leaves most old _ _ t settled on.0 (omega arith)
responded most old sid t response told settled on few lives = put_off_leaves most old _ _ t settled on.0 (omega arith)

ended : (most : ℕ) (old : Known) (asked : Act) (told : Heard) → acts_made most old.hand asked ≡ 0 → old.hand ≡ None → IsSettled old.seat → Leaves most old asked told old
ended most old asked told none hand settled = inl (record { hand = hand; settled = settled; enough = λ moves. rw none (omega arith) })

asked_events : (most : ℕ) (old : Known) (sid : Sid) (max room : ℕ) (told : Heard) → IsSettled old.seat → IsOnEvent most old (Dm sid (GetEvents max room)) → TellsOfFew most told → Lives (Dm sid (GetEvents max room)) told
    → Leaves most old (Dm sid (GetEvents max room)) told (knows_by old (Dm sid (GetEvents max room)) told)
asked_events most old sid max room (heard.Dm (reply.Packed bytes tokens)) settled on few lives = inl (record { hand = on; settled = settled_with old.seat _ settled; enough = λ moves. absurd moves })
asked_events most old sid max room (heard.Dm answer) settled on few lives = ended most old (Dm sid (GetEvents max room)) (heard.Dm answer) refl on settled
asked_events most old sid max room told settled on few lives = ended most old (Dm sid (GetEvents max room)) told refl on settled

pub leaves : (most : ℕ) (old : Known) (asked : Act) (told : Heard) → IsSettled old.seat → IsOnEvent most old asked → TellsOfFew most told → (Refuses asked told → ⊥) → Leaves most old asked told (knows_by old asked told)
leaves most old (Dm sid (RequestRight t h right)) told settled on few lives = requested most old sid t h right told settled on few lives
leaves most old (Dm sid (GetFileAttr t h)) told settled on few lives = measured most old sid t h told settled on few lives
leaves most old (Dm sid (GetAllocInfo t h)) told settled on few lives = mapped most old sid t h told settled on few lives
leaves most old (Dm sid (Restore t h j bytes)) told settled on few lives = restored most old sid t h j bytes told settled on few lives
leaves most old (Dm sid (Respond t response)) told settled on few lives = responded most old sid t response told settled on few lives
leaves most old (Dm sid (GetEvents max room)) told settled on few lives = asked_events most old sid max room told settled on few lives
leaves most old (Fetch entry) told settled on few lives = fetched most old entry told settled on
leaves most old Idle told settled on few lives = ended most old Idle told refl on settled
leaves most old asked told settled on few lives = absurd on
