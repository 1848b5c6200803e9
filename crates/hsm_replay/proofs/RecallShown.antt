-- What a history shows of the recall daemon, through each of its acts.
use Rattle.std.proofs.Common.{◌≡◌, ℕ, ◌<◌, ◌⊎◌, ⊎_elim, Bool, true, false, not, cond, List, [], ◌∷◌, ◌++◌, length, drop, if◌then◌else◌, option_map}
use Rattle.std.proofs.Common.{Some, None, Ok, Err, Contains, slice_index_or, refl, sym, ap, ap₂, subst, inl, inr, ◌∙◌, arith}
use Rattle.std.proofs.lemmas.List.{get_or-map, get_or_default, length-map}
use Rattle.std.specs.Str.{bytes_eq}
use Rattle.media_model.specs.declared.drive.Drive as drive
use Rattle.hsm_types.specs.Daemons.{information}
use Rattle.hsm_types.specs.Stubs.{print_of, entry_print}
use Rattle.hsm_types.specs.declared.daemons.Act.{Act}
use Rattle.hsm_types.specs.declared.daemons.Act.TheVariants.{Dm, Copy, Fetch, Idle}
use Rattle.hsm_types.specs.declared.daemons.Daemon.TheVariants.{Recall}
use Rattle.hsm_types.specs.declared.daemons.Heard.{Heard}
use Rattle.hsm_types.specs.declared.daemons.Heard.TheVariants as heard
use Rattle.hsm_types.specs.declared.dm.DmCall.{DmCall}
use Rattle.hsm_types.specs.declared.dm.DmCall.TheVariants.{CreateSession, GetAllSessions, QuerySession, SetDisp, GetEvents, GetAllTokens}
use Rattle.hsm_types.specs.declared.dm.DmCall.TheVariants.{FindEventMsg, Respond, RequestRight, GetFileAttr, GetAllocInfo, Restore}
use Rattle.hsm_types.specs.declared.dm.DmRefusal.{DmRefusal}
use Rattle.hsm_types.specs.declared.dm.DmRefusal.TheVariants as why
use Rattle.hsm_types.specs.declared.dm.DmReply.{DmReply}
use Rattle.hsm_types.specs.declared.dm.DmReply.TheVariants as reply
use Rattle.hsm_types.specs.declared.dm.Response.{Response}
use Rattle.hsm_types.specs.declared.dm.Response.TheVariants.{Continue, Abort, Media}
use Rattle.hsm_types.specs.declared.keys.Handle.{Handle}
use Rattle.hsm_types.specs.declared.keys.Sid.{Sid}
use Rattle.hsm_types.specs.declared.keys.Token.{Token}
use Rattle.hsm_types.specs.declared.media.Fault.{Fault}
use Rattle.hsm_types.specs.declared.media.FetchRefusal.TheVariants as fetching
use Rattle.hsm_types.specs.declared.stubs.StubEntry.{StubEntry}
use Rattle.daemon_session.specs.declared.events.Event.{Event}
use Rattle.daemon_session.specs.declared.events.Kept.{Kept}
use Rattle.daemon_session.specs.Members.{IsRefusedOne}
use Rattle.daemon_session.specs.Seats.{Seat, no_seat, found_one, has_kept_token, forgot, marked_at, all_marked, seat_hears, IsSeated}
use Rattle.daemon_session.specs.Tellings.{events_in}
use Rattle.recall_daemon.specs.declared.away.Away.{Away}
use Rattle.recall_daemon.specs.Known.{Known, Hand, with_hand, with_kept, handling, put_off, dropped, failed, unrestored, unanswered, asks}
use Rattle.recall_daemon.specs.Known.{hears, asks_by, knows_by, away_in, back_in, IsKept, IsInHand, IsNeeded, IsReady, IsLost, Holds, HasAll}
use Rattle.recall_daemon.specs.Known.{ArePutOff, MayCall, MayGive}
use Rattle.recall_daemon.specs.Known as recall
use Rattle.recall_daemon.specs.Machine.{Machine, StepsOn}
use Rattle.recall_daemon.proofs.Outcomes.{Ends, failed_so, unrestored_so, unanswered_so}
use Rattle.hsm_system.specs.Running.{Recalling}
use Rattle.hsm_replay.specs.Systems.{told_next}
use Rattle.hsm_replay.specs.Keeping.{unmarked, IsKnownAs, IsAtStart, IsHeardOf, RecallKnows}
use Rattle.marked_history.specs.Served.{IsOf, IsReasonTold, MayCome, RecallMay}
use Rattle.hsm_replay.proofs.SessionCalls.{IsNoCall, IsBegin, may_come, unseated, only_begins}

-- ---- events that are put off

abbrev unput : Kept → Kept
unput k = record k { marked = false }

abbrev plain_event : Event → Kept
plain_event e = record { event = e; marked = false }

twice : (kept : List Kept) → all_marked false (all_marked false kept) ≡ all_marked false kept
twice [] = refl
twice (k ∷ more) = ap (λ (l : List Kept). unput k ∷ l) (twice more)

off_one : (b : Bool) (k : Kept) → unput (if b then record k { marked = true } else k) ≡ unput k
off_one true k = refl
off_one false k = refl

put_off_shows : (t : Token) (kept : List Kept) → all_marked false (marked_at t kept) ≡ all_marked false kept
put_off_shows t [] = refl
put_off_shows t (k ∷ more) = ap₂ (λ (x : Kept) (l : List Kept). x ∷ l) (off_one (has_kept_token t k) k) (put_off_shows t more)

left_one : (b : Bool) (k : Kept) (xs ys : List Kept) → all_marked false xs ≡ ys → all_marked false (cond b (k ∷ xs) xs) ≡ cond b (unput k ∷ ys) ys
left_one true k xs ys is = ap (λ (l : List Kept). unput k ∷ l) is
left_one false k xs ys is = is

forgot_shows : (t : Token) (kept : List Kept) → all_marked false (forgot t kept) ≡ forgot t (all_marked false kept)
forgot_shows t [] = refl
forgot_shows t (k ∷ more) = left_one (not (has_kept_token t k)) k (forgot t more) (forgot t (all_marked false more)) (forgot_shows t more)

more_same : (kept more : List Kept) → all_marked false (kept ++ more) ≡ all_marked false (all_marked false kept ++ more)
more_same [] more = refl
more_same (k ∷ kept) more = ap (λ (l : List Kept). unput k ∷ l) (more_same kept more)

put_off_same : (t : Token) (kept : List Kept) → all_marked false (marked_at t kept) ≡ all_marked false (marked_at t (all_marked false kept))
put_off_same t kept = put_off_shows t kept ∙ sym (put_off_shows t (all_marked false kept) ∙ twice kept)

forgot_same : (t : Token) (kept : List Kept) → all_marked false (forgot t kept) ≡ all_marked false (forgot t (all_marked false kept))
forgot_same t kept = forgot_shows t kept ∙ sym (forgot_shows t (all_marked false kept) ∙ ap (λ (l : List Kept). forgot t l) (twice kept))

-- ---- the seat

again : (s : Seat) → unmarked s ≡ unmarked (unmarked s)
again s = ap (λ (l : List Kept). record s { kept = l }) (sym (twice s.kept))

abbrev finds : Sid → Seat → Seat
finds target s = record s { found = Some target }

abbrev passes : Seat → Seat
passes s = record s { others = option_map (λ (ids : List Sid). drop 1 ids) s.others }

told_same : (b : Bool) (target : Sid) (s : Seat) → unmarked (if b then finds target s else passes s) ≡ unmarked (if b then finds target (unmarked s) else passes (unmarked s))
told_same true target s = again (finds target s)
told_same false target s = again (passes s)

seat_same : (s : Seat) (call : DmCall) (answer : DmReply) → unmarked (seat_hears Recall s call answer) ≡ unmarked (seat_hears Recall (unmarked s) call answer)
seat_same s GetAllSessions (reply.Sids ids) = again (record s { others = Some ids; found = None })
seat_same s (QuerySession target) (reply.Info info) = told_same (bytes_eq info (information Recall)) target s
seat_same s (CreateSession old info) (reply.Session sid) = refl
seat_same s (SetDisp kinds) reply.Done = again (record s { set = true })
seat_same s GetAllTokens (reply.Tokens tokens) = again (record s { unfound = Some tokens })
seat_same s (FindEventMsg t room) (reply.Packed bytes tokens) = ap (λ (l : List Kept). record (found_one s) { kept = l }) (more_same s.kept (events_in Recall bytes))
seat_same s (FindEventMsg t room) (reply.Refused why.NoToken) = again (found_one s)
seat_same s (FindEventMsg t room) (reply.Refused (why.NotYours owner)) = again (found_one s)
seat_same s (GetEvents most room) (reply.Packed bytes tokens) = ap (λ (l : List Kept). record s { kept = l }) (more_same s.kept (events_in Recall bytes))
seat_same s (Respond t response) reply.Done = ap (λ (l : List Kept). record s { kept = l }) (forgot_same t s.kept)
seat_same s (Respond t response) (reply.Refused why.NoToken) = ap (λ (l : List Kept). record s { kept = l }) (forgot_same t s.kept)
seat_same s (Respond t response) (reply.Refused (why.NotYours owner)) = ap (λ (l : List Kept). record s { kept = l }) (forgot_same t s.kept)
seat_same s call answer = again s

-- ---- what is known

abbrev plain : Known → Known
plain k = record k { seat = unmarked k.seat }

stays_same : (k : Known) → plain k ≡ plain (plain k)
stays_same k = ap (with_hand k.hand) (again k.seat)

off_same : (t : Token) (k : Known) → plain (put_off t k) ≡ plain (put_off t (plain k))
off_same t k = ap (λ (l : List Kept). with_kept l k) (put_off_same t k.seat.kept)

dropped_same : (t : Token) (k : Known) → plain (dropped t k) ≡ plain (dropped t (plain k))
dropped_same t k = ap (λ (l : List Kept). with_kept l k) (forgot_same t k.seat.kept)

handled_same : (f : Hand → Hand) (k : Known) → plain (handling f k) ≡ plain (handling f (plain k))
handled_same f k = ap (with_hand (option_map f k.hand)) (again k.seat)

abbrev IsSame : (Known → Known) → Known → Type 0
IsSame f k = plain (f k) ≡ plain (f (plain k))

ends_same : (k : Known) (t : Token) (answer : DmReply) → Ends (λ f. IsSame f k) t answer
ends_same k t answer = record { stays = λ lost. stays_same k; off = off_same t k; drops = λ gone. dropped_same t k }

failed_same : (t : Token) (answer : DmReply) (k : Known) → IsSame (λ l. failed t answer l) k
failed_same t answer k = failed_so (λ f. IsSame f k) t answer (handled_same (λ (h : Hand). record h { gone = true }) k) (ends_same k t answer)

unrestored_same : (t : Token) (w : DmRefusal) (k : Known) → IsSame (λ l. unrestored t w l) k
unrestored_same t w k = unrestored_so (λ f. IsSame f k) t w (handled_same (λ (h : Hand). record h { gone = true }) k) (handled_same (λ (h : Hand). record h { short = true }) k) (ends_same k t (reply.Refused w))

unanswered_same : (t : Token) (w : DmRefusal) (k : Known) → IsSame (λ l. unanswered t w l) k
unanswered_same t w k = unanswered_so (λ f. IsSame f k) t w (ends_same k t (reply.Refused w))

asks_same : (k : Known) (call : DmCall) → plain (asks k call) ≡ asks (plain k) call
asks_same k GetAllSessions = refl
asks_same k (CreateSession old info) = refl
asks_same k (RequestRight t h right) = refl
asks_same k (Respond t response) = refl
asks_same k call = refl

hears_same : (k : Known) (call : DmCall) (answer : DmReply) → plain (hears k call answer) ≡ plain (hears (plain k) call answer)
hears_same k (RequestRight t h right) reply.Done = stays_same k
hears_same k (RequestRight t h right) answer = failed_same t answer k
hears_same k (GetFileAttr t h) (reply.Attr size stamp blocks) = handled_same (λ (hand : Hand). record hand { size = Some size }) k
hears_same k (GetFileAttr t h) answer = failed_same t answer k
hears_same k (GetAllocInfo t h) (reply.Alloc segments) = handled_same (λ (hand : Hand). record hand { away = Some (away_in segments) }) k
hears_same k (GetAllocInfo t h) answer = failed_same t answer k
hears_same k (Restore t h j bytes) reply.Done = handled_same (λ (hand : Hand). record hand { away = back_in j hand.away }) k
hears_same k (Restore t h j bytes) (reply.Refused w) = unrestored_same t w k
hears_same k (Restore t h j bytes) answer = off_same t k
hears_same k (Respond t response) reply.Done = dropped_same t k
hears_same k (Respond t response) (reply.Refused w) = unanswered_same t w k
hears_same k (Respond t response) answer = off_same t k
hears_same k call answer = ap (with_hand k.hand) (seat_same k.seat call answer)

alike : (k l : Known) → IsKnownAs k l → plain k ≡ plain l
alike k l is = ap₂ with_hand is.hand is.seat

known_as : (k l : Known) → plain k ≡ plain l → IsKnownAs k l
known_as k l is = record { seat = ap (λ (x : Known). x.seat) is; hand = ap (λ (x : Known). x.hand) is }

tells : (k l : Known) (call : DmCall) (answer : DmReply) → IsKnownAs k l → IsKnownAs (hears (asks k call) call answer) (hears (asks l call) call answer)
tells k l call answer is =
    let asked : plain (asks k call) ≡ plain (asks l call) = asks_same k call ∙ (ap (λ (x : Known). asks x call) (alike k l is) ∙ sym (asks_same l call)) in
    known_as (hears (asks k call) call answer) (hears (asks l call) call answer)
    (hears_same (asks k call) call answer ∙ (ap (λ (x : Known). plain (hears x call answer)) asked ∙ sym (hears_same (asks l call) call answer)))

-- one that asks for the sessions begins anew
begins : (k l : Known) (call : DmCall) (answer : DmReply) → call ≡ GetAllSessions → IsKnownAs (hears (asks k call) call answer) (hears (asks l call) call answer)
begins k l call answer is = subst (λ (c : DmCall). IsKnownAs (hears (asks k c) c answer) (hears (asks l c) c answer)) (sym is) (record { seat = refl; hand = refl })

-- ---- what a call rests on, but for which events are put off

plain_kept : (e : Event) (kept : List Kept) → IsKept e kept → Contains (all_marked false kept) (plain_event e)
plain_kept e kept is =
    let at = is.1 in
    (at.0, subst (λ n. at.0 < n) (sym (length-map kept unput)) at.1, get_or-map unput kept at.0 (record { event = e; marked = is.0 }) (plain_event e) at.1 ∙ ap unput at.2)

is_kept : (e : Event) (kept : List Kept) → Contains (all_marked false kept) (plain_event e) → IsKept e kept
is_kept e kept at =
    let within : at.0 < length kept = subst (λ n. at.0 < n) (length-map kept unput) at.1 in
    let there : Kept = slice_index_or kept at.0 (plain_event e) in
    let found : unput there ≡ plain_event e = sym (get_or-map unput kept at.0 (plain_event e) (plain_event e) within) ∙ at.2 in
    let event : there.event ≡ e = ap (λ (k : Kept). k.event) found in
    let same : there ≡ record { event = e; marked = there.marked } = ap (λ (x : Event). record there { event = x }) event in
    (there.marked, (at.0, within, get_or_default kept at.0 (record { event = e; marked = there.marked }) (plain_event e) within ∙ same))

abbrev AreSame : List Kept → List Kept → Type 0
AreSame kept shown = all_marked false kept ≡ all_marked false shown

kept_as : (e : Event) (kept shown : List Kept) → AreSame kept shown → IsKept e kept → IsKept e shown
kept_as e kept shown same is = is_kept e shown (subst (λ (l : List Kept). Contains l (plain_event e)) same (plain_kept e kept is))

in_hand_as : (kept shown : List Kept) (hand : Hand) (e : Event) → AreSame kept shown → IsInHand kept hand e → IsInHand shown hand e
in_hand_as kept shown hand e same is = record { is_kept = kept_as e kept shown same is.is_kept; token = is.token; handle = is.handle }

needed_as : (kept shown : List Kept) (hand : Hand) (a : Away) → AreSame kept shown → IsNeeded kept hand a → IsNeeded shown hand a
needed_as kept shown hand a same is = record {
  event = is.event;
  size = is.size;
  away = is.away;
  in_hand = in_hand_as kept shown hand is.event same is.in_hand;
  sized = is.sized;
  told = is.told;
  needs = is.needs;
}

ready_as : (kept shown : List Kept) (hand : Hand) → AreSame kept shown → IsReady kept hand → IsReady shown hand
ready_as kept shown hand same is = record {
  event = is.event;
  size = is.size;
  away = is.away;
  in_hand = in_hand_as kept shown hand is.event same is.in_hand;
  sized = is.sized;
  told = is.told;
  none = is.none;
}

reason_as : (kept shown : List Kept) (hand : Hand) (response : Response) → AreSame kept shown → IsReasonTold kept hand response → IsReasonTold shown hand response
reason_as kept shown hand Continue same is = ⊎_elim (λ (gone : hand.gone ≡ true). inl gone) (λ (ready : IsReady kept hand). inr (ready_as kept shown hand same ready)) is
reason_as kept shown hand (Abort error) same is = ⊎_elim
    (λ (lost : (error ≡ 2) × ((a : Away) × IsNeeded kept hand a)). inl (lost.0, (lost.1.0, needed_as kept shown hand lost.1.0 same lost.1.1)))
    (λ (short : (error ≡ 28) × (hand.short ≡ true)). inr short) is
reason_as kept shown hand (Media fault) same is = (is.0, needed_as kept shown hand is.0 same is.1, is.2)

seated_as : (s shown : Seat) (sid : Sid) → unmarked s ≡ unmarked shown → IsSeated s sid → IsSeated shown sid
seated_as s shown sid same is = record {
  session = sym (ap (λ (x : Seat). x.sid) same) ∙ is.session;
  set = sym (ap (λ (x : Seat). x.set) same) ∙ is.set;
  found = sym (ap (λ (x : Seat). x.unfound) same) ∙ is.found;
}

holds_as : (k shown : Known) (t : Token) (h : Handle) (hand : Hand) → k.hand ≡ shown.hand → Holds k t h hand → Holds shown t h hand
holds_as k shown t h hand same is = (sym same ∙ is.0, is.1, is.2)

come_as : (s shown : Seat) (sid : Sid) (call : DmCall) → unmarked s ≡ unmarked shown → MayCome Recall s sid call → MayCome Recall shown sid call
come_as s shown sid GetAllSessions same may = may
come_as s shown sid (QuerySession target) same may = subst (λ (x : Seat). MayCome Recall x sid (QuerySession target)) same may
come_as s shown sid (CreateSession old info) same may = subst (λ (x : Seat). MayCome Recall x sid (CreateSession old info)) same may
come_as s shown sid (SetDisp kinds) same may = subst (λ (x : Seat). MayCome Recall x sid (SetDisp kinds)) same may
come_as s shown sid GetAllTokens same may = subst (λ (x : Seat). MayCome Recall x sid GetAllTokens) same may
come_as s shown sid (FindEventMsg t room) same may = subst (λ (x : Seat). MayCome Recall x sid (FindEventMsg t room)) same may
come_as s shown sid call same may = may

may_as : (k shown : Known) (sid : Sid) (call : DmCall) → IsKnownAs k shown → RecallMay k sid call → RecallMay shown sid call
may_as k shown sid (GetEvents most room) same may = (seated_as k.seat shown.seat sid same.seat may.0, may.1, may.2)
may_as k shown sid (RequestRight t h right) same may =
    let told = may.2 in
    (seated_as k.seat shown.seat sid same.seat may.0, may.1, (told.0, kept_as told.0 k.seat.kept shown.seat.kept (ap (λ (s : Seat). s.kept) same.seat) told.1, told.2, told.3))
may_as k shown sid (GetFileAttr t h) same may = (seated_as k.seat shown.seat sid same.seat may.0, (may.1.0, holds_as k shown t h may.1.0 same.hand may.1.1))
may_as k shown sid (GetAllocInfo t h) same may = (seated_as k.seat shown.seat sid same.seat may.0, (may.1.0, holds_as k shown t h may.1.0 same.hand may.1.1))
may_as k shown sid (Restore t h segment bytes) same may =
    let m = may.1 in
    (seated_as k.seat shown.seat sid same.seat may.0, (m.0, m.1, holds_as k shown t h m.0 same.hand m.2, needed_as k.seat.kept shown.seat.kept m.0 m.1 (ap (λ (s : Seat). s.kept) same.seat) m.3, m.4, m.5))
may_as k shown sid (Respond t response) same may =
    let m = may.1 in
    (seated_as k.seat shown.seat sid same.seat may.0, (m.0, sym same.hand ∙ m.1, m.2, reason_as k.seat.kept shown.seat.kept m.0 response (ap (λ (s : Seat). s.kept) same.seat) m.3))
may_as k shown sid call same may = come_as k.seat shown.seat sid call same.seat may

-- ---- what was heard of a fetch

module _ {M : Type 0} (g : drive.Ghosts M) (drives : List M) (faults : List Fault) (asked : Act) (told : Heard) (hears_of : IsHeardOf g drives faults asked told) where
  fetched : (entry : StubEntry) (bytes : List ℕ) → asked ≡ Fetch entry → told ≡ heard.Fetched (Ok bytes) → print_of bytes ≡ entry_print entry
  fetched entry bytes is hears = rw (is, hears) at hears_of

  faulted : (entry : StubEntry) (fault : Fault) → asked ≡ Fetch entry → told ≡ heard.Fetched (Err (fetching.Media fault)) → IsOf entry fault
  faulted entry fault is hears = let both = rw (is, hears) at hears_of in both.0

  reasons : (kept : List Kept) (hand : Hand) (response : Response) → recall.IsReason kept hand asked told response → IsReasonTold kept hand response
  reasons kept hand Continue is = is
  reasons kept hand (Abort error) is = ⊎_elim
      (λ (lost : (error ≡ 2) × IsLost kept hand asked told). let there = lost.1.2 in inl (lost.0, (there.0, there.3)))
      (λ (short : (error ≡ 28) × (hand.short ≡ true)). inr short) is
  reasons kept hand (Media fault) is = (is.0, is.3, faulted is.0.entry fault is.1 is.2)

  may_call : (k : Known) (sid : Sid) (call : DmCall) → MayCall k asked told sid call → RecallMay k sid call
  may_call k sid (GetEvents most room) may = (may.0, may.1, may.2)
  may_call k sid (RequestRight t h right) may = let next = may.3 in (may.0, may.1, (next.0, (false, next.1.is_kept), next.2, next.3))
  may_call k sid (GetFileAttr t h) may = (may.0, may.2)
  may_call k sid (GetAllocInfo t h) may = (may.0, (may.2.0, may.2.1))
  may_call k sid (Restore t h segment bytes) may = let m = may.1 in (may.0, (m.0, m.1, m.2, m.3, m.4, fetched m.1.entry bytes m.5 m.6))
  may_call k sid (Respond t response) may = let m = may.1 in (may.0, (m.0, m.1, m.2, reasons k.seat.kept m.0 response m.3))
  may_call k sid call may = may_come Recall k.seat asked told sid call may

-- ---- at its start

pub begins_at_once : (k : Known) (asked : Act) (told : Heard) (sid : Sid) (call : DmCall) → k.seat ≡ no_seat → MayCall k asked told sid call → IsBegin sid call
begins_at_once k asked told sid (GetEvents most room) none may = absurd (unseated k.seat sid none may.0)
begins_at_once k asked told sid (RequestRight t h right) none may = absurd (unseated k.seat sid none may.0)
begins_at_once k asked told sid (GetFileAttr t h) none may = absurd (unseated k.seat sid none may.0)
begins_at_once k asked told sid (GetAllocInfo t h) none may = absurd (unseated k.seat sid none may.0)
begins_at_once k asked told sid (Restore t h segment bytes) none may = absurd (unseated k.seat sid none may.0)
begins_at_once k asked told sid (Respond t response) none may = absurd (unseated k.seat sid none may.0)
begins_at_once k asked told sid call none may = only_begins Recall k.seat asked told sid call none may

pub no_rest : (k : Known) (asked : Act) (told : Heard) (act : Act) → IsNoCall act → asked ≡ Idle → k.hand ≡ None → MayGive k asked told act → ⊥
no_rest k asked told (Dm sid call) no_call idle none may = absurd no_call
no_rest k asked told (Copy volume handle segment bytes) no_call idle none may = may
no_rest k asked told (Fetch entry) no_call idle none may = let hand = may.1.2 in let both = rw none at hand in cc
no_rest k asked told Idle no_call idle none may = ⊎_elim
    (λ (all : HasAll asked told × ArePutOff k.seat.kept). let is = all.0.1 in cc)
    (λ (one : IsRefusedOne asked told). let is = one.3 in cc) may

pub starts : (k : Known) (asked : Act) (told : Heard) → asked ≡ Idle → knows_by k asked told ≡ k
starts k asked told idle = subst (λ (a : Act). knows_by k a told ≡ k) (sym idle) refl

-- ---- an act that is no call

pub rests : (k : Known) (act : Act) (told : Heard) → IsNoCall act → IsKnownAs (knows_by (asks_by k act) act told) k
rests k (Dm sid call) told no_call = absurd no_call
rests k (Copy volume handle segment bytes) told no_call = record { seat = refl; hand = refl }
rests k (Fetch entry) told no_call = record { seat = refl; hand = refl }
rests k Idle told no_call = record { seat = sym (again k.seat); hand = refl }

pub as_shown : (k l shown : Known) → IsKnownAs k l → IsKnownAs l shown → IsKnownAs k shown
as_shown k l shown first second = record { seat = first.seat ∙ second.seat; hand = first.hand ∙ second.hand }

-- ---- what the history shows

abbrev now : Recalling → Known
now r = knows_by r.machine.known r.machine.asked (told_next r.next)

-- the access in hand needs a segment by whose entry the fetch found no object
abbrev pub IsLostBy : Known → Act → Heard → Type 0
IsLostBy k asked told = (hand : Hand) × (a : Away) × (volume : ℕ) × (object : ℕ) × (k.hand ≡ Some hand) × IsNeeded k.seat.kept hand a × (asked ≡ Fetch a.entry) × (told ≡ heard.Fetched (Err (fetching.NoObject volume object)))

lost_as : (k shown : Known) (asked : Act) (told : Heard) (hand : Hand) → IsKnownAs k shown → k.hand ≡ Some hand → recall.IsReason k.seat.kept hand asked told (Abort 2) → IsLostBy shown asked told
lost_as k shown asked told hand same held (inl lost) =
    let of = lost.1.2 in
    (hand, of.0, lost.1.0, lost.1.1, sym same.hand ∙ held, needed_as k.seat.kept shown.seat.kept hand of.0 (ap (λ (s : Seat). s.kept) same.seat) of.3, of.1, of.2)
lost_as k shown asked told hand same held (inr short) = let wrong : ◌≡◌ {A = ℕ} 2 28 = short.0 in absurd (omega (arith, wrong))

abbrev Starts : Recalling → Type 0
Starts r = IsAtStart r.machine.known.seat r.machine.asked (told_next r.next) × (r.machine.known.hand ≡ None)

module _ {M : Type 0} (g : drive.Ghosts M) (k : Known) (drives : List M) (faults : List Fault) (r : Recalling) (machine : Machine) (shows : RecallKnows g k drives faults r) where
  begins_only : (sid : Sid) (asked : DmCall) → Starts r → StepsOn r.machine (told_next r.next) (Dm sid asked) machine → IsBegin sid asked
  begins_only sid asked start goes =
      begins_at_once (now r) r.machine.asked (told_next r.next) sid asked (ap (λ (x : Known). x.seat) (starts r.machine.known r.machine.asked (told_next r.next) start.0.1) ∙ start.0.0) goes.may

  knows_now : (act : Act) (told : Heard) → StepsOn r.machine (told_next r.next) act machine → knows_by machine.known machine.asked told ≡ knows_by (asks_by (now r) act) act told
  knows_now act told goes = ap₂ (λ (x : Known) (a : Act). knows_by x a told) goes.known goes.asked

  pub recall_may : (sid : Sid) (asked : DmCall) → StepsOn r.machine (told_next r.next) (Dm sid asked) machine → RecallMay k sid asked
  recall_may sid asked goes = ⊎_elim
      (λ (start : Starts r). let only = begins_only sid asked start goes in subst (λ (c : DmCall). RecallMay k sid c) (sym only.0) only.1)
      (λ (same : IsKnownAs (now r) k). may_as (now r) k sid asked same (may_call g drives faults r.machine.asked (told_next r.next) shows.heard (now r) sid asked goes.may))
      shows.known

  pub recall_told : (sid : Sid) (asked : DmCall) (answer : DmReply) → StepsOn r.machine (told_next r.next) (Dm sid asked) machine
      → IsKnownAs (knows_by machine.known machine.asked (heard.Dm answer)) (hears (asks k asked) asked answer)
  recall_told sid asked answer goes = subst (λ (x : Known). IsKnownAs x (hears (asks k asked) asked answer)) (sym (knows_now (Dm sid asked) (heard.Dm answer) goes)) (⊎_elim
      (λ (start : Starts r). begins (now r) k asked answer (begins_only sid asked start goes).0)
      (λ (same : IsKnownAs (now r) k). tells (now r) k asked answer same)
      shows.known)

  -- it answers that there is no such object after a fetch by the entry of a needed segment
  pub recall_lost : (sid : Sid) (t : Token) → StepsOn r.machine (told_next r.next) (Dm sid (Respond t (Abort 2))) machine → IsLostBy k r.machine.asked (told_next r.next)
  recall_lost sid t goes = ⊎_elim
      (λ (start : Starts r). let only : Respond t (Abort 2) ≡ GetAllSessions = (begins_only sid (Respond t (Abort 2)) start goes).0 in cc only)
      (λ (same : IsKnownAs (now r) k). let may = goes.may.1 in lost_as (now r) k r.machine.asked (told_next r.next) may.0 same may.1 may.3)
      shows.known

  pub recall_rests : (act : Act) (told : Heard) → IsNoCall act → StepsOn r.machine (told_next r.next) act machine
      → (IsAtStart machine.known.seat machine.asked told × (machine.known.hand ≡ None)) ⊎ IsKnownAs (knows_by machine.known machine.asked told) k
  recall_rests act told no_call goes = ⊎_elim
      (λ (start : Starts r). absurd (no_rest (now r) r.machine.asked (told_next r.next) act no_call start.0.1 (ap (λ (x : Known). x.hand) (starts r.machine.known r.machine.asked (told_next r.next) start.0.1) ∙ start.1) goes.may))
      (λ (same : IsKnownAs (now r) k). inr (subst (λ (x : Known). IsKnownAs x k) (sym (knows_now act told goes)) (as_shown (knows_by (asks_by (now r) act) act told) (now r) k (rests (now r) act told no_call) same)))
      shows.known
