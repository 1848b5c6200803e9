-- What recall makes of each answer to a call on an event: what is so of all the outcomes is so of what it makes.
use Rattle.std.proofs.Common.{◌≡◌, Bool, true, false, List, map, refl}
use Rattle.std.specs.Prelude.{if◌then◌else◌}
use Rattle.hsm_types.specs.declared.daemons.Daemon.TheVariants.{Recall}
use Rattle.hsm_types.specs.declared.dm.DmCall.{DmCall}
use Rattle.hsm_types.specs.declared.dm.DmCall.TheVariants.{CreateSession, GetAllSessions, Respond, RequestRight}
use Rattle.hsm_types.specs.declared.dm.DmCall.TheVariants.{GetFileAttr, GetAllocInfo, Restore}
use Rattle.hsm_types.specs.declared.dm.DmReply.{DmReply}
use Rattle.hsm_types.specs.declared.dm.DmReply.TheVariants as reply
use Rattle.hsm_types.specs.declared.dm.DmRefusal.{DmRefusal}
use Rattle.hsm_types.specs.declared.dm.DmRefusal.TheVariants as why
use Rattle.hsm_types.specs.declared.keys.Token.{Token}
use Rattle.daemon_session.specs.declared.events.Kept.{Kept}
use Rattle.daemon_session.specs.Seats.{Seat, has_kept_token, forgot, seat_asks, seat_hears}
use Rattle.recall_daemon.specs.Known.{Known, Hand, handling, put_off, dropped, asks, refused, failed, unrestored, unanswered, hears}

-- ---- an event that isn't served

-- the answer tells that the event is none of the session's
abbrev pub TellsGone : DmReply → Type 0
TellsGone (reply.Refused why.NoToken) = Unit {0}
TellsGone (reply.Refused (why.NotYours owner)) = Unit {0}
TellsGone answer = ⊥

abbrev note_gone : Known → Known
note_gone k = handling (λ (h : Hand). record h { gone = true }) k

abbrev note_short : Known → Known
note_short k = handling (λ (h : Hand). record h { short = true }) k

module _ (P : (Known → Known) → Type 0) (t : Token) where
  -- of all that becomes of an event where a call on it wasn't done, but for a note on its file
  pub record Ends (answer : DmReply) : Type 0 where
    pub stays : answer ≡ reply.Refused why.NoSession → P (λ k. k)
    pub off : P (λ k. put_off t k)
    pub drops : TellsGone answer → P (λ k. dropped t k)

  pub refused_so : (w : DmRefusal) → P note_gone → Ends (reply.Refused w) → P (λ k. refused t w k)
  refused_so why.NoObject gone ends = gone
  refused_so why.NoToken gone ends = ends.drops tt
  refused_so (why.NotYours owner) gone ends = ends.drops tt
  refused_so why.NoSession gone ends = ends.stays refl
  refused_so w gone ends = ends.off

  pub failed_so : (answer : DmReply) → P note_gone → Ends answer → P (λ k. failed t answer k)
  failed_so (reply.Refused w) gone ends = refused_so w gone ends
  failed_so answer gone ends = ends.off

  pub unrestored_so : (w : DmRefusal) → P note_gone → P note_short → Ends (reply.Refused w) → P (λ k. unrestored t w k)
  unrestored_so (why.NoSpace need free) gone short ends = short
  unrestored_so w gone short ends = refused_so w gone ends

  pub unanswered_so : (w : DmRefusal) → Ends (reply.Refused w) → P (λ k. unanswered t w k)
  unanswered_so why.NoToken ends = ends.drops tt
  unanswered_so (why.NotYours owner) ends = ends.drops tt
  unanswered_so why.NoSession ends = ends.stays refl
  unanswered_so w ends = ends.off

-- ---- its seat

-- the call is on the event of the token, and doesn't answer it
abbrev pub AsksOn : Token → DmCall → Type 0
AsksOn t (RequestRight u h right) = u ≡ t
AsksOn t (GetFileAttr u h) = u ≡ t
AsksOn t (GetAllocInfo u h) = u ≡ t
AsksOn t (Restore u h j bytes) = u ≡ t
AsksOn t call = ⊥

-- it changes nothing of what is kept but which events are marked
abbrev pub Remarks : (Kept → Kept) → Type 0
Remarks f = (k : Kept) → (f k).event ≡ k.event

abbrev marked_one : Token → Kept → Kept
marked_one t k = if has_kept_token t k then record k { marked = true } else k

one_remarked : (t : Token) → Remarks (marked_one t)
one_remarked t k = elim (has_kept_token t k) as (λ (b : Bool). (if b then record k { marked = true } else k).event ≡ k.event) [ true ↦ refl | false ↦ refl ]

-- It is so of the seat, and stays so where events are marked, or where one is forgotten that is none of the session's.
pub record Keeps (P : Seat → Type 0) (call : DmCall) (answer : DmReply) (s : Seat) : Type 0 where
  pub is : P s
  pub marks : (f : Kept → Kept) → Remarks f → P (record s { kept = map f s.kept })
  pub drops : (t : Token) → AsksOn t call → TellsGone answer → P (record s { kept = forgot t s.kept })

-- so it is of what doesn't rest on the events that are kept
pub but_kept : (P : Seat → Type 0) (call : DmCall) (answer : DmReply) (s : Seat) → ((kept : List Kept) → P (record s { kept = kept })) → Keeps P call answer s
but_kept P call answer s so = record { is = so s.kept; marks = λ f same. so (map f s.kept); drops = λ t on gone. so (forgot t s.kept) }

module _ (P : Seat → Type 0) where
  ends : (k : Known) (call : DmCall) (answer : DmReply) (t : Token) → AsksOn t call → Keeps P call answer k.seat → Ends (λ f. P (f k).seat) t answer
  ends k call answer t on keeps = record { stays = λ lost. keeps.is; off = keeps.marks (marked_one t) (one_remarked t); drops = λ gone. keeps.drops t on gone }

  -- so it is of the seat behind a call, where it is of the one that the answer alone leaves
  pub seat_so : (k : Known) (call : DmCall) (answer : DmReply) → Keeps P call answer (seat_hears Recall (seat_asks k.seat call) call answer) → P (hears (asks k call) call answer).seat
  seat_so k (RequestRight t h right) reply.Done keeps = keeps.is
  seat_so k (RequestRight t h right) answer keeps =
      let l : Known = asks k (RequestRight t h right) in failed_so (λ f. P (f l).seat) t answer keeps.is (ends l (RequestRight t h right) answer t refl keeps)
  seat_so k (GetFileAttr t h) (reply.Attr size stamp blocks) keeps = keeps.is
  seat_so k (GetFileAttr t h) answer keeps = failed_so (λ f. P (f k).seat) t answer keeps.is (ends k (GetFileAttr t h) answer t refl keeps)
  seat_so k (GetAllocInfo t h) (reply.Alloc segments) keeps = keeps.is
  seat_so k (GetAllocInfo t h) answer keeps = failed_so (λ f. P (f k).seat) t answer keeps.is (ends k (GetAllocInfo t h) answer t refl keeps)
  seat_so k (Restore t h j bytes) reply.Done keeps = keeps.is
  seat_so k (Restore t h j bytes) (reply.Refused w) keeps = unrestored_so (λ f. P (f k).seat) t w keeps.is keeps.is (ends k (Restore t h j bytes) (reply.Refused w) t refl keeps)
  seat_so k (Restore t h j bytes) answer keeps = keeps.marks (marked_one t) (one_remarked t)
  seat_so k (Respond t response) reply.Done keeps = keeps.is
  seat_so k (Respond t response) (reply.Refused why.NoToken) keeps = keeps.is
  seat_so k (Respond t response) (reply.Refused (why.NotYours owner)) keeps = keeps.is
  seat_so k (Respond t response) (reply.Refused why.NoSession) keeps = keeps.is
  seat_so k (Respond t response) answer keeps = keeps.marks (marked_one t) (one_remarked t)
  seat_so k GetAllSessions answer keeps = keeps.is
  seat_so k (CreateSession old info) answer keeps = keeps.is
  seat_so k call answer keeps = keeps.is
