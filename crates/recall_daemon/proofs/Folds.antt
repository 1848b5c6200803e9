-- What it knows by an answer, as its parts tell it.
use Rattle.std.proofs.Common.{◌≡◌, ℕ, ◌⊎◌, List, true, false, Some, None, refl, ⊎_elim}
use Rattle.hsm_types.specs.declared.daemons.Act.TheVariants.{Dm}
use Rattle.hsm_types.specs.declared.daemons.Heard.{Heard}
use Rattle.hsm_types.specs.declared.daemons.Heard.TheVariants as heard
use Rattle.hsm_types.specs.declared.dm.DmCall.TheVariants.{Respond, RequestRight, GetFileAttr, GetAllocInfo, Restore}
use Rattle.hsm_types.specs.declared.dm.DmReply.TheVariants as reply
use Rattle.hsm_types.specs.declared.dm.DmRefusal.{DmRefusal}
use Rattle.hsm_types.specs.declared.dm.DmRefusal.TheVariants as why
use Rattle.hsm_types.specs.declared.dm.Response.{Response}
use Rattle.hsm_types.specs.declared.dm.Right.{Right}
use Rattle.hsm_types.specs.declared.keys.Handle.{Handle}
use Rattle.hsm_types.specs.declared.keys.Sid.{Sid}
use Rattle.hsm_types.specs.declared.keys.Token.{Token}
use Rattle.hsm_types.specs.declared.stubs.Segment.{Segment}
use Rattle.recall_daemon.specs.Known.{Known, Hand, handling, put_off, dropped, refused, unrestored, unanswered, knows_by, away_in}
use Rattle.recall_daemon.specs.Tellings.{tells_done, size_told, segments_told, refusal_told}
use Rattle.recall_daemon.specs.Workers.{failed_by}

-- ---- refusals

abbrev pub Forgets : DmRefusal → Type 0
Forgets w = (w ≡ why.NoToken) ⊎ ((owner : Sid) × (w ≡ why.NotYours owner))

pub refused_forgets : (t : Token) (w : DmRefusal) (k : Known) → Forgets w → refused t w k ≡ dropped t k
refused_forgets t w k forgets = ⊎_elim (λ (is : w ≡ why.NoToken). rw is refl) (λ (is : (owner : Sid) × (w ≡ why.NotYours owner)). rw is.1 refl) forgets

pub unanswered_forgets : (t : Token) (w : DmRefusal) (k : Known) → Forgets w → unanswered t w k ≡ dropped t k
unanswered_forgets t w k forgets = ⊎_elim (λ (is : w ≡ why.NoToken). rw is refl) (λ (is : (owner : Sid) × (w ≡ why.NotYours owner)). rw is.1 refl) forgets

pub refused_else : (t : Token) (w : DmRefusal) (k : Known) → (w ≡ why.NoObject → ⊥) → (w ≡ why.NoToken → ⊥) → ((owner : Sid) → w ≡ why.NotYours owner → ⊥) → (w ≡ why.NoSession → ⊥) → refused t w k ≡ put_off t k
refused_else t why.NoObject k gone token yours lives = absurd (gone refl)
refused_else t why.NoToken k gone token yours lives = absurd (token refl)
refused_else t (why.NotYours owner) k gone token yours lives = absurd (yours owner refl)
refused_else t why.NoSession k gone token yours lives = absurd (lives refl)
refused_else t other k gone token yours lives = refl

pub unanswered_else : (t : Token) (w : DmRefusal) (k : Known) → (w ≡ why.NoToken → ⊥) → ((owner : Sid) → w ≡ why.NotYours owner → ⊥) → (w ≡ why.NoSession → ⊥) → unanswered t w k ≡ put_off t k
unanswered_else t why.NoToken k token yours lives = absurd (token refl)
unanswered_else t (why.NotYours owner) k token yours lives = absurd (yours owner refl)
unanswered_else t why.NoSession k token yours lives = absurd (lives refl)
unanswered_else t other k token yours lives = refl

pub unrestored_else : (t : Token) (w : DmRefusal) (k : Known) → ((need free : ℕ) → w ≡ why.NoSpace need free → ⊥) → unrestored t w k ≡ refused t w k
unrestored_else t (why.NoSpace need free) k space = absurd (space need free refl)
unrestored_else t other k space = refl

-- ---- answers

pub is_done : (told : Heard) → tells_done told ≡ true → told ≡ heard.Dm reply.Done
is_done (heard.Dm reply.Done) is = refl
is_done (heard.Dm answer) is = cc
is_done told is = cc

pub is_refusal : (told : Heard) (w : DmRefusal) → refusal_told told ≡ Some w → told ≡ heard.Dm (reply.Refused w)
is_refusal (heard.Dm (reply.Refused v)) w is = cc
is_refusal (heard.Dm answer) w is = cc
is_refusal told w is = cc

pub failed_refused : (t : Token) (told : Heard) (k : Known) (w : DmRefusal) → refusal_told told ≡ Some w → failed_by t told k ≡ refused t w k
failed_refused t told k w is = rw (is_refusal told w is) refl

pub failed_else : (t : Token) (told : Heard) (k : Known) → refusal_told told ≡ None → failed_by t told k ≡ put_off t k
failed_else t (heard.Dm (reply.Refused v)) k is = cc
failed_else t (heard.Dm answer) k is = refl
failed_else t told k is = refl

-- ---- calls

pub requested_else : (k : Known) (sid : Sid) (t : Token) (h : Handle) (right : Right) (told : Heard) → tells_done told ≡ false → knows_by k (Dm sid (RequestRight t h right)) told ≡ failed_by t told k
requested_else k sid t h right (heard.Dm reply.Done) is = cc
requested_else k sid t h right (heard.Dm answer) is = refl
requested_else k sid t h right told is = refl

pub measured_done : (k : Known) (sid : Sid) (t : Token) (h : Handle) (told : Heard) (size : ℕ) → size_told told ≡ Some size → knows_by k (Dm sid (GetFileAttr t h)) told ≡ handling (λ (hand : Hand). record hand { size = Some size }) k
measured_done k sid t h (heard.Dm (reply.Attr size stamp blocks)) n is = let same : size ≡ n = cc in rw same refl
measured_done k sid t h (heard.Dm answer) n is = cc
measured_done k sid t h told n is = cc

pub measured_else : (k : Known) (sid : Sid) (t : Token) (h : Handle) (told : Heard) → size_told told ≡ None → knows_by k (Dm sid (GetFileAttr t h)) told ≡ failed_by t told k
measured_else k sid t h (heard.Dm (reply.Attr size stamp blocks)) is = cc
measured_else k sid t h (heard.Dm answer) is = refl
measured_else k sid t h told is = refl

pub mapped_done : (k : Known) (sid : Sid) (t : Token) (h : Handle) (told : Heard) (segments : List Segment) → segments_told told ≡ Some segments → knows_by k (Dm sid (GetAllocInfo t h)) told ≡ handling (λ (hand : Hand). record hand { away = Some (away_in segments) }) k
mapped_done k sid t h (heard.Dm (reply.Alloc there)) segments is = let same : there ≡ segments = cc in rw same refl
mapped_done k sid t h (heard.Dm answer) segments is = cc
mapped_done k sid t h told segments is = cc

pub mapped_else : (k : Known) (sid : Sid) (t : Token) (h : Handle) (told : Heard) → segments_told told ≡ None → knows_by k (Dm sid (GetAllocInfo t h)) told ≡ failed_by t told k
mapped_else k sid t h (heard.Dm (reply.Alloc segments)) is = cc
mapped_else k sid t h (heard.Dm answer) is = refl
mapped_else k sid t h told is = refl

pub restored_else : (k : Known) (sid : Sid) (t : Token) (h : Handle) (j : ℕ) (bytes : List ℕ) (told : Heard) → tells_done told ≡ false → refusal_told told ≡ None → knows_by k (Dm sid (Restore t h j bytes)) told ≡ put_off t k
restored_else k sid t h j bytes (heard.Dm reply.Done) is none = cc
restored_else k sid t h j bytes (heard.Dm (reply.Refused w)) is none = cc
restored_else k sid t h j bytes (heard.Dm answer) is none = refl
restored_else k sid t h j bytes told is none = refl

pub responded_else : (k : Known) (sid : Sid) (t : Token) (response : Response) (told : Heard) → tells_done told ≡ false → refusal_told told ≡ None → knows_by k (Dm sid (Respond t response)) told ≡ put_off t k
responded_else k sid t response (heard.Dm reply.Done) is none = cc
responded_else k sid t response (heard.Dm (reply.Refused w)) is none = cc
responded_else k sid t response (heard.Dm answer) is none = refl
responded_else k sid t response told is none = refl
