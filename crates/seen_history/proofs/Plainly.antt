-- Where each restore brings the bytes that the plain map has, likened entries leave the worlds that the entries themselves leave, and so are plain.
use Rattle.std.proofs.Common.{◌≡◌, ℕ, zero, suc, List, [], ◌∷◌, take, Bool, true, false, Option, Some, None, refl, sym, ◌∙◌, ap, subst}
use Rattle.std.specs.Prelude.{if◌then◌else◌}
use Rattle.hsm_types.specs.Stubs.{print_of}
use Rattle.hsm_types.specs.declared.calls.Call.TheVariants.{Read}
use Rattle.hsm_types.specs.declared.calls.Reply.{Reply}
use Rattle.hsm_types.specs.declared.calls.Reply.TheVariants.{Data}
use Rattle.hsm_types.specs.declared.dm.DmCall.{DmCall}
use Rattle.hsm_types.specs.declared.dm.DmCall.TheVariants.{ReadInvis, Seal, Restore}
use Rattle.hsm_types.specs.declared.dm.DmReply.{DmReply}
use Rattle.hsm_types.specs.declared.dm.DmReply.TheVariants as told
use Rattle.hsm_types.specs.declared.keys.Sid.{Sid}
use Rattle.hsm_types.specs.declared.stores.Superblock.{Superblock}
use Rattle.plain_model.specs.declared.entries.Entry.{Entry}
use Rattle.plain_model.specs.declared.entries.Actor.{Actor}
use Rattle.plain_model.specs.declared.entries.Actor.TheVariants.{Caller, Session, Store}
use Rattle.plain_model.specs.declared.entries.Action.{Action}
use Rattle.plain_model.specs.declared.entries.Action.TheVariants.{Issue, Resume, Dm}
use Rattle.plain_model.specs.declared.entries.Answer.{Answer}
use Rattle.plain_model.specs.declared.entries.Answer.TheVariants.{Call as Replied, Dm as Told}
use Rattle.plain_model.specs.Laws.{IsPlain}
use Rattle.plain_model.specs.Ledger.{Meant, Means}
use Rattle.plain_model.specs.Legal.{Legal, After, BringsTrueBytes, NoClash}
use Rattle.plain_model.specs.Plain.{File, read_at, segment, body_of}
use Rattle.plain_model.specs.PlainFold.{Issued, Walk, done_on, done, begun, walk, walked}
use Rattle.plain_model.specs.Step.{World, start, meant_for, replied, world_told, given, after}
use Rattle.plain_model.proofs.Same.{transparent}
use Rattle.seen_history.proofs.Likening.{liken_reply, liken_told, true_bytes, liken_done, liken_action, liken_answer, likened, all_likened}
use Rattle.seen_history.proofs.Likening.{same_bytes, same_fault}

-- ---- the worlds

replied_true : (W : World) (c : ℕ) (m : Meant) (reply : Reply) → replied W c m (liken_reply W m reply) ≡ replied W c m reply
replied_true W c (Means k (Read name offset len)) (Data bytes) = refl
replied_true W c m reply = refl

true_own : (bytes own : List ℕ) → bytes ≡ own → true_bytes bytes own ≡ bytes
true_own bytes own is = same_bytes bytes own (ap print_of is)

done_true : (W : World) (sid : Sid) (call : DmCall) → BringsTrueBytes W (Dm call) (Told told.Done) → world_told W sid (liken_done W call) (liken_told W call told.Done) ≡ world_told W sid call told.Done
done_true W sid (Restore token handle j bytes) brings = ap (λ b. world_told W sid (Restore token handle j b) told.Done) (true_own bytes (segment j (body_of handle.key W.files)) brings)
done_true W sid call brings = refl

-- a session that is told no bytes is told the same
abbrev is_data : DmReply → Bool
is_data (told.Data bytes) = true
is_data reply = false

other_told : (W : World) (call : DmCall) (reply : DmReply) → is_data reply ≡ false → liken_told W call reply ≡ reply
other_told W (ReadInvis token handle offset len) (told.Data bytes) other = cc
other_told W call reply other = refl

data_true : (W : World) (sid : Sid) (call : DmCall) (bytes : List ℕ) → world_told W sid call (liken_told W call (told.Data bytes)) ≡ world_told W sid call (told.Data bytes)
data_true W sid (ReadInvis token handle offset len) bytes = refl
data_true W sid call bytes = refl

told_true : (W : World) (sid : Sid) (call : DmCall) (reply : DmReply) → BringsTrueBytes W (Dm call) (Told reply)
    → given W (Session sid) (liken_action W (Dm call) (Told reply)) (liken_answer W (Session sid) (Dm call) (Told reply)) ≡ given W (Session sid) (Dm call) (Told reply)
told_true W sid call told.Done brings = done_true W sid call brings
told_true W sid call (told.Data bytes) brings = data_true W sid call bytes
told_true W sid call reply brings = ap (λ (r : DmReply). world_told W sid call r) (other_told W call reply refl)

given_true : (W : World) (who : Actor) (what : Action) (answer : Answer) → BringsTrueBytes W what answer → given W who (liken_action W what answer) (liken_answer W who what answer) ≡ given W who what answer
given_true W (Caller c) (Issue call) (Replied reply) brings = replied_true W c (meant_for W c (Issue call)) reply
given_true W (Caller c) Resume (Replied reply) brings = replied_true W c (meant_for W c Resume) reply
given_true W (Session sid) (Dm call) (Told reply) brings = told_true W sid call reply brings
given_true W (Caller c) (Dm call) (Told told.Done) brings = refl
given_true W Store (Dm call) (Told told.Done) brings = refl
given_true W who what answer brings = refl

after_true : (W : World) (e : Entry) → BringsTrueBytes W e.action e.answer → after W (likened W e) ≡ after W e
after_true W e brings = λ i. if same_fault W e.actor e.action e.answer i then W else given_true W e.actor e.action e.answer brings i

-- ---- the bytes that they bring

done_brings : (W : World) (who : Actor) (call : DmCall) → BringsTrueBytes W (Dm call) (Told told.Done) → BringsTrueBytes W (Dm (liken_done W call)) (Told told.Done)
done_brings W who (Restore token handle j bytes) brings = true_own bytes (segment j (body_of handle.key W.files)) brings ∙ brings
done_brings W who (Seal token handle j entry) brings = tt
done_brings W who call brings = brings

done_stays : (W : World) (call : DmCall) → liken_told W call told.Done ≡ told.Done
done_stays W (ReadInvis token handle offset len) = refl
done_stays W call = refl

data_brings : (W : World) (call : DmCall) (bytes : List ℕ) → BringsTrueBytes W (Dm call) (Told (liken_told W call (told.Data bytes)))
data_brings W (ReadInvis token handle offset len) bytes = tt
data_brings W call bytes = tt

told_brings : (W : World) (call : DmCall) (reply : DmReply) → BringsTrueBytes W (Dm call) (Told reply) → BringsTrueBytes W (liken_action W (Dm call) (Told reply)) (Told (liken_told W call reply))
told_brings W call told.Done brings = rw (done_stays W call) (done_brings W Store call brings)
told_brings W call (told.Data bytes) brings = data_brings W call bytes
told_brings W call reply brings = rw (other_told W call reply refl) tt

brings_likened : (W : World) (who : Actor) (what : Action) (answer : Answer) → BringsTrueBytes W what answer → BringsTrueBytes W (liken_action W what answer) (liken_answer W who what answer)
brings_likened W (Session sid) (Dm call) (Told reply) brings = told_brings W call reply brings
brings_likened W who (Dm call) (Told told.Done) brings = done_brings W who call brings
brings_likened W who what answer brings = tt

clash_likened : (W : World) (es : List Entry) → NoClash W es → NoClash W (all_likened W es)
clash_likened W [] none = tt
clash_likened W (e ∷ es) none = (
  brings_likened W e.actor e.action e.answer none.0,
  subst (λ (V : World). NoClash V (all_likened V es)) (sym (after_true W e none.0)) (clash_likened (after W e) es none.1),
)

after_likened : (W : World) (es : List Entry) (i : ℕ) → NoClash W es → After W (take i (all_likened W es)) ≡ After W (take i es)
after_likened W [] i none = refl
after_likened W (e ∷ es) zero none = refl
after_likened W (e ∷ es) (suc i) none = ap (λ (V : World). After V (take i (all_likened V es))) (after_true W e none.0) ∙ after_likened (after W e) es i none.1

-- ---- the walk over them

on_either : (P : List File) (last : Option Issued) (bytes other : List ℕ) → done_on P last (Data bytes) ≡ done_on P last (Data other)
on_either P None bytes other = refl
on_either P (Some i) bytes other = refl

done_either : (V : Walk) (c : ℕ) (bytes other : List ℕ) → done V c (Data bytes) ≡ done V c (Data other)
done_either V c bytes other = ap (λ (files : List File). record V { files = files }) (on_either V.files (V.issued c) bytes other)

replied_walk : (W : World) (m : Meant) (U : Reply → Walk) (c : ℕ) (reply : Reply) → ((bytes other : List ℕ) → U (Data bytes) ≡ U (Data other)) → done (U (liken_reply W m reply)) c (liken_reply W m reply) ≡ done (U reply) c reply
replied_walk W (Means k (Read name offset len)) U c (Data bytes) same =
    let own : List ℕ = read_at offset len (body_of k W.files) in
    ap (λ (V : Walk). done V c (Data own)) (same own bytes) ∙ done_either (U (Data bytes)) c own bytes
replied_walk W m U c reply same = refl

done_walk : (W : World) (V : Walk) (sid : Sid) (call : DmCall) → walk V (Session sid) (Dm (liken_done W call)) (Told (liken_told W call told.Done)) ≡ walk V (Session sid) (Dm call) (Told told.Done)
done_walk W V sid (Seal token handle j entry) = refl
done_walk W V sid (Restore token handle j bytes) = refl
done_walk W V sid call = refl

data_walk : (W : World) (V : Walk) (sid : Sid) (call : DmCall) (bytes : List ℕ) → walk V (Session sid) (Dm call) (Told (liken_told W call (told.Data bytes))) ≡ V
data_walk W V sid (ReadInvis token handle offset len) bytes = refl
data_walk W V sid call bytes = refl

told_walk : (W : World) (V : Walk) (sid : Sid) (call : DmCall) (reply : DmReply) → walk V (Session sid) (liken_action W (Dm call) (Told reply)) (Told (liken_told W call reply)) ≡ walk V (Session sid) (Dm call) (Told reply)
told_walk W V sid call told.Done = done_walk W V sid call
told_walk W V sid call (told.Data bytes) = data_walk W V sid call bytes
told_walk W V sid call reply = ap (λ (r : DmReply). walk V (Session sid) (Dm call) (Told r)) (other_told W call reply refl)

walk_likened : (W : World) (V : Walk) (who : Actor) (what : Action) (answer : Answer) → walk V who (liken_action W what answer) (liken_answer W who what answer) ≡ walk V who what answer
walk_likened W V (Caller c) (Issue call) (Replied reply) = replied_walk W (meant_for W c (Issue call)) (λ r. begun V c call r) c reply (λ bytes other. refl)
walk_likened W V (Caller c) Resume (Replied reply) = replied_walk W (meant_for W c Resume) (λ r. V) c reply (λ bytes other. refl)
walk_likened W V (Session sid) (Dm call) (Told reply) = told_walk W V sid call reply
walk_likened W V (Caller c) (Dm call) (Told told.Done) = refl
walk_likened W V Store (Dm call) (Told told.Done) = refl
walk_likened W V who what answer = refl

walked_likened : (W : World) (V : Walk) (es : List Entry) (i : ℕ) → walked V (take i (all_likened W es)) ≡ walked V (take i es)
walked_likened W V [] i = refl
walked_likened W V (e ∷ es) zero = refl
walked_likened W V (e ∷ es) (suc i) =
    ap (λ (U : Walk). walked U (take i (all_likened (after W (likened W e)) es))) (walk_likened W V e.actor e.action e.answer)
    ∙ walked_likened (after W (likened W e)) (walk V e.actor e.action e.answer) es i

-- the files are those that were never moved, as those of the likened history are, which is legal
pub likened_plain : (s : Superblock) (P : List File) (es : List Entry) → Legal s (start P) (all_likened (start P) es) → IsPlain P es
likened_plain s P es legal none i =
    ap (λ (W : World). W.files) (sym (after_likened (start P) es i none))
    ∙ transparent s P (all_likened (start P) es) legal (clash_likened (start P) es none) i
    ∙ ap (λ (V : Walk). V.files) (walked_likened (start P) (record { files = P; issued = λ c. None }) es i)
