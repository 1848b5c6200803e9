-- The entry alike to one that was answered over what is seen: it reads, seals by and brings back the bytes that the plain map has.
use Rattle.std.proofs.Common.{◌≡◌, ℕ, List, [], ◌∷◌, Bool, true, false, Option, Some, None, inl, inr, refl, sym, ap, subst}
use Rattle.std.proofs.lemmas.Bool.{eqb-true, eq-eqb, and_parts}
use Rattle.std.proofs.lemmas.Slice.Eq.{bytes_eq-Decides}
use Rattle.std.specs.Prelude.{◌==◌, if◌then◌else◌}
use Rattle.std.specs.Str.{bytes_eq}
use Rattle.hsm_types.specs.Stubs.{print_of, entry_at, entry_place}
use Rattle.hsm_types.specs.declared.calls.Call.TheVariants.{Read}
use Rattle.hsm_types.specs.declared.calls.CallRefusal.{CallRefusal}
use Rattle.hsm_types.specs.declared.calls.CallRefusal.TheVariants.{Disk}
use Rattle.hsm_types.specs.declared.calls.Reply.{Reply}
use Rattle.hsm_types.specs.declared.calls.Reply.TheVariants.{Data, Refused}
use Rattle.hsm_types.specs.declared.dm.DmCall.{DmCall}
use Rattle.hsm_types.specs.declared.dm.DmCall.TheVariants.{ReadInvis, Seal, Restore}
use Rattle.hsm_types.specs.declared.dm.DmRefusal.{DmRefusal}
use Rattle.hsm_types.specs.declared.dm.DmRefusal.TheVariants as dm
use Rattle.hsm_types.specs.declared.dm.DmReply.{DmReply}
use Rattle.hsm_types.specs.declared.dm.DmReply.TheVariants as told
use Rattle.hsm_types.specs.declared.keys.Sid.{Sid}
use Rattle.hsm_types.specs.declared.stores.Superblock.{Superblock}
use Rattle.hsm_types.specs.declared.stubs.Fingerprint.{Fingerprint}
use Rattle.plain_model.specs.declared.entries.Entry.{Entry}
use Rattle.plain_model.specs.declared.entries.Actor.{Actor}
use Rattle.plain_model.specs.declared.entries.Actor.TheVariants.{Caller, Session, Store}
use Rattle.plain_model.specs.declared.entries.Action.{Action}
use Rattle.plain_model.specs.declared.entries.Action.TheVariants.{Issue, Resume, Dm, Commit}
use Rattle.plain_model.specs.declared.entries.Answer.{Answer}
use Rattle.plain_model.specs.declared.entries.Answer.TheVariants.{Call as Replied, Dm as Told}
use Rattle.plain_model.specs.Faults.{is_fault, fault_of, IsFault}
use Rattle.plain_model.specs.Ledger.{Meant, Means}
use Rattle.plain_model.specs.Plain.{read_at, segment, body_of}
use Rattle.plain_model.specs.Segments.{same_print}
use Rattle.plain_model.specs.Step.{World, MayReply, meant_for, objection_for, MayTell, MayAnswer, MayGive, Allows, after}

-- a read tells the bytes of the map
abbrev pub liken_reply : World → Meant → Reply → Reply
liken_reply W (Means k (Read name offset len)) (Data bytes) = Data (read_at offset len (body_of k W.files))
liken_reply W m reply = reply

abbrev pub liken_told : World → DmCall → DmReply → DmReply
liken_told W (ReadInvis token handle offset len) (told.Data bytes) = told.Data (read_at offset len (body_of handle.key W.files))
liken_told W call reply = reply

-- bytes of another fingerprint than that of the map's are these
abbrev pub true_bytes : List ℕ → List ℕ → List ℕ
true_bytes bytes own = if same_print (print_of bytes) (print_of own) then bytes else own

-- a segment is sealed by the digest of its bytes, and comes back by bytes of its fingerprint
abbrev pub liken_done : World → DmCall → DmCall
liken_done W (Seal token handle j entry) = Seal token handle j (entry_at (entry_place entry) (print_of (segment j (body_of handle.key W.files))))
liken_done W (Restore token handle j bytes) = Restore token handle j (true_bytes bytes (segment j (body_of handle.key W.files)))
liken_done W call = call

abbrev pub liken_action : World → Action → Answer → Action
liken_action W (Dm call) (Told told.Done) = Dm (liken_done W call)
liken_action W action answer = action

abbrev pub liken_answer : World → Actor → Action → Answer → Answer
liken_answer W (Caller c) (Issue call) (Replied reply) = Replied (liken_reply W (meant_for W c (Issue call)) reply)
liken_answer W (Caller c) Resume (Replied reply) = Replied (liken_reply W (meant_for W c Resume) reply)
liken_answer W (Session sid) (Dm call) (Told reply) = Told (liken_told W call reply)
liken_answer W actor action answer = answer

abbrev pub likened : World → Entry → Entry
likened W e = record { actor = e.actor; action = liken_action W e.action e.answer; answer = liken_answer W e.actor e.action e.answer }

-- each entry in the world that the likened ones before it leave
abbrev pub all_likened : World → List Entry → List Entry
all_likened W [] = []
all_likened W (e ∷ es) = likened W e ∷ all_likened (after W (likened W e)) es

-- ---- an entry that may come as it is is likened to itself

same_is : (a : Fingerprint) → same_print a a ≡ true
same_is a = rw (eq-eqb a.len a.len refl, (bytes_eq-Decides a.digest.0 a.digest.0).1 refl) refl

is_same : (a b : Fingerprint) → same_print a b ≡ true → a ≡ b
is_same a b is =
    let parts = and_parts (a.len == b.len) (bytes_eq a.digest.0 b.digest.0) is in
    let len : a.len ≡ b.len = eqb-true a.len b.len parts.0 in
    let digest : a.digest.0 ≡ b.digest.0 = (bytes_eq-Decides a.digest.0 b.digest.0).0 parts.1 in
    λ i. record { len = len i; digest = record { 0 = digest i } }

print_if : (b : Bool) (bytes own : List ℕ) → (b ≡ true → print_of bytes ≡ print_of own) → print_of (if b then bytes else own) ≡ print_of own
print_if true bytes own is = is refl
print_if false bytes own is = refl

-- they have the fingerprint of the map's
pub true_print : (bytes own : List ℕ) → print_of (true_bytes bytes own) ≡ print_of own
true_print bytes own = print_if (same_print (print_of bytes) (print_of own)) bytes own (is_same (print_of bytes) (print_of own))

pub same_bytes : (bytes own : List ℕ) → print_of bytes ≡ print_of own → true_bytes bytes own ≡ bytes
same_bytes bytes own is = rw (subst (λ print. same_print (print_of bytes) print ≡ true) is (same_is (print_of bytes))) refl

replied_so : (W : World) (why : Option CallRefusal) (m : Meant) (reply : Reply) → MayReply W why m reply → liken_reply W m reply ≡ reply
replied_so W None (Means k (Read name offset len)) (Data bytes) may = sym may.1
replied_so W (Some why) (Means k (Read name offset len)) (Data bytes) may = cc
replied_so W why m reply may = refl

told_so : (s : Superblock) (W : World) (call : DmCall) (reply : DmReply) → MayTell s W call reply → liken_told W call reply ≡ reply
told_so s W (ReadInvis token handle offset len) (told.Data bytes) may = ap told.Data (sym may.1)
told_so s W call reply may = refl

done_so : (s : Superblock) (W : World) (call : DmCall) → MayTell s W call told.Done → liken_done W call ≡ call
done_so s W (Seal token handle j entry) may = ap (λ (print : Fingerprint). Seal token handle j (entry_at (entry_place entry) print)) (sym may.1)
done_so s W (Restore token handle j bytes) may = ap (Restore token handle j) (same_bytes bytes (segment j (body_of handle.key W.files)) may.1)
done_so s W call may = refl

action_so : (s : Superblock) (W : World) (sid : Sid) (call : DmCall) (reply : DmReply) → MayTell s W call reply → liken_action W (Dm call) (Told reply) ≡ Dm call
action_so s W sid call told.Done may = ap Dm (done_so s W call may)
action_so s W sid call reply may = refl

answer_so : (s : Superblock) (W : World) (who : Actor) (what : Action) (answer : Answer) → MayAnswer s W who what answer → (liken_action W what answer ≡ what) × (liken_answer W who what answer ≡ answer)
answer_so s W (Caller c) (Issue call) (Replied reply) may = (refl, ap Replied (replied_so W (objection_for s W c (Issue call)) (meant_for W c (Issue call)) reply may))
answer_so s W (Caller c) Resume (Replied reply) may = (refl, ap Replied (replied_so W (objection_for s W c Resume) (meant_for W c Resume) reply may))
answer_so s W (Session sid) (Dm call) (Told reply) may = (action_so s W sid call reply may, ap Told (told_so s W call reply may))
answer_so s W Store Commit (Replied reply) may = (refl, refl)
answer_so s W who what answer may = absurd may

-- ---- a refusal stays

refused_reply : (W : World) (m : Meant) (why : CallRefusal) → liken_reply W m (Refused why) ≡ Refused why
refused_reply W (Means k (Read name offset len)) why = refl
refused_reply W m why = refl

pub refused_told : (W : World) (call : DmCall) (why : DmRefusal) → liken_told W call (told.Refused why) ≡ told.Refused why
refused_told W (ReadInvis token handle offset len) why = refl
refused_told W call why = refl

fault_so : (W : World) (who : Actor) (what : Action) → (liken_action W what (fault_of what) ≡ what) × (liken_answer W who what (fault_of what) ≡ fault_of what)
fault_so W (Caller c) (Issue call) = (refl, ap Replied (refused_reply W (meant_for W c (Issue call)) Disk))
fault_so W (Caller c) Resume = (refl, ap Replied (refused_reply W (meant_for W c Resume) Disk))
fault_so W (Session sid) (Dm call) = (refl, ap Told (refused_told W call dm.Disk))
fault_so W who (Dm call) = (refl, refl)
fault_so W who what = (refl, refl)

pub faulty_so : (W : World) (who : Actor) (what : Action) (answer : Answer) → IsFault who what answer → (liken_action W what answer ≡ what) × (liken_answer W who what answer ≡ answer)
faulty_so W who what answer is = subst (λ (a : Answer). (liken_action W what a ≡ what) × (liken_answer W who what a ≡ a)) (sym is.1) (fault_so W who what)

give_so : (s : Superblock) (W : World) (who : Actor) (what : Action) (answer : Answer) → MayGive s W who what answer → (liken_action W what answer ≡ what) × (liken_answer W who what answer ≡ answer)
give_so s W who what answer (inl is) = faulty_so W who what answer is
give_so s W who what answer (inr may) = answer_so s W who what answer may

entry_so : (e : Entry) (action : Action) (answer : Answer) → action ≡ e.action → answer ≡ e.answer → record { actor = e.actor; action = action; answer = answer } ≡ e
entry_so e action answer acts answers i = record { actor = e.actor; action = acts i; answer = answers i }

pub likened_so : (s : Superblock) (W : World) (e : Entry) → Allows s W e → likened W e ≡ e
likened_so s W e may = let so = give_so s W e.actor e.action e.answer may in entry_so e (liken_action W e.action e.answer) (liken_answer W e.actor e.action e.answer) so.0 so.1

-- ---- it is for a fault where the entry is

fault_replied : (W : World) (m : Meant) (reply : Reply) → is_fault (Replied (liken_reply W m reply)) ≡ is_fault (Replied reply)
fault_replied W (Means k (Read name offset len)) (Data bytes) = refl
fault_replied W m reply = refl

fault_told : (W : World) (call : DmCall) (reply : DmReply) → is_fault (Told (liken_told W call reply)) ≡ is_fault (Told reply)
fault_told W (ReadInvis token handle offset len) (told.Data bytes) = refl
fault_told W call reply = refl

pub same_fault : (W : World) (who : Actor) (what : Action) (answer : Answer) → is_fault (liken_answer W who what answer) ≡ is_fault answer
same_fault W (Caller c) (Issue call) (Replied reply) = fault_replied W (meant_for W c (Issue call)) reply
same_fault W (Caller c) Resume (Replied reply) = fault_replied W (meant_for W c Resume) reply
same_fault W (Session sid) (Dm call) (Told reply) = fault_told W call reply
same_fault W who what answer = refl
