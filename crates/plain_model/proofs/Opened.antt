-- An opening with a segment that is away stands for a plain map, and an exact run from it, in which the segment comes back and goes away again, is good: the
-- premises of the laws can be met.
use Rattle.std.proofs.Common.{◌≡◌, ◌≤◌, ◌*◌, ℕ, List, [], ◌∷◌, get_or, Bool, true, false, cond, Option, Some, None, inr, refl, sym, ◌∙◌, subst, arith}
use Rattle.std.proofs.lemmas.Bool.{false≢true, eqb-true, eqb-false}
use Rattle.std.proofs.lemmas.List.{get_or_past}
use Rattle.std.specs.Prelude.{◌/◌, nat_eq, IfSome}
use Rattle.sha2.specs.Sha256.{first_words, schedule, rounds, compress, hash_after, digest_bytes, sha256}
use Rattle.hsm_types.specs.Limits.{segment_bytes, small_geometry}
use Rattle.hsm_types.specs.Messages.{packed}
use Rattle.hsm_types.specs.Regions.{covers}
use Rattle.hsm_types.specs.Stubs.{Stubs, print_of, stub_at, is_offline, entry_at, entry_print}
use Rattle.hsm_types.specs.declared.calls.Call.TheVariants.{Read}
use Rattle.hsm_types.specs.declared.calls.Reply.TheVariants.{Data, Parked}
use Rattle.hsm_types.specs.declared.dm.DmCall.TheVariants.{CreateSession, SetDisp, GetEvents, RequestRight, ReadInvis, PunchHole, GetAllocInfo}
use Rattle.hsm_types.specs.declared.dm.DmCall.TheVariants.{Restore, Respond}
use Rattle.hsm_types.specs.declared.dm.DmRefusal.TheVariants as why
use Rattle.hsm_types.specs.declared.dm.DmReply.TheVariants as told
use Rattle.hsm_types.specs.declared.dm.Kind.TheVariants as kind
use Rattle.hsm_types.specs.declared.dm.Response.TheVariants.{Continue}
use Rattle.hsm_types.specs.declared.dm.Right.TheVariants.{Excl}
use Rattle.hsm_types.specs.declared.keys.Handle.{Handle}
use Rattle.hsm_types.specs.declared.keys.Token.{Token}
use Rattle.hsm_types.specs.declared.messages.Message.{Message}
use Rattle.hsm_types.specs.declared.stores.Superblock.{Superblock}
use Rattle.hsm_types.specs.declared.stubs.Segment.TheVariants.{Sealed}
use Rattle.hsm_types.specs.declared.stubs.Stub.{Stub}
use Rattle.hsm_types.specs.declared.stubs.StubEntry.{StubEntry}
use Rattle.plain_model.specs.declared.entries.Entry.{Entry}
use Rattle.plain_model.specs.declared.entries.Actor.TheVariants.{Caller}
use Rattle.plain_model.specs.declared.entries.Action.TheVariants.{Issue, Resume}
use Rattle.plain_model.specs.declared.entries.Answer.TheVariants.{Call as Replied}
use Rattle.plain_model.specs.Accesses.{event_message}
use Rattle.plain_model.specs.Plain.{File, segment}
use Rattle.plain_model.specs.State.{FileState, Held}
use Rattle.plain_model.specs.Stands.{HasBody, Stands}
use Rattle.plain_model.specs.Laws.{IsRun, IsGoodFrom}
use Rattle.plain_model.proofs.Examples.{sid, by, one, all, no_fault}
use Rattle.plain_model.proofs.Goods.{run_is_good}

abbrev small : Superblock
small = record { geometry = small_geometry; fsid = 5 }

abbrev a : List ℕ
a = 97 ∷ []

abbrev abc : List ℕ
abc = 97 ∷ 98 ∷ 99 ∷ []

abbrev handle : Handle
handle = record { fsid = 5; key = one }

abbrev entry : StubEntry
entry = entry_at (record { volume = 0; object = 0 }) (print_of abc)

abbrev away : Stub
away = record { entry = entry; offline = true }

abbrev stubs : Stubs
stubs = (0, away) ∷ []

-- the bytes of its only segment aren't here
abbrev held_away : FileState
held_away = record { key = one; name = a; body = 0 ∷ 0 ∷ 0 ∷ []; mapped = false ∷ []; kept = record { regions = all; attributes = []; stubs = stubs } }

abbrev opened : Held
opened = record { files = held_away ∷ []; next = 2 }

abbrev plain : List File
plain = record { key = one; name = a; body = abc } ∷ []

-- ---- the opening stands for the map

at_each : (P : ℕ → Option Stub → Type 0) (j : ℕ) → P 0 (Some away) → ((j ≡ 0 → ⊥) → P j None) → P j (stub_at j stubs)
at_each P j here there = if_it (nat_eq j 0) refl
  where
    if_it : (b : Bool) → nat_eq j 0 ≡ b → P j (cond b (Some away) None)
    if_it true is = subst (λ n. P n (Some away)) (sym (eqb-true j 0 is)) here
    if_it false is = there (eqb-false j 0 is)

far : (i j : ℕ) → i / segment_bytes ≡ j → (j ≡ 0 → ⊥) → 3 ≤ i
far i j same other = omega (arith, same, other)

has_body : HasBody held_away abc
has_body = record {
  size = refl;
  bytes = λ i. at_each (λ j stub. i / segment_bytes ≡ j → is_offline stub ≡ false → get_or (0 ∷ 0 ∷ 0 ∷ []) i 0 ≡ get_or abc i 0) (i / segment_bytes) (λ same here. absurd (false≢true (sym here)))
      (λ other same here. get_or_past (0 ∷ 0 ∷ 0 ∷ []) i 0 (far i (i / segment_bytes) same other) ∙ sym (get_or_past abc i 0 (far i (i / segment_bytes) same other))) refl;
  prints = λ j. at_each (λ q stub. IfSome stub (λ (x : Stub). (entry_print x.entry) ≡ print_of (segment q abc))) j refl (λ other. tt);
  within = λ j. at_each (λ q stub. 3 ≤ segment_bytes * q → stub ≡ None) j (λ past. absurd (omega (arith, past))) (λ other past. refl);
  covered = λ j. at_each (λ q stub. is_offline stub ≡ true → covers all q ≡ true) j (λ gone. refl) (λ other gone. absurd (false≢true gone));
}

stands : Stands opened.files plain
stands = (record { key = refl; name = refl; body = has_body }, tt)

-- ---- a run

abbrev token : Token
token = record { 0 = 1 }

abbrev message : Message
message = event_message kind.Read token handle (record { offset = 0; len = 3 })

-- a read parks; its segment is brought back, goes away once more and is brought back again, and the read is done
abbrev history : List Entry
history =
    by 0 (CreateSession (sid 0) a) (told.Session (sid 1))
    ∷ by 1 (SetDisp (record { read = true; write = false; truncate = false; no_space = false })) told.Done
    ∷ record { actor = Caller 1; action = Issue (Read a 0 3); answer = Replied (Parked token) }
    ∷ by 1 (GetEvents 0 4096) (told.Packed (packed (message ∷ [])) (token ∷ []))
    ∷ by 1 (RequestRight token handle Excl) told.Done
    ∷ by 1 (ReadInvis token handle 0 3) (told.Refused (why.Offline 0))
    ∷ by 1 (Restore token handle 0 abc) told.Done
    ∷ by 1 (PunchHole token handle 0 0) told.Done
    ∷ by 1 (Restore token handle 0 abc) told.Done
    ∷ by 1 (GetAllocInfo token handle) (told.Alloc (Sealed 1 entry ∷ []))
    ∷ by 1 (Respond token Continue) told.Done
    ∷ record { actor = Caller 1; action = Resume; answer = Replied (Data abc) }
    ∷ []

run : IsRun small 7 opened history
unfolding first_words schedule rounds compress hash_after digest_bytes sha256
run = record {
  opening = omega arith;
  exact = (inr (tt, refl), no_fault, (inr (tt, refl), no_fault, (inr (tt, refl), no_fault, (inr (tt, refl), no_fault, (inr (tt, refl), no_fault, (inr (tt, refl), no_fault, (inr (tt, refl), no_fault, (inr (tt, refl), no_fault, (inr (tt, refl), no_fault, (inr (tt, refl), no_fault, (inr (tt, refl), no_fault, (inr (tt, refl), no_fault, tt))))))))))));
}

pub run_is_good_from_plain : IsGoodFrom small 7 opened history plain
run_is_good_from_plain = (run_is_good small 7 opened history run).good plain stands
