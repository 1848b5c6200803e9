-- A call beside which no access of its caller waits isn't told to wait.
use Rattle.std.proofs.Common.{◌≡◌, ◌∙◌, ℕ, List, [], ◌∷◌, Bool, true, false, Option, Some, None, refl, sym, ap, subst}
use Rattle.std.specs.Prelude.{length, is_some, nat_lt, nat_le, ◌==◌, ◌+◌, ◌&&◌, if◌then◌else◌}
use Rattle.std.specs.Option.{option_map}
use Rattle.hsm_types.specs.Limits.{access_bytes}
use Rattle.hsm_types.specs.Names.{is_name}
use Rattle.hsm_types.specs.Refusals.{first_refusal}
use Rattle.hsm_types.specs.declared.calls.Call.{Call}
use Rattle.hsm_types.specs.declared.calls.Call.TheVariants.{Create, Read, Write, Truncate, Remove, Stat, Sync}
use Rattle.hsm_types.specs.declared.calls.CallRefusal.{CallRefusal}
use Rattle.hsm_types.specs.declared.calls.CallRefusal.TheVariants.{Waiting}
use Rattle.hsm_types.specs.declared.calls.Reply.{Reply}
use Rattle.hsm_types.specs.declared.calls.Reply.TheVariants.{Refused, Blocked, Still}
use Rattle.hsm_types.specs.declared.keys.FileKey.{FileKey}
use Rattle.hsm_types.specs.declared.stores.Limits.{Limits}
use Rattle.hsm_types.specs.declared.stores.Superblock.{Superblock}
use Rattle.plain_model.specs.declared.entries.Action.TheVariants.{Issue}
use Rattle.plain_model.specs.declared.entries.Actor.TheVariants.{Caller}
use Rattle.plain_model.specs.declared.entries.Answer.{Answer}
use Rattle.plain_model.specs.declared.entries.Answer.TheVariants.{Call as Replied}
use Rattle.plain_model.specs.Exact.{IsOwnSeen}
use Rattle.plain_model.specs.Ledger.{Access as Pending, Means, issued}
use Rattle.plain_model.specs.Plain.{Listed, named, bad_name, bad_length, missing, exists, too_big, no_inodes, refusal_of, reply_on}
use Rattle.plain_model.specs.PlainFold.{is_waiting}
use Rattle.plain_model.specs.State.{Flags, State, no_flags, names_of}
use Rattle.plain_model.specs.Verdict.{Blocks, Posts, Lacks, Verdict, verdict, reply_by, reply_where, reply_to}
use Rattle.access_park.specs.declared.access.Access.{Access}
use Rattle.dm_service.specs.Tables.{waiting, pending_as}
use Rattle.hsm_core.specs.Ready.{ready_by, ready, resume_reply}
use Rattle.hsm_core.specs.Store.{Store, state_of}
use Rattle.hsm_core.specs.declared.store.Ready.TheVariants.{Idle, Now, Waits}
use Rattle.call_lists.specs.Made.{call_made}

-- ---- what refuses a call by itself

abbrev Other : Option CallRefusal → Type 0
Other (Some Waiting) = ⊥
Other why = Unit {0}

other_if : (b : Bool) (x y : Option CallRefusal) → Other x → Other y → Other (if b then x else y)
other_if true x y here there = here
other_if false x y here there = there

other_first : (x : Option CallRefusal) (rest : List (Option CallRefusal)) → Other x → Other (first_refusal rest) → Other (first_refusal (x ∷ rest))
other_first None rest here there = there
other_first (Some why) rest here there = here

module _ (files : List Listed) where
  of_name : (name : List ℕ) → Other (bad_name name)
  of_name name = other_if (is_name name) _ _ tt tt

  of_length : (len : ℕ) → Other (bad_length len)
  of_length len = other_if (nat_le 1 len && nat_le len access_bytes) _ _ tt tt

  of_missing : (name : List ℕ) → Other (missing name files)
  of_missing name = other_if (is_some (named name files)) _ _ tt tt

  of_exists : (name : List ℕ) → Other (exists name files)
  of_exists name = other_if (is_some (named name files)) _ _ tt tt

  of_end : (limits : Limits) (end : ℕ) → Other (too_big limits end)
  of_end limits end = other_if (nat_lt limits.bytes end) _ _ tt tt

  of_inodes : (count : ℕ) → Other (no_inodes count files)
  of_inodes count = other_if (length files == count) _ _ tt tt

  on_name : (name : List ℕ) (rest : List (Option CallRefusal)) → Other (first_refusal rest) → Other (first_refusal (bad_name name ∷ rest))
  on_name name rest there = other_first (bad_name name) rest (of_name name) there

  on_file : (name : List ℕ) (rest : List (Option CallRefusal)) → Other (first_refusal rest) → Other (first_refusal (missing name files ∷ rest))
  on_file name rest there = other_first (missing name files) rest (of_missing name) there

  other_refusal : (s : Superblock) (call : Call) → Other (refusal_of s files call)
  other_refusal s (Create name) = on_name name _ (other_first (exists name files) _ (of_exists name) (other_first (no_inodes s.geometry.files files) _ (of_inodes s.geometry.files) tt))
  other_refusal s (Read name offset len) = on_name name _ (other_first (bad_length len) _ (of_length len) (on_file name _ tt))
  other_refusal s (Write name offset bytes) =
      on_name name _ (other_first (bad_length (length bytes)) _ (of_length (length bytes)) (on_file name _ (other_first (too_big s.geometry.limits (offset + length bytes)) _ (of_end s.geometry.limits (offset + length bytes)) tt)))
  other_refusal s (Truncate name size) = on_name name _ (on_file name _ (other_first (too_big s.geometry.limits size) _ (of_end s.geometry.limits size) tt))
  other_refusal s (Remove name) = on_name name _ (on_file name _ tt)
  other_refusal s (Stat name) = on_name name _ (on_file name _ tt)
  other_refusal s Sync = tt

-- ---- the reply

refused_other : (why : CallRefusal) → Other (Some why) → is_waiting (Refused why) ≡ false
refused_other Waiting is = absurd is
refused_other why is = refl

done_other : (k : FileKey) (body : List ℕ) (call : Call) → is_waiting (reply_on k body call) ≡ false
done_other k body (Create name) = refl
done_other k body (Read name offset len) = refl
done_other k body (Stat name) = refl
done_other k body call = refl

by_verdict : (st : State) (k : FileKey) (call : Call) (v : Verdict) → is_waiting (reply_by st k call v) ≡ false
by_verdict st k call None = done_other _ _ call
by_verdict st k call (Some (Blocks t)) = refl
by_verdict st k call (Some (Posts kind)) = refl
by_verdict st k call (Some (Lacks need free)) = refl

replied_other : (s : Superblock) (st : State) (fl : Flags) (why : Option CallRefusal) (k : FileKey) (call : Call) → Other why → is_waiting (reply_where s st fl why (Means k call)) ≡ false
replied_other s st fl None k call is = by_verdict st k call (verdict s st fl k call)
replied_other s st fl (Some why) k call is = refused_other why is

issue_other : (s : Superblock) (st : State) (c : ℕ) (call : Call) → st.ledger.pending c ≡ None → is_waiting (reply_to s st c (Issue call)) ≡ false
issue_other s st c call none =
    subst (λ (w : Option Pending). is_waiting (reply_where s st no_flags (refusal_of s (names_of st.held.files) call) (issued (names_of st.held.files) w call)) ≡ false) (sym none)
    (replied_other s st no_flags (refusal_of s (names_of st.held.files) call) _ call (other_refusal (names_of st.held.files) s call))

-- so the call is made
pub issue_made : (Tells : Type 0) (s : Superblock) (st : State) (c : ℕ) (call : Call) (given : Answer) → IsOwnSeen Tells s st (Caller c) (Issue call) given → st.ledger.pending c ≡ None → call_made (Issue call) given ≡ Some call
issue_made Tells s st c call given own none =
    let over : State = record st { held = own.0 } in
    ap (λ (a : Answer). call_made (Issue call) a) own.2.1 ∙ ap (λ (b : Bool). if b then None else Some call) (issue_other s over c call none)

-- ---- no access waits

idle_waits : (w : Option Access) (reply : Reply) → ready_by w reply ≡ Idle → w ≡ None
idle_waits None reply is = refl
idle_waits (Some a) (Still t) is = let wrong : Waits t ≡ Idle = is in cc wrong
idle_waits (Some a) (Blocked t) is = let wrong : Waits t ≡ Idle = is in cc wrong
idle_waits (Some a) reply is = let wrong : Now ≡ Idle = is in cc wrong

pub idle_pending : {D : Type 0} (s : Store D) (c : ℕ) → ready s c ≡ Idle → (state_of s).ledger.pending c ≡ None
idle_pending s c is = ap (λ (w : Option Access). option_map pending_as w) (idle_waits (waiting s.tables c) (resume_reply s c) is)
