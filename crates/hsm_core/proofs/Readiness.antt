-- What a resume would come to is told by the access that waits.
use Rattle.std.proofs.Common.{◌≡◌, ℕ, [], ◌∷◌, Bool, true, false, Option, Some, None, refl, ◌∙◌, subst}
use Rattle.std.specs.Prelude.{◌&&◌, not, is_some, if◌then◌else◌}
use Rattle.std.specs.Option.{option_map}
use Rattle.hsm_types.specs.Messages.{no_token}
use Rattle.hsm_types.specs.Refusals.{first_refusal}
use Rattle.hsm_types.specs.Rights.{conflict}
use Rattle.hsm_types.specs.declared.keys.FileKey.{FileKey}
use Rattle.hsm_types.specs.declared.keys.Token.{Token}
use Rattle.hsm_types.specs.declared.stores.Superblock.{Superblock}
use Rattle.hsm_types.specs.declared.calls.Call.{Call}
use Rattle.hsm_types.specs.declared.calls.Call.TheVariants.{Create, Read, Stat}
use Rattle.hsm_types.specs.declared.calls.CallRefusal.TheVariants.{Disk}
use Rattle.hsm_types.specs.declared.calls.Reply.TheVariants.{Refused}
use Rattle.hsm_types.specs.declared.dm.Kind.{Kind}
use Rattle.hsm_types.specs.declared.dm.Kind.TheVariants as kind
use Rattle.hsm_types.specs.declared.dm.Response.{Response}
use Rattle.hsm_types.specs.declared.dm.Response.TheVariants.{Continue, Abort, Media}
use Rattle.plain_model.specs.declared.facts.Facts.{Facts}
use Rattle.plain_model.specs.declared.facts.NoRoom.{NoRoom}
use Rattle.hsm_types.specs.Keyed.{find_key}
use Rattle.plain_model.specs.Accesses.{need_of, kind_of}
use Rattle.plain_model.specs.Ledger.{Means, goes_on, resumed, aborted, gone, objection_again}
use Rattle.plain_model.specs.Plain.{has_key}
use Rattle.plain_model.specs.State.{Flags, State, names_of}
use Rattle.plain_model.specs.Verdict.{Blocks, Posts, Lacks, Verdict, posts, without_room, is_taken, facts_of, touching, needing, lacking, reply_by, reply_where}
use Rattle.access_park.specs.declared.access.Access.{Access}
use Rattle.dm_service.specs.Tables.{waiting, pending_as, flags_in, flags_or_none}
use Rattle.file_store.specs.Stores.{superblock_of}
use Rattle.hsm_core.specs.Outcomes.{is_abort}
use Rattle.hsm_core.specs.Ready.{ready_by, ready, blocked_by, told_by, told_ready}
use Rattle.hsm_core.specs.Store.{Store, state_of}
use Rattle.hsm_core.specs.declared.store.Ready.TheVariants.{Now}
use Rattle.hsm_core.proofs.Replying.{listed_lives}

-- an access that is done, or told something else than a token that blocks it, ends or parks anew
done_ready : (st : State) (k : FileKey) (call : Call) (a : Access) → ready_by (Some a) (reply_by st k call None) ≡ Now
done_ready st k (Create name) a = refl
done_ready st k (Read name offset len) a = refl
done_ready st k (Stat name) a = refl
done_ready st k call a = refl

-- the rules on regions, segments and space block nothing
abbrev Unblocking : Verdict → Type 0
Unblocking (Some (Blocks t)) = ⊥
Unblocking v = Unit {0}

posts_unblocking : (asks : Bool) (kind : Option Kind) → Unblocking (posts asks kind)
posts_unblocking false kind = tt
posts_unblocking true None = tt
posts_unblocking true (Some kind) = tt

room_unblocking : (asks : Bool) (short : Option NoRoom) → Unblocking (without_room asks short)
room_unblocking asks None = tt
room_unblocking true (Some room) = tt
room_unblocking false (Some room) = tt

first_unblocking : (x y z : Verdict) → Unblocking x → Unblocking y → Unblocking z → Unblocking (first_refusal (x ∷ y ∷ z ∷ []))
first_unblocking (Some ruling) y z first second third = first
first_unblocking None (Some ruling) z first second third = second
first_unblocking None None (Some ruling) first second third = third
first_unblocking None None None first second third = tt

other_ready : (st : State) (k : FileKey) (call : Call) (a : Access) (v : Verdict) → Unblocking v → ready_by (Some a) (reply_by st k call v) ≡ Now
other_ready st k call a None is = done_ready st k call a
other_ready st k call a (Some (Blocks t)) is = absurd is
other_ready st k call a (Some (Posts kind)) is = refl
other_ready st k call a (Some (Lacks need free)) is = refl

-- so a right decides, where one excludes it
rules_ready : (st : State) (k : FileKey) (call : Call) (a : Access) (other : Option Token) (x y z : Verdict) → Unblocking x → Unblocking y → Unblocking z
    → ready_by (Some a) (reply_by st k call (first_refusal (option_map Blocks other ∷ x ∷ y ∷ z ∷ []))) ≡ blocked_by other
rules_ready st k call a None x y z first second third = other_ready st k call a (first_refusal (x ∷ y ∷ z ∷ [])) (first_unblocking x y z first second third)
rules_ready st k call a (Some t) x y z first second third = refl

module _ (s : Superblock) (st : State) (fl : Flags) (a : Access) where
  abbrev other : Option Token
  other = conflict a.key (need_of a.call) no_token st.rights

  abbrev facts : Facts
  facts = facts_of s st.held a.key a.call

  means_ready : ready_by (Some a) (reply_where s st fl None (Means a.key a.call)) ≡ blocked_by other
  means_ready =
      rules_ready st a.key a.call a other (touching fl facts a.call) (needing fl facts a.call) (lacking fl facts st.sessions) (posts_unblocking (not fl.cleared && facts.touches) (kind_of a.call))
      (posts_unblocking (fl.cleared && facts.needs) (kind_of a.call))
      (room_unblocking (not fl.spaced && is_taken kind.NoSpace st.sessions) facts.short)

  -- unless it was aborted, or its file is gone
  objected_ready : (answer : Option Response) (live : Bool) → ready_by (Some a) (reply_where s st fl (first_refusal (aborted answer ∷ gone live ∷ [])) (Means a.key a.call)) ≡ (if not (is_abort answer) && live then blocked_by other else Now)
  objected_ready (Some (Abort error)) live = refl
  objected_ready (Some (Media fault)) live = refl
  objected_ready (Some Continue) true = means_ready
  objected_ready (Some Continue) false = refl
  objected_ready None true = means_ready
  objected_ready None false = refl

  goes_ready : (live : Bool) (token : Option Token) (answer : Option Response) → ready_by (Some a) (reply_where s st fl (first_refusal (aborted answer ∷ gone live ∷ [])) (goes_on (pending_as a) token answer)) ≡ told_by live other token answer
  goes_ready live (Some t) None = refl
  goes_ready live None answer = objected_ready answer live
  goes_ready live (Some t) (Some response) = objected_ready (Some response) live

  by_access : ready_by (Some a) (reply_where s st fl (objection_again (names_of st.held.files) (Some (pending_as a))) (resumed (Some (pending_as a)))) ≡ told_by (is_some (find_key (λ f. f.key) a.key st.held.files)) other a.token a.answer
  by_access = subst (λ (live : Bool). ready_by (Some a) (reply_where s st fl (objection_again (names_of st.held.files) (Some (pending_as a))) (resumed (Some (pending_as a)))) ≡ told_by live other a.token a.answer) (listed_lives a.key st.held.files)
      (goes_ready (has_key a.key (names_of st.held.files)) a.token a.answer)

pub ready_is : {D : Type 0} (s : Store D) (c : ℕ) (a : Access) → waiting s.tables c ≡ Some a
    → ready s c ≡ told_ready s.files.failed (is_some (find_key (λ f. f.key) a.key s.files.held.files)) (conflict a.key (need_of a.call) no_token s.tables.rights) a.token a.answer
ready_is s c a waits =
    (λ i. ready_by (waits i) (if s.files.failed then Refused Disk else reply_where (superblock_of s.opened) (state_of s) (flags_or_none (waits i)) (objection_again (names_of s.files.held.files) (option_map pending_as (waits i))) (resumed (option_map pending_as (waits i)))))
    ∙ by_fault s.files.failed
  where
    by_fault : (failed : Bool) → ready_by (Some a) (if failed then Refused Disk else reply_where (superblock_of s.opened) (state_of s) (flags_in a) (objection_again (names_of s.files.held.files) (Some (pending_as a))) (resumed (Some (pending_as a))))
        ≡ told_ready failed (is_some (find_key (λ f. f.key) a.key s.files.held.files)) (conflict a.key (need_of a.call) no_token s.tables.rights) a.token a.answer
    by_fault true = refl
    by_fault false = by_access (superblock_of s.opened) (state_of s) (flags_in a) a
