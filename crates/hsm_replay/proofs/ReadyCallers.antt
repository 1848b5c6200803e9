-- Whose access may go on: where the store says that it may now, and as long as the store works.
use Rattle.std.proofs.Common.{◌≡◌, ◌≢◌, ◌↔◌, ◌∙◌, ℕ, Bool, true, false, List, Option, Some, None, inl, inr, refl, sym, ap, subst}
use Rattle.std.specs.Option.{option_map}
use Rattle.std.specs.Prelude.{if◌then◌else◌}
use Rattle.disk_model.specs.declared.device.Disk as disk
use Rattle.media_model.specs.declared.drive.Drive as drive
use Rattle.hsm_types.specs.declared.calls.CallRefusal.TheVariants.{Disk}
use Rattle.hsm_types.specs.declared.calls.Reply.{Reply}
use Rattle.hsm_types.specs.declared.calls.Reply.TheVariants.{Blocked, Refused, Still}
use Rattle.hsm_types.specs.declared.keys.Token.{Token}
use Rattle.plain_model.specs.State.{State}
use Rattle.plain_model.specs.Verdict.{reply_to}
use Rattle.plain_model.specs.declared.entries.Action.TheVariants.{Resume}
use Rattle.plain_model.specs.declared.entries.Entry.{Entry}
use Rattle.access_park.specs.declared.access.Access.{Access}
use Rattle.dm_service.specs.Tables.{pending_as, waiting}
use Rattle.file_store.specs.Stores.{Store as FileStore, superblock_of}
use Rattle.hsm_core.specs.Kept.{IsKept}
use Rattle.hsm_core.specs.Ready.{ready, ready_by}
use Rattle.hsm_core.specs.Store.{Store, state_of}
use Rattle.hsm_core.specs.declared.store.Ready.TheVariants.{Idle, Now, Waits}
use Rattle.hsm_replay.specs.Deeds.{WorksOn}
use Rattle.hsm_replay.specs.ReadyCallers.{CanGoOn, MayGoOn, may_go_on_by}

-- ---- an access that waits, and what a resume would answer

module _ (pending : Option Access) (reply : Reply) (now : ready_by pending reply ≡ Now) where
  now_waits : pending ≢ None
  now_waits none = let wrong : Idle ≡ Now = sym (ap (λ (o : Option Access). ready_by o reply) none) ∙ now in cc wrong

  now_still : (a : Access) → pending ≡ Some a → (t : Token) → reply ≢ Still t
  now_still a some t still =
      let wrong : Waits t ≡ Now = sym (ap (λ (o : Option Access). ready_by o (Still t)) some) ∙ sym (ap (λ (r : Reply). ready_by pending r) still) ∙ now in
      cc wrong

  now_blocked : (a : Access) → pending ≡ Some a → (t : Token) → reply ≢ Blocked t
  now_blocked a some t blocked =
      let wrong : Waits t ≡ Now = sym (ap (λ (o : Option Access). ready_by o (Blocked t)) some) ∙ sym (ap (λ (r : Reply). ready_by pending r) blocked) ∙ now in
      cc wrong

is_now : (pending : Option Access) (reply : Reply) → pending ≢ None → ((t : Token) → reply ≢ Still t) → ((t : Token) → reply ≢ Blocked t) → ready_by pending reply ≡ Now
is_now None reply waits still blocked = absurd (waits refl)
is_now (Some a) (Still t) waits still blocked = absurd (still t refl)
is_now (Some a) (Blocked t) waits still blocked = absurd (blocked t refl)
is_now (Some a) reply waits still blocked = refl

some_of : (pending : Option Access) → pending ≢ None → (a : Access) × (pending ≡ Some a)
some_of None waits = absurd (waits refl)
some_of (Some a) waits = (a, refl)

some_pending : (pending : Option Access) → pending ≢ None → option_map pending_as pending ≢ None
some_pending None waits none = waits refl
some_pending (Some a) waits none = let wrong : Some (pending_as a) ≡ None = none in cc wrong

-- ---- a store

module _ {D : Type 0} (g : disk.Ghosts D) (s : Store D) (kept : IsKept g s) (caller : ℕ) where
  abbrev reply_if : Bool → Reply
  reply_if failed = if failed then Refused Disk else reply_to (superblock_of s.opened) (state_of s) caller Resume

  abbrev MayIf : Bool → Type 0
  MayIf failed = may_go_on_by failed s.tables s.opened s.history caller

  -- which its state tells while it works
  goes_if : (failed : Bool) → s.files.failed ≡ failed → ready_by (waiting s.tables caller) (reply_if failed) ≡ Now → MayIf failed
  goes_if true is now = now_waits (waiting s.tables caller) (reply_if true) now
  goes_if false is now =
      let waits : waiting s.tables caller ≢ None = now_waits (waiting s.tables caller) (reply_if false) now in
      let some = some_of (waiting s.tables caller) waits in
      let can : CanGoOn (superblock_of s.opened) (state_of s) caller = record {
        waits = some_pending (waiting s.tables caller) waits;
        still = now_still (waiting s.tables caller) (reply_if false) now some.0 some.1;
        blocked = now_blocked (waiting s.tables caller) (reply_if false) now some.0 some.1;
      } in
      subst (λ (st : State). CanGoOn (superblock_of s.opened) st caller) (kept.state is) can

  now_if : (failed : Bool) → s.files.failed ≡ failed → MayIf failed → ready_by (waiting s.tables caller) (reply_if failed) ≡ Now
  now_if true is waits = is_now (waiting s.tables caller) (Refused Disk) waits (λ t wrong. cc wrong) (λ t wrong. cc wrong)
  now_if false is may =
      let can : CanGoOn (superblock_of s.opened) (state_of s) caller = subst (λ (st : State). CanGoOn (superblock_of s.opened) st caller) (sym (kept.state is)) may in
      is_now (waiting s.tables caller) (reply_if false) (λ none. can.waits (ap (option_map pending_as) none)) can.still can.blocked

  -- an access may go on behind the history where it may now
  pub ready_goes : (ready s caller ≡ Now) ↔ MayGoOn s s.history caller
  ready_goes = (goes_if s.files.failed refl, now_if s.files.failed refl)

-- As long as a store works the same accesses may go on behind the same entries.
module _ {D M : Type 0} (h : drive.Ghosts M) (old new : Store D) (opened : new.opened ≡ old.opened) where
  pub goes_as : WorksOn h old new → (P : (List Entry → ℕ → Type 0) → Type 0) → P (MayGoOn new) → P (MayGoOn old)
  goes_as (inl same) P is = subst (λ (s : Store D). P (MayGoOn s)) same is
  goes_as (inr works) P is =
      let working : P (may_go_on_by false new.tables new.opened) = subst (λ (failed : Bool). P (may_go_on_by failed new.tables new.opened)) works.1 is in
      let before : P (may_go_on_by false old.tables old.opened) = subst (λ (o : FileStore D). P (may_go_on_by false old.tables o)) opened working in
      subst (λ (failed : Bool). P (may_go_on_by failed old.tables old.opened)) (sym works.0) before
