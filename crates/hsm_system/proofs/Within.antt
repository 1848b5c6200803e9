-- What migration hears of its acts is within what it may hear.
use Rattle.std.proofs.Common.{◌≡◌, ◌≤◌, ◌+◌, ◌∷◌, ◌++◌, [], ℕ, true, List, take, drop, length, min, Option, None, Some, inl, inr, refl, sym, subst}
use native.Mathlib.Omega.{arith}
use Rattle.std.proofs.lemmas.Bool.{leb-true}
use Rattle.std.proofs.lemmas.List.{length-take}
use Rattle.std.specs.Prelude.{nat_le, ◌&&◌}
use Rattle.disk_model.specs.declared.device.Disk as disk
use Rattle.hsm_types.specs.Calls.{scope_of}
use Rattle.hsm_types.specs.Limits.{segment_bytes, access_bytes}
use Rattle.hsm_types.specs.Refusals.{first_refusal}
use Rattle.hsm_types.specs.declared.daemons.Act.{Act}
use Rattle.hsm_types.specs.declared.daemons.Act.TheVariants.{Dm}
use Rattle.hsm_types.specs.declared.daemons.Daemon.{Daemon}
use Rattle.hsm_types.specs.declared.daemons.Daemon.TheVariants.{Recall, Migrate}
use Rattle.hsm_types.specs.declared.daemons.Heard.{Heard}
use Rattle.hsm_types.specs.declared.daemons.Heard.TheVariants as heard
use Rattle.hsm_types.specs.declared.dm.DmCall.{DmCall}
use Rattle.hsm_types.specs.declared.dm.DmCall.TheVariants.{ReadInvis, GetDmAttr}
use Rattle.hsm_types.specs.declared.dm.DmRefusal.{DmRefusal}
use Rattle.hsm_types.specs.declared.dm.DmRefusal.TheVariants as dm
use Rattle.hsm_types.specs.declared.dm.DmReply.{DmReply}
use Rattle.hsm_types.specs.declared.dm.DmReply.TheVariants.{Refused}
use Rattle.hsm_types.specs.declared.keys.Sid.{Sid}
use Rattle.hsm_types.specs.declared.stores.Superblock.{Superblock}
use Rattle.plain_model.specs.declared.entries.Answer.TheVariants.{Dm as Told}
use Rattle.plain_model.specs.Segments.{bad_access, any_away, reading_refusal}
use Rattle.plain_model.specs.Services.{scope_refusals, service, dm_judged, dm_reply_where, dm_reply_to}
use Rattle.plain_model.specs.State.{FileState, State, file_at}
use Rattle.plain_model.proofs.Judged.{none_first, passes, second_holds}
use Rattle.file_store.specs.Stores.{superblock_of}
use Rattle.hsm_core.specs.Answers.{IsTold}
use Rattle.hsm_core.specs.Store.{Store, state_of}
use Rattle.hsm_policy.specs.Settings.{Numbers}
use Rattle.migrate_daemon.specs.Known.{Known}
use Rattle.migrate_daemon.specs.Machine.{MayGive, IsWithin}
use Rattle.migrate_daemon.specs.Passes.{Pass}
use Rattle.hsm_system.specs.Asking.{GivesNoValue, AsksNoValue}
use Rattle.hsm_system.specs.Systems.{System, IsSystem, Awaits}
use Rattle.hsm_system.proofs.Waiting.{sound_one}

last_none : {R : Type 0} (xs : List (Option R)) (own : Option R) → first_refusal (xs ++ own ∷ []) ≡ None → own ≡ None
last_none [] own is = (none_first own [] is).0
last_none (x ∷ rest) own is = last_none rest own (none_first x (rest ++ own ∷ []) is).1

-- a read that nothing refuses asks for at most the bytes of a segment
read_within : (f : FileState) (offset len : ℕ) → reading_refusal f offset len ≡ None → length (take len (drop offset f.body)) ≤ segment_bytes
read_within f offset len none =
    let asked : nat_le len access_bytes ≡ true = second_holds (nat_le 1 len) (nat_le len access_bytes) (passes (nat_le 1 len && nat_le len access_bytes) dm.BadRange (none_first (bad_access len) (any_away f offset (min (offset + len) (length f.body)) ∷ []) none).0) in
    omega (arith, leb-true len access_bytes asked, length-take len (drop offset f.body))

module _ (s : Superblock) (st : State) (sid : Sid) where
  within_where : (why : Option DmRefusal) (call : DmCall) → GivesNoValue call → why ≡ dm_judged s st sid call → IsWithin (heard.Dm (dm_reply_where why s st sid call))
  within_where (Some why) call asks is = tt
  within_where None (ReadInvis t h offset len) asks is =
      read_within (file_at h.key st.held.files) offset len (last_none (scope_refusals s st sid (scope_of (ReadInvis t h offset len))) (service s st sid (ReadInvis t h offset len)).refusal (sym is))
  within_where None (GetDmAttr t h name) asks is = absurd asks
  within_where None call asks is = tt

told_within : {D : Type 0} (g : disk.Ghosts D) (old new : Store D) (sid : Sid) (call : DmCall) (reply : DmReply) → GivesNoValue call → IsTold g old sid call reply new → IsWithin (heard.Dm reply)
told_within g old new sid call reply asks (inl closed) = let given : Told reply ≡ Told (Refused dm.Disk) = closed.answer in let is : reply ≡ Refused dm.Disk = cc given in rw is tt
told_within g old new sid call reply asks (inr (inl lacks)) = let given : Told reply ≡ Told (Refused dm.Memory) = lacks.answer in let is : reply ≡ Refused dm.Memory = cc given in rw is tt
told_within g old new sid call reply asks (inr (inr (inl failed))) = let given : Told reply ≡ Told (Refused dm.Disk) = failed.answer in let is : reply ≡ Refused dm.Disk = cc given in rw is tt
told_within g old new sid call reply asks (inr (inr (inr done))) =
    let seen : State = record (state_of old) { held = done.answer.0 } in
    let given : Told reply ≡ Told (dm_reply_to (superblock_of old.opened) seen sid call) = done.answer.2.1 in
    let is : reply ≡ dm_reply_to (superblock_of old.opened) seen sid call = cc given in
    rw is (within_where (superblock_of old.opened) seen sid (dm_judged (superblock_of old.opened) seen sid call) call asks refl)

asks_no_value : (limits : Numbers) (k : Known) (before after : Pass) (asked : Act) (last : Heard) (sid : Sid) (call : DmCall) → MayGive limits k before after asked last (Dm sid call) → GivesNoValue call
asks_no_value limits k before after asked last sid (GetDmAttr t h name) may = absurd may.1
asks_no_value limits k before after asked last sid call may = tt

-- so is what it hears of an act that it may give
pub asks_none : (limits : Numbers) (k : Known) (before after : Pass) (asked : Act) (last : Heard) (act : Act) → MayGive limits k before after asked last act → AsksNoValue act
asks_none limits k before after asked last (Dm sid call) may = asks_no_value limits k before after asked last sid call may
asks_none limits k before after asked last act may = tt

-- what is heard of the call that migration has given
module _ {D : Type 0} (g : disk.Ghosts D) (here old : System D) (same : here ≡ old) (new : Store D) (sid : Sid) (call : DmCall) (reply : DmReply) (is : IsSystem here) where
  pub call_within : (daemon : Daemon) (told : Heard) → Awaits daemon (Dm sid call) old → IsTold g here.store sid call reply new → told ≡ heard.Dm reply → daemon ≡ Migrate → IsWithin told
  call_within Recall told awaits answered same_told of = let wrong : Recall ≡ Migrate = of in cc wrong
  call_within Migrate told awaits answered same_told of =
      let waits : Awaits Migrate (Dm sid call) here = subst (λ (s : System D). Awaits Migrate (Dm sid call) s) (sym same) awaits in
      let sound = sound_one _ _ _ here.migrate is.migrate waits.0 waits.1 in
      subst IsWithin (sym same_told) (told_within g here.store new sid call reply (subst AsksNoValue waits.3 sound.knows.1) answered)
