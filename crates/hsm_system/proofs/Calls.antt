-- What the history has of a session's call, and what is heard of it.
use Rattle.std.proofs.Common.{◌≡◌, ◌∙◌, ◌∷◌, ◌++◌, [], true, false, inl, inr, sym, ap, subst}
use Rattle.disk_model.specs.declared.device.Disk as disk
use Rattle.disk_model.specs.Moments.{Tells}
use Rattle.hsm_types.specs.declared.daemons.Daemon.{Daemon}
use Rattle.hsm_types.specs.declared.daemons.Heard.{Heard}
use Rattle.hsm_types.specs.declared.daemons.Heard.TheVariants as heard
use Rattle.hsm_types.specs.declared.daemons.Heard.TheVariants.{Nothing}
use Rattle.hsm_types.specs.declared.dm.DmCall.{DmCall}
use Rattle.hsm_types.specs.declared.dm.DmRefusal.TheVariants as dm
use Rattle.hsm_types.specs.declared.dm.DmReply.{DmReply}
use Rattle.hsm_types.specs.declared.dm.DmReply.TheVariants.{Refused}
use Rattle.hsm_types.specs.declared.keys.Sid.{Sid}
use Rattle.plain_model.specs.declared.entries.Actor.TheVariants.{Session}
use Rattle.plain_model.specs.declared.entries.Action.TheVariants.{Dm}
use Rattle.plain_model.specs.declared.entries.Answer.TheVariants.{Dm as Told}
use Rattle.plain_model.proofs.AnyDisk.{seen_done}
use Rattle.plain_model.proofs.Faultless.{is_undone}
use Rattle.file_store.specs.Stores.{superblock_of}
use Rattle.hsm_core.specs.Answers.{entry_of, IsDone, IsTold}
use Rattle.hsm_core.specs.Store.{Store, state_of}
use Rattle.hsm_system.specs.Acts.{AddsCall, Answers, IsCall, KeepsStop, StopsFor}
use Rattle.hsm_system.specs.Stops.{reply_of, StopsNothing}
use Rattle.hsm_system.specs.Systems.{System, hearing}
use Rattle.hsm_system.specs.declared.stops.Stop.{Stop}
use Rattle.hsm_system.specs.declared.stops.Stop.TheVariants as stop

module _ {D : Type 0} (g : disk.Ghosts D) (old : Store D) (sid : Sid) (call : DmCall) where
  done_reply : (reply : DmReply) (new : Store D) → IsDone g old (Session sid) (Dm call) (Told reply) new → is_undone (Told reply) ≡ false
  done_reply reply new done = seen_done (Tells g new.files.disk) (superblock_of old.opened) (state_of old) (Session sid) (Dm call) (Told reply) done.answer

  told_served : (reply : DmReply) (new : Store D) → IsTold g old sid call reply new → StopsNothing reply → AddsCall sid call reply old new × (new.files.failed ≡ false)
  told_served reply new (inl closed) served = let given : Told reply ≡ Told (Refused dm.Disk) = closed.answer in absurd (served stop.Disk (let is : reply ≡ Refused dm.Disk = cc given in is))
  told_served reply new (inr (inl lacks)) served = let given : Told reply ≡ Told (Refused dm.Memory) = lacks.answer in absurd (served stop.Memory (let is : reply ≡ Refused dm.Memory = cc given in is))
  told_served reply new (inr (inr (inl failed))) served = let given : Told reply ≡ Told (Refused dm.Disk) = failed.answer in absurd (served stop.Disk (let is : reply ≡ Refused dm.Disk = cc given in is))
  told_served reply new (inr (inr (inr done))) served = (done.history, done.still)

  told_stopped : (why : Stop) (new : Store D) → IsTold g old sid call (reply_of why) new → KeepsStop sid call why old new
  told_stopped stop.Disk new (inl closed) = (ap (λ s. s.files.failed) closed.same ∙ closed.failed, inl (closed.failed, ap (λ s. s.history) closed.same))
  told_stopped stop.Disk new (inr (inl lacks)) = let wrong : Told (Refused dm.Disk) ≡ Told (Refused dm.Memory) = lacks.answer in cc wrong
  told_stopped stop.Disk new (inr (inr (inl failed))) = (failed.failed, inr (failed.goes.working, failed.history))
  told_stopped stop.Disk new (inr (inr (inr done))) = let wrong : true ≡ false = done_reply (Refused dm.Disk) new done in cc wrong
  told_stopped stop.Memory new (inl closed) = let wrong : Told (Refused dm.Memory) ≡ Told (Refused dm.Disk) = closed.answer in cc wrong
  told_stopped stop.Memory new (inr (inl lacks)) = (lacks.still, lacks.history)
  told_stopped stop.Memory new (inr (inr (inl failed))) = let wrong : Told (Refused dm.Memory) ≡ Told (Refused dm.Disk) = failed.answer in cc wrong
  told_stopped stop.Memory new (inr (inr (inr done))) = let wrong : true ≡ false = done_reply (Refused dm.Memory) new done in cc wrong

module _ {D : Type 0} (g : disk.Ghosts D) (daemon : Daemon) (sid : Sid) (call : DmCall) (reply : DmReply) (here old : System D) (same : here ≡ old) (store : Store D) (made : IsCall g sid call reply here (record here { store = store })) (new : System D) where
  pub answers : (told : Heard) → (told ≡ heard.Dm reply) × StopsNothing reply → new ≡ hearing daemon told (record here { store = store }) → Answers g daemon sid call old new
  answers told is hears = subst (λ (s : System D). Answers g daemon sid call s new) same (
      let kept = told_served g here.store sid call reply store made.told is.1 in
      (reply, record here { store = store }, record { made = made; served = is.1; added = kept.0; still = kept.1 }, hears ∙ ap (λ (h : Heard). hearing daemon h (record here { store = store })) is.0)
      )

  pub stops_for : (why : Stop) → reply ≡ reply_of why → new ≡ hearing daemon Nothing (record here { store = store }) → StopsFor g daemon sid call why old new
  stops_for why is hears = subst (λ (s : System D). StopsFor g daemon sid call why s new) same (
      let told = subst (λ (r : DmReply). IsCall g sid call r here (record here { store = store })) is made in
      (record here { store = store }, record { made = told; kept = told_stopped g here.store sid call why store told.told }, hears)
      )
