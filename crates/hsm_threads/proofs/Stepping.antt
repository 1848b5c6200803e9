-- What comes of a daemon's step, by whether the run had stopped.
use Rattle.std.proofs.Common.{◌≡◌, true, false, Option, Some, None, Result, Ok, Err, inl, inr, refl, sym, subst}
use Rattle.std.specs.Prelude.{OnOk, IfErr, is_some}
use Rattle.disk_model.specs.declared.device.Disk as disk
use Rattle.hsm_types.specs.declared.daemons.Act.{Act}
use Rattle.hsm_types.specs.declared.daemons.Act.TheVariants.{Dm}
use Rattle.hsm_types.specs.declared.daemons.Daemon.{Daemon}
use Rattle.hsm_types.specs.declared.dm.DmCall.{DmCall}
use Rattle.hsm_types.specs.declared.keys.Sid.{Sid}
use Rattle.hsm_system.specs.Acts.{Answers, LacksMemory, StopsFor}
use Rattle.hsm_system.specs.Goes.{GoesBy}
use Rattle.hsm_system.specs.Systems.{System}
use Rattle.hsm_system.specs.declared.stops.Stop.{Stop}
use Rattle.hsm_system.specs.declared.stops.Stop.TheVariants as stop
use Rattle.hsm_threads.specs.Lots.{Lot, TakesBy, TakesStep}
use Rattle.hsm_threads.specs.Steps.{Begins, BeginsAct, CameTo, IsStepOf, called_by, stop_of, told_of}
use Rattle.hsm_threads.specs.declared.steps.Asked.{Asked}
use Rattle.hsm_threads.specs.declared.steps.Asked.TheVariants as asked
use Rattle.hsm_threads.specs.declared.steps.Asked.TheVariants.{Nothing}
use Rattle.hsm_threads.proofs.RunDeeds.{no_stop}

-- ---- what a step comes to

module _ {D : Type 0} (g : disk.Ghosts D) (daemon : Daemon) (old new : System D) where
  -- the call that it gave is made
  pub call_begins : (given : Act) (sid : Sid) (call : DmCall) → given ≡ Dm sid call → (result : Result (Unit {0}) Stop) → OnOk result (Answers g daemon sid call old new) → IfErr result (λ why. StopsFor g daemon sid call why old new)
      → Begins g daemon given (called_by result) old new
  call_begins given sid call is (Ok tt) answers stops = (sid, call, is, answers)
  call_begins given sid call is (Err why) answers stops = (sid, call, is, stops)

  -- it gave an act
  pub begun_came : (result : Result Asked Stop) → BeginsAct g daemon result old new → CameTo g daemon result old new
  begun_came (Ok asked.Called) begun = begun
  begun_came (Ok (asked.Performs act)) begun = begun
  begun_came (Ok asked.Rests) begun = begun
  begun_came (Ok asked.Nothing) begun = absurd begun.3
  begun_came (Err stop.Disk) begun = begun
  begun_came (Err stop.Memory) begun = inl begun

  -- its machine had no memory
  pub lacked_came : (why : Stop) → LacksMemory daemon old why new → CameTo g daemon (Err why) old new
  lacked_came stop.Memory lacked = inr lacked
  lacked_came stop.Disk lacked = let wrong : stop.Disk ≡ stop.Memory = lacked.lacks in cc wrong

-- ---- by whether the run had stopped

module _ {D : Type 0} (g : disk.Ghosts D) (daemon : Daemon) (old : Lot D) where
  asked_stopped : (stop : Option Stop) → is_some stop ≡ true → TakesBy g daemon stop Nothing old old
  asked_stopped None is = let wrong : false ≡ true = is in cc wrong
  asked_stopped (Some why) is = (refl, refl)

  pub asked_in_vain : is_some old.stop ≡ true → TakesStep g daemon Nothing old old
  asked_in_vain = asked_stopped old.stop

  pub asked_of : (new : System D) (stop : Option Stop) → is_some old.stop ≡ false → (result : Result Asked Stop) → GoesBy (IsStepOf daemon result) old.system new → CameTo g daemon result old.system new → stop ≡ stop_of result
      → TakesStep g daemon (told_of result) old (record { system = new; lists = old.lists; stop = stop })
  asked_of new stop on result goes came is =
      subst (λ (s : Option Stop). TakesBy g daemon s (told_of result) old (record { system = new; lists = old.lists; stop = stop })) (sym (no_stop old.stop on))
      (record { result = result; told = refl; deeds = goes; came = came; stop = is; lists = refl })
