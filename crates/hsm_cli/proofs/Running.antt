-- Faults in a run.
use Rattle.std.proofs.Common.{ℕ, ◌≡◌, ◌≢◌, Bool, true, false, Option, Some, None, Result, Ok, Err, IfErr, IsErrOf, refl, subst, arith}
use Rattle.disk_model.specs.declared.device.Disk as disk
use Rattle.disk_model.specs.Calls.{RoseByOne}
use Rattle.hsm_cli.specs.declared.causes.Cause.{Cause}
use Rattle.hsm_cli.specs.declared.causes.Cause.TheVariants.{ScriptRefused, WordsRefused, NotStore, Corrupt, ReadFault, WriteFault, DiskFault}
use Rattle.hsm_cli.specs.declared.causes.Cause.TheVariants.{HostFault, NoMemory}
use Rattle.hsm_cli.specs.RunObjects.{SourceTold, SinkTold}
use Rattle.hsm_cli.specs.Endings.{RunEnds}
use Rattle.hsm_cli.specs.Clauses.{HasFailed, HasBegun}

-- a fault since the disk had counted none
pub failed_since : {D : Type 0} (g : disk.Ghosts D) (count : ℕ) (disk : D) → count ≡ 0 → RoseByOne count (g.fault_count disk) → HasFailed g (Some disk)
failed_since g count disk none once = record { disk = disk; back = refl; once = omega (arith, none, once) }

-- ---- in memory

-- a count that stays at 0 never rose
pub never_rose : (faulty : Bool) → (faulty ≡ true → RoseByOne 0 0) → faulty ≡ false
never_rose true rose = let wrong : ⊥ = omega (arith, rose refl) in absurd wrong
never_rose false rose = refl

-- drives in memory aren't wanting for a fault of a host
pub no_host : {V : Type 0} (ready : Result V Cause) → IfErr ready (λ why. why ≡ NoMemory) → IsErrOf ready HostFault → ⊥
no_host (Ok ds) memory is = cc
no_host (Err why) memory is = cc

-- so neither ends a run
pub ends_in_memory : (HostFails DiskFails : Type 0) (source : SourceTold) (sink : SinkTold) (cause : Option Cause) → (HostFails → ⊥) → (DiskFails → ⊥) → RunEnds HostFails DiskFails source sink cause → RunEnds ⊥ ⊥ source sink cause
ends_in_memory HostFails DiskFails source sink None by_host by_disk ends = tt
ends_in_memory HostFails DiskFails source sink (Some (ScriptRefused line)) by_host by_disk ends = ends
ends_in_memory HostFails DiskFails source sink (Some ReadFault) by_host by_disk ends = ends
ends_in_memory HostFails DiskFails source sink (Some WriteFault) by_host by_disk ends = ends
ends_in_memory HostFails DiskFails source sink (Some DiskFault) by_host by_disk ends = absurd (by_disk ends)
ends_in_memory HostFails DiskFails source sink (Some HostFault) by_host by_disk ends = absurd (by_host ends)
ends_in_memory HostFails DiskFails source sink (Some NoMemory) by_host by_disk ends = tt
ends_in_memory HostFails DiskFails source sink (Some WordsRefused) by_host by_disk ends = absurd ends
ends_in_memory HostFails DiskFails source sink (Some NotStore) by_host by_disk ends = absurd ends
ends_in_memory HostFails DiskFails source sink (Some (Corrupt place)) by_host by_disk ends = absurd ends

-- ---- on a store that was opened

module _ (HostFails DiskFails : Type 0) (source : SourceTold) (sink : SinkTold) where
  pub served_words : (cause : Option Cause) → RunEnds HostFails DiskFails source sink cause → cause ≢ Some WordsRefused
  served_words cause ends is = subst (RunEnds HostFails DiskFails source sink) is ends

  pub served_begun : {S : Type 0} (opened : S) (cause : Option Cause) → RunEnds HostFails DiskFails source sink cause → HasBegun (Some opened) cause
  served_begun opened None ends = refl
  served_begun opened (Some (ScriptRefused line)) ends = refl
  served_begun opened (Some ReadFault) ends = refl
  served_begun opened (Some WriteFault) ends = refl
  served_begun opened (Some DiskFault) ends = tt
  served_begun opened (Some HostFault) ends = tt
  served_begun opened (Some NoMemory) ends = tt
  served_begun opened (Some WordsRefused) ends = absurd ends
  served_begun opened (Some NotStore) ends = absurd ends
  served_begun opened (Some (Corrupt place)) ends = absurd ends
