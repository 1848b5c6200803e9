-- A daemon that runs or doesn't, by its machine.
use Rattle.std.specs.Prelude.{◌≡◌, ◌⊎◌, Option, None, Some, IfSome}
use Rattle.std.specs.Option.{option_map}
use Rattle.hsm_types.specs.declared.daemons.Act.{Act}
use Rattle.hsm_types.specs.declared.daemons.Heard.{Heard}
use Rattle.hsm_types.specs.declared.daemons.Heard.TheVariants.{Nothing}
use Rattle.recall_daemon.specs.Machine as recall
use Rattle.migrate_daemon.specs.Machine as migrate
use Rattle.deeds.specs.Lives.{untold}
use Rattle.hsm_system.specs.Awaiting.{IsWaiting, WaitsFor, awaited_of}
use Rattle.hsm_system.specs.declared.awaited.Awaited.{Awaited}
use Rattle.hsm_system.specs.declared.daemons.Next.{Next}
use Rattle.hsm_system.specs.declared.daemons.Next.TheVariants.{Hears, Waits}
use Rattle.hsm_system.specs.declared.daemons.Running.{Running}
use Rattle.hsm_system.specs.declared.stops.Stop.{Stop}
use Rattle.hsm_system.specs.declared.stops.Stop.TheVariants.{Memory}

abbrev pub Recalling : Type 0
Recalling = Running recall.Machine

abbrev pub Migrating : Type 0
Migrating = Running migrate.Machine

-- what it hears next is within what it may hear
abbrev pub MayHear : (Heard → Type 0) → Next → Type 0
MayHear may_hear (Hears told) = may_hear told
MayHear may_hear (Waits awaited) = Unit {0}

-- what it would hear of the space it doesn't hear
abbrev pub untold_next : Next → Next
untold_next (Hears told) = Hears (untold told)
untold_next (Waits awaited) = Waits awaited

module _ {M : Type 0} where
  -- It waits for what comes of the act that it gave last, and what its machine hears and knows is right.
  pub record IsSound (asked : M → Act) (may_hear : Heard → Type 0) (Knows : M → Type 0) (r : Running M) : Type 0 where
    pub waits : WaitsFor r.next (asked r.machine)
    pub within : MayHear may_hear r.next
    pub knows : Knows r.machine

  -- where it runs, what it hears next is within that
  abbrev pub HearsWithin : (Heard → Type 0) → Option (Running M) → Type 0
  HearsWithin may_hear daemon = IfSome daemon (λ (r : Running M). MayHear may_hear r.next)

  -- it runs, and waits for what comes of the act that it gave last
  abbrev pub WaitsNow : Option (Running M) → Type 0
  WaitsNow daemon = (r : Running M) × (daemon ≡ Some r) × IsWaiting r.next

  -- which is that one
  abbrev pub AwaitsNow : (M → Act) → Act → Option (Running M) → Type 0
  AwaitsNow asked act daemon = (r : Running M) × (daemon ≡ Some r) × IsWaiting r.next × (asked r.machine ≡ act)

  -- it runs, and waits for that
  abbrev pub AwaitsSuch : Awaited → Option (Running M) → Type 0
  AwaitsSuch awaited daemon = (r : Running M) × (daemon ≡ Some r) × (r.next ≡ Waits awaited)

  -- Its machine has heard what was kept for it and gives the act, for which it waits from here on. So it is left.
  abbrev pub Moves : (M → Heard → Act → M → Type 0) → Option (Running M) → Act → (Running M → Type 0) → Type 0
  Moves goes_on old act IsLeft = (r : Running M) × (machine : M) × (told : Heard) × (old ≡ Some r) × (r.next ≡ Hears told) × goes_on r.machine told act machine × IsLeft (record { machine = machine; next = Waits (awaited_of act) })

  -- asked for its act it gives that one, or none where it doesn't run or waits
  abbrev pub Gives : (M → Heard → Act → M → Type 0) → Option (Running M) → Option Act → Option (Running M) → Type 0
  Gives goes_on old None new = ((old ≡ None) ⊎ WaitsNow old) × (new ≡ old)
  Gives goes_on old (Some act) new = Moves goes_on old act (λ (r : Running M). new ≡ Some r)

  abbrev pub first_of : M → Running M
  first_of machine = record { machine = machine; next = Hears Nothing }

  abbrev pub hears_next : Heard → Running M → Running M
  hears_next told r = record r { next = Hears told }

  -- its machine had no memory, and stays as it was. What was kept for it is lost
  pub record Loses (old : Option (Running M)) (why : Stop) (new : Option (Running M)) : Type 0 where
    pub runs : old ≡ None → ⊥
    pub heard : WaitsNow old → ⊥
    pub lacks : why ≡ Memory
    pub loses : new ≡ option_map (hears_next Nothing) old
