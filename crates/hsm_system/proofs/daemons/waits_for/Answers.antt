use Rattle.std.proofs.Common.{◌≡◌}
use Rattle.hsm_system.specs.declared.daemons.Next.{Next}
use Rattle.hsm_system.specs.declared.daemons.Next.TheVariants.{Waits}
use Rattle.hsm_system.proofs.Waiting.{at_one}
use Rattle.hsm_system.proofs.daemons.waits_for.Goals as goal

pub returns-in-Some : goal.returns-in-Some
returns-in-Some g c = at_one (λ (n : Next). n ≡ Waits c.args.awaited.now) c.args.daemon.now c.in-Some.running c.in-Some.is c.waits_for.ensures
