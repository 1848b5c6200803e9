use Rattle.std.proofs.Common.{subst}
use Rattle.hsm_system.specs.Systems.{IsSystem}
use Rattle.hsm_system.proofs.Leading.{taken_goes, taken_or_not}
use Rattle.hsm_system.proofs.Waiting.{is_awaited}
use Rattle.hsm_system.proofs.system.System.take_in.Goals as goal

pub returns-clause-deeds : goal.returns-clause-deeds
returns-clause-deeds g c asked awaits same =
    let awaited = is_awaited c.args.daemon asked c.args.outcome c.args.self.now (subst IsSystem c.self.view_is c.self.invariant) awaits same in
    taken_goes c.args.daemon asked c.args.outcome c.args.self.now _ awaits same c.requires (c.hear.ensures.taken (c.hear.ensures.awaited.1 awaited))

pub returns-clause-goes : goal.returns-clause-goes
returns-clause-goes g c = taken_or_not c.args.daemon c.args.outcome c.args.self.now _ c.hear.result (subst IsSystem c.self.view_is c.self.invariant) c.requires c.hear.ensures.awaited.0 c.hear.ensures.taken c.hear.ensures.dropped
