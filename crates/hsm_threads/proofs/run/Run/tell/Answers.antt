use Rattle.std.proofs.Common.{refl, subst}
use Rattle.std.specs.Prelude.{◌↔◌, IsTrue}
use Rattle.hsm_system.specs.Awaiting.{heard_of}
use Rattle.hsm_system.specs.Goes.{HearsOf}
use Rattle.hsm_system.specs.Systems.{IsAwaited}
use Rattle.hsm_threads.specs.Lots.{Lot, Tells}
use Rattle.hsm_threads.proofs.RunDeeds.{may_hear_store, tells_outcome}
use Rattle.hsm_threads.proofs.Keeping.{lies_beside, told_deeds, told_heard}
use Rattle.hsm_threads.proofs.run.Run.tell.Goals as goal

pub take_in-requires : goal.take_in-requires
take_in-requires g c = c.requires

pub invariant_of-self : goal.invariant_of-self
invariant_of-self g c =
    lies_beside g.N.Named.opened g.N.Named.limits g.N.Named.lines _ c.self.invariant (HearsOf c.args.daemon c.args.outcome) (told_deeds c.args.daemon c.args.outcome) c.take_in.new.self c.self.inside.stop c.take_in.ensures.goes
    (may_hear_store c.args.daemon c.self.inside.system c.take_in.new.self (heard_of c.args.outcome) c.take_in.result c.take_in.ensures.taken c.take_in.ensures.dropped) refl
    (λ made. made) (λ on. (on, told_heard c.args.daemon c.args.outcome))

pub returns-clause-told : goal.returns-clause-told
returns-clause-told g c = subst (λ (l : Lot g.row.D.Denot). IsTrue c.take_in.result ↔ IsAwaited c.args.daemon c.args.outcome l.system) c.self.view_is c.take_in.ensures.awaited

pub returns-clause-tells : goal.returns-clause-tells
returns-clause-tells g c =
    subst (λ (l : Lot g.row.D.Denot). Tells c.args.daemon c.args.outcome c.take_in.result l (record { system = c.take_in.new.self; lists = c.self.inside.lists; stop = c.self.inside.stop })) c.self.view_is
    (tells_outcome c.args.daemon c.args.outcome _ c.take_in.new.self c.take_in.result c.take_in.ensures.awaited c.take_in.ensures.taken c.take_in.ensures.dropped c.take_in.ensures.goes)
