use Rattle.std.proofs.Common.{◌≡◌, ◌∙◌, ◌∷◌, [], List, ap, refl, subst}
use Rattle.deeds.specs.Deeds.{Deed, Starts}
use Rattle.hsm_system.specs.Goes.{Goes}
use Rattle.hsm_system.specs.Systems.{System, started}
use Rattle.hsm_threads.specs.Lots.{Lot}
use Rattle.hsm_threads.proofs.RunDeeds.{started_store}
use Rattle.hsm_threads.proofs.Keeping.{lies_beside, start_deeds, start_heard}
use Rattle.hsm_threads.proofs.run.Run.start.Goals as goal

pub invariant_of-self : goal.invariant_of-self
invariant_of-self g c =
    lies_beside g.N.Named.opened g.N.Named.limits g.N.Named.lines _ c.self.invariant (λ (deeds : List Deed). deeds ≡ Starts c.args.daemon ∷ []) (start_deeds c.args.daemon) c.start.new.self c.self.inside.stop
    (Starts c.args.daemon ∷ [], refl, c.start.ensures.deeds) (started_store c.args.daemon c.self.inside.system c.start.new.self c.start.ensures.started) refl (λ made. made) (λ on. (on, start_heard c.args.daemon))

pub returns-clause-started : goal.returns-clause-started
returns-clause-started g c = ap (λ (s : System g.row.D.Denot). record { system = s; lists = c.self.inside.lists; stop = c.self.inside.stop }) c.start.ensures.started ∙ ap (λ (l : Lot g.row.D.Denot). record l { system = started c.args.daemon l.system }) c.self.view_is

pub returns-clause-deeds : goal.returns-clause-deeds
returns-clause-deeds g c = subst (λ (l : Lot g.row.D.Denot). Goes (Starts c.args.daemon ∷ []) l.system c.start.new.self) c.self.view_is c.start.ensures.deeds
