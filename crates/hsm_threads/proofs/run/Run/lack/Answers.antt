use Rattle.std.proofs.Common.{◌∙◌, Some, sym, ap, subst}
use Rattle.std.specs.Option.{option_or}
use Rattle.hsm_types.specs.declared.daemons.Heard.TheVariants.{Nothing}
use Rattle.hsm_system.specs.Goes.{GoesBy, LosesOf}
use Rattle.hsm_system.specs.Systems.{Waits, hearing}
use Rattle.hsm_system.specs.declared.stops.Stop.TheVariants.{Memory}
use Rattle.hsm_threads.specs.Lots.{Lot}
use Rattle.hsm_threads.specs.Steps.{closes, lacks}
use Rattle.hsm_threads.proofs.RunDeeds.{lacked_closed, lacked_lacks, lacked_stop, not_waiting, may_hear_store}
use Rattle.hsm_threads.proofs.Keeping.{lies_beside, lacked_deeds}
use Rattle.hsm_threads.proofs.run.Run.lack.Goals as goal

pub invariant_of-self : goal.invariant_of-self
invariant_of-self g c =
    lies_beside g.N.Named.opened g.N.Named.limits g.N.Named.lines _ c.self.invariant (LosesOf c.args.daemon) (lacked_deeds c.args.daemon) c.lose.new.self c.or-self-inside.result c.lose.ensures.goes
    (may_hear_store c.args.daemon c.self.inside.system c.lose.new.self Nothing c.lose.result c.lose.ensures.lost c.lose.ensures.kept) (ap closes c.or-self-inside.ensures ∙ lacked_closed c.self.inside.stop)
    (λ made. lacked_lacks c.self.inside.stop (ap lacks (sym c.or-self-inside.ensures) ∙ made)) (λ on. absurd (lacked_stop c.self.inside.stop (sym c.or-self-inside.ensures ∙ on)))

pub returns-clause-stopped : goal.returns-clause-stopped
returns-clause-stopped g c = c.or-self-inside.ensures ∙ ap (λ (l : Lot g.row.D.Denot). option_or l.stop (Some Memory)) c.self.view_is

pub returns-clause-lost : goal.returns-clause-lost
returns-clause-lost g c = λ waits. c.lose.ensures.lost (c.lose.ensures.waited.1 (subst (λ (l : Lot g.row.D.Denot). Waits c.args.daemon l.system) (sym c.self.view_is) waits)) ∙ ap (λ (l : Lot g.row.D.Denot). hearing c.args.daemon Nothing l.system) c.self.view_is

pub returns-clause-kept : goal.returns-clause-kept
returns-clause-kept g c =
    λ idle. c.lose.ensures.kept (not_waiting c.lose.result c.lose.ensures.waited (λ waits. idle (subst (λ (l : Lot g.row.D.Denot). Waits c.args.daemon l.system) c.self.view_is waits))) ∙ ap (λ (l : Lot g.row.D.Denot). l.system) c.self.view_is

pub returns-clause-deeds : goal.returns-clause-deeds
returns-clause-deeds g c = subst (λ (l : Lot g.row.D.Denot). GoesBy (LosesOf c.args.daemon) l.system c.lose.new.self) c.self.view_is c.lose.ensures.goes

pub returns-clause-lists : goal.returns-clause-lists
returns-clause-lists g c = ap (λ (l : Lot g.row.D.Denot). l.lists) c.self.view_is
