use Rattle.std.proofs.Common.{◌∙◌, Some, sym, ap, subst}
use Rattle.hsm_core.specs.Kept.{IsKept}
use Rattle.hsm_core.specs.Store.{Store}
use Rattle.call_lists.specs.Made.{AreMade}
use Rattle.hsm_threads.specs.Deeds.{WasRun}
use Rattle.hsm_threads.specs.Lots.{Lot}
use Rattle.hsm_threads.specs.Steps.{lacks}
use Rattle.hsm_threads.proofs.Keeping.{was_run}
use Rattle.hsm_threads.proofs.run.Run.close.Goals as goal

pub returns-clause-opened : goal.returns-clause-opened
returns-clause-opened g c = c.self.invariant.opened ∙ ap (λ (s : Store g.row.D.Denot). Some s.opened) (sym c.close.ensures)

pub returns-clause-kept : goal.returns-clause-kept
returns-clause-kept g c = subst (λ (s : Store g.row.D.Denot). IsKept g.D.Disk s) (sym c.close.ensures) c.history.ensures.kept

pub returns-clause-served : goal.returns-clause-served
returns-clause-served g c = subst (λ (s : Store g.row.D.Denot). WasRun g.N.Named.limits c.self.inside.stop s.history) (sym c.close.ensures) (was_run g.N.Named.opened g.N.Named.limits g.N.Named.lines _ c.self.invariant)

pub returns-clause-closed : goal.returns-clause-closed
returns-clause-closed g c = ap (λ (s : Store g.row.D.Denot). s.files.failed) c.close.ensures ∙ c.self.invariant.closed

pub returns-clause-made : goal.returns-clause-made
returns-clause-made g c = subst (λ (s : Store g.row.D.Denot). AreMade (lacks c.self.inside.stop) g.N.Named.lines c.self.inside.lists s.history) (sym c.close.ensures) c.self.invariant.made

pub returns-clause-same : goal.returns-clause-same
returns-clause-same g c = (c.close.ensures ∙ ap (λ (l : Lot g.row.D.Denot). l.system.store) c.self.view_is, ap (λ (l : Lot g.row.D.Denot). l.lists) c.self.view_is, ap (λ (l : Lot g.row.D.Denot). l.stop) c.self.view_is)
