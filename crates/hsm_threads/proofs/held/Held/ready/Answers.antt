use Rattle.std.proofs.Common.{◌∙◌, ap}
use Rattle.hsm_core.specs.Ready.{ready}
use Rattle.hsm_core.specs.Store.{Store}
use Rattle.hsm_threads.proofs.held.Held.ready.Goals as goal

pub returns : goal.returns
returns g c = c.ready.ensures ∙ ap (λ (s : Store g.row.D.Denot). ready s c.args.caller) c.self.view_is
