use Rattle.std.proofs.Common.{◌∙◌, sym}
use Rattle.hosts.proofs.NamedThings.{get-by_name}
use Rattle.hosts.proofs.mem_host.MemHost.has_fit.Goals as goal

pub returns-in-Some-clause-fit : goal.returns-in-Some-clause-fit
returns-in-Some-clause-fit c =
    let is = get-by_name c.self.inside.folders c.args.dir.now ∙ sym c.in-Some.ensures.value in
    rw (← c.self.view_is, is) (λ yes. sym c.fit.ensures ∙ yes)

pub returns-in-Some-clause-unfit : goal.returns-in-Some-clause-unfit
returns-in-Some-clause-unfit c =
    let is = get-by_name c.self.inside.folders c.args.dir.now ∙ sym c.in-Some.ensures.value in
    rw (← c.self.view_is, is) (λ no. sym c.fit.ensures ∙ no)

pub returns-in-None-clause-fit : goal.returns-in-None-clause-fit
returns-in-None-clause-fit c =
    let is = get-by_name c.self.inside.folders c.args.dir.now ∙ sym c.in-None.ensures.value in
    rw (← c.self.view_is, is) (λ yes. tt)
