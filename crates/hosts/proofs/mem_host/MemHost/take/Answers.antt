use Rattle.std.proofs.Common.{◌≡◌, ◌∙◌, ap, sym, inr}
use Rattle.std.specs.FinMap.{get, remove}
use Rattle.disk_model.specs.Calls.{raised}
use Rattle.hosts.specs.MemHosts.{Hosted, by_name, IsAtRest}
use Rattle.hosts.proofs.NamedThings.{get-by_name, by_name-remove, by_name-same, EachIs-remove}
use Rattle.hosts.proofs.mem_host.MemHost.take.Goals as goal
use Rattle.hosts.proofs.mem_host.MemHost.take.Goals.{After-remove}

-- what is under the name is what was removed
found : (c : After-remove) → get (by_name c.self.inside.disks) c.args.path.now ≡ c.remove.result
found c = get-by_name c.self.inside.disks c.args.path.now ∙ sym c.remove.ensures.value

removed : (c : After-remove) → by_name c.remove.new.self ≡ remove (by_name c.self.inside.disks) c.args.path.now
removed c = by_name-remove c.args.path.now c.self.inside.disks c.remove.new.self c.remove.ensures.updates

pub invariant_of-self : goal.invariant_of-self
invariant_of-self c = (rw (removed (goal.at.invariant_of-self c).After-remove) (EachIs-remove IsAtRest _ _ c.self.invariant.0), c.self.invariant.1)

pub returns-in-Some-clause-at_rest : goal.returns-in-Some-clause-at_rest
returns-in-Some-clause-at_rest c =
    let is = found (goal.at.returns-in-Some-clause-at_rest c).After-remove ∙ c.in-Some.is in
    rw is at (c.self.invariant.0 c.args.path.now)

pub returns-in-Some-clause-gives : goal.returns-in-Some-clause-gives
returns-in-Some-clause-gives c =
    let at_remove = (goal.at.returns-in-Some-clause-gives c).After-remove in
    let was = c.self.view_is ∙ c.in_ok-begin_opening.ensures.ok.1 in
    let is = found at_remove ∙ c.in-Some.is in
    (c.in_ok-begin_opening.ensures.ok.0, ap (λ h. get h.disks c.args.path.now) (sym was) ∙ is, rw (removed at_remove) (ap (λ (h : Hosted). record h { disks = remove h.disks c.args.path.now }) was))

pub returns-in-None-clause-gives : goal.returns-in-None-clause-gives
returns-in-None-clause-gives c =
    let at_remove = (goal.at.returns-in-None-clause-gives c).After-remove in
    let was = c.self.view_is ∙ c.in_ok-begin_opening.ensures.ok.1 in
    let is = found at_remove ∙ c.in-None.is in
    let same = by_name-same c.self.inside.disks c.remove.new.self c.in-None.ensures.unchanged in
    rw c.fault.ensures.failed (inr (ap (λ h. get h.disks c.args.path.now) (sym was) ∙ is), rw (same, c.fault.ensures.raised) (ap (λ (h : Hosted). record h { faults = raised h.faults }) was))
