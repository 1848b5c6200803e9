use Rattle.std.proofs.Common.{◌≡◌, ◌∙◌, ap}
use Rattle.std.specs.FinMap.{remove}
use Rattle.hosts.specs.MemHosts.{Hosted, by_name, blank, IsAtRest}
use Rattle.hosts.proofs.NamedThings.{by_name-remove, EachIs-remove}
use Rattle.hosts.proofs.mem_host.MemHost.make_blank.Goals as goal
use Rattle.hosts.proofs.mem_host.MemHost.make_blank.Goals.{After-remove}

removed : (c : After-remove) → by_name c.remove.new.self ≡ remove (by_name c.self.inside.disks) c.args.path.now
removed c = by_name-remove c.args.path.now c.self.inside.disks c.remove.new.self c.remove.ensures.updates

pub invariant_of-self : goal.invariant_of-self
invariant_of-self c = (rw (removed (goal.at.invariant_of-self c).After-remove) (EachIs-remove IsAtRest _ _ c.self.invariant.0), c.self.invariant.1)

pub returns-clause-makes : goal.returns-clause-makes
returns-clause-makes c =
    let was = c.self.view_is ∙ c.in_ok-begin_making.ensures.ok.1 in
    (c.in_ok-begin_making.ensures.ok.0, c.in-Ok.ensures.value ∙ ap (λ h. blank c.args.len h.fuse) was, rw (removed (goal.at.returns-clause-makes c).After-remove) (ap (λ (h : Hosted). record h { disks = remove h.disks c.args.path.now }) was))
