use Rattle.hosts.specs.MemHosts.{IsAtRest, AreUnfailed}
use Rattle.hosts.proofs.NamedThings.{EachIs-empty}
use Rattle.hosts.proofs.mem_host.MemHost.new.Goals as goal

pub invariant_of-result : goal.invariant_of-result
invariant_of-result c = (rw (c.new.ensures.empty) (EachIs-empty IsAtRest), rw (c.new-2.ensures.empty) (EachIs-empty AreUnfailed))
