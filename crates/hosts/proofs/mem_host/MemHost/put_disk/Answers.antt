use Rattle.std.proofs.Common.{refl, string_bytes, ◌≡◌}
use Rattle.hosts.specs.MemHosts.{at_rest, IsAtRest}
use Rattle.hosts.proofs.NamedThings.{EachIs-put, by_name-insert, on_ok}
use Rattle.hosts.proofs.mem_host.MemHost.put_disk.Goals as goal

pub invariant_of-self : goal.invariant_of-self
invariant_of-self c = (
  EachIs-put IsAtRest c.self.inside.disks c.put.new.disks c.in-Ok.name (at_rest c.args.disk) (λ e. e.1 ≡ c.args.disk) c.put.result
      c.self.invariant.0 c.put.ensures.put c.put.ensures.at_rest c.put.ensures.refused,
  c.self.invariant.1,
)

pub returns-clause-put : goal.returns-clause-put
returns-clause-put c =
    on_ok c.put.result
    (λ updates. let put = by_name-insert (string_bytes c.in-Ok.name) c.self.inside.disks c.put.new.disks (at_rest c.args.disk) updates in
    rw (← c.self.view_is, ← c.in-Ok.ensures.ok, put) refl)
    c.put.ensures.put
