use Rattle.std.proofs.Common.{refl, string_bytes, ◌≡◌}
use Rattle.hosts.specs.MemHosts.{unfailed, AreUnfailed}
use Rattle.hosts.proofs.NamedThings.{EachIs-put, by_name-insert, on_ok}
use Rattle.hosts.proofs.HandingOut.{always_ok, are_unfailed}
use Rattle.hosts.proofs.mem_host.MemHost.put_drives.Goals as goal

pub invariant_of-self : goal.invariant_of-self
invariant_of-self c = (
  c.self.invariant.0,
  EachIs-put AreUnfailed c.self.inside.folders c.put_folder.new.folders c.in-Ok.name (unfailed c.args.drives) (λ e. e.1 ≡ c.args.drives) c.put_folder.result
      c.self.invariant.1 c.put_folder.ensures.put (always_ok c.put_folder.result (are_unfailed c.args.drives)) c.put_folder.ensures.refused,
)

pub returns-clause-put : goal.returns-clause-put
returns-clause-put c =
    on_ok c.put_folder.result
    (λ updates. let put = by_name-insert (string_bytes c.in-Ok.name) c.self.inside.folders c.put_folder.new.folders (unfailed c.args.drives) updates in
    rw (← c.self.view_is, ← c.in-Ok.ensures.ok, put) refl)
    c.put_folder.ensures.put
