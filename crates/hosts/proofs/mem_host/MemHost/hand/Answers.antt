use Rattle.std.proofs.Common.{◌≡◌, ◌∙◌, true, None, IfSome, ap, sym, refl, subst}
use Rattle.std.specs.FinMap.{get, remove}
use Rattle.hosts.specs.MemHosts.{Hosted, by_name, AreUnfailed, fit, Handed}
use Rattle.hosts.proofs.NamedThings.{get-by_name, by_name-remove, by_name-same, EachIs-remove}
use Rattle.hosts.proofs.HandingOut.{no_value, new_hands, new_unfailed}
use Rattle.hosts.proofs.mem_host.MemHost.hand.Goals as goal
use Rattle.hosts.proofs.mem_host.MemHost.hand.Goals.{After-remove}

-- what is under the name is what was removed
found : (c : After-remove) → get (by_name c.self.inside.folders) c.args.dir.now ≡ c.remove.result
found c = get-by_name c.self.inside.folders c.args.dir.now ∙ sym c.remove.ensures.value

removed : (c : After-remove) → by_name c.remove.new.self ≡ remove (by_name c.self.inside.folders) c.args.dir.now
removed c = by_name-remove c.args.dir.now c.self.inside.folders c.remove.new.self c.remove.ensures.updates

pub invariant_of-self-in-Some : goal.invariant_of-self-in-Some
invariant_of-self-in-Some c = (c.self.invariant.0, rw (removed (goal.at.invariant_of-self-in-Some c).After-remove) (EachIs-remove AreUnfailed _ _ c.self.invariant.1))

pub returns-in-Some-clause-unfailed : goal.returns-in-Some-clause-unfailed
returns-in-Some-clause-unfailed c =
    let is = found (goal.at.returns-in-Some-clause-unfailed c).After-remove ∙ c.in-Some.is in
    rw is at (c.self.invariant.1 c.args.dir.now)

pub returns-in-Some-clause-hands : goal.returns-in-Some-clause-hands
returns-in-Some-clause-hands c =
    let at_remove = (goal.at.returns-in-Some-clause-hands c).After-remove in
    let was = c.self.view_is ∙ c.in_ok-begin_handing.ensures.ok.1 in
    let is = found at_remove ∙ c.in-Some.is in
    let yes : c.has_fit.result ≡ true = cc in
    let fits : fit c.in-Some.held c.args.drives c.args.volumes c.args.capacity ≡ true = subst (λ o. IfSome o (λ held. fit held c.args.drives c.args.volumes c.args.capacity ≡ true)) (ap (λ h. get h.folders c.args.dir.now) (sym c.self.view_is) ∙ is) (c.has_fit.ensures.fit yes) in (
      c.in_ok-begin_handing.ensures.ok.0,
      subst (λ o. Handed o c.args.drives c.args.volumes c.args.capacity c.in-Some.held) (sym (ap (λ h. get h.folders c.args.dir.now) (sym was) ∙ is)) (refl, fits),
      rw (removed at_remove) (ap (λ (h : Hosted). record h { folders = remove h.folders c.args.dir.now }) was),
    )

pub returns-clause-hands : goal.returns-clause-hands
returns-clause-hands c =
    let at_remove = (goal.at.returns-clause-hands c).After-remove in
    let was = c.self.view_is ∙ c.in_ok-begin_handing.ensures.ok.1 in
    let none : c.remove.result ≡ None = no_value c.remove.result c.in_default.not-Some in
    let is = found at_remove ∙ none in
    new_hands c.args.dir.now c.args.drives c.args.volumes c.args.capacity c.args.self.now _ c.new_drives.result c.in_ok-begin_handing.ensures.ok.0 (ap (λ h. get h.folders c.args.dir.now) (sym was) ∙ is)
    (rw (removed at_remove) (ap (λ (h : Hosted). record h { folders = remove h.folders c.args.dir.now }) was))
    (rw (by_name-same c.self.inside.folders c.remove.new.self (rw none at c.remove.ensures.unchanged)) was) c.new_drives.ensures.new c.new_drives.ensures.memory

pub returns-clause-unfailed : goal.returns-clause-unfailed
returns-clause-unfailed c = new_unfailed c.args.drives c.args.volumes c.args.capacity c.new_drives.result c.new_drives.ensures.new
