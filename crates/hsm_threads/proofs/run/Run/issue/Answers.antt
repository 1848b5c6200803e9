use Rattle.std.proofs.Common.{◌≡◌, ◌≢◌, ◌∙◌, ℕ, refl, sym, subst}
use Rattle.call_lists.specs.Lines.{left_of}
use Rattle.hsm_system.specs.declared.events.Event.TheVariants as event
use Rattle.hsm_threads.specs.Lots.{Issues, Lot}
use Rattle.hsm_threads.specs.declared.run.Next.TheVariants.{Ended, Waits}
use Rattle.hsm_threads.proofs.Callers.{issues_none, issues_one, issues_stopped, issues_waiting, makes}
use Rattle.hsm_threads.proofs.RunDeeds.{untold_by}
use Rattle.hsm_threads.proofs.Keeping.{lies_ended, lies_issued, works_still}
use Rattle.hsm_threads.proofs.run.Run.issue.Goals as goal

-- ---- the run has stopped

pub same-self : goal.same-self
same-self g c = refl

pub returns-then-is_some-clause-issues : goal.returns-then-is_some-clause-issues
returns-then-is_some-clause-issues g c =
    subst (λ (l : Lot g.row.D.Denot). Issues g.D.Disk c.args.caller Ended l l) c.self.view_is (issues_stopped g.D.Disk c.args.caller Ended _ _ (sym c.is_some.ensures ∙ c.if-is_some.true) refl refl)

pub returns-then-is_some-clause-others : goal.returns-then-is_some-clause-others
returns-then-is_some-clause-others g c = λ other apart. refl

-- ---- an access of the caller waits

pub same-self-then-not-is_idle : goal.same-self-then-not-is_idle
same-self-then-not-is_idle g c = refl

pub returns-then-not-is_idle-clause-issues : goal.returns-then-not-is_idle-clause-issues
returns-then-not-is_idle-clause-issues g c =
    subst (λ (l : Lot g.row.D.Denot). Issues g.D.Disk c.args.caller Waits l l) c.self.view_is
    (issues_waiting g.D.Disk c.args.caller Waits _ _ (sym c.is_some.ensures ∙ c.if-is_some.false) (untold_by c.is_idle.result c.is_idle.ensures c.if-not-is_idle.true) refl refl)

pub returns-then-not-is_idle-clause-others : goal.returns-then-not-is_idle-clause-others
returns-then-not-is_idle-clause-others g c = λ other apart. refl

-- ---- it has no call

pub invariant_of-self : goal.invariant_of-self
invariant_of-self g c = lies_ended g.N.Named.opened g.N.Named.limits g.N.Named.lines _ c.self.invariant c.args.caller c.next.new.self c.in_default.ensures.none.0 c.in_default.ensures.none.1 c.next.ensures.others

pub returns-in_default-clause-issues : goal.returns-in_default-clause-issues
returns-in_default-clause-issues g c =
    subst (λ (l : Lot g.row.D.Denot). Issues g.D.Disk c.args.caller Ended l (record { system = c.self.inside.system; lists = c.next.new.self; stop = c.self.inside.stop })) c.self.view_is
    (issues_none g.D.Disk c.args.caller Ended _ _ (sym c.is_some.ensures ∙ c.if-is_some.false) (c.is_idle.ensures.0 c.if-not-is_idle.false)
    c.in_default.ensures.none.0 c.in_default.ensures.none.1 refl refl refl)

pub returns-in_default-clause-others : goal.returns-in_default-clause-others
returns-in_default-clause-others g c =
    subst (λ (l : Lot g.row.D.Denot). (other : ℕ) → other ≢ c.args.caller → left_of c.next.new.self other ≡ left_of l.lists other) c.self.view_is c.next.ensures.others

-- ---- its call is made

pub invariant_of-self-2 : goal.invariant_of-self-2
invariant_of-self-2 g c =
    lies_issued g.N.Named.opened g.N.Named.limits g.N.Named.lines _ c.self.invariant g.D.Disk c.args.caller (sym c.is_some.ensures ∙ c.if-is_some.false) c.event-made.new.self c.in-Some.call c.next.new.self c.in-Some.ensures.taken c.next.ensures.others
    c.event-made.result c.stop_of-self-inside.result (c.is_idle.ensures.0 c.if-not-is_idle.false) c.event-made.ensures.done c.stop_of-self-inside.ensures

pub returns-clause-issues : goal.returns-clause-issues
returns-clause-issues g c =
    let on = sym c.is_some.ensures ∙ c.if-is_some.false in
    subst (λ (l : Lot g.row.D.Denot). Issues g.D.Disk c.args.caller c.next_of.result l (record { system = c.event-made.new.self; lists = c.next.new.self; stop = c.stop_of-self-inside.result })) c.self.view_is
    (issues_one g.D.Disk c.args.caller c.next_of.result _ _ on (c.is_idle.ensures.0 c.if-not-is_idle.false) c.in-Some.call c.in-Some.ensures.taken
    (makes g.D.Disk (event.Issue c.args.caller c.in-Some.call) tt c.event-made.result _ _ (works_still g.N.Named.opened g.N.Named.limits g.N.Named.lines _ c.self.invariant on) c.event-made.ensures.done c.event-made.ensures.keeps c.stop_of-self-inside.ensures) c.next_of.ensures)

pub returns-clause-others : goal.returns-clause-others
returns-clause-others g c = subst (λ (l : Lot g.row.D.Denot). (other : ℕ) → other ≢ c.args.caller → left_of c.next.new.self other ≡ left_of l.lists other) c.self.view_is c.next.ensures.others
