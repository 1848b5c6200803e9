use Rattle.std.proofs.Common.{◌≡◌, ◌∙◌, refl, sym, subst}
use Rattle.hsm_core.specs.Ready.{ready}
use Rattle.hsm_system.specs.declared.events.Event.TheVariants as event
use Rattle.hsm_threads.specs.Lots.{Lot, Resumes, next_by}
use Rattle.hsm_threads.specs.declared.run.Next.TheVariants.{Ended}
use Rattle.hsm_threads.proofs.Callers.{makes, resumes_now, resumes_stopped, resumes_waiting}
use Rattle.hsm_threads.proofs.RunDeeds.{untold_by}
use Rattle.hsm_threads.proofs.Keeping.{lies_resumed, works_still}
use Rattle.hsm_threads.proofs.run.Run.resume.Goals as goal

-- ---- the run has stopped

pub same-self : goal.same-self
same-self g c = refl

pub returns-then-is_some : goal.returns-then-is_some
returns-then-is_some g c =
    subst (λ (l : Lot g.row.D.Denot). Resumes g.D.Disk c.args.caller Ended l l) c.self.view_is (resumes_stopped g.D.Disk c.args.caller Ended _ _ (sym c.is_some.ensures ∙ c.if-is_some.true) refl refl)

-- ---- its access may not go on

pub same-self-then-not-is_ready : goal.same-self-then-not-is_ready
same-self-then-not-is_ready g c = refl

pub returns-then-not-is_ready : goal.returns-then-not-is_ready
returns-then-not-is_ready g c =
    subst (λ (l : Lot g.row.D.Denot). c.next_of.result ≡ next_by l.stop (ready l.system.store c.args.caller) → Resumes g.D.Disk c.args.caller c.next_of.result l l) c.self.view_is
    (λ told. resumes_waiting g.D.Disk c.args.caller c.next_of.result _ _ (sym c.is_some.ensures ∙ c.if-is_some.false) (untold_by c.is_ready.result c.is_ready.ensures c.if-not-is_ready.true) told refl) c.next_of.ensures

-- ---- it goes on

pub invariant_of-self : goal.invariant_of-self
invariant_of-self g c =
    lies_resumed g.N.Named.opened g.N.Named.limits g.N.Named.lines _ c.self.invariant g.D.Disk c.args.caller (sym c.is_some.ensures ∙ c.if-is_some.false) c.event-made.new.self c.event-made.result c.stop_of-self-inside.result
    c.event-made.ensures.done c.stop_of-self-inside.ensures

pub returns : goal.returns
returns g c =
    let on = sym c.is_some.ensures ∙ c.if-is_some.false in
    subst (λ (l : Lot g.row.D.Denot). Resumes g.D.Disk c.args.caller c.next_of-2.result l (record { system = c.event-made.new.self; lists = c.self.inside.lists; stop = c.stop_of-self-inside.result })) c.self.view_is
    (resumes_now g.D.Disk c.args.caller c.next_of-2.result _ _ on (c.is_ready.ensures.0 c.if-not-is_ready.false)
    (makes g.D.Disk (event.Resume c.args.caller) tt c.event-made.result _ _ (works_still g.N.Named.opened g.N.Named.limits g.N.Named.lines _ c.self.invariant on) c.event-made.ensures.done c.event-made.ensures.keeps c.stop_of-self-inside.ensures)
    refl c.next_of-2.ensures)
