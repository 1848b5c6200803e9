use Rattle.std.proofs.Common.{◌∙◌, Ok, Err, Some, refl, sym, subst}
use Rattle.hsm_threads.specs.Lots.{Lot, TakesStep}
use Rattle.hsm_threads.specs.declared.steps.Asked.TheVariants.{Nothing}
use Rattle.hsm_threads.proofs.RunDeeds.{no_stop}
use Rattle.hsm_threads.proofs.Keeping.{lies_stepped, works_still}
use Rattle.hsm_threads.proofs.Stepping.{asked_in_vain, asked_of}
use Rattle.hsm_threads.proofs.run.Run.ask.Goals as goal

-- ---- the run has stopped

pub same-self : goal.same-self
same-self g c = refl

pub returns-then-is_some : goal.returns-then-is_some
returns-then-is_some g c = subst (λ (l : Lot g.row.D.Denot). TakesStep g.D.Disk c.args.daemon Nothing l l) c.self.view_is (asked_in_vain g.D.Disk c.args.daemon _ (sym c.is_some.ensures ∙ c.if-is_some.true))

-- ---- a step is taken

pub take_step-requires : goal.take_step-requires
take_step-requires g c = works_still g.N.Named.opened g.N.Named.limits g.N.Named.lines _ c.self.invariant (sym c.is_some.ensures ∙ c.if-is_some.false)

pub invariant_of-self : goal.invariant_of-self
invariant_of-self g c =
    let on = sym c.is_some.ensures ∙ c.if-is_some.false in
    lies_stepped g.N.Named.opened g.N.Named.limits g.N.Named.lines _ c.self.invariant on c.args.daemon (Ok c.in-Ok.asked) c.self.inside.stop c.take_step.new.system (no_stop c.self.inside.stop on)
    c.in-Ok.ensures.deeds c.in-Ok.ensures.opened c.in-Ok.ensures.closed

pub returns-in-Ok : goal.returns-in-Ok
returns-in-Ok g c =
    let on = sym c.is_some.ensures ∙ c.if-is_some.false in
    subst (λ (l : Lot g.row.D.Denot). TakesStep g.D.Disk c.args.daemon c.in-Ok.asked l (record { system = c.take_step.new.system; lists = c.self.inside.lists; stop = c.self.inside.stop })) c.self.view_is
    (asked_of g.D.Disk c.args.daemon _ _ c.self.inside.stop on (Ok c.in-Ok.asked) c.in-Ok.ensures.deeds c.in-Ok.ensures.came (no_stop c.self.inside.stop on))

pub invariant_of-self-in-Err : goal.invariant_of-self-in-Err
invariant_of-self-in-Err g c =
    lies_stepped g.N.Named.opened g.N.Named.limits g.N.Named.lines _ c.self.invariant (sym c.is_some.ensures ∙ c.if-is_some.false) c.args.daemon (Err c.in-Err.why) (Some c.in-Err.why) c.take_step.new.system refl
    c.in-Err.ensures.deeds c.in-Err.ensures.opened c.in-Err.ensures.closed

pub returns-in-Err : goal.returns-in-Err
returns-in-Err g c =
    subst (λ (l : Lot g.row.D.Denot). TakesStep g.D.Disk c.args.daemon Nothing l (record { system = c.take_step.new.system; lists = c.self.inside.lists; stop = Some c.in-Err.why })) c.self.view_is
    (asked_of g.D.Disk c.args.daemon _ _ (Some c.in-Err.why) (sym c.is_some.ensures ∙ c.if-is_some.false) (Err c.in-Err.why) c.in-Err.ensures.deeds c.in-Err.ensures.came refl)
