use Rattle.std.proofs.Common.{◌∙◌, ap, sym, ◌≡◌, Bool, false, List, ℕ}
use Rattle.std.specs.Str.{bytes_eq}
use Rattle.std.proofs.lemmas.Result.{IfOk-weaker, on_err_weaker}
use Rattle.hsm_types.specs.declared.daemons.Heard.TheVariants as heard
use Rattle.hsm_types.specs.declared.dm.DmReply.TheVariants.{Info}
use Rattle.hsm_types.specs.declared.daemons.Daemon.{Daemon}
use Rattle.hsm_types.specs.Daemons.{information}
use Rattle.daemon_session.specs.Members.{Membership}
use Rattle.daemon_session.proofs.WaySteps.{queried_next, queried_all}
use Rattle.daemon_session.proofs.members.Member.on_querying.Goals as goal

tested : (info own : List ℕ) (d old : Daemon) (r b : Bool) → own ≡ information d → d ≡ old → r ≡ bytes_eq info own → r ≡ b → bytes_eq info (information old) ≡ b
tested info own d old r b is same test test_is = ap (bytes_eq info) (sym (is ∙ ap information same)) ∙ sym test ∙ test_is

pub returns-in-Some-clause-ok : goal.returns-in-Some-clause-ok
returns-in-Some-clause-ok c =
    let told = c.in-Dm-Info.is ∙ ap heard.Dm (c.in-Dm-Info.field-0-is ∙ ap Info (sym c.as_slice.ensures)) in
    let other = tested _ _ _ c.args.self.now.daemon _ false c.information.ensures (ap (λ (m : Membership). m.daemon) c.self.view_is) c.eq.ensures c.if-eq.false in
    queried_next c.args.self.now c.args.told c.args.target c.as_slice.result.now c.requires.0 c.in-Some.target c.asks.result c.query_next.new.self c.requires.1 told other c.asks.ensures c.in-Some.ensures

pub returns-clause-ok : goal.returns-clause-ok
returns-clause-ok c =
    let told = c.in-Dm-Info.is ∙ ap heard.Dm (c.in-Dm-Info.field-0-is ∙ ap Info (sym c.as_slice.ensures)) in
    let other = tested _ _ _ c.args.self.now.daemon _ false c.information.ensures (ap (λ (m : Membership). m.daemon) c.self.view_is) c.eq.ensures c.if-eq.false in
    IfOk-weaker c.make-in-None.result _ _
    (λ next made. queried_all c.args.self.now c.query_next.new.self c.args.told c.args.target c.as_slice.result.now c.requires.0 next c.make-in-None.new.self c.requires.1 told other c.in-None.ensures made)
    c.make-in-None.ensures.ok

pub returns-clause-err : goal.returns-clause-err
returns-clause-err c = on_err_weaker c.make-in-None.result (λ same. same ∙ (c.in-None.ensures c.args.target c.requires.0 c.requires.1).1) c.make-in-None.ensures.err
