use Rattle.std.proofs.Common.{◌∙◌, ap}
use Rattle.std.proofs.lemmas.Result.{IfOk-weaker}
use Rattle.hsm_types.specs.declared.daemons.Heard.TheVariants as heard
use Rattle.daemon_session.proofs.WaySteps.{listed}
use Rattle.daemon_session.proofs.members.Member.on_listing.Goals as goal

pub returns-in-Dm-Sids-clause-ok : goal.returns-in-Dm-Sids-clause-ok
returns-in-Dm-Sids-clause-ok c =
    IfOk-weaker c.query.result _ _ (λ next to. listed c.args.self.now c.args.told c.in-Dm-Sids.ids next c.query.new.self c.requires (c.in-Dm-Sids.is ∙ ap heard.Dm c.in-Dm-Sids.field-0-is) to) c.query.ensures.ok
