use Rattle.std.proofs.Common.{◌∙◌, ap}
use Rattle.hsm_types.specs.declared.daemons.Heard.TheVariants as heard
use Rattle.daemon_session.proofs.WaySteps.{recollected}
use Rattle.daemon_session.proofs.members.Member.on_recollecting.Goals as goal

pub returns-in-Dm-Tokens : goal.returns-in-Dm-Tokens
returns-in-Dm-Tokens c =
    recollected c.args.self.now c.args.told c.args.sid c.in-Dm-Tokens.tokens c.find.result c.find.new.self c.requires (c.in-Dm-Tokens.is ∙ ap heard.Dm c.in-Dm-Tokens.field-0-is) c.find.ensures
