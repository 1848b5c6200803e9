use Rattle.daemon_session.proofs.WaySteps.{is_lost, lost}
use Rattle.daemon_session.proofs.members.Member.on_refused_message.Goals as goal

pub returns-in-NoToken : goal.returns-in-NoToken
returns-in-NoToken c = lost c.args.self.now c.args.sid c.args.token c.args.why c.requires.0 c.find_next.result c.find_next.new.self c.requires.1 (is_lost c.args.why c.in-NoToken.is) c.find_next.ensures
