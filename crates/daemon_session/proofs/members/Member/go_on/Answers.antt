use Rattle.daemon_session.proofs.WaySteps.{is_querying, is_finding}
use Rattle.daemon_session.proofs.members.Member.go_on.Goals as goal

pub on_querying-requires : goal.on_querying-requires
on_querying-requires c = is_querying c.self.inside.daemon c.self.inside.entering c.self.inside.kept.items c.args.self.now c.in-Querying.target c.in-Querying.ids c.in-Querying.at c.in-Querying.is c.self.view_is

pub on_finding-requires : goal.on_finding-requires
on_finding-requires c = is_finding c.self.inside.daemon c.self.inside.entering c.self.inside.kept.items c.args.self.now c.in-Finding.sid c.in-Finding.token c.in-Finding.tokens c.in-Finding.at c.in-Finding.is c.self.view_is
