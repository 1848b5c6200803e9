use Rattle.std.proofs.Common.{ap}
use Rattle.daemon_session.specs.declared.entering.Entering.TheVariants.{Outside}
use Rattle.daemon_session.specs.SessionSteps.{member_in}
use Rattle.daemon_session.specs.Members.{Membership}
use Rattle.daemon_session.proofs.WaySteps.{refused}
use Rattle.daemon_session.proofs.members.Member.on_refused_session.Goals as goal

pub returns-in-TooMany : goal.returns-in-TooMany
returns-in-TooMany c = refused c.args.self.now c.args.why c.args.old c.in-TooMany.count _ c.requires c.in-TooMany.is (ap (λ (m : Membership). member_in m.daemon Outside m.seat.kept) c.self.view_is)
