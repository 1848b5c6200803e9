use Rattle.std.proofs.Common.{sym}
use Rattle.event_msgs.proofs.ReadMessages.{payload_refused, own_shown, access_taken}
use Rattle.event_msgs.proofs.reading.view_of.Goals as goal

pub returns-then-not-is_payload : goal.returns-then-not-is_payload
returns-then-not-is_payload c = payload_refused c.args.kind c.args.token c.args.payload.now (sym c.if-not-is_payload.ensures)

pub returns-in-User : goal.returns-in-User
returns-in-User c = own_shown c.args.kind c.args.token c.args.payload.now _ c.in-User.is (sym c.if-not-is_payload.ensures) c.own_view.ensures

pub returns-in_default : goal.returns-in_default
returns-in_default c = access_taken c.args.kind c.args.token c.args.payload.now _ c.in_default.not-User (sym c.if-not-is_payload.ensures) c.access_view.ensures
