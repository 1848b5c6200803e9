use Rattle.std.proofs.Common.{sym, arith}
use Rattle.event_msgs.proofs.ReadMessages.{holds_within}
use Rattle.event_msgs.proofs.reading.frame_at.Goals as goal

pub split_at-requires : goal.split_at-requires
split_at-requires c = omega (arith, c.rounded_up.ensures, holds_within c.in_ok-header.header c.args.bytes.now (sym c.if-not-holds_message.ensures))
