use Rattle.std.proofs.Common.{◌+◌}
use Rattle.recall_daemon.proofs.Meeting.{met_before}
use Rattle.recall_daemon.proofs.needed.is_needed.Goals as goal

pub returns-in-Write : goal.returns-in-Write
returns-in-Write c =
    let e = c.args.event.now in
    rw (c.in-Write.is, ← c.min-in-Write.ensures) (met_before c.min-in-Write.result (e.offset + e.length) c.saturating_add-end.result c.args.segment c.meets-in-Write.result c.ranges.segment.fits c.saturating_add-end.ensures c.meets-in-Write.ensures)
