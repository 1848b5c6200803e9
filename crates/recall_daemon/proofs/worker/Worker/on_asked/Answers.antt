use Rattle.hsm_types.specs.Limits.{buffer_bytes}
use Rattle.hsm_types.specs.declared.daemons.Act.TheVariants.{Dm}
use Rattle.hsm_types.specs.declared.dm.DmCall.TheVariants.{GetEvents}
use Rattle.recall_daemon.proofs.Entries.{kept_more, kept_none, some_more}
use Rattle.recall_daemon.proofs.worker.Worker.on_asked.Goals as goal

pub returns-in-Some-clause-ok : goal.returns-in-Some-clause-ok
returns-in-Some-clause-ok c =
    let w = rw c.requires.serving at c.requires.worker.waits in
    let keeps = rw (c.requires.worker.daemon, c.as_slice.ensures) at c.in_ok-keep.ensures.ok in
    rw (w.2, c.requires.serving, kept_more _ _ _ _ c.in-Some.ensures) (rw keeps at (c.turn.ensures (Dm c.args.sid (GetEvents 0 buffer_bytes)) c.args.last.now (some_more _ _ _ c.in-Some.ensures)))

pub returns-clause-ok : goal.returns-clause-ok
returns-clause-ok c =
    let w = rw c.requires.serving at c.requires.worker.waits in
    rw (w.2, c.requires.serving, kept_none _ _ _ c.in_default.ensures) (c.turn-2.ensures _ _ (λ has. let is = c.tells_no_more.ensures.1 has.2 in cc))
