use Rattle.std.proofs.Common.{inr, arith}
use Rattle.disk_model.proofs.Steps.{turned, kept_by}
use Rattle.meta_journal.proofs.Opening.{behind_shut, gate_opened, opening_turns}
use Rattle.meta_journal.proofs.gates.put_batch.Goals as goal

pub write_through-requires : goal.write_through-requires
write_through-requires g c = omega (arith, c.requires.fits)

pub returns-in_err-write_through-clause-any_moment : goal.returns-in_err-write_through-clause-any_moment
returns-in_err-write_through-clause-any_moment g c =
    turned g.D.Disk _ _ _ _ (kept_by g.D.Disk _ _ _ _ (behind_shut _ _ _ (omega arith)) c.write_through.ensures.any_moment)

pub returns-in_err-write_through-2-clause-any_moment : goal.returns-in_err-write_through-2-clause-any_moment
returns-in_err-write_through-2-clause-any_moment g c =
    opening_turns g.D.Disk _ _ _ c.args.at _ c.args.body.now (omega arith) c.write_through.ensures.any_moment c.in_ok-write_through.ensures.stored c.write_through-2.ensures.any_moment

pub returns-clause-any_moment : goal.returns-clause-any_moment
returns-clause-any_moment g c =
    opening_turns g.D.Disk _ _ _ c.args.at _ c.args.body.now (omega arith) c.write_through.ensures.any_moment c.in_ok-write_through.ensures.stored c.write_through-2.ensures.any_moment

pub returns-clause-stored : goal.returns-clause-stored
returns-clause-stored g c = λ image may.
    let m = c.in_ok-write_through-2.ensures.stored image may in
    let d = c.in_ok-write_through.ensures.stored m.0 (inr m.1) in
    (d.0, d.1, gate_opened _ _ _ (omega arith) d.0 m.0 image d.2 m.2.freed m.2.there)
