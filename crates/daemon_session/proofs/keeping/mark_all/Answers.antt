use Rattle.std.proofs.Common.{refl}
use Rattle.daemon_session.specs.declared.events.Kept.{Kept}
use Rattle.hsm_types.proofs.Changing.{changed_next}
use Rattle.daemon_session.proofs.keeping.mark_all.Goals as goal

pub loop-one-preserved : goal.loop-one-preserved
loop-one-preserved c = changed_next (λ (k : Kept). record k { marked = c.args.marked }) c.args.kept.now c.loop-one.kept c.loop-one.one-index _ _ c.loop-one.invariant c.loop-one-test.true refl
