use borrow.Author.Count.{below_more}
use Rattle.std.proofs.Common.{arith, slice_index_or, subst}
use Rattle.std.proofs.lemmas.List.{get_or_default}
use Rattle.std.specs.Prelude.{Contains}
use Rattle.recall_daemon.specs.declared.away.Away.{Away}
use Rattle.recall_daemon.specs.Known.{needed_by}
use Rattle.recall_daemon.proofs.needed.first_needed.Goals as goal

pub loop-one-preserved : goal.loop-one-preserved
loop-one-preserved c =
    let away = c.args.away.now in
    let i = c.loop-one.one-index in
    let needed = needed_by c.args.event.now c.args.size in
    record { none = below_more (λ k. (a : Away) → Contains needed (slice_index_or away k a).segment → ⊥) i c.loop-one.invariant.none (λ a has. let is = c.is_needed.ensures.1 (subst (λ (b : Away). Contains needed b.segment) (get_or_default away i a _ c.loop-one-test.true) has) in cc) }

pub returns : goal.returns
returns c = λ a needs. c.loop-one.invariant.none needs.0.0 (omega (arith, needs.0.1)) a (rw needs.0.2 needs.1)
