use Rattle.std.proofs.Common.{inl, inr}
use Rattle.std.specs.Prelude.{codes}
use Rattle.script_text.proofs.DataParts.{differ, data_kind}
use Rattle.script_text.proofs.bodies.body_of.Goals as goal

pub returns : goal.returns
returns c x h same =
    elim (data_kind c.args.word.now c.in-Some.kind.now c.in-Some.rest.now x.seed x.bytes c.in-Some.ensures.0 c.in-Some.ensures.1 same) [
      | inl hex ↦ differ c.in-Some.kind.now c.as_slice.result.now (codes "x") c.eq.result c.eq.ensures c.as_slice.ensures c.if-eq.false hex
      | inr seeded ↦ differ c.in-Some.kind.now c.as_slice-2.result.now (codes "p") c.eq-2.result c.eq-2.ensures c.as_slice-2.ensures c.if-eq-2.false seeded
    ]
