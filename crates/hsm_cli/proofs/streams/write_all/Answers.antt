use Rattle.std.proofs.Common.{◌∙◌, inl, ap, length, arith, length-drop, length-take}
use Rattle.hsm_cli.proofs.Bytes.{written_more}
use Rattle.hsm_cli.proofs.streams.write_all.Goals as goal

pub loop-done-preserved : goal.loop-done-preserved
loop-done-preserved g c =
    let fits = simp (length-take, length-drop) at c.in_ok-count.ensures.bound in
    record {
      taken = written_more _ _ _ c.args.bytes.now c.loop-done.done c.in_ok-count.count c.loop-done.invariant.within (omega (arith, fits)) c.loop-done.invariant.taken c.in_ok-count.ensures.bytes;
      within = omega (arith, fits);
      quiet = c.in_ok-count.ensures.quiet (inl (omega arith)) ∙ c.loop-done.invariant.quiet;
      idle = λ none. let wrong : ⊥ = omega (arith, ap length none) in absurd wrong;
    }
