use Rattle.std.proofs.Common.{length, sym, ap, ◌∙◌, append_assoc, arith}
use Rattle.std.specs.Vec.Iter.{into_iter_items}
use Rattle.hsm_types.specs.Attributes.{Attributes}
use Rattle.snapshot_text.specs.FileValidity.{are_attributes}
use Rattle.snapshot_text.proofs.KeptBounds.{eight-with, setting-fits}
use Rattle.snapshot_text.proofs.KeptAttributes.{at-end, ends-more, accepted}
use Rattle.snapshot_text.proofs.kept.attributes_of.Goals as goal

pub loop-name-preserved : goal.loop-name-preserved
loop-name-preserved c =
    let so_far = c.loop-name.invariant in
    let name = c.in-Some.name in
    let value = c.in-Some.value in
    let next = c.in-Some.ensures.steps in
    let behind = sym c.stands_behind.ensures ∙ c.if-not-stands_behind.false in
    let put = at-end c.loop-name.before c.loop-name.kept name value so_far.ends behind in
    rw c.in-Ok.ensures.after (record {
      set = rw (put, append_assoc, ← next.0) so_far.set;
      left = omega (arith, so_far.left, next.1, ap length next.0);
      judged = grind (arith, so_far.judged, next.0, behind, c.in-Ok.ensures.ok);
      ends = ends-more c.loop-name.before c.loop-name.kept name value so_far.ends behind;
      within = omega (arith, setting-fits name value 0 c.args.limit c.loop-name.kept c.in-Ok.ensures.ok);
      eight = eight-with name value c.loop-name.kept so_far.eight (sym c.name_len-len.ensures.bytes ∙ c.name_len-len.ensures.eight);
    })

pub returns-in-Err-clause-corrupt : goal.returns-in-Err-clause-corrupt
returns-in-Err-clause-corrupt c = λ is lawful few.
    let so_far = c.loop-name.invariant in
    let next = c.in-Some.ensures.steps in
    let none = accepted c.loop-name.before c.loop-name.kept c.in-Some.name c.in-Some.value so_far.ends (into_iter_items c.next.new.self) c.args.limit (sym (ap (λ (r : Attributes). are_attributes c.loop-name.before r) next.0) ∙ sym so_far.judged ∙ lawful) (rw (← next.0, so_far.set) few) in
    grind (arith, c.refusal_of.ensures.1, c.in-Err.ensures.refused)
