use Rattle.std.proofs.Common.{◌≡◌, ◌++◌, ◌-◌, ◌+◌, length, ap, ◌∙◌, arith}
use Rattle.std.specs.Prelude.{replicate}
use Rattle.std.specs.List.{concat}
use Rattle.std.proofs.lemmas.Grind.{common_steps}
use Rattle.file_body.specs.HeldBodies.{pieces}
use Rattle.plain_model.specs.Plain.{written}
use Rattle.file_body.proofs.Grown.{written-grown}
use Rattle.file_body.proofs.bodies.Body.write.Goals as goal

pub returns-clause-ok : goal.returns-clause-ok
returns-clause-ok c =
    let grown : concat (pieces c.self.inside.segments.items) ≡ c.args.self.now.bytes ++ replicate (c.args.offset + length c.args.bytes.now - length c.args.self.now.bytes) 0 = ap (λ b. b.bytes) c.self.view_is ∙ c.in_ok-ready.ensures.ok in
    let over = rw c.as_mut_slice.ensures.value at c.overwrite.ensures.bytes in
    let whole : concat (pieces c.overwrite.new.segments) ≡ written c.args.offset c.args.bytes.now c.args.self.now.bytes = over ∙ written-grown c.args.offset c.args.bytes.now c.args.self.now.bytes _ grown in
    grind (arith, common_steps)
