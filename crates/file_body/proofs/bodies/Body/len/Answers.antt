use Rattle.std.proofs.Common.{length, ◌∙◌, ap, arith}
use Rattle.std.specs.List.{concat}
use Rattle.file_body.specs.HeldBodies.{pieces, is_away}
use Rattle.file_body.proofs.HeldLists.{starts_away}
use Rattle.file_body.proofs.bodies.Body.len.Goals as goal

pub returns-clause-away : goal.returns-clause-away
returns-clause-away c = λ j gone.
    let start = starts_away c.self.inside.segments.items c.self.invariant.0 j (ap (λ b. is_away b j) c.self.view_is ∙ gone) in
    omega (arith, start, c.len.ensures, ap (λ l. length (concat (pieces l))) c.as_slice.ensures.value)
