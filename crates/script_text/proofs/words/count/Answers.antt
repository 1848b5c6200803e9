use Rattle.std.proofs.Common.{◌≡◌, sym, ◌∙◌, arith}
use Rattle.std.proofs.lemmas.Fmt.{decimal_injective}
use Rattle.script_text.proofs.words.count.Goals as goal

pub returns-then-n-gt-GREATEST_COUNT : goal.returns-then-n-gt-GREATEST_COUNT
returns-then-n-gt-GREATEST_COUNT c x small same =
    let number : c.in-Some.n ≡ x = decimal_injective c.in-Some.n x c.in-Some.ensures.0 (omega (arith, small)) (sym c.in-Some.ensures.1 ∙ same) in
    absurd (omega (arith, number, small))
