use Rattle.std.proofs.Common.{sym, ◌∙◌}
use Rattle.std.proofs.lemmas.Bool.{false≢true}
use Rattle.script_text.proofs.Numerals.{number_reads, decimal_many, decimal_plain}
use Rattle.script_text.proofs.words.number.Goals as goal

pub returns-then-not-is_plain : goal.returns-then-not-is_plain
returns-then-not-is_plain c x small same =
    false≢true (sym c.if-not-is_plain.true ∙ c.is_plain.ensures.1 (rw same (decimal_many x small), rw same (decimal_plain x small)))

pub returns : goal.returns
returns c =
    let plain = c.is_plain.ensures.0 c.if-not-is_plain.false in
    number_reads c.args.word.now c.value.result plain.0 plain.1 c.value.ensures
