use Rattle.std.proofs.Common.{sym, ◌∙◌}
use Rattle.std.proofs.lemmas.Bool.{false≢true}
use Rattle.command_words.proofs.Spelling.{plain_named, unplain_named}
use Rattle.command_words.proofs.numbers.number_named.Goals as goal

pub returns-then-not-is_plain : goal.returns-then-not-is_plain
returns-then-not-is_plain c =
    sym (unplain_named c.args.word.now (λ plain. false≢true (sym c.if-not-is_plain.true ∙ c.is_plain.ensures.1 (rw c.as_bytes.ensures.value plain))))

pub returns : goal.returns
returns c =
    let plain = c.is_plain.ensures.0 c.if-not-is_plain.false in
    c.ok.ensures.value ∙ plain_named c.args.word.now c.parse.result (rw c.as_bytes.ensures.value at plain) c.parse.ensures.value.0
