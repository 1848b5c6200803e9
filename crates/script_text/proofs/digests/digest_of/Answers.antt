use Rattle.std.proofs.Common.{sym, ◌∙◌}
use Rattle.std.proofs.lemmas.Bool.{false≢true}
use Rattle.script_text.proofs.HexText.{encoded_lower, sized_decoded, sized_not_refused}
use Rattle.script_text.proofs.digests.digest_of.Goals as goal

pub returns-then-not-are_lower_hex : goal.returns-then-not-are_lower_hex
returns-then-not-are_lower_hex c x h same = false≢true (sym c.if-not-are_lower_hex.true ∙ c.are_lower_hex.ensures ∙ rw same (encoded_lower x.0 h.0))

pub returns-in-Ok : goal.returns-in-Ok
returns-in-Ok c =
    let is = sized_decoded c.args.word.now c.in-Ok.bytes 32 (sym c.are_lower_hex.ensures ∙ c.if-not-are_lower_hex.false) (sym c.in-Ok.ensures) in
    ((is.0, is.1), is.2)

pub returns-in-Err : goal.returns-in-Err
returns-in-Err c x h same = sized_not_refused c.args.word.now x.0 32 c.in-Err.field-0 h.0 h.1 same (sym c.in-Err.ensures)
