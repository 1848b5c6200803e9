use Rattle.std.proofs.Common.{arith}
use Rattle.std.proofs.lemmas.List.{take_rest}
use Rattle.journal_records.proofs.fields.digest_at.Goals as goal

pub returns : goal.returns
returns c = grind (arith, c.copy_from_slice.ensures.after, c.copy_from_slice.ensures.len, take_rest c.args.bytes.now 32, c.if-bytes-lt32.false)
