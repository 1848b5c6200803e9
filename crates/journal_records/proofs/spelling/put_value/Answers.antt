use Rattle.std.proofs.Common.{length, arith}
use Rattle.byteorder.specs.Endian.{big_bytes}
use Rattle.journal_records.proofs.WrittenTexts.{puts_both}
use Rattle.journal_records.proofs.spelling.put_value.Goals as goal

pub returns-clause-puts : goal.returns-clause-puts
returns-clause-puts c =
    puts_both c.args.at c.put_u16-at.result (big_bytes 2 (length c.args.value.now)) c.args.value.now c.args.out.now _ _ c.put_u16-at.ensures.end (omega (arith, c.put_u16-at.ensures.end, c.requires.room)) c.put_u16-at.ensures.puts c.put.ensures.puts
