use Rattle.std.proofs.Common.{length, arith}
use Rattle.byteorder.specs.Endian.{big_bytes}
use Rattle.journal_records.proofs.WrittenTexts.{puts_both}
use Rattle.journal_records.proofs.spelling.put_name.Goals as goal

pub returns-clause-puts : goal.returns-clause-puts
returns-clause-puts c =
    puts_both c.args.at c.put_u8-at.result (big_bytes 1 (length c.args.name.now)) c.args.name.now c.args.out.now _ _ c.put_u8-at.ensures.end (omega (arith, c.put_u8-at.ensures.end, c.requires.room)) c.put_u8-at.ensures.puts c.put.ensures.puts
