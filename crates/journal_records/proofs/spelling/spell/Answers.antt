use Rattle.std.proofs.Common.{ℕ, List, ◌++◌, subst, arith}
use Rattle.byteorder.specs.Endian.{big_bytes}
use Rattle.journal_records.specs.Texts.{tag_of, inode_of, fields_text, record_text}
use Rattle.journal_records.specs.Places.{Puts}
use Rattle.journal_records.proofs.WrittenTexts.{puts_both, puts_front}
use Rattle.journal_records.proofs.spelling.spell.Goals as goal

pub returns-clause-text : goal.returns-clause-text
unfolding record_text
returns-clause-text c =
    let fields : List ℕ = fields_text c.args.record.now in
    let head = puts_both 0 c.put_u8-at.result (big_bytes 1 c.tag.result) (big_bytes 8 c.ino.result) c.args.out.now _ _ c.put_u8-at.ensures.end (omega (arith, c.put_u8-at.ensures.end, c.requires.room)) c.put_u8-at.ensures.puts c.put_u64-at.ensures.puts in
    let all = puts_both 0 c.put_u64-at.result (big_bytes 1 c.tag.result ++ big_bytes 8 c.ino.result) fields c.args.out.now _ _ (omega (arith, c.put_u8-at.ensures.end, c.put_u64-at.ensures.end)) (omega (arith, c.put_u8-at.ensures.end, c.put_u64-at.ensures.end, c.requires.room)) head c.put_fields.ensures.puts in
    let tagged : Puts 0 ((big_bytes 1 (tag_of c.args.record.now) ++ big_bytes 8 c.ino.result) ++ fields) c.args.out.now c.put_fields.new.out =
    subst (λ (n : ℕ). Puts 0 ((big_bytes 1 n ++ big_bytes 8 c.ino.result) ++ fields) c.args.out.now c.put_fields.new.out) c.tag.ensures all in
    let named : Puts 0 ((big_bytes 1 (tag_of c.args.record.now) ++ big_bytes 8 (inode_of c.args.record.now)) ++ fields) c.args.out.now c.put_fields.new.out =
    subst (λ (n : ℕ). Puts 0 ((big_bytes 1 (tag_of c.args.record.now) ++ big_bytes 8 n) ++ fields) c.args.out.now c.put_fields.new.out) c.ino.ensures tagged in
    puts_front (record_text c.args.record.now) c.args.out.now c.put_fields.new.out c.put_fields.result named (omega (arith, c.put_u8-at.ensures.end, c.put_u64-at.ensures.end, c.put_fields.ensures.end))
