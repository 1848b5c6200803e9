use Rattle.std.proofs.Common.{refl, arith}
use Rattle.volume_format.proofs.ReadObjects.{length_judged}
use Rattle.volume_format.proofs.objects.says_length.Goals as goal

pub returns : goal.returns
returns c = length_judged c.args.buf.now _ _ _ c.read_u32-len.ensures (omega (arith, c.requires)) refl (omega (arith, c.if-len-lt1.false)) (omega (arith, c.if-len-gt-PAYLOAD_BYTES.false))
