use Rattle.std.proofs.Common.{append_assoc}
use Rattle.snapshot_text.proofs.writing.put_head.Goals as goal

pub returns : goal.returns
returns c =
    rw (c.in_ok-extend_from_slice-2.ensures.items, c.in_ok-extend_from_slice.ensures.items, c.spell_head.ensures, c.as_slice-name.ensures) (append_assoc c.args.out.now.items _ c.args.name.now)
