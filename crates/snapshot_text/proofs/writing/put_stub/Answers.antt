use Rattle.std.proofs.Common.{append_assoc}
use Rattle.snapshot_text.proofs.writing.put_stub.Goals as goal
use Rattle.hsm_types.specs.Stubs.{entry_print}

pub returns : goal.returns
returns c =
    rw (c.in_ok-extend_from_slice-2.ensures.items, c.in_ok-extend_from_slice.ensures.items, c.spell_stub.ensures, c.print.ensures) (append_assoc c.args.out.now.items _ (entry_print c.args.stub.entry).digest.0)
