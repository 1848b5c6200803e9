use Rattle.std.proofs.Common.{arith}
use Rattle.hsm_cli.proofs.Bytes.{read_whole, read_enough, gives_part}
use Rattle.hsm_cli.proofs.Quiet.{once_since}
use Rattle.hsm_cli.proofs.streams.read_all.Goals as goal

pub returns-then-count-eq0-clause-bytes : goal.returns-then-count-eq0-clause-bytes
returns-then-count-eq0-clause-bytes g c = read_whole _ _ _ c.loop-source.bytes.items _ _ c.loop-source.invariant.taken c.in_ok-count.ensures.more c.if-count-eq0.true

pub returns-clause-bytes : goal.returns-clause-bytes
returns-clause-bytes g c = read_enough _ _ c.loop-source.bytes.items c.loop-source.invariant.taken (omega arith)

pub returns-in_err-count-clause-part : goal.returns-in_err-count-clause-part
returns-in_err-count-clause-part g c = gives_part _ _ _ c.loop-source.bytes.items c.loop-source.invariant.taken c.in_err-count.ensures.taken

pub returns-in_err-count-clause-once : goal.returns-in_err-count-clause-once
returns-in_err-count-clause-once g c = once_since _ _ _ c.loop-source.invariant.quiet c.in_err-count.ensures.once
