use Rattle.std.proofs.Common.{arith, length-drop, get_or, []}
use Rattle.volume_shelf.proofs.reading.payload_len.Goals as goal

pub returns-clause-told : goal.returns-clause-told
returns-clause-told g c = λ o given.
    let size = c.in_ok-size.ensures.size o given in
    (size.0, omega (arith, size.1, length-drop 72 (get_or o c.args.object []), c.saturating_sub.ensures))
