use Rattle.std.proofs.Common.{◌≡◌}
use Rattle.std.specs.List.{find}
use Rattle.hsm_types.specs.Rights.{hinders}
use Rattle.token_rights.proofs.Looking.{blocks}
use Rattle.token_rights.proofs.rights.Rights.conflict.Given as goal

abbrev pub invariant-loop-holding : goal.invariant-loop-holding
invariant-loop-holding l = find (hinders l.fn.key l.need l.own) l.self ≡ find (blocks l.need l.own) l.holding-iterator
