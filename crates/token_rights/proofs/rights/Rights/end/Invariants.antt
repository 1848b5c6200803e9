use Rattle.std.proofs.Common.{◌≡◌, length}
use Rattle.hsm_types.specs.Rights.{released}
use Rattle.token_rights.proofs.rights.Rights.end.Given as goal

abbrev pub invariant-loop-key : goal.invariant-loop-key
invariant-loop-key l = released l.token l.self ≡ released l.token l.initial.self

abbrev pub decreases-loop-key : goal.decreases-loop-key
decreases-loop-key l = length l.self
