-- What holds where nothing is given.
use Rattle.std.proofs.Common.{Option, Some, None, IfNone}

pub if_none : {X : Type 0} (r : Option X) {P : Type 0} → P → IfNone r P
if_none None holds = holds
if_none (Some x) holds = tt
