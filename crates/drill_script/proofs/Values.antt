-- What is drawn first of 0, so that a wrong number in the definition isn't taken.
use Rattle.std.proofs.Common.{◌≡◌, refl}
use Rattle.drill_script.specs.Drill.{next, turn_from}

pub next-0 : next 0 ≡ 1442695040888963407
unfolding next
next-0 = refl

pub turn_from-0 : turn_from 0 ≡ record { action = 7; file = 24; offset = 69632; seed = 116 }
unfolding next turn_from
turn_from-0 = refl
