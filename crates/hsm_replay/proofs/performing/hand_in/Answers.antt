use Rattle.std.proofs.Common.{refl}
use Rattle.hsm_replay.proofs.performing.hand_in.Goals as goal

pub take_in-requires : goal.take_in-requires
take_in-requires g c = rw c.in-Ok.is at c.requires.so

pub returns-in-Ok : goal.returns-in-Ok
returns-in-Ok g c = rw c.in-Ok.is (refl, c.take_in.ensures.taken (c.take_in.ensures.awaited.1 (rw c.in-Ok.is at c.requires.awaited)))

pub returns-in-Err : goal.returns-in-Err
returns-in-Err g c = rw c.in-Err.is (refl, c.lose.ensures.lost (c.lose.ensures.waited.1 c.requires.waits))
