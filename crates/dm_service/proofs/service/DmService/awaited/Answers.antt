use Rattle.std.proofs.Common.{arith}
use Rattle.access_park.specs.Laws.{CountsWaiting}
use Rattle.access_park.specs.Pending.{access_of}
use Rattle.access_park.proofs.Counting.{counts_waiting}
use Rattle.dm_service.specs.Tables.{is_open}
use Rattle.dm_service.proofs.Awaiting.{few_open}
use Rattle.dm_service.proofs.service.DmService.awaited.Goals as goal

pub overflow_add-result : goal.overflow_add-result
overflow_add-result c =
    let counts : CountsWaiting (access_of c.self.inside.park) = counts_waiting (access_of c.self.inside.park) in
    omega (arith, counts.few, few_open c.self.inside.tokens (is_open c.self.inside.sessions), c.self.invariant.counted, c.self.invariant.few, c.waiting.ensures)
