use Rattle.std.proofs.Common.{◌∙◌}
use Rattle.access_park.proofs.Tables.{access_of-read}
use Rattle.access_park.proofs.park.Park.pending.Goals as goal

pub returns-clause-access : goal.returns-clause-access
returns-clause-access c =
    rw (← c.self.view_is, ← c.number_of.ensures.number) (c.as_ref.ensures.value ∙ access_of-read c.self.inside.slots.items c.self.inside.waiting c.number_of.result c.self.invariant c.number_of.ensures.within c.index.result.now c.index.ensures)
