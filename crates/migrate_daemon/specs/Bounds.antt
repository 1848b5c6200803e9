-- How many acts a pass takes.
use Rattle.std.specs.Prelude.{◌≡◌, ℕ, ◌+◌, ◌-◌, ◌*◌, ◌<◌, ◌⊎◌, List, length, slice_get, Some}
use Rattle.hsm_types.specs.declared.daemons.Act.{Act}
use Rattle.hsm_types.specs.declared.daemons.Act.TheVariants.{Dm, Copy}
use Rattle.hsm_types.specs.declared.daemons.Heard.{Heard}
use Rattle.hsm_types.specs.declared.dm.DmCall.TheVariants.{GetRegion, SetRegion, ReadInvis, Seal, PunchHole}
use Rattle.hsm_policy.specs.declared.picking.Picked.{Picked}
use Rattle.migrate_daemon.specs.Passes.{IsCallOf, IsCopy, IsEnd, IsFull}
use Rattle.migrate_daemon.specs.Machine.{Machine, LeadsOn, SkipsAt}

-- the acts on a segment in their order
abbrev pub step_of : Act → ℕ
step_of (Dm sid (GetRegion t h)) = 1
step_of (Dm sid (SetRegion t h regions)) = 2
step_of (Dm sid (ReadInvis t h offset len)) = 3
step_of (Copy volume h segment bytes) = 4
step_of (Dm sid (Seal t h segment entry)) = 5
step_of (Dm sid (PunchHole t h offset len)) = 6
step_of act = 0

-- of a whole pass: six for each pick, and a read and a copy again for each volume but the last
abbrev pub most_acts : ℕ → List Picked → ℕ
most_acts volumes picks = 6 * length picks + 2 * (volumes - 1)

-- those to come at most: six for each pick that is not done, but for the steps taken, and a read and a copy again for each volume that may still
-- be found full, but for the last
abbrev pub acts_left : Machine → ℕ
acts_left m = 6 * (length m.pass.picks - m.pass.at) + 2 * (m.limits.volumes - (m.pass.volume + 1)) - step_of m.asked

-- it has asked an act on that segment, where its pass stands, and there is a volume for it
pub record IsPassing (m : Machine) (p : Picked) : Type 0 where
  pub pick : slice_get m.pass.picks m.pass.at ≡ Some p
  pub asked : IsCallOf m.pass.sid p m.asked ⊎ IsCopy p m.pass.volume m.asked
  pub room : m.pass.volume < m.limits.volumes

-- The answer says something of the act: it leads on, skips the segment or ends the pass, or the volume is full or not there.
abbrev pub SaysSomething : Machine → Picked → Heard → Type 0
SaysSomething m p told = LeadsOn m.asked told ⊎ (SkipsAt m.pass.sid p m.asked told ⊎ (IsEnd m.limits.volumes m.pass.sid p m.asked told ⊎ IsFull m.pass.volume m.asked told))
