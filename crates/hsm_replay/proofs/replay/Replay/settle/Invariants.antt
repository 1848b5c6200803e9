use Rattle.std.proofs.Common.{◌≡◌, ◌-◌, ◌^◌, length, Ok}
use Rattle.hsm_system.specs.Events.{Runs}
use Rattle.marked_history.specs.Quiet.{is_quiet}
use Rattle.hsm_replay.specs.Deeds.{IsDoneBy}
use Rattle.hsm_replay.specs.Freshness.{StaysFresh}
use Rattle.hsm_replay.specs.ReadyCallers.{MayGoOn}
use Rattle.hsm_replay.specs.Systems.{running, refreshed}
use Rattle.hsm_replay.proofs.PartsOn.{RoundsTo}
use Rattle.hsm_replay.proofs.replay.Replay.settle.Given as goal

abbrev pub invariant-loop-self : goal.invariant-loop-self
invariant-loop-self g l = record {
  moves : Runs g.D.Disk {T = Unit {0}} (Ok tt) l.fn.self.system.store l.self.system.store;
  fresh : StaysFresh (refreshed l.fn.self) l.self;
  runs : running l.self ≡ running l.fn.self;
  deeds : IsDoneBy g.M.Drive (RoundsTo is_quiet (MayGoOn l.fn.self.system.store)) l.fn.self l.self;
}

abbrev pub decreases-loop-self : goal.decreases-loop-self
decreases-loop-self g l = 2 ^ 64 - length l.self.system.store.history
