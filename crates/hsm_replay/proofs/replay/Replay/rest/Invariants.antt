use Rattle.std.proofs.Common.{◌≡◌, Ok}
use Rattle.hsm_system.specs.Events.{Runs}
use Rattle.hsm_replay.specs.Deeds.{IsDoneBy}
use Rattle.hsm_replay.specs.Systems.{running}
use Rattle.hsm_replay.specs.Turns.{GoesInTurn}
use Rattle.hsm_replay.proofs.DeedRounds.{IsLeftSoFar}
use Rattle.hsm_replay.proofs.Working.{round_left}
use Rattle.hsm_replay.proofs.replay.Replay.rest.Given as goal

abbrev pub invariant-loop-alloc : goal.invariant-loop-alloc
invariant-loop-alloc g l = record {
  moves : Runs g.D.Disk {T = Unit {0}} (Ok tt) l.fn.self.system.store l.self.system.store;
  goes : GoesInTurn l.daemon l.fn.self l.self;
  runs : running l.self ≡ running l.fn.self;
  deeds : IsDoneBy g.M.Drive (IsLeftSoFar l.daemon) l.fn.self l.self;
}

abbrev pub decreases-loop-alloc : goal.decreases-loop-alloc
decreases-loop-alloc g l = round_left l.daemon l.self
