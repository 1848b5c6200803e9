use Rattle.std.proofs.Common.{◌≡◌, Ok}
use Rattle.hsm_system.specs.Events.{Runs}
use Rattle.hsm_replay.specs.Deeds.{IsDoneBy}
use Rattle.hsm_replay.specs.ReadyCallers.{MayGoOn}
use Rattle.hsm_replay.specs.Systems.{running}
use Rattle.hsm_replay.proofs.DeedRounds.{HaveResumedTo}
use Rattle.hsm_replay.proofs.Rounds.{ResumedTo}
use Rattle.hsm_replay.proofs.replay.Replay.resume_all.Given as goal

abbrev pub invariant-loop-number : goal.invariant-loop-number
invariant-loop-number g l = record {
  moves : Runs g.D.Disk {T = Unit {0}} (Ok tt) l.fn.self.system.store l.self.system.store;
  resumed : ResumedTo l.number l.fn.self l.self;
  runs : running l.self ≡ running l.fn.self;
  deeds : IsDoneBy g.M.Drive (HaveResumedTo (MayGoOn l.fn.self.system.store) l.number) l.fn.self l.self;
}
