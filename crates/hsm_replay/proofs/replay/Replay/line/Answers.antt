use Rattle.std.proofs.Common.{Ok}
use Rattle.script_text.specs.declared.lines.Line.{Line}
use Rattle.script_text.specs.declared.lines.Line.TheVariants.{Event, Start, Kill, Step}
use Rattle.marked_history.specs.Quiet.{is_quiet}
use Rattle.hsm_replay.specs.Parts.{IsLinePart}
use Rattle.hsm_replay.specs.ReadyCallers.{MayGoOn}
use Rattle.hsm_replay.specs.Stopped.{IsLineCut}
use Rattle.hsm_replay.specs.Resting.{IsLeftBy}
use Rattle.hsm_replay.proofs.Beginning.{starts_run, kills_run}
use Rattle.hsm_replay.proofs.Resting.{leads_by}
use Rattle.hsm_replay.proofs.WhichRun.{event_runs, started_runs, killed_runs}
use Rattle.hsm_replay.proofs.DeedRounds.{started_done, killed_done}
use Rattle.hsm_replay.proofs.replay.Replay.line.Goals as goal

pub returns-in-Event-clause-moves : goal.returns-in-Event-clause-moves
returns-in-Event-clause-moves g c = c.event.ensures.moves

pub returns-in-Start-clause-moves : goal.returns-in-Start-clause-moves
returns-in-Start-clause-moves g c = rw c.start.ensures.started (starts_run g.D.Disk c.in-Start.daemon c.args.self.now)

pub returns-in-Kill-clause-moves : goal.returns-in-Kill-clause-moves
returns-in-Kill-clause-moves g c = rw c.kill.ensures.killed (kills_run g.D.Disk c.in-Kill.daemon c.args.self.now)

pub returns-in-Step-clause-moves : goal.returns-in-Step-clause-moves
returns-in-Step-clause-moves g c = c.step.ensures.moves

pub returns-in-Settle-clause-moves : goal.returns-in-Settle-clause-moves
returns-in-Settle-clause-moves g c = c.settle.ensures.moves

pub returns-in-Settle-clause-does : goal.returns-in-Settle-clause-does
returns-in-Settle-clause-does g c = rw c.in-Settle.is c.settle.ensures.settled

pub returns-in-Event-clause-runs : goal.returns-in-Event-clause-runs
returns-in-Event-clause-runs g c = rw c.in-Event.is (event_runs {D = g.row.D.Denot} {M = g.row.M.Denot} c.args.self.now c.event.new.self (c.event.ensures.does c.in-Event.seed).2)

pub returns-in-Start-clause-runs : goal.returns-in-Start-clause-runs
returns-in-Start-clause-runs g c = rw (c.in-Start.is, c.start.ensures.started) (started_runs c.in-Start.daemon c.args.self.now)

pub returns-in-Kill-clause-runs : goal.returns-in-Kill-clause-runs
returns-in-Kill-clause-runs g c = rw (c.in-Kill.is, c.kill.ensures.killed) (killed_runs c.in-Kill.daemon c.args.self.now)

pub returns-in-Step-clause-runs : goal.returns-in-Step-clause-runs
returns-in-Step-clause-runs g c = rw c.in-Step.is c.step.ensures.runs

pub returns-in-Settle-clause-runs : goal.returns-in-Settle-clause-runs
returns-in-Settle-clause-runs g c = rw c.in-Settle.is c.settle.ensures.runs

pub returns-in-Event-clause-deeds : goal.returns-in-Event-clause-deeds
returns-in-Event-clause-deeds g c =
    let line : Line = Event c.in-Event.actor c.in-Event.action c.in-Event.seed in
    let may = MayGoOn c.args.self.now.system.store in
    rw c.in-Event.is (leads_by g.M.Drive (IsLinePart is_quiet may line) (IsLineCut is_quiet may line) (IsLeftBy line c.event.new.self) c.event.result c.args.self.now c.event.new.self (λ before part. tt) (c.event.ensures.deeds c.in-Event.seed))

pub returns-in-Start-clause-deeds : goal.returns-in-Start-clause-deeds
returns-in-Start-clause-deeds g c =
    let line : Line = Start c.in-Start.daemon in
    let may = MayGoOn c.args.self.now.system.store in
    rw c.in-Start.is (leads_by {T = Unit {0}} g.M.Drive (IsLinePart is_quiet may line) (IsLineCut is_quiet may line) (IsLeftBy line c.start.new.self) (Ok tt) c.args.self.now c.start.new.self (λ before part. tt)
    (started_done g.M.Drive c.in-Start.daemon c.args.self.now c.start.new.self c.start.ensures.started c.start.ensures.deeds))

pub returns-in-Kill-clause-deeds : goal.returns-in-Kill-clause-deeds
returns-in-Kill-clause-deeds g c =
    let line : Line = Kill c.in-Kill.daemon in
    let may = MayGoOn c.args.self.now.system.store in
    rw c.in-Kill.is (leads_by {T = Unit {0}} g.M.Drive (IsLinePart is_quiet may line) (IsLineCut is_quiet may line) (IsLeftBy line c.kill.new.self) (Ok tt) c.args.self.now c.kill.new.self (λ before part. tt)
    (killed_done g.M.Drive c.in-Kill.daemon c.args.self.now c.kill.new.self c.kill.ensures.killed c.kill.ensures.deeds))

pub returns-in-Step-clause-deeds : goal.returns-in-Step-clause-deeds
returns-in-Step-clause-deeds g c =
    let line : Line = Step c.in-Step.daemon in
    let may = MayGoOn c.args.self.now.system.store in
    rw c.in-Step.is (leads_by g.M.Drive (IsLinePart is_quiet may line) (IsLineCut is_quiet may line) (IsLeftBy line c.step.new.self) c.step.result c.args.self.now c.step.new.self (λ before part. tt) c.step.ensures.deeds)

pub returns-in-Settle-clause-deeds : goal.returns-in-Settle-clause-deeds
returns-in-Settle-clause-deeds g c = rw c.in-Settle.is c.settle.ensures.deeds
