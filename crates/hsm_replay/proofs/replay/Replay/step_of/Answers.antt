use Rattle.std.proofs.lemmas.Result.{err_from_is_err_and}
use Rattle.hsm_replay.proofs.Between.{acted_is_run, loses_is_run, same_is_run}
use Rattle.hsm_replay.proofs.HandedIn.{moved_awaits, moved_awaited}
use Rattle.hsm_replay.proofs.Stepped.{none_steps, lacks_halts, performs_steps, stops_halts}
use Rattle.hsm_replay.proofs.replay.Replay.step_of.Goals as goal

pub returns-in_err-given-clause-stopped : goal.returns-in_err-given-clause-stopped
returns-in_err-given-clause-stopped g c =
    let p = err_from_is_err_and c.from_residual.result c.from_residual.ensures.1 in
    rw (p.1, p.2) (lacks_halts (record { system = c.self.inside.system; drives = c.self.inside.drives.items }) c.args.self.now c.self.view_is g.D.Disk g.M.Drive c.args.daemon c.in_err-given.field-0.0 c.ask.new.self c.in_err-given.ensures.lacks)

pub returns-in-Some-clause-stepped : goal.returns-in-Some-clause-stepped
returns-in-Some-clause-stepped g c = performs_steps (record { system = c.self.inside.system; drives = c.self.inside.drives.items }) c.args.self.now c.self.view_is g.D.Disk g.M.Drive c.args.daemon c.in-Some.act c.ask.new.self (rw c.in-Some.is at c.in_ok-given.ensures.asked)
    (record { system = c.perform.new.system; drives = c.perform.new.drives.items }) c.perform.result c.perform.ensures.performed

pub returns-in-Some-clause-stopped : goal.returns-in-Some-clause-stopped
returns-in-Some-clause-stopped g c = stops_halts (record { system = c.self.inside.system; drives = c.self.inside.drives.items }) c.args.self.now c.self.view_is g.D.Disk g.M.Drive c.args.daemon c.in-Some.act c.ask.new.self (rw c.in-Some.is at c.in_ok-given.ensures.asked)
    (record { system = c.perform.new.system; drives = c.perform.new.drives.items }) c.perform.result c.perform.ensures.stopped

pub perform-requires-clause-awaits : goal.perform-requires-clause-awaits
perform-requires-clause-awaits g c = moved_awaits c.args.daemon c.self.inside.system c.in-Some.act c.ask.new.self (rw c.in-Some.is at c.in_ok-given.ensures.asked)

pub perform-requires-clause-ready : goal.perform-requires-clause-ready
perform-requires-clause-ready g c = moved_awaited c.args.daemon c.self.inside.system c.in-Some.act c.ask.new.self (rw c.in-Some.is at c.in_ok-given.ensures.asked)

pub perform-requires-clause-may : goal.perform-requires-clause-may
perform-requires-clause-may g c = rw c.in-Some.is at c.in_ok-given.ensures.may

pub invariant_of-self : goal.invariant_of-self
invariant_of-self g c = loses_is_run c.args.daemon (record { system = c.self.inside.system; drives = c.self.inside.drives.items }) c.ask.new.self c.self.invariant c.in_err-given.ensures.lacks.loses

pub invariant_of-self-in-None : goal.invariant_of-self-in-None
invariant_of-self-in-None g c = same_is_run (record { system = c.self.inside.system; drives = c.self.inside.drives.items }) c.ask.new.self c.self.invariant (rw c.in-None.is at c.in_ok-given.ensures.asked).1

pub invariant_of-self-in-Some : goal.invariant_of-self-in-Some
invariant_of-self-in-Some g c = acted_is_run g.D.Disk g.M.Drive c.args.daemon (record { system = c.self.inside.system; drives = c.self.inside.drives.items }) c.in-Some.act c.ask.new.self (record { system = c.perform.new.system; drives = c.perform.new.drives.items }) c.perform.result
    c.self.invariant (rw c.in-Some.is at c.in_ok-given.ensures.asked) c.perform.ensures.performed c.perform.ensures.stopped

pub returns-in-None-clause-stepped : goal.returns-in-None-clause-stepped
returns-in-None-clause-stepped g c = none_steps (record { system = c.self.inside.system; drives = c.self.inside.drives.items }) c.args.self.now c.self.view_is g.D.Disk g.M.Drive c.args.daemon c.ask.new.self c.self.invariant (rw c.in-None.is at c.in_ok-given.ensures.asked)
