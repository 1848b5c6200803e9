use Rattle.std.proofs.Common.{None, refl, subst}
use Rattle.plain_model.specs.declared.entries.Action.TheVariants.{Commit}
use Rattle.plain_model.specs.declared.entries.Actor.TheVariants.{Store as TheStore}
use Rattle.hsm_system.specs.Events.{Runs}
use Rattle.hsm_replay.specs.Doing.{Does}
use Rattle.hsm_replay.specs.Running.{commit_line}
use Rattle.hsm_replay.specs.Systems.{Run}
use Rattle.hsm_replay.proofs.Between.{event_is_run}
use Rattle.hsm_replay.proofs.Committing.{commit_durable}
use Rattle.hsm_replay.proofs.Events.{event_leaves, event_does}
use Rattle.hsm_replay.specs.Deeds.{ByDeeds}
use Rattle.hsm_replay.proofs.DeedRounds.{IsEntryOf, IsCutOf, event_by_deeds}
use Rattle.hsm_replay.proofs.replay.Replay.commit.Goals as goal

pub returns-clause-moves : goal.returns-clause-moves
returns-clause-moves g c = subst (λ (old : Run g.row.D.Denot g.row.M.Denot). Runs g.D.Disk c.event.result old.system.store c.event.new.self.store) c.self.view_is c.event.ensures.done.runs

pub returns-clause-does : goal.returns-clause-does
returns-clause-does g c =
    subst (λ (old : Run g.row.D.Denot g.row.M.Denot). Does g.D.Disk g.M.Drive commit_line c.event.result old (record { system = c.event.new.self; drives = c.self.inside.drives.items })) c.self.view_is
    (event_does g.D.Disk g.M.Drive (record { system = c.self.inside.system; drives = c.self.inside.drives.items }) (record { system = c.event.new.self; drives = c.self.inside.drives.items }) TheStore Commit c.event.result c.event.ensures.done refl None)

pub returns-clause-durable : goal.returns-clause-durable
returns-clause-durable g c = commit_durable g.D.Disk c.self.inside.system c.event.new.self c.event.result c.event.ensures.done

pub invariant_of-self : goal.invariant_of-self
invariant_of-self g c = event_is_run (record { system = c.self.inside.system; drives = c.self.inside.drives.items }) c.event.new.self c.self.invariant c.event.ensures.done.rest

pub returns-clause-deeds : goal.returns-clause-deeds
returns-clause-deeds g c =
    let inside : Run g.row.D.Denot g.row.M.Denot = record { system = c.self.inside.system; drives = c.self.inside.drives.items } in
    let left : Run g.row.D.Denot g.row.M.Denot = record { system = c.event.new.self; drives = c.self.inside.drives.items } in
    subst (λ (old : Run g.row.D.Denot g.row.M.Denot). ByDeeds g.M.Drive (λ (done : Unit {0}). IsEntryOf TheStore Commit) (IsCutOf TheStore Commit) c.event.result old left) c.self.view_is
    (event_by_deeds g.M.Drive inside left (event_leaves g.D.Disk g.M.Drive inside left TheStore Commit c.event.result c.event.ensures.done refl) TheStore Commit tt c.event.result c.event.ensures.deeds)
