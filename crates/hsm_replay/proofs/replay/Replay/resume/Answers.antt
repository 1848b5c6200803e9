use Rattle.std.proofs.Common.{◌≡◌, ◌∙◌, true, false, OnOk, inl, refl, sym, subst}
use Rattle.plain_model.specs.declared.entries.Action.TheVariants.{Resume}
use Rattle.plain_model.specs.declared.entries.Actor.TheVariants.{Caller}
use Rattle.hsm_system.specs.Events.{Runs}
use Rattle.hsm_replay.specs.Systems.{Run, running}
use Rattle.hsm_replay.specs.Turns.{MayResume}
use Rattle.hsm_replay.proofs.Between.{event_is_run}
use Rattle.hsm_replay.proofs.Events.{event_leaves, resumed_on}
use Rattle.hsm_replay.proofs.Joining.{runs_itself}
use Rattle.hsm_replay.proofs.WhichRun.{event_runs}
use Rattle.hsm_replay.specs.Deeds.{ByDeeds, IsResumeCut, MayResumeBy}
use Rattle.hsm_replay.specs.ReadyCallers.{MayGoOn}
use Rattle.hsm_replay.proofs.Deeds.{done_none}
use Rattle.hsm_replay.proofs.DeedRounds.{event_by_deeds, resume_by_deeds}
use Rattle.hsm_replay.proofs.ReadyCallers.{ready_goes}
use Rattle.hsm_replay.proofs.replay.Replay.resume.Goals as goal

pub returns-clause-moves : goal.returns-clause-moves
returns-clause-moves g c =
    subst (λ (old : Run g.row.D.Denot g.row.M.Denot). Runs g.D.Disk c.event.result old.system.store c.event.new.self.store) c.self.view_is c.event.ensures.done.runs

pub returns-then-not-is_ready-clause-moves : goal.returns-then-not-is_ready-clause-moves
returns-then-not-is_ready-clause-moves g c = runs_itself g.D.Disk tt c.args.self.now.system.store

pub returns-clause-resumed : goal.returns-clause-resumed
returns-clause-resumed g c =
    subst (λ (old : Run g.row.D.Denot g.row.M.Denot). OnOk c.event.result (MayResume c.args.caller old (record { system = c.event.new.self; drives = c.self.inside.drives.items }))) c.self.view_is
    (resumed_on g.D.Disk g.M.Drive (record { system = c.self.inside.system; drives = c.self.inside.drives.items }) (record { system = c.event.new.self; drives = c.self.inside.drives.items }) c.args.caller c.event.result c.event.ensures.done refl)

pub returns-clause-runs : goal.returns-clause-runs
returns-clause-runs g c =
    subst (λ (old : Run g.row.D.Denot g.row.M.Denot). running {D = g.row.D.Denot} {M = g.row.M.Denot} (record { system = c.event.new.self; drives = c.self.inside.drives.items }) ≡ running old) c.self.view_is
    (event_runs (record { system = c.self.inside.system; drives = c.self.inside.drives.items }) (record { system = c.event.new.self; drives = c.self.inside.drives.items }) (event_leaves g.D.Disk g.M.Drive (record { system = c.self.inside.system; drives = c.self.inside.drives.items }) (record { system = c.event.new.self; drives = c.self.inside.drives.items }) (Caller c.args.caller) Resume c.event.result c.event.ensures.done refl))

pub invariant_of-self : goal.invariant_of-self
invariant_of-self g c = event_is_run (record { system = c.self.inside.system; drives = c.self.inside.drives.items }) c.event.new.self c.self.invariant c.event.ensures.done.rest

pub returns-then-not-is_ready-clause-deeds : goal.returns-then-not-is_ready-clause-deeds
returns-then-not-is_ready-clause-deeds g c =
    let goes = ready_goes g.D.Disk c.args.self.now.system.store c.kept.ensures c.args.caller in
    done_none g.M.Drive (MayResumeBy (MayGoOn c.args.self.now.system.store) c.args.caller) c.args.self.now (inl ((λ may. let wrong : true ≡ false = sym (c.is_ready.ensures.1 (goes.1 may)) ∙ c.if-not-is_ready.true in cc wrong), refl))

pub returns-clause-deeds : goal.returns-clause-deeds
returns-clause-deeds g c =
    let inside : Run g.row.D.Denot g.row.M.Denot = record { system = c.self.inside.system; drives = c.self.inside.drives.items } in
    let left : Run g.row.D.Denot g.row.M.Denot = record { system = c.event.new.self; drives = c.self.inside.drives.items } in
    let store = c.args.self.now.system.store in
    let may : MayGoOn store store.history c.args.caller = (ready_goes g.D.Disk store c.kept.ensures c.args.caller).0 (c.is_ready.ensures.0 c.if-not-is_ready.false) in
    subst (λ (old : Run g.row.D.Denot g.row.M.Denot). ByDeeds g.M.Drive (λ (done : Unit {0}). MayResumeBy (MayGoOn old.system.store) c.args.caller) (IsResumeCut (MayGoOn old.system.store) c.args.caller) c.event.result old left) c.self.view_is
    (resume_by_deeds g.M.Drive (MayGoOn inside.system.store) c.args.caller c.requires inside left (subst (λ (s : Run g.row.D.Denot g.row.M.Denot). MayGoOn s.system.store s.system.store.history c.args.caller) (sym c.self.view_is) may) c.event.result
    (event_by_deeds g.M.Drive inside left (event_leaves g.D.Disk g.M.Drive inside left (Caller c.args.caller) Resume c.event.result c.event.ensures.done refl) (Caller c.args.caller) Resume tt c.event.result c.event.ensures.deeds))
