use Rattle.std.proofs.Common.{refl, sym, subst}
use Rattle.plain_model.specs.declared.entries.Action.{Action}
use Rattle.script_text.specs.declared.lines.Line.TheVariants.{Event}
use Rattle.deeds.specs.Deeds.{NamesNoFault}
use Rattle.hsm_replay.specs.Doing.{Does}
use Rattle.hsm_system.specs.Events.{Runs}
use Rattle.hsm_replay.specs.Systems.{Run}
use Rattle.hsm_replay.proofs.Between.{event_is_run}
use Rattle.hsm_replay.proofs.Events.{event_leaves, event_does, made_by, names_none, no_deed_names}
use Rattle.hsm_system.specs.Goes.{EntersBy}
use Rattle.hsm_replay.specs.Deeds.{ByDeeds}
use Rattle.hsm_replay.proofs.DeedRounds.{IsEntryOf, IsCutOf, event_by_deeds, entered_by}
use Rattle.hsm_replay.proofs.replay.Replay.event.Goals as goal

pub event-requires : goal.event-requires
event-requires g c = subst (λ (a : Action). NamesNoFault a) (sym c.event_of.ensures.what) (no_deed_names c.args.action (names_none c.args.actor c.args.action c.requires.0 c.requires.1))

pub returns-clause-moves : goal.returns-clause-moves
returns-clause-moves g c = subst (λ (old : Run g.row.D.Denot g.row.M.Denot). Runs g.D.Disk c.event.result old.system.store c.event.new.self.store) c.self.view_is c.event.ensures.done.runs

pub returns-clause-does : goal.returns-clause-does
returns-clause-does g c = λ seed.
    let done = made_by g.D.Disk c.event_of.result c.args.actor c.args.action c.event_of.ensures.who c.event_of.ensures.what c.event.result c.self.inside.system c.event.new.self c.event.ensures.done in
    subst (λ (old : Run g.row.D.Denot g.row.M.Denot). Does g.D.Disk g.M.Drive (Event c.args.actor c.args.action seed) c.event.result old (record { system = c.event.new.self; drives = c.self.inside.drives.items })) c.self.view_is
    (event_does g.D.Disk g.M.Drive (record { system = c.self.inside.system; drives = c.self.inside.drives.items }) (record { system = c.event.new.self; drives = c.self.inside.drives.items }) c.args.actor c.args.action c.event.result done refl seed)

pub invariant_of-self : goal.invariant_of-self
invariant_of-self g c = event_is_run (record { system = c.self.inside.system; drives = c.self.inside.drives.items }) c.event.new.self c.self.invariant c.event.ensures.done.rest

pub returns-clause-deeds : goal.returns-clause-deeds
returns-clause-deeds g c seed =
    let inside : Run g.row.D.Denot g.row.M.Denot = record { system = c.self.inside.system; drives = c.self.inside.drives.items } in
    let left : Run g.row.D.Denot g.row.M.Denot = record { system = c.event.new.self; drives = c.self.inside.drives.items } in
    let done = made_by g.D.Disk c.event_of.result c.args.actor c.args.action c.event_of.ensures.who c.event_of.ensures.what c.event.result c.self.inside.system c.event.new.self c.event.ensures.done in
    let enters : EntersBy c.args.actor c.args.action c.event.result c.self.inside.system c.event.new.self = entered_by c.event_of.result c.args.actor c.args.action c.event_of.ensures.who c.event_of.ensures.what c.event.result c.self.inside.system c.event.new.self c.event.ensures.deeds in
    subst (λ (old : Run g.row.D.Denot g.row.M.Denot). ByDeeds g.M.Drive (λ (done : Unit {0}). IsEntryOf c.args.actor c.args.action) (IsCutOf c.args.actor c.args.action) c.event.result old left) c.self.view_is
    (event_by_deeds g.M.Drive inside left (event_leaves g.D.Disk g.M.Drive inside left c.args.actor c.args.action c.event.result done refl) c.args.actor c.args.action (names_none c.args.actor c.args.action c.requires.0 c.requires.1) c.event.result enters)
