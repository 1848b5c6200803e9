use Rattle.std.proofs.Common.{◌≡◌, ◌≢◌, inl, List, None, Some, Ok, IfErr, refl, sym, subst, arith}
use Rattle.disk_model.specs.Calls.{RoseByOne}
use Rattle.media_model.specs.contracts.sure.SureDriveDrive.TheImpl as sure
use Rattle.plain_model.specs.State.{Held}
use Rattle.plain_model.specs.Stands.{Stands}
use Rattle.hsm_policy.specs.Settings.{standard}
use Rattle.script_text.specs.declared.lines.Line.{Line}
use Rattle.drill_script.specs.Drill.{drill_lines}
use Rattle.drill_script.specs.Summary.{summary_line}
use Rattle.hsm_cli.specs.declared.causes.Cause.TheVariants.{DiskFault, NoMemory}
use Rattle.hsm_cli.specs.Daemons.{IsWellServedOver}
use Rattle.hsm_cli.specs.Deeds.{AreDone, AreThese, DrivesInMemory, HasDone, HaveGone, MayGoOnOver}
use Rattle.hsm_cli.specs.Endings.{cause_in, WritingEnds}
use Rattle.hsm_cli.specs.Follows.{SettlesOn}
use Rattle.hsm_cli.specs.Texts.{drill_text}
use Rattle.hsm_cli.specs.RunObjects.{sink_told}
use Rattle.hsm_cli.proofs.ByCause.{if_told}
use Rattle.hsm_cli.proofs.Drills.{for_memory, no_fault, left_new, tells_left}
use Rattle.hsm_cli.proofs.Faults.{caused_new, none_failed}
use Rattle.hsm_cli.proofs.Legality.{good_new, good_unopened, packed_new}
use Rattle.hsm_cli.proofs.Showings.{takes_as}
use Rattle.hsm_cli.proofs.Deeds.{done_new, drill_told, gone_in_memory, none_in_memory}
use Rattle.hsm_cli.proofs.Doing.{also_well, done_as, none_done}
use Rattle.hsm_cli.proofs.Daemons.{none_well}
use Rattle.hsm_cli.proofs.drilling.drill.Given.{Over}
use Rattle.hsm_cli.proofs.drilling.drill.Goals.{After-run_on-drilled}
use Rattle.hsm_cli.proofs.drilling.drill.Goals as goal

-- lines are cut short for want of memory alone
module _ (g : Over) (c : After-run_on-drilled g) where
  memory : IfErr c.run_on-drilled.result.ended (λ why. why ≡ NoMemory)
  memory = for_memory (RoseByOne 0 0) c.run_on-drilled.result.ended (λ rose. omega (arith, rose)) c.run_on-drilled.ensures.ends

  sound : cause_in c.run_on-drilled.result.ended ≢ Some DiskFault
  sound = no_fault c.run_on-drilled.result.ended memory

pub tell-requires : goal.tell-requires
tell-requires g c = memory g (goal.at.tell-requires g c).After-run_on-drilled

pub returns-in-Ok-clause-legality : goal.returns-in-Ok-clause-legality
returns-in-Ok-clause-legality g c = rw c.ended.ensures (good_new c.in-Ok.prepared.hsm.opened c.run_on-drilled.result.history c.in-Ok.ensures.empty.0 c.in-Ok.ensures.empty.1 c.in-Ok.ensures.empty.2 (c.run_on-drilled.ensures.good (c.run_on-drilled.result.disk, refl, tt)))

pub returns-in-Ok-clause-packed : goal.returns-in-Ok-clause-packed
returns-in-Ok-clause-packed g c = rw c.ended.ensures (packed_new c.in-Ok.prepared.hsm.opened c.run_on-drilled.result.history c.in-Ok.ensures.empty.0 c.in-Ok.ensures.empty.1 c.in-Ok.ensures.empty.2 c.run_on-drilled.ensures.packed)

pub returns-in-Ok-clause-faultless : goal.returns-in-Ok-clause-faultless
returns-in-Ok-clause-faultless g c = rw c.ended.ensures (c.run_on-drilled.ensures.faultless (sound g (goal.at.returns-in-Ok-clause-faultless g c).After-run_on-drilled))

pub returns-in-Ok-clause-plain : goal.returns-in-Ok-clause-plain
returns-in-Ok-clause-plain g c = rw c.ended.ensures (λ P stands. ((c.run_on-drilled.ensures.good (c.run_on-drilled.result.disk, refl, tt)).good P (subst (λ (h : Held). Stands h.files P) (sym c.in-Ok.ensures.empty.1) stands)).plain)

pub returns-in-Ok-clause-media : goal.returns-in-Ok-clause-media
returns-in-Ok-clause-media g c = rw c.ended.ensures (none_failed _ (λ d. refl) (λ ds. ds.items) (Ok c.in-Ok.prepared.drives) c.run_on-drilled.result.drives.items c.run_on-drilled.result.history c.in-Ok.ensures.count c.run_on-drilled.ensures.drives tt c.run_on-drilled.ensures.media)

pub returns-in-Ok-clause-caused_by : goal.returns-in-Ok-clause-caused_by
returns-in-Ok-clause-caused_by g c = rw c.ended.ensures (caused_new c.in-Ok.prepared.hsm.opened c.run_on-drilled.result.history c.in-Ok.ensures.empty.0 c.in-Ok.ensures.empty.1 c.in-Ok.ensures.empty.2 c.run_on-drilled.ensures.caused_by)

pub returns-in-Ok-clause-output : goal.returns-in-Ok-clause-output
returns-in-Ok-clause-output g c =
    let opened = c.in-Ok.prepared.hsm.opened in
    let empty = c.in-Ok.ensures.empty in
    let number = c.args.number in
    let d = c.run_on-drilled.result in
    let left = left_new opened d.history d.used d.offline empty.0 empty.1 empty.2 (c.run_on-drilled.ensures.totals (sound g (goal.at.returns-in-Ok-clause-output g c).After-run_on-drilled)) in
    rw (c.ended.ensures, c.err-cause.ensures.value)
    (takes_as (λ text. text ≡ summary_line number d.history d.used d.offline) (λ text. text ≡ drill_text number d.history) (sink_told g.O.Sink.taken g.O.Sink.fault_count c.args.sink.now c.tell.new.sink) (cause_in c.tell.result)
    (λ text is. tells_left number d.history d.used d.offline text left is) c.tell.ensures.text)

pub returns-in-Ok-clause-ends : goal.returns-in-Ok-clause-ends
returns-in-Ok-clause-ends g c = rw (c.ended.ensures, c.err-cause.ensures.value) (if_told (WritingEnds (sink_told g.O.Sink.taken g.O.Sink.fault_count c.args.sink.now c.tell.new.sink)) c.tell.result c.tell.ensures.ends)

pub returns-in-Err-clause-legality : goal.returns-in-Err-clause-legality
returns-in-Err-clause-legality g c = rw c.unopened.ensures (good_unopened g.row.D.Denot)

pub returns-in-Err-clause-packed : goal.returns-in-Err-clause-packed
returns-in-Err-clause-packed g c = rw c.unopened.ensures tt

pub returns-in-Ok-clause-deeds : goal.returns-in-Ok-clause-deeds
returns-in-Ok-clause-deeds g c =
    let opened = c.in-Ok.prepared.hsm.opened in
    let empty = c.in-Ok.ensures.empty in
    let drilled = c.run_on-drilled.result in
    let may = MayGoOnOver (Some opened) in
    let settles = SettlesOn (Some opened) in
    let lines = AreThese (drill_lines c.args.number) in
    rw (c.ended.ensures, c.err-cause.ensures.value)
    (done_new _ g.row.D.Denot opened lines (cause_in c.tell.result) (DrivesInMemory standard) drilled.history empty.0 empty.1 empty.2
    (also_well (Some opened) _ (DrivesInMemory standard) drilled.history c.run_on-drilled.ensures.well
    (done_as standard (AreDone may settles lines (cause_in drilled.ended)) (AreDone may settles lines (cause_in c.tell.result)) _ (DrivesInMemory standard) drilled.history
    (λ deeds done. drill_told may settles lines (sink_told g.O.Sink.taken g.O.Sink.fault_count c.args.sink.now c.tell.new.sink) drilled.ended c.tell.result deeds c.tell.ensures.ends c.tell.ensures.ended done)
    (gone_in_memory c.seals_are_whole.ensures c.in-Ok.prepared.drives.items drilled.drives.items c.in-Ok.ensures.handed)
    (subst (λ (script : List Line). HasDone standard (AreDone may settles (AreThese script) (cause_in drilled.ended)) (λ deeds. HaveGone sure.ghosts standard c.in-Ok.prepared.drives.items deeds drilled.drives.items) drilled.history) c.in-Ok.ensures.script c.run_on-drilled.ensures.deeds))))

pub returns-in-Err-clause-deeds : goal.returns-in-Err-clause-deeds
returns-in-Err-clause-deeds g c = rw c.unopened.ensures (none_done _ (λ deeds. IsWellServedOver {D = g.row.D.Denot} None deeds × DrivesInMemory standard deeds) _ refl (inl refl) (none_well _ _ _, none_in_memory))
