use Rattle.std.proofs.Common.{◌≡◌, Some, None, [], true, refl, inl, inr, sym, ap, ◌∙◌, subst, arith}
use Rattle.disk_model.specs.Calls.{Rose}
use Rattle.hsm_policy.specs.Settings.{standard}
use Rattle.file_store.specs.Stores.{Store}
use Rattle.hsm_cli.specs.declared.causes.Cause.{Cause}
use Rattle.hsm_cli.specs.Clauses.{GivesBack}
use Rattle.hsm_cli.specs.Deeds.{AreOfScript, DrivesWent}
use Rattle.hsm_cli.specs.Outcomes.{ended_with}
use Rattle.hsm_cli.specs.RunObjects.{source_told, sink_told, host_told}
use Rattle.hsm_cli.proofs.Crashes.{crash_safe, why_unopened, why_unhanded, back_unhanded, words_unhanded, begun_unhanded, words_unopened, begun_unopened}
use Rattle.hsm_cli.proofs.Running.{failed_since, served_words, served_begun}
use Rattle.hsm_cli.proofs.Legality.{good_but_bytes, good_unopened, legal_as}
use Rattle.hsm_cli.proofs.Drives.{rose_once, gives_back, none_at_fault, host_failed, why_served, disk_came, drives_came}
use Rattle.hsm_cli.proofs.Quiet.{unhanded_quiet, once_since, asked_once}
use Rattle.hsm_cli.proofs.Showings.{unopened_quiet}
use Rattle.hsm_cli.proofs.Deeds.{host_other, none_came, open_other, unopened_done, went_since}
use Rattle.hsm_cli.proofs.Doing.{also_well, done_as}
use Rattle.hsm_cli.proofs.top.replay_store.Given.{Over}
use Rattle.hsm_cli.proofs.top.replay_store.Goals.{After-run_opened-finished}
use Rattle.hsm_cli.proofs.top.replay_store.Goals as goal

pub returns-in-Ok-open-clause-crash : goal.returns-in-Ok-open-clause-crash
returns-in-Ok-open-clause-crash g c =
    rw c.run_opened-finished.ensures.opening
    (crash_safe g.H.Disk.Disk (g.H.Host.holds c.args.host.now c.args.path.now) c.in-Ok.disk record { given = c.in-Ok.ensures.given; settled = c.in-Ok.ensures.settled; counted = c.in-Ok.ensures.counted }
    c.in-Ok-open.hsm.opened c.in-Ok-open.hsm.files c.run_opened-finished.result.history c.run_opened-finished.result.cause c.run_opened-finished.result.disk c.in-Ok-open.ensures.opened.0
    c.in-Ok-open.ensures.opening.0 c.in-Ok-open.ensures.opening.1 c.in-Ok-open.ensures.durable c.in-Ok-open.ensures.found.0 c.run_opened-finished.ensures.since c.run_opened-finished.ensures.now (c.run_opened-finished.ensures.whole refl) c.run_opened-finished.ensures.untouched)

pub returns-in-Err-open-clause-crash : goal.returns-in-Err-open-clause-crash
returns-in-Err-open-clause-crash g c =
    rw (c.unopened-in-Err-open.ensures, c.from-in-Err-open.ensures) (
      record {
        handed = c.in-Ok.disk;
        by_host = record { given = c.in-Ok.ensures.given; settled = c.in-Ok.ensures.settled; counted = c.in-Ok.ensures.counted };
        keeps = c.in-Err-open.ensures.refused;
        quiet = λ works. c.in-Err-open.ensures.faults.quiet (unopened_quiet c.in-Err-open.refusal works) ∙ c.in-Ok.ensures.counted;
      },
      refl,
    )

pub returns-in-Err-open-clause-why : goal.returns-in-Err-open-clause-why
returns-in-Err-open-clause-why g c =
    rw (c.unopened-in-Err-open.ensures, c.from-in-Err-open.ensures)
    (why_unopened g.H.Disk.Disk (g.H.Host.holds c.args.host.now c.args.path.now) c.in-Ok.disk record { given = c.in-Ok.ensures.given; settled = c.in-Ok.ensures.settled; counted = c.in-Ok.ensures.counted } _
    (source_told g.I.Source.left g.I.Source.fault_count c.args.source.now c.args.source.now) (sink_told g.O.Sink.taken g.O.Sink.fault_count c.args.sink.now c.args.sink.now)
    c.in-Err-open.disk c.in-Err-open.refusal c.in-Err-open.ensures.not_store c.in-Err-open.ensures.corrupt c.in-Err-open.ensures.faults.once)

pub returns-in-Err-clause-legality : goal.returns-in-Err-clause-legality
returns-in-Err-clause-legality g c = legal_as g.H.Disk.Disk c.unopened.result _ None c.unopened.ensures

pub returns-in-Err-open-clause-legality : goal.returns-in-Err-open-clause-legality
returns-in-Err-open-clause-legality g c = legal_as g.H.Disk.Disk c.unopened-in-Err-open.result _ (Some c.in-Err-open.disk) c.unopened-in-Err-open.ensures

-- the disk and the drives, and what the host has left

module _ (g : Over) (c : After-run_opened-finished g) where
  -- no call of the disk had failed when the store was opened
  counted_none : g.H.Disk.Disk.fault_count c.in-Ok-open.hsm.opened.disk ≡ 0
  counted_none = ap (λ (s : Store g.row.H-Disk.Denot). g.H.Disk.Disk.fault_count s.disk) c.in-Ok-open.ensures.opened.0 ∙ c.in-Ok-open.ensures.quiet ∙ c.in-Ok.ensures.counted

  back : GivesBack g.H.Drive.Drive (g.H.Host.stores c.args.host.now c.args.dir.now) (Some c.in-Ok-open.hsm.opened) c.run_opened-finished.result.cause c.run_opened-finished.result.drives.items
  back =
      gives_back g.H.Drive.Drive (g.H.Host.stores c.args.host.now c.args.dir.now) (g.H.Host.stores c.disk.new.self c.args.dir.now) (c.disk.ensures.folders c.args.dir.now) c.in-Ok-open.hsm.opened (λ ds. ds.items) c.ask_for_drives-drives.result c.run_opened-finished.result.cause
      c.run_opened-finished.result.drives.items c.ask_for_drives-drives.ensures.given c.run_opened-finished.ensures.drives c.ask_for_drives-drives.ensures.ready c.run_opened-finished.ensures.unready
      (host_failed _ _ (source_told g.I.Source.left g.I.Source.fault_count c.args.source.now c.run_opened-finished.new.source) (sink_told g.O.Sink.taken g.O.Sink.fault_count c.args.sink.now c.run_opened-finished.new.sink) c.run_opened-finished.result.cause c.run_opened-finished.ensures.ends)

pub returns-in-Ok-open-clause-drives : goal.returns-in-Ok-open-clause-drives
returns-in-Ok-open-clause-drives g c =
    rw c.from-in-Ok-open.ensures (subst (λ (s : Store g.row.H-Disk.Denot). GivesBack g.H.Drive.Drive (g.H.Host.stores c.args.host.now c.args.dir.now) (Some s) c.run_opened-finished.result.cause c.run_opened-finished.result.drives.items) (sym c.run_opened-finished.ensures.opening)
    (back g (goal.at.returns-in-Ok-open-clause-drives g c).After-run_opened-finished))

pub returns-in-Ok-open-clause-lent : goal.returns-in-Ok-open-clause-lent
returns-in-Ok-open-clause-lent g c = λ is. inr (refl, rw c.from-in-Ok-open.ensures (none_at_fault g.H.Drive.Drive (g.H.Host.stores c.args.host.now c.args.dir.now) (g.H.Host.stores c.disk.new.self c.args.dir.now) (c.disk.ensures.folders c.args.dir.now) c.in-Ok-open.hsm.opened c.run_opened-finished.result.cause c.run_opened-finished.result.drives.items (back g (goal.at.returns-in-Ok-open-clause-lent g c).After-run_opened-finished) is))

pub returns-in-Ok-open-clause-folders : goal.returns-in-Ok-open-clause-folders
returns-in-Ok-open-clause-folders g c = rw c.from-in-Ok-open.ensures (drives_came g.H.Drive.Drive (λ ds. ds.items) c.args.dir.now (g.H.Host.stores c.args.host.now) (g.H.Host.stores c.disk.new.self) (g.H.Host.stores c.ask_for_drives-drives.new.host) c.ask_for_drives-drives.result c.run_opened-finished.result.drives.items c.disk.ensures.folders c.ask_for_drives-drives.ensures.folders c.run_opened-finished.ensures.drives)

pub returns-in-Ok-open-clause-host : goal.returns-in-Ok-open-clause-host
returns-in-Ok-open-clause-host g c = disk_came c.args.path.now (g.H.Host.holds c.args.host.now) (g.H.Host.holds c.disk.new.self) (g.H.Host.holds c.ask_for_drives-drives.new.host) c.run_opened-finished.result.disk c.in-Ok.ensures.gone c.disk.ensures.others c.ask_for_drives-drives.ensures.disks

pub returns-in-Ok-open-clause-why : goal.returns-in-Ok-open-clause-why
returns-in-Ok-open-clause-why g c =
    why_served g.H.Disk.Disk (g.H.Host.holds c.args.host.now c.args.path.now) (source_told g.I.Source.left g.I.Source.fault_count c.args.source.now c.run_opened-finished.new.source) (sink_told g.O.Sink.taken g.O.Sink.fault_count c.args.sink.now c.run_opened-finished.new.sink)
    (host_told g.H.Host.fault_count c.args.host.now c.ask_for_drives-drives.new.host) (Some c.run_opened-finished.result.disk) (host_told g.H.Host.fault_count c.disk.new.self c.ask_for_drives-drives.new.host) c.ask_for_drives-drives.result _ c.run_opened-finished.result.cause
    c.disk.ensures.cause.never_falls refl c.ask_for_drives-drives.ensures.why
    (failed_since g.H.Disk.Disk _ c.run_opened-finished.result.disk (counted_none g (goal.at.returns-in-Ok-open-clause-why g c).After-run_opened-finished)) c.run_opened-finished.ensures.ends

-- what has failed is told

pub returns-in-Ok-open-clause-sound : goal.returns-in-Ok-open-clause-sound
returns-in-Ok-open-clause-sound g c = λ works none. c.run_opened-finished.ensures.sound none ∙ counted_none g (goal.at.returns-in-Ok-open-clause-sound g c).After-run_opened-finished

pub returns-in-Err-open-clause-sound : goal.returns-in-Err-open-clause-sound
returns-in-Err-open-clause-sound g c = rw (c.unopened-in-Err-open.ensures, c.from-in-Err-open.ensures) (λ works none. c.in-Err-open.ensures.faults.quiet (unopened_quiet c.in-Err-open.refusal works) ∙ c.in-Ok.ensures.counted)

pub returns-in-Ok-open-clause-quiet : goal.returns-in-Ok-open-clause-quiet
returns-in-Ok-open-clause-quiet g c = λ sound. c.ask_for_drives-drives.ensures.quiet (λ is. sound (c.run_opened-finished.ensures.lent is)) ∙ c.in-Ok.ensures.cause.quiet (λ is. cc)

pub returns-in-Err-open-clause-quiet : goal.returns-in-Err-open-clause-quiet
returns-in-Err-open-clause-quiet g c = λ sound. c.in-Ok.ensures.cause.quiet (λ is. cc)

pub returns-in-Err-clause-quiet : goal.returns-in-Err-clause-quiet
returns-in-Err-clause-quiet g c = rw (c.unopened.ensures, c.from.ensures) (λ sound. c.in-Err.ensures.cause.quiet (unhanded_quiet c.in-Err.refusal sound))

-- the parts of the record

pub returns-in-Ok-open-clause-reading : goal.returns-in-Ok-open-clause-reading
returns-in-Ok-open-clause-reading g c = c.run_opened-finished.ensures.reading

pub returns-in-Ok-open-clause-legality : goal.returns-in-Ok-open-clause-legality
returns-in-Ok-open-clause-legality g c = record {
  from = rw c.run_opened-finished.ensures.opening c.run_opened-finished.ensures.legality;
  orderly = rw c.run_opened-finished.ensures.opening c.run_opened-finished.ensures.orderly;
  packed = rw c.run_opened-finished.ensures.opening c.run_opened-finished.ensures.packed;
  seen = rw c.run_opened-finished.ensures.opening (good_but_bytes _ (Some c.in-Ok-open.hsm.opened) _ c.run_opened-finished.ensures.legality);
  good = rw c.run_opened-finished.ensures.opening c.run_opened-finished.ensures.good;
  caused = λ is. failed_since g.H.Disk.Disk _ c.run_opened-finished.result.disk (counted_none g (goal.at.returns-in-Ok-open-clause-legality g c).After-run_opened-finished) (c.run_opened-finished.ensures.caused is);
  told = λ is some. c.run_opened-finished.ensures.told is;
  faultless = c.run_opened-finished.ensures.faultless;
}

pub returns-in-Ok-open-clause-plain : goal.returns-in-Ok-open-clause-plain
returns-in-Ok-open-clause-plain g c = rw c.run_opened-finished.ensures.opening c.run_opened-finished.ensures.plain

pub returns-in-Ok-open-clause-opened : goal.returns-in-Ok-open-clause-opened
returns-in-Ok-open-clause-opened g c =
    rw (c.run_opened-finished.ensures.opening, c.in-Ok-open.ensures.opened.0)
    (c.in-Ok-open.ensures.found.0, λ image held. c.in-Ok-open.ensures.durable image (inr (c.in-Ok-open.ensures.opening.1.1 image (c.in-Ok.ensures.given image held))))

pub returns-in-Ok-open-clause-back : goal.returns-in-Ok-open-clause-back
returns-in-Ok-open-clause-back g c = λ none. absurd cc

pub returns-in-Ok-open-clause-output : goal.returns-in-Ok-open-clause-output
returns-in-Ok-open-clause-output g c = record { first = c.run_opened-finished.ensures.first; done = c.run_opened-finished.ensures.done; all = λ works ample. c.run_opened-finished.ensures.all ample works }

pub returns-in-Err-clause-reading : goal.returns-in-Err-clause-reading
returns-in-Err-clause-reading g c = rw c.unopened.ensures (record { left = refl; faults = refl })

pub returns-in-Err-clause-plain : goal.returns-in-Err-clause-plain
returns-in-Err-clause-plain g c = rw c.unopened.ensures (λ P stands. ((good_unopened g.row.H-Disk.Denot).good P stands).plain)

pub returns-in-Err-clause-back : goal.returns-in-Err-clause-back
returns-in-Err-clause-back g c = rw (c.unopened.ensures, c.from.ensures) (λ none. back_unhanded c.in-Err.refusal)

pub returns-in-Err-clause-why : goal.returns-in-Err-clause-why
returns-in-Err-clause-why g c =
    let named = g.H.Host.holds c.args.host.now c.args.path.now in
    let source = source_told g.I.Source.left g.I.Source.fault_count c.args.source.now c.args.source.now in
    let sink = sink_told g.O.Sink.taken g.O.Sink.fault_count c.args.sink.now c.args.sink.now in
    let old = g.H.Host.fault_count c.args.host.now in
    let new = g.H.Host.fault_count c.disk.new.self in
    rw (c.unopened.ensures, c.from.ensures)
    (why_unhanded g.H.Disk.Disk named (Rose old new) source sink None c.in-Err.refusal (λ is. rose_once old old new (omega arith) (c.in-Err.ensures.cause.rose is)))

pub returns-in-Err-open-clause-plain : goal.returns-in-Err-open-clause-plain
returns-in-Err-open-clause-plain g c = rw c.unopened-in-Err-open.ensures (λ P stands. ((good_unopened g.row.H-Disk.Denot).good P stands).plain)

pub returns-in-Err-open-clause-reading : goal.returns-in-Err-open-clause-reading
returns-in-Err-open-clause-reading g c = rw c.unopened-in-Err-open.ensures (record { left = refl; faults = refl })

pub returns-in-Ok-open-clause-command : goal.returns-in-Ok-open-clause-command
returns-in-Ok-open-clause-command g c =
    let source = source_told g.I.Source.left g.I.Source.fault_count c.args.source.now c.run_opened-finished.new.source in
    let sink = sink_told g.O.Sink.taken g.O.Sink.fault_count c.args.sink.now c.run_opened-finished.new.sink in
    served_words _ _ source sink c.run_opened-finished.result.cause c.run_opened-finished.ensures.ends

pub returns-in-Ok-open-clause-begun : goal.returns-in-Ok-open-clause-begun
returns-in-Ok-open-clause-begun g c =
    let source = source_told g.I.Source.left g.I.Source.fault_count c.args.source.now c.run_opened-finished.new.source in
    let sink = sink_told g.O.Sink.taken g.O.Sink.fault_count c.args.sink.now c.run_opened-finished.new.sink in
    served_begun _ _ source sink c.run_opened-finished.result.opening.value c.run_opened-finished.result.cause c.run_opened-finished.ensures.ends

pub returns-in-Err-clause-command : goal.returns-in-Err-clause-command
returns-in-Err-clause-command g c = rw (c.unopened.ensures, c.from.ensures) (words_unhanded c.in-Err.refusal)

pub returns-in-Err-clause-begun : goal.returns-in-Err-clause-begun
returns-in-Err-clause-begun g c = rw (c.unopened.ensures, c.from.ensures) (begun_unhanded (Store g.row.H-Disk.Denot) c.in-Err.refusal)

pub returns-in-Err-open-clause-command : goal.returns-in-Err-open-clause-command
returns-in-Err-open-clause-command g c = rw (c.unopened-in-Err-open.ensures, c.from-in-Err-open.ensures) (words_unopened c.in-Err-open.refusal)

pub returns-in-Err-open-clause-begun : goal.returns-in-Err-open-clause-begun
returns-in-Err-open-clause-begun g c = rw (c.unopened-in-Err-open.ensures, c.from-in-Err-open.ensures) (begun_unopened (Store g.row.H-Disk.Denot) c.in-Err-open.refusal)

-- what was done

pub returns-in-Ok-open-clause-deeds : goal.returns-in-Ok-open-clause-deeds
returns-in-Ok-open-clause-deeds g c =
    let finished = c.run_opened-finished.result in
    let stored = g.H.Host.stores c.args.host.now c.args.dir.now in
    rw (c.from-in-Ok-open.ensures, c.run_opened-finished.ensures.opening)
    (also_well (Some c.in-Ok-open.hsm.opened) _ (DrivesWent g.H.Drive.Drive standard stored finished.drives.items) finished.history c.run_opened-finished.ensures.well
    (done_as standard _ _ _ (DrivesWent g.H.Drive.Drive standard stored finished.drives.items) finished.history (λ deeds done. done)
    (went_since g.H.Drive.Drive stored (g.H.Host.stores c.disk.new.self c.args.dir.now) (c.disk.ensures.folders c.args.dir.now) (λ ds. ds.items) c.ask_for_drives-drives.result finished.drives.items c.ask_for_drives-drives.ensures.given (none_came _ (finished.drives.items ≡ []) c.ask_for_drives-drives.result c.run_opened-finished.ensures.drives))
    c.run_opened-finished.ensures.deeds))

pub returns-in-Err-clause-deeds : goal.returns-in-Err-clause-deeds
returns-in-Err-clause-deeds g c =
    unopened_done (AreOfScript true (g.I.Source.left c.args.source.now)) (λ o. DrivesWent g.H.Drive.Drive standard (g.H.Host.stores c.args.host.now c.args.dir.now) o.drives) c.unopened.result _ None (host_other c.in-Err.refusal) (inl (refl, refl)) (c.unopened.ensures ∙ ap (λ (why : Cause). ended_with (Some why) [] None) c.from.ensures)

pub returns-in-Err-open-clause-deeds : goal.returns-in-Err-open-clause-deeds
returns-in-Err-open-clause-deeds g c =
    unopened_done (AreOfScript true (g.I.Source.left c.args.source.now)) (λ o. DrivesWent g.H.Drive.Drive standard (g.H.Host.stores c.args.host.now c.args.dir.now) o.drives) c.unopened-in-Err-open.result _ (Some c.in-Err-open.disk) (open_other c.in-Err-open.refusal) (inl (refl, refl))
    (c.unopened-in-Err-open.ensures ∙ ap (λ (why : Cause). ended_with (Some why) [] (Some c.in-Err-open.disk)) c.from-in-Err-open.ensures)

-- what fails in one call at most

pub returns-in-Err-clause-host_once : goal.returns-in-Err-clause-host_once
returns-in-Err-clause-host_once g c = asked_once c.disk.result _ _ c.disk.ensures.cause

pub returns-in-Err-open-clause-host_once : goal.returns-in-Err-open-clause-host_once
returns-in-Err-open-clause-host_once g c = asked_once c.disk.result _ _ c.disk.ensures.cause

pub returns-in-Ok-open-clause-host_once : goal.returns-in-Ok-open-clause-host_once
returns-in-Ok-open-clause-host_once g c = once_since _ _ _ (c.in-Ok.ensures.cause.quiet (λ is. cc)) c.ask_for_drives-drives.ensures.once
