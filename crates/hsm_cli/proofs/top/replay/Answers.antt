use Rattle.std.proofs.Common.{inl, None, Some, false, refl, sym, subst, arith}
use Rattle.std.proofs.KnownBytes.{Appends-nil}
use Rattle.disk_model.specs.Calls.{RoseByOne}
use Rattle.plain_model.specs.State.{Held}
use Rattle.plain_model.specs.Stands.{Stands}
use Rattle.hsm_policy.specs.Settings.{standard}
use Rattle.hsm_cli.specs.Deeds.{AreDone, AreOfScript, DrivesInMemory, MayGoOnOver}
use Rattle.hsm_cli.specs.Follows.{SettlesOn}
use Rattle.hsm_cli.specs.RunObjects.{source_told, sink_told}
use Rattle.hsm_cli.proofs.Faults.{caused_none, caused_new, none_failed}
use Rattle.hsm_cli.proofs.Legality.{good_new, good_unopened, packed_new}
use Rattle.hsm_cli.proofs.Running.{never_rose, no_host, ends_in_memory}
use Rattle.hsm_cli.proofs.Wanting.{gives_none}
use Rattle.hsm_cli.proofs.Deeds.{done_new, none_in_memory, went_in_memory}
use Rattle.hsm_cli.proofs.Doing.{also_well, done_as, none_done}
use Rattle.hsm_cli.proofs.Daemons.{none_well}
use Rattle.hsm_cli.specs.Daemons.{IsWellServedOver}
use Rattle.hsm_cli.proofs.top.replay.Goals as goal

pub returns-in-Ok-clause-legality : goal.returns-in-Ok-clause-legality
returns-in-Ok-clause-legality g c = rw c.ended.ensures (good_new c.in-Ok.hsm.opened c.run_opened-finished.result.history c.in-Ok.ensures.empty.0 c.in-Ok.ensures.empty.1 c.in-Ok.ensures.empty.2 (c.run_opened-finished.ensures.good (c.run_opened-finished.result.disk, refl, tt)))

pub returns-in-Err-clause-legality : goal.returns-in-Err-clause-legality
returns-in-Err-clause-legality g c = rw c.unopened.ensures (good_unopened g.row.D.Denot)

pub returns-in-Ok-clause-packed : goal.returns-in-Ok-clause-packed
returns-in-Ok-clause-packed g c = rw c.ended.ensures (packed_new c.in-Ok.hsm.opened c.run_opened-finished.result.history c.in-Ok.ensures.empty.0 c.in-Ok.ensures.empty.1 c.in-Ok.ensures.empty.2 c.run_opened-finished.ensures.packed)

pub returns-in-Err-clause-packed : goal.returns-in-Err-clause-packed
returns-in-Err-clause-packed g c = rw c.unopened.ensures tt

pub returns-in-Ok-clause-media : goal.returns-in-Ok-clause-media
returns-in-Ok-clause-media g c = rw c.ended.ensures (none_failed _ (λ d. refl) (λ ds. ds.items) c.new_drives-drives.result c.run_opened-finished.result.drives.items c.run_opened-finished.result.history c.new_drives-drives.ensures.count c.run_opened-finished.ensures.drives c.run_opened-finished.ensures.idle c.run_opened-finished.ensures.media)

pub returns-in-Ok-clause-reading : goal.returns-in-Ok-clause-reading
returns-in-Ok-clause-reading g c = rw c.ended.ensures c.run_opened-finished.ensures.reading

pub returns-in-Ok-clause-faultless : goal.returns-in-Ok-clause-faultless
returns-in-Ok-clause-faultless g c = rw c.ended.ensures (never_rose _ c.run_opened-finished.ensures.caused)

pub returns-in-Ok-clause-plain : goal.returns-in-Ok-clause-plain
returns-in-Ok-clause-plain g c = rw c.ended.ensures (λ P stands. c.run_opened-finished.ensures.plain P (subst (λ (h : Held). Stands h.files P) (sym c.in-Ok.ensures.empty.1) stands))

pub returns-in-Ok-clause-caused_by : goal.returns-in-Ok-clause-caused_by
returns-in-Ok-clause-caused_by g c = rw c.ended.ensures (caused_new c.in-Ok.hsm.opened c.run_opened-finished.result.history c.in-Ok.ensures.empty.0 c.in-Ok.ensures.empty.1 c.in-Ok.ensures.empty.2 c.run_opened-finished.ensures.caused_by)

pub returns-in-Ok-clause-output : goal.returns-in-Ok-clause-output
returns-in-Ok-clause-output g c = rw c.ended.ensures (record { first = c.run_opened-finished.ensures.first; done = c.run_opened-finished.ensures.done; all = λ works ample. c.run_opened-finished.ensures.all ample works })

pub returns-in-Ok-clause-ends : goal.returns-in-Ok-clause-ends
returns-in-Ok-clause-ends g c =
    let source = source_told g.I.Source.left g.I.Source.fault_count c.args.source.now c.run_opened-finished.new.source in
    let sink = sink_told g.O.Sink.taken g.O.Sink.fault_count c.args.sink.now c.run_opened-finished.new.sink in
    rw c.ended.ensures (ends_in_memory _ (RoseByOne 0 0) source sink c.run_opened-finished.result.cause (no_host c.new_drives-drives.result c.new_drives-drives.ensures.why) (λ rose. omega (arith, rose)) c.run_opened-finished.ensures.ends)

-- no memory for a store

pub returns-in-Err-clause-reading : goal.returns-in-Err-clause-reading
returns-in-Err-clause-reading g c = rw c.unopened.ensures (gives_none _)

pub returns-in-Err-clause-plain : goal.returns-in-Err-clause-plain
returns-in-Err-clause-plain g c = rw c.unopened.ensures (λ P stands. ((good_unopened g.row.D.Denot).good P stands).plain)

pub returns-in-Err-clause-caused_by : goal.returns-in-Err-clause-caused_by
returns-in-Err-clause-caused_by g c = rw c.unopened.ensures (caused_none _ _ _ _ refl)

pub returns-in-Err-clause-output : goal.returns-in-Err-clause-output
returns-in-Err-clause-output g c = rw c.unopened.ensures (record { first = (0, Appends-nil _); done = λ none. absurd cc; all = λ works ample. absurd (ample refl) })

-- what was done

pub returns-in-Ok-clause-deeds : goal.returns-in-Ok-clause-deeds
returns-in-Ok-clause-deeds g c =
    let opened = c.in-Ok.hsm.opened in
    let empty = c.in-Ok.ensures.empty in
    let finished = c.run_opened-finished.result in
    let lines = AreOfScript false (g.I.Source.left c.args.source.now) in
    rw c.ended.ensures
    (done_new _ g.row.D.Denot opened lines finished.cause (DrivesInMemory standard) finished.history empty.0 empty.1 empty.2
    (also_well (Some opened) _ (DrivesInMemory standard) finished.history c.run_opened-finished.ensures.well
    (done_as standard (AreDone (MayGoOnOver (Some opened)) (SettlesOn (Some opened)) lines finished.cause) _ _ (DrivesInMemory standard) finished.history (λ deeds done. done)
    (λ deeds gone. went_in_memory c.seals_are_whole.ensures (λ ds. ds.items) c.new_drives-drives.result finished.drives.items c.new_drives-drives.ensures.handed deeds gone) c.run_opened-finished.ensures.deeds)))

pub returns-in-Err-clause-deeds : goal.returns-in-Err-clause-deeds
returns-in-Err-clause-deeds g c = rw c.unopened.ensures (none_done _ (λ deeds. IsWellServedOver {D = g.row.D.Denot} None deeds × DrivesInMemory standard deeds) _ refl (inl refl) (none_well _ _ _, none_in_memory))
