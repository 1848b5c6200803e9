use Rattle.std.proofs.Common.{◌≡◌, ◌∙◌, [], Some, None, OnErr, false, ap, subst}
use Rattle.std.specs.Prelude.{List, MatchResult}
use Rattle.hsm_policy.specs.Settings.{standard}
use Rattle.deeds.specs.Deeds.{Deed}
use Rattle.file_store.specs.Stores.{Store as FileStore}
use Rattle.hsm_cli.specs.Clauses.{HasRead, IsWhole}
use Rattle.hsm_cli.proofs.Committing.{ran_well, on_none, whole}
use Rattle.hsm_cli.proofs.Daemons.{run_is_well}
use Rattle.hsm_cli.proofs.Faults.{caused_served, made}
use Rattle.hsm_cli.proofs.Legality.{orderly, plain_over}
use Rattle.hsm_cli.proofs.Quiet.{works_still, reads_quietly, writes_quietly, lent_first}
use Rattle.hsm_cli.proofs.Scripted.{idle_none}
use Rattle.hsm_cli.proofs.Telling.{told_fault, faultless_unless, fault_caused, read_by, written_if_none, written_if_works, told_unready, run_ends}
use Rattle.hsm_cli.specs.Endings.{cause_in}
use Rattle.hsm_replay.specs.Running.{IsAllDurable}
use Rattle.hsm_cli.proofs.Endings.{before_run}
use Rattle.hsm_cli.specs.RunObjects.{source_told, sink_told}
use Rattle.hsm_cli.specs.Follows.{SettlesOn}
use Rattle.hsm_cli.specs.Deeds.{AreDone, AreOfScript, HaveGone, MayGoOnOver}
use Rattle.hsm_cli.proofs.Doing.{done_as, told_done}
use Rattle.hsm_cli.proofs.scripts.run_opened.Goals as goal

pub returns-clause-well : goal.returns-clause-well
returns-clause-well g c = rw c.close-disk.ensures.entries (run_is_well (record { anew = c.makes_anew.ensures; over = c.takes_over.ensures; begins = c.begins_right.ensures; passes = c.all_passed.ensures; frees = c.punch_frees.ensures; keeps = c.served_keeps_all.ensures }) g.D.Disk c.args.hsm c.run_with-ended.result.hsm c.run_with-ended.ensures.goes_on c.close-disk.ensures.kept)

pub returns-clause-now : goal.returns-clause-now
returns-clause-now g c = rw (c.close-disk.ensures.disk, c.close-disk.ensures.entries, ← c.run_with-ended.ensures.goes_on.opened) c.close-disk.ensures.now

pub returns-clause-whole : goal.returns-clause-whole
returns-clause-whole g c =
    let s = c.run_with-ended.result.hsm in
    rw (c.close-disk.ensures.disk, c.close-disk.ensures.entries, c.first_cause.ensures) (λ commits to_end image may.
    let ran : cause_in c.run_with-ended.result.ended ≡ None = ran_well _ _ (source_told g.I.Source.left g.I.Source.fault_count c.args.source.now c.run_with-ended.new.source) c.run_with-ended.result.ended (cause_in c.write_transcript-written.result) c.run_with-ended.ensures.ends to_end in
    let working : s.files.failed ≡ false = on_none (s.files.failed ≡ false) c.run_with-ended.result.ended ran c.run_with-ended.ensures.working in
    let all : IsAllDurable s = on_none (IsAllDurable s) c.run_with-ended.result.ended ran (c.run_with-ended.ensures.durable commits) in
    subst (λ (opened : FileStore g.row.D.Denot). IsWhole opened s.history image) c.run_with-ended.ensures.goes_on.opened
    (whole s image (c.one_recovery.ensures image) all (ap (λ st. st.held) (c.close-disk.ensures.kept.state working)) (c.close-disk.ensures.now image may) (c.close-disk.ensures.durable working image may)))

pub returns-clause-untouched : goal.returns-clause-untouched
returns-clause-untouched g c =
    rw (c.close-disk.ensures.disk, c.first_cause.ensures) (λ before.
    ap (λ s. s.files.disk) (c.run_with-ended.ensures.untouched (before_run (sink_told g.O.Sink.taken g.O.Sink.fault_count c.args.sink.now c.write_transcript-written.new.sink) (cause_in c.run_with-ended.result.ended) c.write_transcript-written.result c.write_transcript-written.ensures.refused before)))

pub returns-clause-caused_by : goal.returns-clause-caused_by
returns-clause-caused_by g c =
    rw c.close-disk.ensures.entries
    (caused_served g.D.Disk c.is_caused.ensures c.args.hsm c.run_with-ended.result.hsm c.run_with-ended.ensures.goes_on (made c.run_with-ended.ensures.deeds) c.close-disk.ensures.kept)

pub returns-clause-media : goal.returns-clause-media
returns-clause-media g c = rw c.close-disk.ensures.entries c.run_with-ended.ensures.media

pub returns-clause-idle : goal.returns-clause-idle
returns-clause-idle g c = rw c.close-disk.ensures.entries (idle_none (λ s. s.history) c.args.hsm c.run_with-ended.result.hsm c.args.drives c.requires.anew.history c.run_with-ended.ensures.idle)

pub returns-clause-reading : goal.returns-clause-reading
returns-clause-reading g c = rw c.first_cause.ensures (read_by (HasRead (source_told g.I.Source.left g.I.Source.fault_count c.args.source.now c.run_with-ended.new.source)) (sink_told g.O.Sink.taken g.O.Sink.fault_count c.args.sink.now c.write_transcript-written.new.sink) c.run_with-ended.result.ended c.write_transcript-written.result c.write_transcript-written.ensures.refused c.run_with-ended.ensures.reading c.run_with-ended.ensures.part (λ whole. whole))

pub returns-clause-caused : goal.returns-clause-caused
returns-clause-caused g c = rw (c.close-disk.ensures.disk, c.close-disk.ensures.entries, c.requires.anew.opened) (fault_caused _ _ (source_told g.I.Source.left g.I.Source.fault_count c.args.source.now c.run_with-ended.new.source) c.run_with-ended.result.hsm.files.failed _ c.run_with-ended.result.ended c.run_with-ended.ensures.failed c.close-disk.ensures.kept.faultless c.run_with-ended.ensures.ends)

pub returns-clause-told : goal.returns-clause-told
returns-clause-told g c = rw (c.close-disk.ensures.entries, c.first_cause.ensures) (told_fault _ (sink_told g.O.Sink.taken g.O.Sink.fault_count c.args.sink.now c.write_transcript-written.new.sink) c.run_with-ended.result.ended c.write_transcript-written.result c.write_transcript-written.ensures.refused c.run_with-ended.ensures.fault)

pub returns-clause-faultless : goal.returns-clause-faultless
returns-clause-faultless g c = rw (c.close-disk.ensures.entries, c.first_cause.ensures) (faultless_unless c.run_with-ended.result.hsm.files.failed _ (sink_told g.O.Sink.taken g.O.Sink.fault_count c.args.sink.now c.write_transcript-written.new.sink) c.run_with-ended.result.ended c.write_transcript-written.result c.write_transcript-written.ensures.refused c.run_with-ended.ensures.failed c.close-disk.ensures.kept.faultless)

pub returns-clause-legality : goal.returns-clause-legality
returns-clause-legality g c = rw (c.close-disk.ensures.disk, c.close-disk.ensures.entries, ← c.run_with-ended.ensures.goes_on.opened) c.close-disk.ensures.kept.run

pub returns-clause-packed : goal.returns-clause-packed
returns-clause-packed g c = rw (c.close-disk.ensures.entries, ← c.run_with-ended.ensures.goes_on.opened) c.close-disk.ensures.kept.packed

pub returns-clause-orderly : goal.returns-clause-orderly
returns-clause-orderly g c = rw (c.close-disk.ensures.entries, ← c.run_with-ended.ensures.goes_on.opened) (orderly _ _ _ _ _ c.close-disk.ensures.kept.run)

pub returns-clause-good : goal.returns-clause-good
returns-clause-good g c = rw (c.close-disk.ensures.disk, c.close-disk.ensures.entries, ← c.run_with-ended.ensures.goes_on.opened) c.close-disk.ensures.kept.good

pub returns-clause-plain : goal.returns-clause-plain
returns-clause-plain g c = rw (c.close-disk.ensures.entries, ← c.run_with-ended.ensures.goes_on.opened) (plain_over _ (Some c.run_with-ended.result.hsm.opened) c.run_with-ended.result.hsm.history c.close-disk.ensures.kept.run)

pub returns-clause-done : goal.returns-clause-done
returns-clause-done g c = rw (c.close-disk.ensures.entries, c.first_cause.ensures) (written_if_none _ (sink_told g.O.Sink.taken g.O.Sink.fault_count c.args.sink.now c.write_transcript-written.new.sink) c.run_with-ended.result.ended c.write_transcript-written.result c.write_transcript-written.ensures.refused (rw c.close-disk.ensures.entries at c.write_transcript-written.ensures.all))

pub returns-clause-all : goal.returns-clause-all
returns-clause-all g c = rw (c.close-disk.ensures.entries, c.first_cause.ensures) (written_if_works _ (sink_told g.O.Sink.taken g.O.Sink.fault_count c.args.sink.now c.write_transcript-written.new.sink) c.run_with-ended.result.ended c.write_transcript-written.result c.write_transcript-written.ensures.refused (rw c.close-disk.ensures.entries at c.write_transcript-written.ensures.all))

pub returns-clause-unready : goal.returns-clause-unready
returns-clause-unready g c = rw c.first_cause.ensures (told_unready c.args.drives (sink_told g.O.Sink.taken g.O.Sink.fault_count c.args.sink.now c.write_transcript-written.new.sink) c.run_with-ended.result.ended c.write_transcript-written.result c.write_transcript-written.ensures.refused c.run_with-ended.ensures.unready)

pub returns-clause-ends : goal.returns-clause-ends
returns-clause-ends g c = rw (c.close-disk.ensures.disk, c.first_cause.ensures, c.requires.anew.opened) (run_ends _ _ (source_told g.I.Source.left g.I.Source.fault_count c.args.source.now c.run_with-ended.new.source) (sink_told g.O.Sink.taken g.O.Sink.fault_count c.args.sink.now c.write_transcript-written.new.sink) c.run_with-ended.result.ended c.write_transcript-written.result c.write_transcript-written.ensures.refused c.run_with-ended.ensures.ends)

pub returns-clause-reads : goal.returns-clause-reads
returns-clause-reads g c =
    rw c.first_cause.ensures
    (reads_quietly (MayGoOnOver (Some c.args.hsm.opened)) (SettlesOn (Some c.args.hsm.opened)) (AreOfScript c.args.commits (g.I.Source.left c.args.source.now)) _ _ (source_told g.I.Source.left g.I.Source.fault_count c.args.source.now c.run_with-ended.new.source) c.run_with-ended.result.ended c.write_transcript-written.result c.run_with-ended.ensures.deeds
    (λ none. (c.write_transcript-written.ensures.idle (c.close-disk.ensures.entries ∙ none)).0) c.run_with-ended.ensures.quiet)

pub returns-clause-lent : goal.returns-clause-lent
returns-clause-lent g c =
    let idle = idle_none (λ s. s.history) c.args.hsm c.run_with-ended.result.hsm c.args.drives c.requires.anew.history c.run_with-ended.ensures.idle in
    rw c.first_cause.ensures
    (λ is. lent_first c.args.drives c.run_with-ended.result.ended c.write_transcript-written.result c.run_with-ended.ensures.unready (c.write_transcript-written.ensures.idle (c.close-disk.ensures.entries ∙ subst (λ d. OnErr d (c.run_with-ended.result.hsm.history ≡ [])) is idle)).0 is)

pub returns-clause-writes : goal.returns-clause-writes
returns-clause-writes g c =
    rw c.first_cause.ensures
    (writes_quietly (MayGoOnOver (Some c.args.hsm.opened)) (SettlesOn (Some c.args.hsm.opened)) (AreOfScript c.args.commits (g.I.Source.left c.args.source.now)) _ _ (sink_told g.O.Sink.taken g.O.Sink.fault_count c.args.sink.now c.write_transcript-written.new.sink) c.run_with-ended.result.ended c.write_transcript-written.result c.write_transcript-written.ensures.refused
    c.run_with-ended.ensures.deeds c.write_transcript-written.ensures.quiet (λ none. ap g.O.Sink.fault_count (c.write_transcript-written.ensures.idle (c.close-disk.ensures.entries ∙ none)).1))

pub returns-clause-sound : goal.returns-clause-sound
returns-clause-sound g c =
    rw (c.close-disk.ensures.disk, c.close-disk.ensures.entries, c.requires.anew.opened)
    (λ none. (c.run_with-ended.ensures.goes_on.quiet (works_still c.run_with-ended.result.hsm.files.failed _ c.run_with-ended.result.ended c.run_with-ended.ensures.failed c.run_with-ended.ensures.fault none)).1)

pub returns-clause-deeds : goal.returns-clause-deeds
returns-clause-deeds g c =
    let may = MayGoOnOver (Some c.args.hsm.opened) in
    let settles = SettlesOn (Some c.args.hsm.opened) in
    let lines = AreOfScript c.args.commits (g.I.Source.left c.args.source.now) in
    let goes = λ (deeds : List Deed). MatchResult c.args.drives (λ ds. HaveGone g.M.Drive standard ds.items deeds c.run_with-ended.result.drives.items) (λ why. deeds ≡ []) in
    rw (c.first_cause.ensures, c.close-disk.ensures.entries)
    (done_as standard (AreDone may settles lines (cause_in c.run_with-ended.result.ended)) _ goes goes _
    (λ deeds done. told_done may settles lines (sink_told g.O.Sink.taken g.O.Sink.fault_count c.args.sink.now c.write_transcript-written.new.sink) (cause_in c.run_with-ended.result.ended) c.write_transcript-written.result deeds c.write_transcript-written.ensures.refused done) (λ deeds gone. gone)
    c.run_with-ended.ensures.deeds)
