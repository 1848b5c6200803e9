use Rattle.std.proofs.Common.{◌≡◌, Some, refl, sym, ap, subst}
use Rattle.std.specs.Prelude.{Option}
use Rattle.command_words.specs.Commands.{Form, form_in}
use Rattle.command_words.specs.declared.commands.Command.{Command}
use Rattle.hsm_cli.specs.Clauses.{KeepsPromises}
use Rattle.hsm_cli.specs.RunObjects.{source_told, sink_told}
use Rattle.hsm_cli.proofs.Promises.{format_keeps, replay_keeps, store_keeps, show_keeps, volumes_keep, drill_keeps}
use Rattle.hsm_cli.proofs.top.run_command.Goals as goal

-- the form of a command
has_form : (command variant : Command) → command ≡ variant → Some (form_in variant) ≡ Some (form_in command)
has_form command variant is = ap (λ (x : Command). Some (form_in x)) (sym is)

pub returns-in-Format : goal.returns-in-Format
returns-in-Format g c =
    let source = source_told g.I.Source.left g.I.Source.fault_count c.args.source.now c.args.source.now in
    let sink = sink_told g.O.Sink.taken g.O.Sink.fault_count c.args.sink.now c.args.sink.now in
    let p = c.format.ensures in
    subst (λ (f : Option Form). KeepsPromises g.H.Host g.H.Disk.Disk g.H.Drive.Drive f c.args.host.now c.format.new.host source sink c.format.result) (has_form _ _ c.in-Format.is)
    (format_keeps g.H.Host g.H.Disk.Disk g.H.Drive.Drive c.args.host.now c.format.new.host source sink c.format.result c.in-Format.path.now c.in-Format.size
    p.unopened p.formatted p.host p.made p.unasked p.undriven p.folders p.lent p.back p.quiet p.once p.sound p.ends (record { left = refl; faults = refl }) (record { taken = refl; faults = refl }))

pub returns-in-Replay : goal.returns-in-Replay
returns-in-Replay g c =
    let source = source_told g.I.Source.left g.I.Source.fault_count c.args.source.now c.replay.new.source in
    let sink = sink_told g.O.Sink.taken g.O.Sink.fault_count c.args.sink.now c.replay.new.sink in
    let p = c.replay.ensures in
    subst (λ (f : Option Form). KeepsPromises g.H.Host g.H.Disk.Disk g.H.Drive.Drive f c.args.host.now c.args.host.now source sink c.replay.result) (has_form _ _ c.in-Replay.is)
    (replay_keeps g.H.Host g.H.Disk.Disk g.H.Drive.Drive c.args.host.now c.args.host.now source sink c.replay.result p.ended p.legality p.packed p.faultless p.plain p.caused_by p.media c.one_script.ensures.script p.deeds p.reading p.output p.reads p.writes p.source_once p.sink_once p.ends)

pub returns-in-ReplayStore : goal.returns-in-ReplayStore
returns-in-ReplayStore g c =
    let source = source_told g.I.Source.left g.I.Source.fault_count c.args.source.now c.replay_store.new.source in
    let sink = sink_told g.O.Sink.taken g.O.Sink.fault_count c.args.sink.now c.replay_store.new.sink in
    let p = c.replay_store.ensures in
    subst (λ (f : Option Form). KeepsPromises g.H.Host g.H.Disk.Disk g.H.Drive.Drive f c.args.host.now c.replay_store.new.host source sink c.replay_store.result) (has_form _ _ c.in-ReplayStore.is)
    (store_keeps g.H.Host g.H.Disk.Disk g.H.Drive.Drive c.args.host.now c.replay_store.new.host source sink c.replay_store.result c.in-ReplayStore.path.now c.in-ReplayStore.dir.now c.one_script.ensures.script
    p.told p.command p.deeds p.reading p.legality p.plain p.media p.caused_by p.crash p.output p.host p.asked p.unmade p.lent p.drives p.folders p.driven p.begun p.opened p.back p.sound p.reads p.writes p.source_once p.sink_once p.quiet p.host_once p.why)

pub returns-in-Show : goal.returns-in-Show
returns-in-Show g c =
    let source = source_told g.I.Source.left g.I.Source.fault_count c.args.source.now c.args.source.now in
    let sink = sink_told g.O.Sink.taken g.O.Sink.fault_count c.args.sink.now c.show.new.sink in
    let p = c.show.ensures in
    subst (λ (f : Option Form). KeepsPromises g.H.Host g.H.Disk.Disk g.H.Drive.Drive f c.args.host.now c.show.new.host source sink c.show.result) (has_form _ _ c.in-Show.is)
    (show_keeps g.H.Host g.H.Disk.Disk g.H.Drive.Drive c.args.host.now c.show.new.host source sink c.show.result c.in-Show.path.now
    p.unopened p.reads p.host p.asked p.unmade p.undriven p.folders p.lent p.back p.output p.quiet p.host_once p.sink_once p.ends (record { left = refl; faults = refl }))

pub returns-in-ShowVolumes : goal.returns-in-ShowVolumes
returns-in-ShowVolumes g c =
    let source = source_told g.I.Source.left g.I.Source.fault_count c.args.source.now c.args.source.now in
    let sink = sink_told g.O.Sink.taken g.O.Sink.fault_count c.args.sink.now c.show_volumes.new.sink in
    let p = c.show_volumes.ensures in
    subst (λ (f : Option Form). KeepsPromises g.H.Host g.H.Disk.Disk g.H.Drive.Drive f c.args.host.now c.show_volumes.new.host source sink c.show_volumes.result) (has_form _ _ c.in-ShowVolumes.is)
    (volumes_keep g.H.Host g.H.Disk.Disk g.H.Drive.Drive c.args.host.now c.show_volumes.new.host source sink c.show_volumes.result c.in-ShowVolumes.path.now c.in-ShowVolumes.dir.now
    p.shown p.reads p.host p.asked p.unmade p.drives p.folders p.driven p.lent p.back p.unasked p.first p.output p.quiet p.host_once p.sink_once p.well p.ends (record { left = refl; faults = refl }))

pub returns-in-Drill : goal.returns-in-Drill
returns-in-Drill g c =
    let source = source_told g.I.Source.left g.I.Source.fault_count c.args.source.now c.args.source.now in
    let sink = sink_told g.O.Sink.taken g.O.Sink.fault_count c.args.sink.now c.drill.new.sink in
    let p = c.drill.ensures in
    subst (λ (f : Option Form). KeepsPromises g.H.Host g.H.Disk.Disk g.H.Drive.Drive f c.args.host.now c.args.host.now source sink c.drill.result) (has_form _ _ c.in-Drill.is)
    (drill_keeps g.H.Host g.H.Disk.Disk g.H.Drive.Drive c.args.host.now c.args.host.now source sink c.drill.result p.ended p.legality p.packed p.faultless p.plain p.caused_by p.media c.in-Drill.number p.deeds p.output p.ends p.once (record { left = refl; faults = refl }))
