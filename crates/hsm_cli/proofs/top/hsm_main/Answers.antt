use Rattle.std.proofs.Common.{◌≡◌, None, Some, map, sym, ◌∙◌, ap, subst}
use Rattle.std.specs.Prelude.{Option, option_map}
use Rattle.std.specs.String.{string_bytes}
use Rattle.command_words.specs.Commands.{Form, form_in, form_of}
use Rattle.command_words.specs.declared.commands.Command.{Command}
use Rattle.hsm_cli.specs.Clauses.{KeepsPromises}
use Rattle.hsm_cli.specs.RunObjects.{source_told, sink_told}
use Rattle.hsm_cli.proofs.Wanting.{refused_keeps, wanting_keeps}
use Rattle.hsm_cli.proofs.top.hsm_main.Goals as goal

-- the form of the words
has_form : (found read : Option Command) (form : Option Form) → found ≡ read → option_map form_in found ≡ form → option_map form_in read ≡ form
has_form found read form is has = ap (λ (x : Option Command). option_map form_in x) (sym is) ∙ has

pub returns-in-Ok-Some : goal.returns-in-Ok-Some
returns-in-Ok-Some g c =
    let source = source_told g.I.Source.left g.I.Source.fault_count c.args.source.now c.run_command.new.source in
    let sink = sink_told g.O.Sink.taken g.O.Sink.fault_count c.args.sink.now c.run_command.new.sink in
    let kept : KeepsPromises g.H.Host g.H.Disk.Disk g.H.Drive.Drive (form_of (map string_bytes c.args.words.now)) c.args.host.now c.run_command.new.host source sink c.run_command.result =
    subst (λ (f : Option Form). KeepsPromises g.H.Host g.H.Disk.Disk g.H.Drive.Drive f c.args.host.now c.run_command.new.host source sink c.run_command.result)
    (has_form _ (Some c.in-Ok-Some.command) _ c.in-Ok-Some.field-0-is c.in-Ok-Some.ensures) c.run_command.ensures in
    record {
      deeds = kept.deeds;
      reading = kept.reading;
      legality = kept.legality;
      plain = kept.plain;
      media = kept.media;
      crash = kept.crash;
      format = kept.format;
      host = kept.host;
      drives = kept.drives;
      output = kept.output;
      status = kept.status;
      faults = kept.faults;
    }

pub returns-in-Ok-None : goal.returns-in-Ok-None
returns-in-Ok-None g c =
    let source = source_told g.I.Source.left g.I.Source.fault_count c.args.source.now c.args.source.now in
    let sink = sink_told g.O.Sink.taken g.O.Sink.fault_count c.args.sink.now c.args.sink.now in
    let kept : KeepsPromises g.H.Host g.H.Disk.Disk g.H.Drive.Drive (form_of (map string_bytes c.args.words.now)) c.args.host.now c.args.host.now source sink c.unopened.result =
    subst (λ (f : Option Form). KeepsPromises g.H.Host g.H.Disk.Disk g.H.Drive.Drive f c.args.host.now c.args.host.now source sink c.unopened.result)
    (has_form _ None _ c.in-Ok-None.field-0-is c.in-Ok-None.ensures)
    (refused_keeps g.H.Disk.Disk g.H.Drive.Drive g.H.Host c.args.host.now source.left sink.new source.now sink.now c.unopened.result c.unopened.ensures) in
    record {
      deeds = kept.deeds;
      reading = kept.reading;
      legality = kept.legality;
      plain = kept.plain;
      media = kept.media;
      crash = kept.crash;
      format = kept.format;
      host = kept.host;
      drives = kept.drives;
      output = kept.output;
      status = kept.status;
      faults = kept.faults;
    }

pub returns-in-Err : goal.returns-in-Err
returns-in-Err g c =
    let form = form_of (map string_bytes c.args.words.now) in
    let source = source_told g.I.Source.left g.I.Source.fault_count c.args.source.now c.args.source.now in
    let sink = sink_told g.O.Sink.taken g.O.Sink.fault_count c.args.sink.now c.args.sink.now in
    let kept : KeepsPromises g.H.Host g.H.Disk.Disk g.H.Drive.Drive form c.args.host.now c.args.host.now source sink c.unopened-in-Err.result =
    wanting_keeps g.H.Disk.Disk g.H.Drive.Drive g.H.Host c.args.host.now source.left sink.new source.now sink.now c.unopened-in-Err.result form c.unopened-in-Err.ensures in
    record {
      deeds = kept.deeds;
      reading = kept.reading;
      legality = kept.legality;
      plain = kept.plain;
      media = kept.media;
      crash = kept.crash;
      format = kept.format;
      host = kept.host;
      drives = kept.drives;
      output = kept.output;
      status = kept.status;
      faults = kept.faults;
    }
