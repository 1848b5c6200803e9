use Rattle.std.proofs.Common.{Some, refl}
use Rattle.disk_model.specs.Calls.{Rose, RoseByOne}
use Rattle.hsm_cli.specs.Clauses.{HasFailed}
use Rattle.hsm_cli.specs.Endings.{cause_in}
use Rattle.hsm_cli.specs.Texts.{IsShown, AreUntold}
use Rattle.hsm_cli.specs.RunObjects.{sink_told}
use Rattle.hsm_cli.proofs.Quiet.{unhanded_quiet, asked_once}
use Rattle.hsm_cli.proofs.Running.{failed_since}
use Rattle.hsm_cli.proofs.Showings.{takes_as, shown_of, ends_as, only_read}
use Rattle.hsm_cli.proofs.showing.show.Goals as goal

pub returns-clause-output : goal.returns-clause-output
returns-clause-output g c =
    let held = g.H.Host.holds c.args.host.now c.args.path.now in
    let given = g.H.Disk.Disk.gives c.in-Ok.disk in
    rw (c.unopened-2.ensures, c.err.ensures.value)
    (takes_as (IsShown given AreUntold) (IsShown held AreUntold) (sink_told g.O.Sink.taken g.O.Sink.fault_count c.args.sink.now c.show_disk-ended.new.sink) (cause_in c.show_disk-ended.result) (λ text shown. shown_of AreUntold given held text c.in-Ok.ensures.given shown) c.show_disk-ended.ensures.text)

pub returns-clause-ends : goal.returns-clause-ends
returns-clause-ends g c =
    let held = g.H.Host.holds c.args.host.now c.args.path.now in
    let given = g.H.Disk.Disk.gives c.in-Ok.disk in
    let host_fails = Rose (g.H.Host.fault_count c.args.host.now) (g.H.Host.fault_count c.disk.new.self) in
    let disk_fails = HasFailed g.H.Disk.Disk (Some c.show_disk-ended.new.disk) in
    rw (c.unopened-2.ensures, c.err.ensures.value)
    (ends_as given held ⊥ (RoseByOne (g.H.Disk.Disk.fault_count c.in-Ok.disk) (g.H.Disk.Disk.fault_count c.show_disk-ended.new.disk)) host_fails disk_fails (sink_told g.O.Sink.taken g.O.Sink.fault_count c.args.sink.now c.show_disk-ended.new.sink) (cause_in c.show_disk-ended.result) c.in-Ok.ensures.given
    (λ never. absurd never) (failed_since g.H.Disk.Disk (g.H.Disk.Disk.fault_count c.in-Ok.disk) c.show_disk-ended.new.disk c.in-Ok.ensures.counted) c.show_disk-ended.ensures.ends)

pub returns-clause-reads : goal.returns-clause-reads
returns-clause-reads g c =
    rw (c.unopened-2.ensures, c.err.ensures.value) (refl, refl, only_read g.H.Disk.Disk (g.H.Host.holds c.args.host.now c.args.path.now) _ c.in-Ok.disk c.show_disk-ended.new.disk (record { given = c.in-Ok.ensures.given; settled = c.in-Ok.ensures.settled; counted = c.in-Ok.ensures.counted }) c.show_disk-ended.ensures.keeps c.show_disk-ended.ensures.given (λ works. c.show_disk-ended.ensures.quiet works))

pub returns-in-Err-clause-quiet : goal.returns-in-Err-clause-quiet
returns-in-Err-clause-quiet g c = rw (c.unopened.ensures, c.from.ensures) (λ sound. c.in-Err.ensures.cause.quiet (unhanded_quiet c.in-Err.refusal sound))

pub returns-clause-quiet : goal.returns-clause-quiet
returns-clause-quiet g c = λ sound. c.in-Ok.ensures.cause.quiet (λ is. cc)

pub returns-in-Err-clause-host_once : goal.returns-in-Err-clause-host_once
returns-in-Err-clause-host_once g c = asked_once c.disk.result _ _ c.disk.ensures.cause

pub returns-clause-host_once : goal.returns-clause-host_once
returns-clause-host_once g c = asked_once c.disk.result _ _ c.disk.ensures.cause
