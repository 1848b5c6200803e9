use Rattle.std.proofs.Common.{length, drop, ◌≡◌, ◌∙◌, ◌⊎◌, inl, inr, ℕ, [], Some, Err, IfErr, refl, ap, subst, arith}
use Rattle.std.proofs.lemmas.List.{take_at}
use Rattle.disk_model.specs.Calls.{Rose, raised}
use Rattle.hsm_policy.specs.Settings.{standard}
use Rattle.reconcile.specs.Classes.{AreRead, FailsAt}
use Rattle.hsm_cli.specs.Clauses.{HasFailed, HasDriveFailed, AreShown}
use Rattle.hsm_cli.specs.Endings.{cause_in, CountingEnds}
use Rattle.hosts.specs.Hosts.{AreHanded}
use Rattle.hsm_cli.specs.Texts.{ShowsStore, IsShown, shown_volumes, AreCounted, GivesVolume}
use Rattle.hsm_cli.specs.RunObjects.{SinkTold, sink_told}
use Rattle.hsm_cli.proofs.Drives.{rose_once, handed_since, disk_came, stayed, all_came}
use Rattle.hsm_cli.proofs.Quiet.{unhanded_quiet, never_yet, failed_once, once_since, asked_once}
use Rattle.hsm_cli.proofs.Running.{failed_since}
use Rattle.hsm_cli.proofs.Showings.{takes_as, ends_unread, ends_unhanded, ends_counted, gives_counted, asks_counted, drive_failed, only_read}
use Rattle.hsm_cli.proofs.Showings.{unread_is_no_host, unread_quiet, is_found, as_many_read, some_came, counted_of}
use Rattle.hsm_cli.proofs.showing.show_volumes.Given.{Over}
use Rattle.hsm_cli.proofs.showing.show_volumes.Goals.{After-drop-summary-3}
use Rattle.hsm_cli.proofs.showing.show_volumes.Goals as goal

pub returns-in-Err-inspect-clause-ends : goal.returns-in-Err-inspect-clause-ends
returns-in-Err-inspect-clause-ends g c =
    let host_fails = Rose (g.H.Host.fault_count c.args.host.now) (g.H.Host.fault_count c.disk.new.self) ⊎ HasDriveFailed g.H.Drive.Drive [] in
    let disk_fails = HasFailed g.H.Disk.Disk (Some c.inspect.new.disk) in
    let refused = c.in-Err-inspect.ensures in
    rw (c.unopened-in-Err-inspect.ensures, c.from-in-Err-inspect.ensures)
    (ends_unread (g.H.Host.holds c.args.host.now c.args.path.now) host_fails disk_fails (sink_told g.O.Sink.taken g.O.Sink.fault_count c.args.sink.now c.args.sink.now) c.in-Err-inspect.refusal
    (λ is image held. refused.not_store (ap Err is) image (c.in-Ok.ensures.given image held)) (λ place is image held. refused.corrupt place (ap Err is) image (c.in-Ok.ensures.given image held))
    (λ is. failed_since g.H.Disk.Disk (g.H.Disk.Disk.fault_count c.in-Ok.disk) c.inspect.new.disk c.in-Ok.ensures.counted (refused.faults.once (ap Err is))))

pub returns-in-Err-inspect-clause-reads : goal.returns-in-Err-inspect-clause-reads
returns-in-Err-inspect-clause-reads g c =
    rw (c.unopened-in-Err-inspect.ensures, c.from-in-Err-inspect.ensures) (refl, refl, only_read g.H.Disk.Disk (g.H.Host.holds c.args.host.now c.args.path.now) _ c.in-Ok.disk c.inspect.new.disk (record { given = c.in-Ok.ensures.given; settled = c.in-Ok.ensures.settled; counted = c.in-Ok.ensures.counted }) c.inspect.ensures.keeps c.inspect.ensures.given (λ works. c.in-Err-inspect.ensures.faults.quiet (unread_quiet c.in-Err-inspect.refusal works)))

pub returns-in-Err-inspect-clause-first : goal.returns-in-Err-inspect-clause-first
returns-in-Err-inspect-clause-first g c = rw (c.unopened-in-Err-inspect.ensures, c.from-in-Err-inspect.ensures) (λ image held nothing came. unread_is_no_host c.in-Err-inspect.refusal)

-- no drives came

pub returns-in-Err-drives-clause-ends : goal.returns-in-Err-drives-clause-ends
returns-in-Err-drives-clause-ends g c =
    let old = g.H.Host.fault_count c.args.host.now in
    let new = g.H.Host.fault_count c.drives.new.self in
    let host_fails = Rose old new ⊎ HasDriveFailed g.H.Drive.Drive [] in
    let disk_fails = HasFailed g.H.Disk.Disk (Some c.inspect.new.disk) in
    rw (c.unopened-in-Err-drives.ensures, c.from-in-Err-drives.ensures)
    (ends_unhanded (g.H.Host.holds c.args.host.now c.args.path.now) host_fails disk_fails (sink_told g.O.Sink.taken g.O.Sink.fault_count c.args.sink.now c.args.sink.now) c.in-Err-drives.refusal
    (λ is. inl (rose_once old (g.H.Host.fault_count c.disk.new.self) new c.disk.ensures.cause.never_falls (c.in-Err-drives.ensures.cause.rose is))))

pub returns-in-Err-drives-clause-host : goal.returns-in-Err-drives-clause-host
returns-in-Err-drives-clause-host g c =
    rw c.unopened-in-Err-drives.ensures
    (disk_came c.args.path.now (g.H.Host.holds c.args.host.now) (g.H.Host.holds c.disk.new.self) (g.H.Host.holds c.drives.new.self) c.inspect.new.disk c.in-Ok.ensures.gone c.disk.ensures.others c.drives.ensures.disks)

pub returns-in-Err-drives-clause-folders : goal.returns-in-Err-drives-clause-folders
returns-in-Err-drives-clause-folders g c =
    rw c.unopened-in-Err-drives.ensures (stayed (g.H.Host.stores c.args.host.now) (g.H.Host.stores c.disk.new.self) (g.H.Host.stores c.drives.new.self) c.disk.ensures.folders c.in-Err-drives.ensures.refused)

pub returns-in-Err-drives-clause-reads : goal.returns-in-Err-drives-clause-reads
returns-in-Err-drives-clause-reads g c =
    rw c.unopened-in-Err-drives.ensures (refl, refl, only_read g.H.Disk.Disk (g.H.Host.holds c.args.host.now c.args.path.now) _ c.in-Ok.disk c.inspect.new.disk (record { given = c.in-Ok.ensures.given; settled = c.in-Ok.ensures.settled; counted = c.in-Ok.ensures.counted }) c.inspect.ensures.keeps c.inspect.ensures.given (λ works. c.in-Ok-inspect.ensures.faults.quiet (λ is. cc)))

pub returns-in-Err-drives-clause-unasked : goal.returns-in-Err-drives-clause-unasked
returns-in-Err-drives-clause-unasked g c = λ image held nothing. absurd (is_found image c.in-Ok-inspect.summary (c.in-Ok-inspect.ensures.told image (c.in-Ok.ensures.given image held)) nothing)

pub returns-in-Err-drives-clause-first : goal.returns-in-Err-drives-clause-first
returns-in-Err-drives-clause-first g c = λ image held nothing came. absurd (is_found image c.in-Ok-inspect.summary (c.in-Ok-inspect.ensures.told image (c.in-Ok.ensures.given image held)) nothing)

-- they came

module _ (g : Over) (c : After-drop-summary-3 g) where
  abbrev sink : SinkTold
  sink = sink_told g.O.Sink.taken g.O.Sink.fault_count c.args.sink.now c.show_classes-ended.new.sink

  abbrev drive_fails : Type 0
  drive_fails = (volume : ℕ) × FailsAt g.H.Drive.Drive volume c.in-Ok-drives.drives.items c.show_classes-ended.new.drives

  ends : IfErr c.show_classes-ended.result (CountingEnds drive_fails sink)
  ends = rw c.deref_mut.ensures.value at c.show_classes-ended.ensures.ends

  capacity : c.capacity-capacity.result ≡ standard.capacity
  capacity = c.capacity-capacity.ensures.capacity ∙ ap (λ n. n.capacity) c.default.ensures

  handed : AreHanded g.H.Drive.Drive (g.H.Host.stores c.args.host.now c.args.dir.now) 2 shown_volumes standard.capacity c.in-Ok-drives.drives.items
  handed =
      handed_since g.H.Drive.Drive (g.H.Host.stores c.args.host.now c.args.dir.now) (g.H.Host.stores c.disk.new.self c.args.dir.now) (c.disk.ensures.folders c.args.dir.now) 2 shown_volumes standard.capacity c.in-Ok-drives.drives.items
      (subst (λ (n : ℕ). AreHanded g.H.Drive.Drive (g.H.Host.stores c.disk.new.self c.args.dir.now) 2 shown_volumes n c.in-Ok-drives.drives.items) capacity c.in-Ok-drives.ensures.given)

  fails : drive_fails → HasDriveFailed g.H.Drive.Drive c.show_classes-ended.new.drives
  fails is = failed_once g.H.Drive.Drive c.in-Ok-drives.drives.items c.show_classes-ended.new.drives is.0 handed.counted (omega (arith, handed.count)) is.1

  read : AreRead g.H.Drive.Drive c.in-Ok-drives.drives.items c.show_classes-ended.new.drives
  read = rw c.deref_mut.ensures.value at c.show_classes-ended.ensures.read

  shown : AreShown g.H.Drive.Drive (g.H.Host.stores c.args.host.now c.args.dir.now) c.show_classes-ended.new.drives
  shown = (c.in-Ok-drives.drives.items, handed, read)

  -- all drives come back
  left : c.from-2.result ≡ c.show_classes-ended.new.drives
  left =
      let long : length c.show_classes-ended.new.drives ≡ c.in-Ok-drives.drives.len = omega (arith, c.show_classes-ended.auto.drives, ap length c.deref_mut.ensures.value, c.in-Ok-drives.drives.ok.0) in
      c.from-2.ensures ∙ take_at c.show_classes-ended.new.drives (drop (length c.show_classes-ended.new.drives) c.in-Ok-drives.drives.items) c.in-Ok-drives.drives.len long

pub returns-clause-host : goal.returns-clause-host
returns-clause-host g c =
    rw c.unopened-2.ensures
    (disk_came c.args.path.now (g.H.Host.holds c.args.host.now) (g.H.Host.holds c.disk.new.self) (g.H.Host.holds c.drives.new.self) c.inspect.new.disk c.in-Ok.ensures.gone c.disk.ensures.others c.drives.ensures.disks)

pub returns-clause-drives : goal.returns-clause-drives
returns-clause-drives g c =
    let after = (goal.at.returns-clause-drives g c).After-drop-summary-3 in
    rw (c.unopened-2.ensures, left g after, c.err.ensures.value)
    (gives_counted g.H.Drive.Drive (g.H.Host.stores c.args.host.now c.args.dir.now) c.inspect.new.disk (drive_fails g after) (sink g after) c.show_classes-ended.result c.show_classes-ended.new.drives (shown g after) (ends g after))

pub returns-clause-folders : goal.returns-clause-folders
returns-clause-folders g c =
    let after = (goal.at.returns-clause-folders g c).After-drop-summary-3 in
    let mid = g.H.Host.stores c.disk.new.self in
    let new = g.H.Host.stores c.drives.new.self in
    let items = c.in-Ok-drives.drives.items in
    rw (left g after)
    (as_many_read g.H.Drive.Drive c.args.dir.now (g.H.Host.stores c.args.host.now) new items c.show_classes-ended.new.drives (read g after)
    (all_came c.args.dir.now (g.H.Host.stores c.args.host.now) mid new items c.disk.ensures.folders (some_came g.H.Drive.Drive c.args.dir.now mid new items (handed g after).count c.in-Ok-drives.ensures.gone c.drives.ensures.others)))

pub returns-clause-driven : goal.returns-clause-driven
returns-clause-driven g c =
    let after = (goal.at.returns-clause-driven g c).After-drop-summary-3 in
    rw (c.unopened-2.ensures, c.err.ensures.value)
    (asks_counted c.inspect.new.disk (g.H.Host.drive_count c.args.host.now) (g.H.Host.drive_count c.drives.new.self) (drive_fails g after) (sink g after) c.show_classes-ended.result (c.drives.ensures.asked ∙ ap raised c.disk.ensures.undriven) (ends g after))

pub returns-clause-lent : goal.returns-clause-lent
returns-clause-lent g c =
    let after = (goal.at.returns-clause-lent g c).After-drop-summary-3 in
    rw (c.unopened-2.ensures, left g after, c.err.ensures.value) (λ is. inr (inr (fails g after (drive_failed (drive_fails g after) (sink g after) c.show_classes-ended.result (ends g after) is))))

pub returns-clause-reads : goal.returns-clause-reads
returns-clause-reads g c =
    rw c.unopened-2.ensures (refl, refl, only_read g.H.Disk.Disk (g.H.Host.holds c.args.host.now c.args.path.now) _ c.in-Ok.disk c.inspect.new.disk (record { given = c.in-Ok.ensures.given; settled = c.in-Ok.ensures.settled; counted = c.in-Ok.ensures.counted }) c.inspect.ensures.keeps c.inspect.ensures.given (λ works. c.in-Ok-inspect.ensures.faults.quiet (λ is. cc)))

pub returns-clause-unasked : goal.returns-clause-unasked
returns-clause-unasked g c = λ image held nothing. absurd (is_found image c.in-Ok-inspect.summary (c.in-Ok-inspect.ensures.told image (c.in-Ok.ensures.given image held)) nothing)

pub returns-clause-first : goal.returns-clause-first
returns-clause-first g c = λ image held nothing came. absurd (is_found image c.in-Ok-inspect.summary (c.in-Ok-inspect.ensures.told image (c.in-Ok.ensures.given image held)) nothing)

pub returns-clause-output : goal.returns-clause-output
returns-clause-output g c =
    let after = (goal.at.returns-clause-output g c).After-drop-summary-3 in
    let held = g.H.Host.holds c.args.host.now c.args.path.now in
    let stored = g.H.Host.stores c.args.host.now c.args.dir.now in
    let items = c.in-Ok-drives.drives.items in
    let summary = c.in-Ok-inspect.summary in
    rw (c.unopened-2.ensures, c.err.ensures.value)
    (takes_as (ShowsStore summary (AreCounted (GivesVolume g.H.Drive.Drive items))) (IsShown held (AreCounted stored)) (sink g after) (cause_in c.show_classes-ended.result)
    (λ text shows. record {
      summary = summary;
      told = λ image is. c.in-Ok-inspect.ensures.told image (c.in-Ok.ensures.given image is);
      shows = record { classes = shows.classes; counted = counted_of g.H.Drive.Drive stored standard.capacity items (handed g after) summary.table shows.classes shows.counted; shows = shows.shows };
    }) (rw c.deref_mut.ensures.value at c.show_classes-ended.ensures.text))

pub returns-clause-ends : goal.returns-clause-ends
returns-clause-ends g c =
    let after = (goal.at.returns-clause-ends g c).After-drop-summary-3 in
    let host_fails = Rose (g.H.Host.fault_count c.args.host.now) (g.H.Host.fault_count c.drives.new.self) ⊎ HasDriveFailed g.H.Drive.Drive c.show_classes-ended.new.drives in
    let disk_fails = HasFailed g.H.Disk.Disk (Some c.inspect.new.disk) in
    rw (c.unopened-2.ensures, left g after, c.err.ensures.value)
    (ends_counted (g.H.Host.holds c.args.host.now c.args.path.now) host_fails disk_fails (sink g after) (drive_fails g after) c.show_classes-ended.result (λ is. inr (fails g after is)) (ends g after))

-- what has failed is told

pub returns-in-Err-inspect-clause-quiet : goal.returns-in-Err-inspect-clause-quiet
returns-in-Err-inspect-clause-quiet g c = λ sound. c.in-Ok.ensures.cause.quiet (λ is. cc)

pub returns-in-Err-drives-clause-quiet : goal.returns-in-Err-drives-clause-quiet
returns-in-Err-drives-clause-quiet g c = rw (c.unopened-in-Err-drives.ensures, c.from-in-Err-drives.ensures) (λ sound. c.in-Err-drives.ensures.cause.quiet (unhanded_quiet c.in-Err-drives.refusal sound) ∙ c.in-Ok.ensures.cause.quiet (λ is. cc))

pub returns-clause-quiet : goal.returns-clause-quiet
returns-clause-quiet g c = λ sound. c.in-Ok-drives.ensures.cause.quiet (λ is. cc) ∙ c.in-Ok.ensures.cause.quiet (λ is. cc)

pub returns-clause-well : goal.returns-clause-well
returns-clause-well g c =
    let after = (goal.at.returns-clause-well g c).After-drop-summary-3 in
    let quiet = rw c.deref_mut.ensures.value at c.show_classes-ended.ensures.quiet in
    rw (c.unopened-2.ensures, left g after, c.err.ensures.value)
    (λ sound. never_yet g.H.Drive.Drive c.in-Ok-drives.drives.items c.show_classes-ended.new.drives (handed g after).counted (quiet (λ is. sound (ap cause_in is))))

-- in one call

pub returns-in-Err-clause-host_once : goal.returns-in-Err-clause-host_once
returns-in-Err-clause-host_once g c = asked_once c.disk.result _ _ c.disk.ensures.cause

pub returns-in-Err-inspect-clause-host_once : goal.returns-in-Err-inspect-clause-host_once
returns-in-Err-inspect-clause-host_once g c = asked_once c.disk.result _ _ c.disk.ensures.cause

pub returns-in-Err-drives-clause-host_once : goal.returns-in-Err-drives-clause-host_once
returns-in-Err-drives-clause-host_once g c = once_since _ _ _ (c.in-Ok.ensures.cause.quiet (λ is. cc)) (asked_once c.drives.result _ _ c.drives.ensures.cause)

pub returns-clause-host_once : goal.returns-clause-host_once
returns-clause-host_once g c = once_since _ _ _ (c.in-Ok.ensures.cause.quiet (λ is. cc)) (asked_once c.drives.result _ _ c.drives.ensures.cause)
