use Rattle.std.proofs.Common.{◌∙◌, ◌<◌, ◌%◌, ℕ, length, sym, ap, subst}
use Rattle.hsm_types.specs.declared.stubs.Place.{Place}
use Rattle.hsm_system.specs.Awaiting.{awaited_of}
use Rattle.hsm_system.specs.declared.awaited.Outcome.TheVariants.{Rested}
use Rattle.hsm_replay.proofs.HandedIn.{awaits_waits, copy_is_so, copy_awaited, copy_performs, copy_stops, fetch_is_so, fetch_awaited, fetch_performs}
use Rattle.hsm_replay.proofs.HandedIn.{fetch_stops, call_performs, call_stops, rest_performs, rest_stops}
use Rattle.hsm_replay.proofs.performing.perform.Goals as goal

-- ---- a call

pub call-requires : goal.call-requires
call-requires g c = rw c.in-Dm.is at c.requires.awaits

pub returns-in-Dm-clause-performed : goal.returns-in-Dm-clause-performed
returns-in-Dm-clause-performed g c = rw c.in-Dm.is (call_performs g.D.Disk g.M.Drive c.args.daemon c.args.system.now c.call.new.self c.args.drives.now.items c.in-Dm.sid c.in-Dm.call c.call.result c.call.ensures.answered)

pub returns-in-Dm-clause-stopped : goal.returns-in-Dm-clause-stopped
returns-in-Dm-clause-stopped g c = rw c.in-Dm.is (call_stops g.D.Disk g.M.Drive c.args.daemon c.args.system.now c.call.new.self c.args.drives.now.items c.in-Dm.sid c.in-Dm.call c.call.result c.call.ensures.stopped)

-- ---- a copy

pub hand_in-requires-clause-so : goal.hand_in-requires-clause-so
hand_in-requires-clause-so g c = copy_is_so g.D.Disk g.M.Drive c.args.daemon c.in-Copy.volume c.in-Copy.handle c.in-Copy.segment c.in-Copy.bytes c.index_mut-drive.result.now c.copy_on-made.new.drive c.copy_on-made.result c.copy_on-made.ensures.copied

pub hand_in-requires-clause-awaited : goal.hand_in-requires-clause-awaited
hand_in-requires-clause-awaited g c = copy_awaited g.D.Disk g.M.Drive c.args.daemon c.in-Copy.volume c.in-Copy.handle c.in-Copy.segment c.in-Copy.bytes c.index_mut-drive.result.now c.copy_on-made.new.drive c.args.system.now c.args.act c.in-Copy.is c.requires.ready c.copy_on-made.result c.copy_on-made.ensures.copied

pub hand_in-requires-clause-waits : goal.hand_in-requires-clause-waits
hand_in-requires-clause-waits g c = awaits_waits c.args.daemon c.args.act c.args.system.now c.requires.awaits

pub returns-in-Copy-clause-performed : goal.returns-in-Copy-clause-performed
returns-in-Copy-clause-performed g c = rw c.in-Copy.is (copy_performs g.D.Disk g.M.Drive c.args.daemon c.in-Copy.volume c.in-Copy.handle c.in-Copy.segment c.in-Copy.bytes c.index_mut-drive.result.now c.copy_on-made.new.drive c.args.system.now c.hand_in.new.system c.args.drives.now.items c.drive_of-number.result
    (c.drive_of-number.ensures.number ∙ ap (λ (n : ℕ). c.in-Copy.volume % n) c.requires.all) (subst (λ (n : ℕ). c.drive_of-number.result < n) c.requires.all c.drive_of-number.ensures.there) c.index_mut-drive.ensures.value c.copy_on-made.result c.hand_in.result c.copy_on-made.ensures.copied c.hand_in.ensures)

pub returns-in-Copy-clause-stopped : goal.returns-in-Copy-clause-stopped
returns-in-Copy-clause-stopped g c = rw c.in-Copy.is (copy_stops g.D.Disk g.M.Drive c.args.daemon c.in-Copy.volume c.in-Copy.handle c.in-Copy.segment c.in-Copy.bytes c.index_mut-drive.result.now c.copy_on-made.new.drive c.args.system.now c.hand_in.new.system c.args.drives.now.items c.drive_of-number.result
    (c.drive_of-number.ensures.number ∙ ap (λ (n : ℕ). c.in-Copy.volume % n) c.requires.all) (subst (λ (n : ℕ). c.drive_of-number.result < n) c.requires.all c.drive_of-number.ensures.there) c.index_mut-drive.ensures.value c.copy_on-made.result c.hand_in.result c.copy_on-made.ensures.stopped c.hand_in.ensures)

-- ---- a fetch

pub hand_in-requires-in-Fetch-clause-so : goal.hand_in-requires-in-Fetch-clause-so
hand_in-requires-in-Fetch-clause-so g c = fetch_is_so g.D.Disk g.M.Drive c.args.daemon c.in-Fetch.entry c.index_mut-shelf.result.now c.fetch_on-got.new.drive c.fetch_on-got.result c.fetch_on-got.ensures.fetched

pub hand_in-requires-in-Fetch-clause-awaited : goal.hand_in-requires-in-Fetch-clause-awaited
hand_in-requires-in-Fetch-clause-awaited g c = fetch_awaited g.D.Disk g.M.Drive c.args.daemon c.in-Fetch.entry c.index_mut-shelf.result.now c.fetch_on-got.new.drive c.args.system.now c.args.act c.in-Fetch.is c.requires.ready c.fetch_on-got.result c.fetch_on-got.ensures.fetched

pub hand_in-requires-in-Fetch-clause-waits : goal.hand_in-requires-in-Fetch-clause-waits
hand_in-requires-in-Fetch-clause-waits g c = awaits_waits c.args.daemon c.args.act c.args.system.now c.requires.awaits

pub returns-in-Fetch-clause-performed : goal.returns-in-Fetch-clause-performed
returns-in-Fetch-clause-performed g c = rw c.in-Fetch.is (fetch_performs g.D.Disk g.M.Drive c.args.daemon c.in-Fetch.entry c.index_mut-shelf.result.now c.fetch_on-got.new.drive c.args.system.now c.hand_in-in-Fetch.new.system c.args.drives.now.items c.drive_of-place.result
    (c.drive_of-place.ensures.number ∙ ap (λ (n : ℕ). c.place.result.volume % n) c.requires.all ∙ ap (λ (p : Place). p.volume % length c.args.drives.now.items) c.place.ensures) (subst (λ (n : ℕ). c.drive_of-place.result < n) c.requires.all c.drive_of-place.ensures.there) c.index_mut-shelf.ensures.value c.fetch_on-got.result c.hand_in-in-Fetch.result c.fetch_on-got.ensures.fetched c.hand_in-in-Fetch.ensures)

pub returns-in-Fetch-clause-stopped : goal.returns-in-Fetch-clause-stopped
returns-in-Fetch-clause-stopped g c = rw c.in-Fetch.is (fetch_stops g.D.Disk g.M.Drive c.args.daemon c.in-Fetch.entry c.index_mut-shelf.result.now c.fetch_on-got.new.drive c.args.system.now c.hand_in-in-Fetch.new.system c.args.drives.now.items c.drive_of-place.result
    (c.drive_of-place.ensures.number ∙ ap (λ (n : ℕ). c.place.result.volume % n) c.requires.all ∙ ap (λ (p : Place). p.volume % length c.args.drives.now.items) c.place.ensures) (subst (λ (n : ℕ). c.drive_of-place.result < n) c.requires.all c.drive_of-place.ensures.there) c.index_mut-shelf.ensures.value c.fetch_on-got.result c.hand_in-in-Fetch.result c.fetch_on-got.ensures.stopped c.hand_in-in-Fetch.ensures)

-- ---- a rest

pub hand_in-requires-in-Idle-clause-awaited : goal.hand_in-requires-in-Idle-clause-awaited
hand_in-requires-in-Idle-clause-awaited g c = c.requires.ready Rested (ap awaited_of (sym c.in-Idle.is))

pub hand_in-requires-in-Idle-clause-waits : goal.hand_in-requires-in-Idle-clause-waits
hand_in-requires-in-Idle-clause-waits g c = awaits_waits c.args.daemon c.args.act c.args.system.now c.requires.awaits

pub returns-in-Idle-clause-performed : goal.returns-in-Idle-clause-performed
returns-in-Idle-clause-performed g c = rw c.in-Idle.is (rest_performs g.D.Disk g.M.Drive c.args.daemon c.args.system.now c.hand_in-in-Idle.new.system c.args.drives.now.items c.hand_in-in-Idle.result c.hand_in-in-Idle.ensures)

pub returns-in-Idle-clause-stopped : goal.returns-in-Idle-clause-stopped
returns-in-Idle-clause-stopped g c = rw c.in-Idle.is (rest_stops g.D.Disk g.M.Drive c.args.daemon c.args.system.now c.hand_in-in-Idle.new.system c.args.drives.now.items c.hand_in-in-Idle.result c.hand_in-in-Idle.ensures)
