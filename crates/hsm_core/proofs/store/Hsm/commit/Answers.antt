use Rattle.std.proofs.Common.{◌≤◌, length, ◌+◌, ◌-◌, refl, ap, subst, arith}
use Rattle.hsm_types.specs.declared.calls.Reply.{Reply}
use Rattle.hsm_types.specs.declared.calls.Reply.TheVariants.{Done}
use Rattle.plain_model.specs.declared.entries.Actor.TheVariants.{Store as TheStore}
use Rattle.plain_model.specs.declared.entries.Action.TheVariants.{Commit}
use Rattle.plain_model.specs.declared.entries.Answer.TheVariants.{Call as Replied}
use Rattle.std.specs.Prelude.{vec_len, vec_capacity}
use Rattle.dm_service.specs.Tables.{awaited_in}
use Rattle.hsm_core.specs.Store.{Store, KeepsRoom, state_with}
use Rattle.hsm_core.specs.Answers.{IsCommitted}
use Rattle.hsm_core.proofs.Events.{event, always, whenever, not_begun, one_more, IsNext, IsTakenDown}
use Rattle.hsm_core.proofs.Packing.{still_packed}
use Rattle.hsm_core.proofs.Safety.{rises_now}
use Rattle.hsm_core.proofs.Seeing.{held_replies}
use Rattle.hsm_core.proofs.store.Hsm.commit.Given.{Over}
use Rattle.hsm_core.proofs.store.Hsm.commit.Goals.{After-record_event}
use Rattle.hsm_core.proofs.store.Hsm.commit.Goals as goal

-- the store before the commit, and after it
abbrev before : (g : Over) → After-record_event g → Store g.row.D.Denot
before g c = record { opened = c.self.inside.opened.value; files = c.self.inside.files; stamps = c.self.inside.stamps.entries; tables = c.self.inside.service; history = c.self.inside.history.items; spare = vec_capacity c.self.inside.history - (vec_len c.self.inside.history + awaited_in c.self.inside.service) }

abbrev after : (g : Over) → After-record_event g → Store g.row.D.Denot
after g c = record { opened = c.self.inside.opened.value; files = c.commit-done.new.files; stamps = c.self.inside.stamps.entries; tables = c.self.inside.service; history = c.record_event.new.history.items; spare = vec_capacity c.record_event.new.history - (vec_len c.record_event.new.history + awaited_in c.self.inside.service) }

keeps : (g : Over) (c : After-record_event g) → IsTakenDown c.make_ready.new.history.items TheStore Commit (λ (r : Reply). Replied r) c.commit-done.result c.record_event.result c.record_event.new.history.items
keeps g c = record {
  kept = c.record_event.ensures.recorded;
  memory = λ lacks. (ap (λ (r : Reply). Replied r) (c.record_event.ensures.memory lacks).0, (c.record_event.ensures.memory lacks).1);
  failed = λ fails. (ap (λ (r : Reply). Replied r) (c.record_event.ensures.failed fails).0, (c.record_event.ensures.failed fails).1);
}

next : (g : Over) (c : After-record_event g) → IsNext g.D.Disk (before g c) TheStore Commit (Replied c.record_event.result) (after g c)
next g c =
    event g.D.Disk (before g c) c.self.invariant.0 c.self.invariant.1 c.self.inside.stamps.entries c.make_ready.new.history.items refl c.make_ready.ensures.same (after g c) c.in_default.ensures.working refl
    TheStore Commit tt (λ (r : Reply). Replied r) _ c.record_event.result _ (omega (arith, c.self.invariant.2, c.len.ensures)) c.commit-done.result
    (record {
      exact = λ seen. refl;
      replies = held_replies _ c.commit-done.result c.self.inside.files.held (λ seen. Done) Done refl c.commit-done.ensures.reply;
      leaves = (always c.commit-done.result (λ i. state_with (c.commit-done.ensures.held i) c.self.inside.stamps.entries c.self.inside.service (c.self.inside.base + c.len.result + 1))).0;
      stamps = (always c.commit-done.result refl).1;
      tables = (always c.commit-done.result refl).1;
      synced = whenever _ _ c.commit-done.result c.commit-done.ensures.synced;
      ends = c.commit-done.ensures.ends;
    })
    (keeps g c)

pub returns-in-Err-clause-committed : goal.returns-in-Err-clause-committed
returns-in-Err-clause-committed g c =
    let s : Store g.row.D.Denot = record { opened = c.self.inside.opened.value; files = c.self.inside.files; stamps = c.self.inside.stamps.entries; tables = c.self.inside.service; history = c.self.inside.history.items; spare = vec_capacity c.self.inside.history - (vec_len c.self.inside.history + awaited_in c.self.inside.service) } in
    let t : Store g.row.D.Denot = record s { stamps = c.self.inside.stamps.entries; history = c.make_ready.new.history.items; spare = vec_capacity c.make_ready.new.history - (vec_len c.make_ready.new.history + awaited_in c.self.inside.service) } in
    subst (λ (old : Store g.row.D.Denot). IsCommitted g.D.Disk old c.undone.result t) c.self.view_is
    (not_begun g.D.Disk s c.self.invariant.0 c.self.invariant.1 c.self.inside.stamps.entries c.make_ready.new.history.items _ refl c.make_ready.ensures.same TheStore Commit (Replied c.undone.result) c.in-Err.why c.make_ready.ensures.idle
    (record { memory = λ is. ap (λ (r : Reply). Replied r) (c.undone.ensures.memory is); failed = λ is. ap (λ (r : Reply). Replied r) (c.undone.ensures.failed is) }) c.in-Err.ensures.refused)

pub invariant_of-self-2 : goal.invariant_of-self-2
invariant_of-self-2 g c =
    let at = (goal.at.invariant_of-self-2 g c).After-record_event in
    let is = next g at in
    let more = one_more c.make_ready.new.history.items c.record_event.new.history.items TheStore Commit (λ (r : Reply). Replied r) c.commit-done.result c.record_event.result c.commit-done.ensures.ends.refused (keeps g at) in (
      is.0,
      is.1,
      c.self.invariant.2,
      c.self.invariant.3,
      omega (arith, more, c.in_default.ensures.room.0, c.record_event.ensures.room, c.awaited-awaited.ensures.count),
      c.self.invariant.5,
      still_packed g.D.Disk (before g at) (after g at) TheStore Commit (Replied c.record_event.result) c.self.invariant.0 tt is.2 c.self.invariant.6,
    )

pub returns-clause-committed : goal.returns-clause-committed
returns-clause-committed g c = subst (λ (old : Store g.row.D.Denot). IsCommitted g.D.Disk old c.record_event.result (after g (goal.at.returns-clause-committed g c).After-record_event)) c.self.view_is (next g (goal.at.returns-clause-committed g c).After-record_event).2

pub returns-clause-safe : goal.returns-clause-safe
returns-clause-safe g c = (next g (goal.at.returns-clause-safe g c).After-record_event).1.now

pub returns-in-Err-clause-safe : goal.returns-in-Err-clause-safe
returns-in-Err-clause-safe g c = rw (c.make_ready.ensures.same) c.self.invariant.1.now

pub returns-clause-room : goal.returns-clause-room
returns-clause-room g c =
    let at = (goal.at.returns-clause-room g c).After-record_event in
    let more = one_more c.make_ready.new.history.items c.record_event.new.history.items TheStore Commit (λ (r : Reply). Replied r) c.commit-done.result c.record_event.result c.commit-done.ensures.ends.refused (keeps g at) in
    let noted = ap length c.make_ready.ensures.same in
    subst (λ (old : Store g.row.D.Denot). old.spare ≤ (after g at).spare + 1) c.self.view_is (omega (arith, more, noted, c.make_ready.ensures.keeps, c.record_event.ensures.room, c.self.invariant.4))

pub returns-in-Err-clause-room : goal.returns-in-Err-clause-room
returns-in-Err-clause-room g c =
    let noted = ap length c.make_ready.ensures.same in
    subst (λ (old : Store g.row.D.Denot). old.spare ≤ vec_capacity c.make_ready.new.history - (vec_len c.make_ready.new.history + awaited_in c.self.inside.service) + 1) c.self.view_is
    (omega (arith, noted, c.make_ready.ensures.keeps, c.self.invariant.4))

pub returns-clause-keeps : goal.returns-clause-keeps
returns-clause-keeps g c =
    let at = (goal.at.returns-clause-keeps g c).After-record_event in
    subst (λ (old : Store g.row.D.Denot). KeepsRoom old (after g at)) c.self.view_is (omega (arith, c.make_ready.ensures.keeps, c.record_event.ensures.room, c.self.invariant.4))

pub returns-in-Err-clause-keeps : goal.returns-in-Err-clause-keeps
returns-in-Err-clause-keeps g c =
    subst (λ (old : Store g.row.D.Denot). length old.history + awaited_in old.tables + old.spare
    ≤ length c.make_ready.new.history.items + awaited_in c.self.inside.service + (vec_capacity c.make_ready.new.history - (vec_len c.make_ready.new.history + awaited_in c.self.inside.service))) c.self.view_is
    (omega (arith, c.make_ready.ensures.keeps, c.self.invariant.4))

pub commit-done-requires-clause-rises : goal.commit-done-requires-clause-rises
commit-done-requires-clause-rises g c =
    let low = rises_now (record { opened = c.self.inside.opened.value; files = c.self.inside.files; stamps = c.self.inside.stamps.entries; tables = c.self.inside.service; history = c.self.inside.history.items; spare = vec_capacity c.self.inside.history - (vec_len c.self.inside.history + awaited_in c.self.inside.service) }) c.self.invariant.1 c.in_default.ensures.working in
    omega (arith, low, c.self.invariant.2, c.len.ensures, ap length c.make_ready.ensures.same)
