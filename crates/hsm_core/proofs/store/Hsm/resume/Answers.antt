use Rattle.std.proofs.Common.{◌≡◌, ◌≤◌, length, ◌+◌, ◌-◌, Bool, true, false, refl, sym, ap, subst, arith}
use Rattle.std.specs.Prelude.{if◌then◌else◌, vec_len, vec_capacity}
use Rattle.hsm_types.specs.declared.calls.Reply.{Reply}
use Rattle.hsm_types.specs.declared.stores.Superblock.{Superblock}
use Rattle.plain_model.specs.declared.entries.Actor.TheVariants.{Caller}
use Rattle.plain_model.specs.declared.entries.Action.TheVariants.{Resume}
use Rattle.plain_model.specs.declared.entries.Answer.TheVariants.{Call as Replied}
use Rattle.dm_service.proofs.Ledgers.{ordered_in}
use Rattle.dm_service.specs.Tables.{awaited_in, ledger_of, waiting}
use Rattle.hsm_core.specs.Outcomes.{is_aborted}
use Rattle.file_store.specs.Stores.{superblock_of}
use Rattle.hsm_core.specs.Store.{Store, KeepsRoom}
use Rattle.hsm_core.specs.Targets.{EachLasts}
use Rattle.hsm_core.specs.Answers.{IsResumed}
use Rattle.hsm_core.proofs.Events.{event, always, lasting, room_again, not_begun, one_more, IsNext, IsTakenDown}
use Rattle.hsm_core.proofs.Packing.{still_packed}
use Rattle.hsm_core.proofs.Safety.{rises_now}
use Rattle.hsm_core.proofs.Runs.{formatted_as}
use Rattle.hsm_core.proofs.store.Hsm.resume.Given.{Over}
use Rattle.hsm_core.proofs.store.Hsm.resume.Goals.{After-record_event}
use Rattle.hsm_core.proofs.store.Hsm.resume.Goals as goal

-- the store before the event, and after it
abbrev before : (g : Over) → After-record_event g → Store g.row.D.Denot
before g c = record { opened = c.self.inside.opened.value; files = c.self.inside.files; stamps = c.self.inside.stamps.entries; tables = c.self.inside.service; history = c.self.inside.history.items; spare = vec_capacity c.self.inside.history - (vec_len c.self.inside.history + awaited_in c.self.inside.service) }

abbrev after : (g : Over) → After-record_event g → Store g.row.D.Denot
after g c = record { opened = c.self.inside.opened.value; files = c.answer_again-done.new.files; stamps = c.answer_again-done.new.stamps.entries; tables = c.answer_again-done.new.service; history = c.record_event.new.history.items; spare = vec_capacity c.record_event.new.history - (vec_len c.record_event.new.history + awaited_in c.answer_again-done.new.service) }

keeps : (g : Over) (c : After-record_event g) → IsTakenDown c.make_ready_to_resume.new.history.items (Caller c.args.caller) Resume (λ (r : Reply). Replied r) c.answer_again-done.result c.record_event.result c.record_event.new.history.items
keeps g c = record {
  kept = c.record_event.ensures.recorded;
  memory = λ lacks. (ap (λ (r : Reply). Replied r) (c.record_event.ensures.memory lacks).0, (c.record_event.ensures.memory lacks).1);
  failed = λ fails. (ap (λ (r : Reply). Replied r) (c.record_event.ensures.failed fails).0, (c.record_event.ensures.failed fails).1);
}

next : (g : Over) (c : After-record_event g) → IsNext g.D.Disk (before g c) (Caller c.args.caller) Resume (Replied c.record_event.result) (after g c)
next g c =
    event g.D.Disk (before g c) c.self.invariant.0 c.self.invariant.1 c.make_ready_to_resume.new.stamps.entries c.make_ready_to_resume.new.history.items c.make_ready_to_resume.ensures.stamps c.make_ready_to_resume.ensures.same (after g c) c.in_default.ensures.working refl
    (Caller c.args.caller) Resume tt (λ (r : Reply). Replied r) _ c.record_event.result _ (omega (arith, c.self.invariant.2, c.len.ensures)) c.answer_again-done.result
    (record {
      exact = λ seen. refl;
      replies = c.answer_again-done.ensures.replied.replies;
      leaves = c.answer_again-done.ensures.replied.left;
      stamps = c.answer_again-done.ensures.replied.unstamped;
      tables = c.answer_again-done.ensures.replied.err;
      synced = (always c.answer_again-done.result (λ (wrong : false ≡ true). absurd cc)).0;
      ends = c.answer_again-done.ensures.replied.ends;
    })
    (keeps g c)

pub returns-in-Err-clause-resumed : goal.returns-in-Err-clause-resumed
returns-in-Err-clause-resumed g c =
    let s : Store g.row.D.Denot = record { opened = c.self.inside.opened.value; files = c.self.inside.files; stamps = c.self.inside.stamps.entries; tables = c.self.inside.service; history = c.self.inside.history.items; spare = vec_capacity c.self.inside.history - (vec_len c.self.inside.history + awaited_in c.self.inside.service) } in
    let t : Store g.row.D.Denot = record s { stamps = c.make_ready_to_resume.new.stamps.entries; history = c.make_ready_to_resume.new.history.items; spare = vec_capacity c.make_ready_to_resume.new.history - (vec_len c.make_ready_to_resume.new.history + awaited_in c.self.inside.service) } in
    subst (λ (old : Store g.row.D.Denot). IsResumed g.D.Disk old c.args.caller c.undone.result t) c.self.view_is
    (not_begun g.D.Disk s c.self.invariant.0 c.self.invariant.1 c.make_ready_to_resume.new.stamps.entries c.make_ready_to_resume.new.history.items _ c.make_ready_to_resume.ensures.stamps c.make_ready_to_resume.ensures.same (Caller c.args.caller) Resume (Replied c.undone.result) c.in-Err.why c.make_ready_to_resume.ensures.idle
    (record { memory = λ is. ap (λ (r : Reply). Replied r) (c.undone.ensures.memory is); failed = λ is. ap (λ (r : Reply). Replied r) (c.undone.ensures.failed is) }) c.in-Err.ensures.refused)

pub answer_again-done-requires-clause-idle : goal.answer_again-done-requires-clause-idle
answer_again-done-requires-clause-idle g c = c.make_ready_to_resume.ensures.idle c.in_default.ensures.working _

pub answer_again-done-requires-clause-ordered : goal.answer_again-done-requires-clause-ordered
answer_again-done-requires-clause-ordered g c = ordered_in c.self.inside.service _ c.self.inside.files.held _ _ 0 _ c.awaited-awaited.ensures.ordered

pub answer_again-done-requires-clause-lasts : goal.answer_again-done-requires-clause-lasts
answer_again-done-requires-clause-lasts g c =
    subst (λ (s : Superblock). EachLasts s.geometry.limits (ledger_of c.self.inside.service)) (sym (formatted_as _ c.self.invariant.0)) c.self.invariant.5

pub invariant_of-self-2 : goal.invariant_of-self-2
invariant_of-self-2 g c =
    let at = (goal.at.invariant_of-self-2 g c).After-record_event in
    let is = next g at in
    let more = one_more c.make_ready_to_resume.new.history.items c.record_event.new.history.items (Caller c.args.caller) Resume (λ (r : Reply). Replied r) c.answer_again-done.result c.record_event.result c.answer_again-done.ensures.replied.ends.refused (keeps g at) in (
      is.0,
      is.1,
      c.self.invariant.2,
      c.self.invariant.3,
      (
          let fewer = room_again c.self.inside.service c.answer_again-done.new.service (is_aborted (waiting c.self.inside.service c.args.caller)) c.answer_again-done.result c.answer_again-done.ensures.room c.answer_again-done.ensures.replied.err c.answer_again-done.ensures.aborts in
          let there = subst (λ (b : Bool). vec_len c.make_ready_to_resume.new.history + c.awaited-awaited.result + (if b then 0 else 2) ≤ vec_capacity c.make_ready_to_resume.new.history) c.is_aborted-aborted.ensures c.in_default.ensures.room in
          omega (arith, more, fewer, there, c.awaited-awaited.ensures.count, c.record_event.ensures.room)
          ),
      lasting (superblock_of c.self.inside.files) _ (formatted_as _ c.self.invariant.0) c.self.inside.files.held _ _ _ _ c.self.inside.service c.answer_again-done.new.service (Caller c.args.caller) Resume (λ (r : Reply). Replied r) c.answer_again-done.result c.answer_again-done.ensures.replied.left c.answer_again-done.ensures.replied.err c.self.invariant.5,
      still_packed g.D.Disk (before g at) (after g at) (Caller c.args.caller) Resume (Replied c.record_event.result) c.self.invariant.0 tt is.2 c.self.invariant.6,
    )

pub returns-clause-resumed : goal.returns-clause-resumed
returns-clause-resumed g c = subst (λ (old : Store g.row.D.Denot). IsResumed g.D.Disk old c.args.caller c.record_event.result (after g (goal.at.returns-clause-resumed g c).After-record_event)) c.self.view_is (next g (goal.at.returns-clause-resumed g c).After-record_event).2

pub returns-clause-safe : goal.returns-clause-safe
returns-clause-safe g c = (next g (goal.at.returns-clause-safe g c).After-record_event).1.now

pub returns-in-Err-clause-safe : goal.returns-in-Err-clause-safe
returns-in-Err-clause-safe g c = rw (c.make_ready_to_resume.ensures.same) c.self.invariant.1.now

pub returns-clause-room : goal.returns-clause-room
returns-clause-room g c =
    let at = (goal.at.returns-clause-room g c).After-record_event in
    let more = one_more c.make_ready_to_resume.new.history.items c.record_event.new.history.items (Caller c.args.caller) Resume (λ (r : Reply). Replied r) c.answer_again-done.result c.record_event.result c.answer_again-done.ensures.replied.ends.refused (keeps g at) in
    let fewer = room_again c.self.inside.service c.answer_again-done.new.service (is_aborted (waiting c.self.inside.service c.args.caller)) c.answer_again-done.result c.answer_again-done.ensures.room c.answer_again-done.ensures.replied.err c.answer_again-done.ensures.aborts in
    let noted = ap length c.make_ready_to_resume.ensures.same in
    subst (λ (old : Store g.row.D.Denot). old.spare ≤ (after g at).spare + (if is_aborted (waiting old.tables c.args.caller) then 0 else 2)) c.self.view_is
    (omega (arith, more, fewer, noted, c.make_ready_to_resume.ensures.keeps, c.record_event.ensures.room, c.self.invariant.4))

pub returns-in-Err-clause-room : goal.returns-in-Err-clause-room
returns-in-Err-clause-room g c =
    let noted = ap length c.make_ready_to_resume.ensures.same in
    subst (λ (old : Store g.row.D.Denot). old.spare ≤ vec_capacity c.make_ready_to_resume.new.history - (vec_len c.make_ready_to_resume.new.history + awaited_in c.self.inside.service) + (if is_aborted (waiting old.tables c.args.caller) then 0 else 2)) c.self.view_is
    (omega (arith, noted, c.make_ready_to_resume.ensures.keeps, c.self.invariant.4))

pub returns-clause-keeps : goal.returns-clause-keeps
returns-clause-keeps g c =
    let at = (goal.at.returns-clause-keeps g c).After-record_event in
    subst (λ (old : Store g.row.D.Denot). KeepsRoom old (after g at)) c.self.view_is (omega (arith, c.make_ready_to_resume.ensures.keeps, c.record_event.ensures.room, c.self.invariant.4))

pub returns-in-Err-clause-keeps : goal.returns-in-Err-clause-keeps
returns-in-Err-clause-keeps g c =
    subst (λ (old : Store g.row.D.Denot). length old.history + awaited_in old.tables + old.spare
    ≤ length c.make_ready_to_resume.new.history.items + awaited_in c.self.inside.service + (vec_capacity c.make_ready_to_resume.new.history - (vec_len c.make_ready_to_resume.new.history + awaited_in c.self.inside.service))) c.self.view_is
    (omega (arith, c.make_ready_to_resume.ensures.keeps, c.self.invariant.4))

pub answer_again-done-requires-clause-rises : goal.answer_again-done-requires-clause-rises
answer_again-done-requires-clause-rises g c =
    let low = rises_now (record { opened = c.self.inside.opened.value; files = c.self.inside.files; stamps = c.self.inside.stamps.entries; tables = c.self.inside.service; history = c.self.inside.history.items; spare = vec_capacity c.self.inside.history - (vec_len c.self.inside.history + awaited_in c.self.inside.service) }) c.self.invariant.1 c.in_default.ensures.working in
    omega (arith, low, c.self.invariant.2, c.len.ensures, ap length c.make_ready_to_resume.ensures.same)
