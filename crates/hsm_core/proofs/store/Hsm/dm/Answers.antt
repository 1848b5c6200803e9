use Rattle.std.proofs.Common.{◌≡◌, ◌+◌, ◌-◌, ◌≤◌, length, true, false, refl, ◌∙◌, ap, subst, arith}
use Rattle.hsm_types.specs.declared.dm.DmReply.{DmReply}
use Rattle.hsm_types.specs.declared.dm.DmReply.TheVariants.{Done as DmDone}
use Rattle.plain_model.specs.declared.entries.Actor.TheVariants.{Session}
use Rattle.plain_model.specs.declared.entries.Action.TheVariants.{Dm}
use Rattle.plain_model.specs.declared.entries.Answer.TheVariants.{Dm as Told}
use Rattle.dm_service.specs.Handing.{HandsOut}
use Rattle.dm_service.specs.Services.{entries_for, is_due, wants_entry_alone}
use Rattle.dm_service.proofs.Anywhere.{due_done}
use Rattle.dm_service.proofs.Ledgers.{ordered_in}
use Rattle.std.specs.Prelude.{vec_len, vec_capacity}
use Rattle.dm_service.specs.Tables.{awaited_in}
use Rattle.hsm_core.specs.Store.{Store, KeepsRoom, last_number, state_with}
use Rattle.hsm_core.proofs.Runs.{formatted_as}
use Rattle.plain_model.specs.Services.{dm_reply_to}
use Rattle.file_store.specs.Stores.{superblock_of}
use Rattle.hsm_core.specs.Answers.{own_answer, IsTold}
use Rattle.hsm_core.proofs.Alike.{told_alike}
use Rattle.hsm_core.proofs.HandedOut.{told_handed, unserved_handed}
use Rattle.hsm_core.proofs.Events.{event, always, lasting, room_served, told_done, not_begun, one_more, IsNext, IsTakenDown}
use Rattle.hsm_core.proofs.Packing.{still_packed}
use Rattle.hsm_core.proofs.Safety.{rises_now}
use Rattle.hsm_core.proofs.store.Hsm.dm.Given.{Over}
use Rattle.hsm_core.proofs.store.Hsm.dm.Goals.{After-record_dm}
use Rattle.hsm_core.proofs.store.Hsm.dm.Goals as goal

-- the store before the call, and after it
abbrev before : (g : Over) → After-record_dm g → Store g.row.D.Denot
before g c = record { opened = c.self.inside.opened.value; files = c.self.inside.files; stamps = c.self.inside.stamps.entries; tables = c.self.inside.service; history = c.self.inside.history.items; spare = vec_capacity c.self.inside.history - (vec_len c.self.inside.history + awaited_in c.self.inside.service) }

abbrev after : (g : Over) → After-record_dm g → Store g.row.D.Denot
after g c = record { opened = c.self.inside.opened.value; files = c.serve-done.new.files; stamps = c.self.inside.stamps.entries; tables = c.serve-done.new.service; history = c.record_dm.new.history.items; spare = vec_capacity c.record_dm.new.history - (vec_len c.record_dm.new.history + awaited_in c.serve-done.new.service) }

keeps : (g : Over) (c : After-record_dm g) → IsTakenDown c.make_ready.new.history.items (Session c.args.sid) (Dm c.args.call) (λ (r : DmReply). Told r) c.serve-done.result c.record_dm.result c.record_dm.new.history.items
keeps g c = record {
  kept = c.record_dm.ensures.recorded;
  memory = λ lacks. (ap (λ (r : DmReply). Told r) (c.record_dm.ensures.memory lacks).0, (c.record_dm.ensures.memory lacks).1);
  failed = λ fails. (ap (λ (r : DmReply). Told r) (c.record_dm.ensures.failed fails).0, (c.record_dm.ensures.failed fails).1);
}

next : (g : Over) (c : After-record_dm g) → IsNext g.D.Disk (before g c) (Session c.args.sid) (Dm c.args.call) (Told c.record_dm.result) (after g c)
next g c =
    event g.D.Disk (before g c) c.self.invariant.0 c.self.invariant.1 c.self.inside.stamps.entries c.make_ready.new.history.items refl c.make_ready.ensures.same (after g c) c.in_default.ensures.working refl
    (Session c.args.sid) (Dm c.args.call) tt (λ (r : DmReply). Told r) _ c.record_dm.result _ (omega (arith, c.self.invariant.2, c.len.ensures)) c.serve-done.result
    (record {
      exact = λ seen. refl;
      replies = c.serve-done.ensures.replies;
      leaves = c.serve-done.ensures.left;
      stamps = (always c.serve-done.result refl).1;
      tables = c.serve-done.ensures.err;
      synced = (always c.serve-done.result (λ (wrong : false ≡ true). absurd cc)).0;
      ends = c.serve-done.ensures.ends;
    })
    (keeps g c)

-- what the session is told of messages
handed : (g : Over) (c : After-record_dm g) → HandsOut c.self.inside.service.sessions c.args.sid c.args.call c.record_dm.result
handed g c = told_handed c.self.inside.service.sessions c.args.sid c.args.call _ _ _ c.serve-done.result c.record_dm.result c.serve-done.ensures.packed c.record_dm.ensures.recorded c.record_dm.ensures.memory c.record_dm.ensures.failed c.serve-done.ensures.ends.refused

pub returns-in-Err-clause-told : goal.returns-in-Err-clause-told
returns-in-Err-clause-told g c =
    let s : Store g.row.D.Denot = record { opened = c.self.inside.opened.value; files = c.self.inside.files; stamps = c.self.inside.stamps.entries; tables = c.self.inside.service; history = c.self.inside.history.items; spare = vec_capacity c.self.inside.history - (vec_len c.self.inside.history + awaited_in c.self.inside.service) } in
    let t : Store g.row.D.Denot = record s { stamps = c.self.inside.stamps.entries; history = c.make_ready.new.history.items; spare = vec_capacity c.make_ready.new.history - (vec_len c.make_ready.new.history + awaited_in c.self.inside.service) } in
    subst (λ (old : Store g.row.D.Denot). IsTold g.D.Disk old c.args.sid c.args.call c.unserved.result t) c.self.view_is
    (not_begun g.D.Disk s c.self.invariant.0 c.self.invariant.1 c.self.inside.stamps.entries c.make_ready.new.history.items _ refl c.make_ready.ensures.same (Session c.args.sid) (Dm c.args.call) (Told c.unserved.result) c.in-Err.why c.make_ready.ensures.idle
    (record { memory = λ is. ap (λ (r : DmReply). Told r) (c.unserved.ensures.memory is); failed = λ is. ap (λ (r : DmReply). Told r) (c.unserved.ensures.failed is) }) c.in-Err.ensures.refused)

pub serve-done-requires-clause-idle : goal.serve-done-requires-clause-idle
serve-done-requires-clause-idle g c = c.make_ready.ensures.idle c.in_default.ensures.working _

pub serve-done-requires-clause-ordered : goal.serve-done-requires-clause-ordered
serve-done-requires-clause-ordered g c = ordered_in c.self.inside.service _ c.self.inside.files.held _ _ 0 _ c.awaited-awaited.ensures.ordered

pub invariant_of-self-2 : goal.invariant_of-self-2
invariant_of-self-2 g c =
    let at = (goal.at.invariant_of-self-2 g c).After-record_dm in
    let is = next g at in
    let more = one_more c.make_ready.new.history.items c.record_dm.new.history.items (Session c.args.sid) (Dm c.args.call) (λ (r : DmReply). Told r) c.serve-done.result c.record_dm.result c.serve-done.ensures.ends.refused (keeps g at) in (
      is.0,
      is.1,
      c.self.invariant.2,
      c.self.invariant.3,
      (
          let fewer = room_served c.self.inside.service c.serve-done.new.service c.args.sid c.args.call c.serve-done.result c.serve-done.ensures.room c.serve-done.ensures.err c.serve-done.ensures.responds in
          omega (arith, more, fewer, c.awaited-awaited.ensures.count, c.in_default.ensures.room.0, c.record_dm.ensures.room, c.entries_for-more.ensures)
          ),
      lasting _ _ (formatted_as _ c.self.invariant.0) c.self.inside.files.held _ _ _ _ c.self.inside.service c.serve-done.new.service (Session c.args.sid) (Dm c.args.call) (λ (r : DmReply). Told r) c.serve-done.result c.serve-done.ensures.left c.serve-done.ensures.err c.self.invariant.5,
      still_packed g.D.Disk (before g at) (after g at) (Session c.args.sid) (Dm c.args.call) (Told c.record_dm.result) c.self.invariant.0 (handed g at) is.2 c.self.invariant.6,
    )

pub returns-clause-told : goal.returns-clause-told
returns-clause-told g c = subst (λ (old : Store g.row.D.Denot). IsTold g.D.Disk old c.args.sid c.args.call c.record_dm.result (after g (goal.at.returns-clause-told g c).After-record_dm)) c.self.view_is (next g (goal.at.returns-clause-told g c).After-record_dm).2

pub returns-clause-packed : goal.returns-clause-packed
returns-clause-packed g c =
    subst (λ (old : Store g.row.D.Denot). HandsOut old.tables.sessions c.args.sid c.args.call c.record_dm.result) c.self.view_is
    (handed g (goal.at.returns-clause-packed g c).After-record_dm)

pub returns-in-Err-clause-packed : goal.returns-in-Err-clause-packed
returns-in-Err-clause-packed g c =
    subst (λ (old : Store g.row.D.Denot). HandsOut old.tables.sessions c.args.sid c.args.call c.unserved.result) c.self.view_is
    (unserved_handed c.self.inside.service.sessions c.args.sid c.args.call _ _ c.in-Err.why c.unserved.result c.unserved.ensures.memory c.unserved.ensures.failed c.in-Err.ensures.refused)

pub returns-clause-safe : goal.returns-clause-safe
returns-clause-safe g c = (next g (goal.at.returns-clause-safe g c).After-record_dm).1.now

pub returns-in-Err-clause-safe : goal.returns-in-Err-clause-safe
returns-in-Err-clause-safe g c = rw (c.make_ready.ensures.same) c.self.invariant.1.now

pub returns-clause-responds : goal.returns-clause-responds
returns-clause-responds g c =
    subst (λ (old : Store g.row.D.Denot). is_due old.tables.sessions c.args.sid c.args.call ≡ true → old.files.failed ≡ false → c.record_dm.result ≡ DmDone) c.self.view_is
    (λ due working.
    told_done _ _ c.serve-done.result c.self.inside.files.held _ c.record_dm.result DmDone (c.serve-done.ensures.responds due) c.serve-done.ensures.replies c.record_dm.ensures.recorded
    (λ seen is. due_done (superblock_of c.self.inside.files) (state_with seen c.self.inside.stamps.entries c.self.inside.service (c.self.inside.base + c.len.result)) c.args.sid c.args.call due))

-- at most as much room is used up as the call needs
pub returns-clause-room : goal.returns-clause-room
returns-clause-room g c =
    let at = (goal.at.returns-clause-room g c).After-record_dm in
    let more = one_more c.make_ready.new.history.items c.record_dm.new.history.items (Session c.args.sid) (Dm c.args.call) (λ (r : DmReply). Told r) c.serve-done.result c.record_dm.result c.serve-done.ensures.ends.refused (keeps g at) in
    let fewer = room_served c.self.inside.service c.serve-done.new.service c.args.sid c.args.call c.serve-done.result c.serve-done.ensures.room c.serve-done.ensures.err c.serve-done.ensures.responds in
    let noted = ap length c.make_ready.ensures.same in
    subst (λ (old : Store g.row.D.Denot). old.spare ≤ (after g at).spare + entries_for old.tables.sessions c.args.sid c.args.call) c.self.view_is
    (omega (arith, more, fewer, noted, c.make_ready.ensures.keeps, c.record_dm.ensures.room, c.self.invariant.4))

pub returns-in-Err-clause-room : goal.returns-in-Err-clause-room
returns-in-Err-clause-room g c =
    subst (λ (old : Store g.row.D.Denot). old.spare ≤ vec_capacity c.make_ready.new.history - (vec_len c.make_ready.new.history + awaited_in c.self.inside.service) + entries_for old.tables.sessions c.args.sid c.args.call) c.self.view_is
    (let same = ap length c.make_ready.ensures.same in omega (arith, same, c.make_ready.ensures.keeps, c.self.invariant.4))

own_told : (g : Over) (c : After-record_dm g) → wants_entry_alone c.args.call ≡ true → Told c.record_dm.result ≡ own_answer (before g c) (Session c.args.sid) (Dm c.args.call)
own_told g c alone =
    let noted = ap length c.make_ready.ensures.same in
    let number : c.self.inside.base + c.len.result ≡ last_number (before g c) = omega (arith, noted, c.self.invariant.2, c.len.ensures) in
    ap (λ (r : DmReply). Told r)
    (told_done _ _ c.serve-done.result c.self.inside.files.held _ c.record_dm.result (dm_reply_to (superblock_of c.self.inside.files) (state_with c.self.inside.files.held c.self.inside.stamps.entries c.self.inside.service (c.self.inside.base + c.len.result)) c.args.sid c.args.call)
    (c.serve-done.ensures.alone alone) c.serve-done.ensures.replies c.record_dm.ensures.recorded
    (λ seen is. told_alike seen c.self.inside.files.held is.alike (superblock_of c.self.inside.files) (state_with c.self.inside.files.held c.self.inside.stamps.entries c.self.inside.service (c.self.inside.base + c.len.result)) c.args.sid c.args.call alone))
    ∙ (λ i. Told (dm_reply_to (formatted_as (before g c) c.self.invariant.0 i) (state_with c.self.inside.files.held c.self.inside.stamps.entries c.self.inside.service (number i)) c.args.sid c.args.call))

pub returns-clause-spared : goal.returns-clause-spared
returns-clause-spared g c =
    let at = (goal.at.returns-clause-spared g c).After-record_dm in
    subst (λ (old : Store g.row.D.Denot). wants_entry_alone c.args.call ≡ true → 1 ≤ old.spare → old.files.failed ≡ false → Told c.record_dm.result ≡ own_answer old (Session c.args.sid) (Dm c.args.call)) c.self.view_is
    (λ alone spare working. own_told g at alone)

pub returns-clause-keeps : goal.returns-clause-keeps
returns-clause-keeps g c =
    let at = (goal.at.returns-clause-keeps g c).After-record_dm in
    subst (λ (old : Store g.row.D.Denot). KeepsRoom old (after g at)) c.self.view_is (omega (arith, c.make_ready.ensures.keeps, c.record_dm.ensures.room, c.self.invariant.4))

pub returns-in-Err-clause-keeps : goal.returns-in-Err-clause-keeps
returns-in-Err-clause-keeps g c =
    subst (λ (old : Store g.row.D.Denot). length old.history + awaited_in old.tables + old.spare
    ≤ length c.make_ready.new.history.items + awaited_in c.self.inside.service + (vec_capacity c.make_ready.new.history - (vec_len c.make_ready.new.history + awaited_in c.self.inside.service))) c.self.view_is
    (omega (arith, c.make_ready.ensures.keeps, c.self.invariant.4))

pub serve-done-requires-clause-rises : goal.serve-done-requires-clause-rises
serve-done-requires-clause-rises g c =
    let low = rises_now (record { opened = c.self.inside.opened.value; files = c.self.inside.files; stamps = c.self.inside.stamps.entries; tables = c.self.inside.service; history = c.self.inside.history.items; spare = vec_capacity c.self.inside.history - (vec_len c.self.inside.history + awaited_in c.self.inside.service) }) c.self.invariant.1 c.in_default.ensures.working in
    omega (arith, low, c.self.invariant.2, c.len.ensures, ap length c.make_ready.ensures.same)
