use Rattle.std.proofs.Common.{◌≡◌, ◌+◌, ◌≤◌, true, IfOk, refl, subst}
use Rattle.dm_service.specs.Tables.{Tables, awaited_in, AreKept}
use Rattle.dm_service.specs.Services.{asks_sessions, entries_for, IsServedByTables}
use Rattle.dm_service.specs.Handing.{HandsOut}
use Rattle.dm_service.proofs.HandedOut.{nothing_packed}
use Rattle.dm_service.proofs.Served.{served_by, responded_room, own_room, not_due, others}
use Rattle.dm_service.proofs.service.DmService.dm.Goals.{After-serve}
use Rattle.dm_service.proofs.service.DmService.dm.Goals as goal

abbrev before : After-serve → Tables
before c = record { sessions = c.self.inside.sessions; tokens = c.self.inside.tokens; rights = c.self.inside.rights; park = c.self.inside.park }

abbrev after : After-serve → Tables
after c = record { sessions = c.serve.new.sessions; tokens = c.self.inside.tokens; rights = c.self.inside.rights; park = c.self.inside.park }

asks : (c : After-serve) → asks_sessions c.args.call.now ≡ true
asks c = others c.args.call.now c.requires c.in_default.not-Respond c.in_default.not-CreateUserEvent

left : (c : After-serve) → IsServedByTables (before c) c.args.sid c.args.call.now c.serve.result (after c) × AreKept (after c) c.self.inside.open_tokens × (awaited_in (after c) ≡ awaited_in (before c))
left c = served_by (before c) (after c) c.self.inside.open_tokens c.self.invariant c.args.sid c.args.call.now (asks c) refl refl refl c.serve.result c.serve.ensures.told

pub invariant_of-self : goal.invariant_of-self
invariant_of-self c = (left c).1

pub returns-in-Respond-clause-packed : goal.returns-in-Respond-clause-packed
returns-in-Respond-clause-packed c = rw c.in-Respond.is tt

pub returns-in-CreateUserEvent-clause-packed : goal.returns-in-CreateUserEvent-clause-packed
returns-in-CreateUserEvent-clause-packed c = rw c.in-CreateUserEvent.is (nothing_packed c.make_event.result)

pub returns-in-Respond-clause-room : goal.returns-in-Respond-clause-room
returns-in-Respond-clause-room c =
    rw c.in-Respond.is
    (responded_room c.args.self.now c.respond.new.self c.args.sid c.in-Respond.token c.in-Respond.response c.respond.result c.respond.ensures.judged c.respond.ensures.counted c.respond.ensures.err)

pub returns-in_default : goal.returns-in_default
returns-in_default c = record {
  served = subst (λ (t : Tables). IsServedByTables t c.args.sid c.args.call.now c.serve.result (after c)) c.self.view_is (left c).0;
  packed = subst (λ (t : Tables). IfOk c.serve.result (λ r. HandsOut t.sessions c.args.sid c.args.call.now r.0)) c.self.view_is c.serve.ensures.packed;
  responds = λ due. absurd (not_due c.args.self.now.sessions c.args.sid c.args.call.now (asks c) due);
  room = subst (λ (t : Tables). awaited_in (after c) + 1 ≤ awaited_in t + entries_for t.sessions c.args.sid c.args.call.now) c.self.view_is
      (own_room (before c) (after c) c.args.sid c.args.call.now (asks c) (left c).2);
}
