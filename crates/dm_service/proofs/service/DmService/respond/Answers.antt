use Rattle.std.proofs.Common.{◌≡◌, ◌+◌, ◌-◌, true, None, refl, subst}
use Rattle.hsm_types.specs.Messages.{is_lawful}
use Rattle.hsm_types.specs.Sessions.{dead_session, bad_response}
use Rattle.hsm_types.specs.declared.dm.DmCall.TheVariants.{Respond}
use Rattle.plain_model.specs.State.{noted}
use Rattle.plain_model.specs.Services.{bad_own_token, dm_judged, dm_state_where}
use Rattle.dm_service.specs.Tables.{Tables, awaited_in, seen, AreKept}
use Rattle.dm_service.specs.Services.{any_superblock}
use Rattle.dm_service.proofs.Served.{judged_none, judged_first, some_open, responded_by}
use Rattle.dm_service.proofs.service.DmService.respond.Goals.{In_ok-answer, After-answer-caller}
use Rattle.dm_service.proofs.service.DmService.respond.Goals as goal

abbrev before : In_ok-answer → Tables
before c = record { sessions = c.self.inside.sessions; tokens = c.self.inside.tokens; rights = c.self.inside.rights; park = c.self.inside.park }

none : (c : In_ok-answer) → dm_judged any_superblock (seen (before c)) c.args.sid (Respond c.args.token c.args.response.now) ≡ None
none c =
    let lawful : is_lawful c.args.response.now ≡ true = cc in
    judged_none (dead_session c.args.sid c.self.inside.sessions) (bad_own_token c.args.sid c.args.token c.self.inside.sessions) c.args.response.now c.in_default.ensures lawful

pub overflow_sub-self : goal.overflow_sub-self
overflow_sub-self c = some_open (before c) c.self.inside.open_tokens c.self.invariant c.args.sid c.args.token c.args.response.now (none c)

abbrev after : After-answer-caller → Tables
after c = record { sessions = c.answer.new.self; tokens = c.self.inside.tokens; rights = c.end.new.self; park = c.answer-caller.new.self }

left : (c : After-answer-caller)
    → (noted (seen (after c)) ≡ dm_state_where None any_superblock (seen (before (goal.at.invariant_of-self-2 c).In_ok-answer)) c.args.sid (Respond c.args.token c.args.response.now))
    × AreKept (after c) (c.self.inside.open_tokens - 1) × (awaited_in (after c) + 1 ≡ awaited_in (before (goal.at.invariant_of-self-2 c).In_ok-answer))
left c =
    let at : In_ok-answer = (goal.at.invariant_of-self-2 c).In_ok-answer in
    responded_by (before at) c.self.inside.open_tokens c.self.invariant c.args.sid c.args.token c.args.response.now (none at) (after c) c.in_ok-answer.ensures.after refl c.end.ensures c.answer-caller.ensures.after

pub invariant_of-self-2 : goal.invariant_of-self-2
invariant_of-self-2 c = (left c).1

pub returns-clause-after : goal.returns-clause-after
returns-clause-after c = subst (λ (t : Tables). noted (seen (after c)) ≡ dm_state_where None any_superblock (seen t) c.args.sid (Respond c.args.token c.args.response.now)) c.self.view_is (left c).0

pub returns-clause-counted : goal.returns-clause-counted
returns-clause-counted c = subst (λ (t : Tables). awaited_in (after c) + 1 ≡ awaited_in t) c.self.view_is (left c).2

pub returns-in-Err-clause-judged : goal.returns-in-Err-clause-judged
returns-in-Err-clause-judged c =
    rw (← c.self.view_is) (judged_first (dead_session c.args.sid c.self.inside.sessions) (bad_own_token c.args.sid c.args.token c.self.inside.sessions) (bad_response c.args.response.now) c.in-Err.why c.in-Err.ensures)
