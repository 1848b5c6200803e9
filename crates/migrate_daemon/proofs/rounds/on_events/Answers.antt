use Rattle.std.proofs.Common.{sym, ◌∙◌}
use Rattle.hsm_types.specs.Limits.{buffer_bytes}
use Rattle.hsm_types.specs.declared.daemons.Act.TheVariants.{Dm}
use Rattle.hsm_types.specs.declared.dm.DmCall.TheVariants as call
use Rattle.migrate_daemon.proofs.Turning.{turns_out}
use Rattle.migrate_daemon.proofs.BetweenPasses.{free_events, told_none, none_told, lives, not_all, all_told}
use Rattle.migrate_daemon.proofs.rounds.on_events.Goals as goal

pub returns-then-has_no_more-clause-ok : goal.returns-then-has_no_more-clause-ok
returns-then-has_no_more-clause-ok c = λ pass free.
    let is = sym c.has_no_more.ensures ∙ c.if-has_no_more.true in
    let same = told_none c.args.knowledge.now.limits c.args.knowledge.now.known c.args.sid c.args.told.now (none_told c.args.told.now is) in
    let next = c.decide.ensures pass pass (Dm c.args.sid (call.GetEvents 0 buffer_bytes)) c.args.told.now free (all_told c.args.sid c.args.told.now is) in
    let lives = lives c.args.sid (call.GetEvents 0 buffer_bytes) c.args.told.now c.requires in
    turns_out c.args.knowledge.now pass (Dm c.args.sid (call.GetEvents 0 buffer_bytes)) c.args.told.now _ _ (λ out. out) (λ none. none) lives (rw same next)

pub returns-clause-ok : goal.returns-clause-ok
returns-clause-ok c = λ pass free.
    let heard = c.in_ok-hear_events.ensures.ok c.args.sid in
    let next = rw heard at (c.round.ensures pass pass (Dm c.args.sid (call.GetEvents 0 buffer_bytes)) c.args.told.now) in
    let lives = lives c.args.sid (call.GetEvents 0 buffer_bytes) c.args.told.now c.requires in
    rw heard (turns_out c.args.knowledge.now pass (Dm c.args.sid (call.GetEvents 0 buffer_bytes)) c.args.told.now _ _ (λ out. out) (λ none. none) lives (next (free_events c.args.knowledge.now.limits _ pass c.args.sid c.args.sid _ free) (not_all c.args.sid c.args.told.now cc)))
