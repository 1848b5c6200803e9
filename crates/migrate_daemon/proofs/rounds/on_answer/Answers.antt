use Rattle.hsm_types.specs.declared.daemons.Act.TheVariants.{Dm}
use Rattle.hsm_types.specs.declared.dm.DmCall.TheVariants as call
use Rattle.migrate_daemon.proofs.Turning.{turns_out}
use Rattle.migrate_daemon.proofs.BetweenPasses.{seated_answer, lives}
use Rattle.migrate_daemon.proofs.rounds.on_answer.Goals as goal

pub returns : goal.returns
returns c = λ pass response seated over.
    let heard = c.hear_answer.ensures c.args.sid response in
    let next = rw heard at (c.after.ensures pass pass (Dm c.args.sid (call.Respond c.args.token response)) c.args.told.now) in
    let lives = lives c.args.sid (call.Respond c.args.token response) c.args.told.now c.requires in
    rw heard (turns_out c.args.knowledge.now pass (Dm c.args.sid (call.Respond c.args.token response)) c.args.told.now _ _ (λ out. out) (λ none. none) lives (next (seated_answer c.args.knowledge.now.limits _ c.args.sid c.args.sid c.args.token response _ seated) over (λ all. all)))
