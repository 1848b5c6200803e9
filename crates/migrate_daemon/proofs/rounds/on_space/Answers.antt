use Rattle.hsm_types.specs.declared.daemons.Act.TheVariants.{Dm}
use Rattle.hsm_types.specs.declared.dm.DmCall.TheVariants as call
use Rattle.migrate_daemon.proofs.Turning.{turns_out}
use Rattle.migrate_daemon.proofs.BetweenPasses.{free_space, lives}
use Rattle.migrate_daemon.proofs.rounds.on_space.Goals as goal

pub returns : goal.returns
returns c = λ pass free.
    let heard = c.hear_space.ensures c.args.sid in
    let next = rw heard at (c.round.ensures pass pass (Dm c.args.sid call.GetSpace) c.args.told.now) in
    let lives = lives c.args.sid call.GetSpace c.args.told.now c.requires in
    rw heard (turns_out c.args.knowledge.now pass (Dm c.args.sid call.GetSpace) c.args.told.now _ _ (λ out. out) (λ none. none) lives (next (free_space c.args.knowledge.now.limits _ pass c.args.sid c.args.sid _ free) (λ all. all)))
