use Rattle.migrate_daemon.proofs.BetweenPasses.{gives_rest, none_kept}
use Rattle.migrate_daemon.proofs.rounds.decide.Goals as goal

pub returns : goal.returns
returns c = λ pass before asked told free all. rw (c.rest.ensures.turn, c.rest.ensures.new) (gives_rest c.args.knowledge.now pass before asked told c.args.sid free all (none_kept _ _ c.has_events.ensures c.if-has_events.false) (cc) (λ wants. let yes = c.wants_space.ensures.1 wants in cc))
