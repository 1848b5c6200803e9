use Rattle.migrate_daemon.proofs.rounds.after.Goals as goal

pub returns-in-None : goal.returns-in-None
returns-in-None c = λ pass before asked told seated over not_all. c.round.ensures pass before asked told (record { seated = seated; over = over; answered = c.in-None.ensures }) not_all
