use Rattle.dm_service.proofs.service.DmService.park_on.Goals as goal

pub park-requires-clause-may_wait : goal.park-requires-clause-may_wait
park-requires-clause-may_wait c = rw c.parked.ensures (c.in_ok-token.ensures.may_wait c.args.access)
