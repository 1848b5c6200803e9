use Rattle.dm_service.proofs.HandedOut.{nothing_packed}
use Rattle.dm_service.proofs.calls.perform.Goals as goal

pub returns-in-CreateSession : goal.returns-in-CreateSession
returns-in-CreateSession c = rw c.in-CreateSession.is (record { told = c.create.ensures c.args.sid; packed = nothing_packed c.create.result })

pub returns-in-DestroySession : goal.returns-in-DestroySession
returns-in-DestroySession c = rw c.in-DestroySession.is (record { told = c.destroy.ensures; packed = nothing_packed c.destroy.result })

pub returns-in-GetAllSessions : goal.returns-in-GetAllSessions
returns-in-GetAllSessions c = rw c.in-GetAllSessions.is (record { told = c.list.ensures c.args.sid; packed = nothing_packed c.list.result })

pub returns-in-QuerySession : goal.returns-in-QuerySession
returns-in-QuerySession c = rw c.in-QuerySession.is (record { told = c.query.ensures c.args.sid; packed = nothing_packed c.query.result })

pub returns-in-SetDisp : goal.returns-in-SetDisp
returns-in-SetDisp c = rw c.in-SetDisp.is (record { told = c.set_kinds.ensures; packed = nothing_packed c.set_kinds.result })

pub returns-in-GetDisp : goal.returns-in-GetDisp
returns-in-GetDisp c = rw c.in-GetDisp.is (record { told = c.kinds.ensures; packed = nothing_packed c.kinds.result })

pub returns-in-GetAllTokens : goal.returns-in-GetAllTokens
returns-in-GetAllTokens c = rw c.in-GetAllTokens.is (record { told = c.tokens.ensures; packed = nothing_packed c.tokens.result })

pub returns-in-FindEventMsg : goal.returns-in-FindEventMsg
returns-in-FindEventMsg c = rw c.in-FindEventMsg.is (record { told = c.find.ensures.told c.args.sid; packed = c.find.ensures.packed c.args.sid })

pub returns-in-SendMsg : goal.returns-in-SendMsg
returns-in-SendMsg c = rw c.in-SendMsg.is (record { told = c.send.ensures; packed = nothing_packed c.send.result })
