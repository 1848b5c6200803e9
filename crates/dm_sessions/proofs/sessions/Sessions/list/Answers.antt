use Rattle.std.proofs.Common.{◌≡◌, rules}
use Rattle.std.specs.Map.{keys_of}
use Rattle.dm_sessions.proofs.Ascending.{increasing}
use Rattle.dm_sessions.proofs.sessions.Sessions.list.Goals as goal

pub returns-clause-ascending : goal.returns-clause-ascending
returns-clause-ascending c =
    let items : c.from.result ≡ keys_of c.self.inside.live.entries = search rules in
    rw items (increasing 0 c.self.inside.given c.self.inside.live.entries c.self.invariant.ascend)
