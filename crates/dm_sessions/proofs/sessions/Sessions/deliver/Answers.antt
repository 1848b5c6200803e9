use Rattle.std.proofs.Common.{◌≡◌, true, rules}
use Rattle.std.specs.Option.{IfSome}
use Rattle.std.specs.Map.{lookup}
use Rattle.hsm_types.specs.Sessions.{SessionTable, same_sid, lives, change_live, hands_out}
use Rattle.dm_sessions.specs.Tables.{users_of}
use Rattle.dm_sessions.proofs.Lookups.{once-held, table-delivered}
use Rattle.dm_sessions.proofs.sessions.Sessions.deliver.Goals as goal

pub deliver-requires-clause-once : goal.deliver-requires-clause-once
deliver-requires-clause-once c =
    let t : SessionTable = record { given = c.self.inside.given; live = c.self.inside.live.entries; unrouted = c.self.inside.unrouted.items } in
    once-held c.args.sid t c.self.inside.user_tokens c.self.invariant

pub invariant_of-self-2 : goal.invariant_of-self-2
invariant_of-self-2 c =
    let t : SessionTable = record { given = c.self.inside.given; live = c.self.inside.live.entries; unrouted = c.self.inside.unrouted.items } in
    let alive : lives c.args.sid t ≡ true = search rules in
    let after : c.deliver.new.live.entries ≡ change_live c.args.sid (hands_out c.args.count) c.self.inside.live.entries = search rules in
    let users : IfSome (lookup (same_sid c.args.sid) c.self.inside.live.entries) (λ s. users_of (hands_out c.args.count s) ≡ users_of s) = search rules in
    rw after (table-delivered c.args.sid c.args.count t c.self.inside.user_tokens c.self.invariant alive users)
