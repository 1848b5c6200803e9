use Rattle.std.proofs.Common.{◌≡◌, Some, None, sym, ap, ◌∙◌, arith}
use Rattle.std.specs.Option.{option_copied}
use Rattle.hsm_types.specs.Sessions.{SessionTable, session_of, destruction_refusal}
use Rattle.dm_sessions.proofs.Lookups.{table-ended, ended-none, ended-judged}
use Rattle.dm_sessions.proofs.sessions.Sessions.destroy.Goals as goal

pub invariant_of-self : goal.invariant_of-self
invariant_of-self c =
    let t : SessionTable = record { given = c.self.inside.given; live = c.self.inside.live.entries; unrouted = c.self.inside.unrouted.items } in
    let there : session_of c.args.sid t ≡ Some c.in-Some.session.now = sym c.get.ensures.value ∙ ap option_copied c.in-Some.is in
    let none : destruction_refusal c.args.sid t ≡ None = ended-none c.args.sid t c.in-Some.session.now there (omega (arith, c.message_count-count.ensures)) in
    rw c.shift_remove-ended.ensures.entries (table-ended c.args.sid t c.self.inside.user_tokens c.self.invariant none)

pub returns-clause-judged : goal.returns-clause-judged
returns-clause-judged c =
    let t : SessionTable = record { given = c.self.inside.given; live = c.self.inside.live.entries; unrouted = c.self.inside.unrouted.items } in
    let there : session_of c.args.sid t ≡ Some c.in-Some.session.now = sym c.get.ensures.value ∙ ap option_copied c.in-Some.is in
    rw (← c.self.view_is) (ended-judged c.args.sid t c.in-Some.session.now there (omega (arith, c.message_count-count.ensures)))
