use Rattle.std.proofs.Common.{◌≡◌, Some, sym, ap, ◌∙◌}
use Rattle.std.specs.Option.{option_copied_mut}
use Rattle.std.specs.Map.{lookup, set_value}
use Rattle.hsm_types.specs.Sessions.{same_sid, without_token}
use Rattle.dm_sessions.proofs.Lookups.{set-is-change}
use Rattle.dm_sessions.proofs.changes.take_out.Goals as goal

there : (c : goal.After-live-1) → lookup (same_sid c.args.sid) c.args.live.now.entries ≡ Some c.unwrap.result.now
there c = sym c.get_mut.ensures.value ∙ ap option_copied_mut c.unwrap.ensures

pub returns-clause-after : goal.returns-clause-after
returns-clause-after c = (c.get_mut.follows.holds c.take_out.new.self).0 ∙ ap (set_value (same_sid c.args.sid) c.args.live.now.entries) c.take_out.ensures.after ∙ set-is-change c.args.sid (λ s. record s { outstanding = without_token c.args.token s.outstanding }) c.args.live.now.entries c.unwrap.result.now (there c)

pub returns-clause-found : goal.returns-clause-found
returns-clause-found c = rw (there c) c.take_out.ensures.found

pub returns-clause-apart : goal.returns-clause-apart
returns-clause-apart c = rw (there c) c.take_out.ensures.apart
