use Rattle.std.proofs.Common.{◌≡◌, Some, sym, ap, ◌∙◌}
use Rattle.std.specs.Option.{option_copied_mut}
use Rattle.std.specs.Map.{lookup, set_value}
use Rattle.hsm_types.specs.Sessions.{same_sid}
use Rattle.dm_sessions.proofs.Lookups.{set-is-change}
use Rattle.dm_sessions.proofs.changes.set_kinds.Goals as goal

there : (c : goal.After-live-1) → lookup (same_sid c.args.sid) c.args.live.now.entries ≡ Some c.unwrap.result.now
there c = sym c.get_mut.ensures.value ∙ ap option_copied_mut c.unwrap.ensures

pub returns : goal.returns
returns c = (c.get_mut.follows.holds c.set_kinds.new.self).0 ∙ ap (set_value (same_sid c.args.sid) c.args.live.now.entries) c.set_kinds.ensures ∙ set-is-change c.args.sid (λ s. record s { kinds = c.args.kinds }) c.args.live.now.entries c.unwrap.result.now (there c)
