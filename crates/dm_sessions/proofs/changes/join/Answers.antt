use Rattle.std.proofs.Common.{◌≡◌, Some, filter, sym, ap, ◌∙◌}
use Rattle.std.proofs.lemmas.Result.{on_ok_weaker, on_err_weaker}
use Rattle.std.specs.Option.{option_copied_mut}
use Rattle.std.specs.Map.{lookup, set_value}
use Rattle.hsm_types.specs.Messages.{takes}
use Rattle.hsm_types.specs.Sessions.{same_sid, queued}
use Rattle.hsm_types.specs.declared.messages.Message.{Message}
use Rattle.dm_sessions.proofs.Lookups.{set-is-change, set-same}
use Rattle.dm_sessions.proofs.changes.join.Goals as goal

there : (c : goal.After-live-1) → lookup (same_sid c.args.sid) c.args.live.now.entries ≡ Some c.unwrap.result.now
there c = sym c.get_mut.ensures.value ∙ ap option_copied_mut c.unwrap.ensures

pub returns-clause-after : goal.returns-clause-after
returns-clause-after c = on_ok_weaker c.join.result (λ e. (c.get_mut.follows.holds c.join.new.self).0 ∙ ap (set_value (same_sid c.args.sid) c.args.live.now.entries) e ∙ set-is-change c.args.sid (queued (filter (λ (m : Message). takes c.args.kinds m.kind) c.args.messages.now.items)) c.args.live.now.entries c.unwrap.result.now (there c)) c.join.ensures.after

pub returns-clause-err : goal.returns-clause-err
returns-clause-err c = on_err_weaker c.join.result (λ e. (c.get_mut.follows.holds c.join.new.self).0 ∙ ap (set_value (same_sid c.args.sid) c.args.live.now.entries) e ∙ set-same c.args.sid c.args.live.now.entries c.unwrap.result.now (there c)) c.join.ensures.err
