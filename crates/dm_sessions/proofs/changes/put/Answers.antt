use Rattle.std.proofs.Common.{◌≡◌, Some, sym, ap, ◌∙◌}
use Rattle.std.proofs.lemmas.Result.{on_ok_weaker, on_err_weaker}
use Rattle.std.specs.Option.{option_copied_mut}
use Rattle.std.specs.Map.{lookup, set_value}
use Rattle.hsm_types.specs.Sessions.{same_sid, put_message}
use Rattle.dm_sessions.proofs.Lookups.{set-is-change, set-same}
use Rattle.dm_sessions.proofs.changes.put.Goals as goal

there : (c : goal.After-live-1) → lookup (same_sid c.args.sid) c.args.live.now.entries ≡ Some c.unwrap.result.now
there c = sym c.get_mut.ensures.value ∙ ap option_copied_mut c.unwrap.ensures

pub returns-clause-after : goal.returns-clause-after
returns-clause-after c = on_ok_weaker c.put.result (λ e. (c.get_mut.follows.holds c.put.new.self).0 ∙ ap (set_value (same_sid c.args.sid) c.args.live.now.entries) e ∙ set-is-change c.args.sid (λ s. record s { outstanding = put_message s.outstanding c.args.message }) c.args.live.now.entries c.unwrap.result.now (there c)) c.put.ensures.after

pub returns-clause-err : goal.returns-clause-err
returns-clause-err c = on_err_weaker c.put.result (λ e. (c.get_mut.follows.holds c.put.new.self).0 ∙ ap (set_value (same_sid c.args.sid) c.args.live.now.entries) e ∙ set-same c.args.sid c.args.live.now.entries c.unwrap.result.now (there c)) c.put.ensures.err

pub put-requires-clause-absent : goal.put-requires-clause-absent
put-requires-clause-absent c =
    let found : lookup (same_sid c.args.sid) c.args.live.now.entries ≡ Some c.unwrap.result.now = sym c.get_mut.ensures.value ∙ ap option_copied_mut c.unwrap.ensures in
    rw found at c.requires.absent
