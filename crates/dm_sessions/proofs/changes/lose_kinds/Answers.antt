use Rattle.std.proofs.Common.{◌≡◌, ◌<◌, Some, length, refl, sym, ap, subst, ◌∙◌, arith, add-one}
use Rattle.std.specs.Option.{option_copied_mut}
use Rattle.std.specs.List.{slice_get}
use Rattle.std.specs.Map.{values_of}
use Rattle.indexmap.specs.IndexMap.{set_value_at}
use Rattle.hsm_types.specs.Messages.{without_kinds}
use Rattle.hsm_types.specs.Sessions.{loses}
use Rattle.dm_sessions.proofs.Lookups.{Live, lost, lost-more, lost-length, lost-all}
use Rattle.dm_sessions.proofs.changes.lose_kinds.Goals as goal
use Rattle.dm_sessions.proofs.changes.lose_kinds.Goals.{in-Some, in_default}

pub loop-i-init : goal.loop-i-init
loop-i-init c = refl

pub loop-i-preserved : goal.loop-i-preserved
loop-i-preserved c =
    elim c.match-get_index_mut.branch [
      | in-Some w ↦
          let found : slice_get (values_of (lost c.args.kinds c.loop-i.i c.args.live.now.entries)) c.loop-i.i ≡ Some w.in-Some.session.now = ap (λ (l : Live). slice_get (values_of l) c.loop-i.i) (sym c.loop-i.invariant) ∙ sym c.get_index_mut.ensures.value ∙ ap option_copied_mut w.in-Some.is in
          let fewer : w.set_kinds.new.self ≡ loses c.args.kinds w.in-Some.session.now = w.set_kinds.ensures ∙ (λ j. record w.in-Some.session.now { kinds = (w.without.ensures ∙ ap (without_kinds c.args.kinds) w.kinds.ensures) j }) in
          rw add-one (ap (λ m. m.entries) w.live-is ∙ (λ j. set_value_at (c.loop-i.invariant j) c.loop-i.i (fewer j)) ∙ lost-more c.args.kinds c.args.live.now.entries c.loop-i.i w.in-Some.session.now found)
      | in_default w ↦
          let within : c.loop-i.i < length c.loop-i.live.entries = omega (arith, c.len-i-end.ensures.len, ap length c.loop-i.invariant, lost-length c.args.kinds c.loop-i.i c.args.live.now.entries) in
          absurd (search (Rattle.std.proofs.Common.rules))
    ]

pub returns : goal.returns
returns c = c.loop-i.invariant ∙ lost-all c.args.kinds c.loop-i.i c.args.live.now.entries (omega (arith, c.len-i-end.ensures.len))
