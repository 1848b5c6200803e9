use Rattle.std.proofs.Common.{◌≡◌, ◌∙◌, sym, ap}
use Rattle.std.specs.Option.{option_copied_mut}
use Rattle.hsm_types.specs.Stubs.{stub_at}
use Rattle.stub_map.proofs.Entries.{lookup-is_at, set_value-is_at, absent-moved}
use Rattle.stub_map.proofs.stubs.StubMap.set_offline.Goals as goal
use Rattle.stub_map.proofs.stubs.StubMap.set_offline.Goals.{in-Some, in_default, Joined-get_mut}

found : (c : Joined-get_mut) → option_copied_mut c.get_mut.result ≡ stub_at c.args.segment c.self.inside.by_segment.entries
found c = c.get_mut.ensures.value ∙ lookup-is_at c.args.segment c.self.inside.by_segment.entries

pub returns : goal.returns
returns c = elim c.match-get_mut.branch [
  | in-Some w ↦
      rw (w.self-inside-is, ← c.self.view_is)
      ((c.get_mut.follows.holds (record w.in-Some.stub.now { offline = c.args.offline })).0
      ∙ set_value-is_at c.args.offline c.args.segment w.in-Some.stub.now c.self.inside.by_segment.entries c.self.invariant.ascend (sym (found c) ∙ ap option_copied_mut w.in-Some.is))
  | in_default w ↦
      rw (w.self-inside-is, c.get_mut.follows.holds-at-none, ← c.self.view_is)
      (sym (absent-moved c.args.offline c.args.segment c.self.inside.by_segment.entries (sym (found c) ∙ ap option_copied_mut w.in_default.is)))
]
