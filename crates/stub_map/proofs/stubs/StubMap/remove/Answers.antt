use Rattle.std.proofs.Common.{◌∙◌}
use Rattle.stub_map.proofs.Entries.{remove_entry-is_at}
use Rattle.stub_map.proofs.stubs.StubMap.remove.Goals as goal

pub returns : goal.returns
returns c = rw (← c.self.view_is) (c.remove-stub.ensures.entries ∙ remove_entry-is_at c.args.segment c.self.inside.by_segment.entries c.self.invariant.ascend)
