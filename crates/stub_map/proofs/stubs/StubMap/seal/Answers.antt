use Rattle.std.proofs.Common.{◌≡◌, ◌+◌, length, is_some, if◌then◌else◌, rules}
use Rattle.hsm_types.specs.Stubs.{stub_at}
use Rattle.stub_map.proofs.Entries.{few-sealed}
use Rattle.stub_map.proofs.stubs.StubMap.seal.Goals as goal

pub invariant_of-self-2 : goal.invariant_of-self-2
invariant_of-self-2 c =
    let found : c.in_ok-_old._old ≡ stub_at c.args.segment c.self.inside.by_segment.entries = search rules in
    let counts : length c.insert.new.self.entries ≡ length c.self.inside.by_segment.entries + (if is_some c.in_ok-_old._old then 0 else 1) = search rules in
    record {
      ascend = c.insert.ensures.ordered;
      few = few-sealed c.args.segment (length c.insert.new.self.entries) c.self.inside.by_segment.entries c.in_ok-_old._old (rw c.self.view_is c.in_ok-judge_seal.ensures.room) found c.self.invariant.few counts;
    }
