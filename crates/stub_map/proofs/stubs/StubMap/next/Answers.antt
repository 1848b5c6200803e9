use Rattle.std.proofs.Common.{◌∙◌, is_some, sym, ap}
use Rattle.std.proofs.lemmas.Map.Keys.{le_from_not_gt}
use Rattle.stub_map.proofs.Entries.{lookup-is_at, upto, none_before}
use Rattle.stub_map.proofs.stubs.StubMap.next.Goals as goal

pub returns-in_default : goal.returns-in_default
returns-in_default c =
    let part = c.range.ensures.in_range tt in
    rw (← c.self.view_is) (λ k from. sym (lookup-is_at k c.self.inside.by_segment.entries) ∙ part.5 c.in_default.ensures.steps.0 k (upto c.args.from k from, tt))

pub returns : goal.returns
returns c =
    let part = c.range.ensures.in_range tt in
    let first = c.in-Some.segment.now in
    let stubs = c.self.inside.by_segment.entries in
    let here = rw c.in-Some.ensures.steps at part.1 in
    rw (← c.self.view_is) (
      le_from_not_gt c.args.from first here.0.0,
      ap is_some (sym (lookup-is_at first stubs) ∙ here.1),
      none_before c.args.from first stubs (λ k from there. le_from_not_gt first k (rw c.in-Some.ensures.steps at (part.2 k (upto c.args.from k from, tt) (ap is_some (lookup-is_at k stubs) ∙ there)))),
    )
