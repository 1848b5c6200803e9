use Rattle.std.proofs.Common.{◌∙◌}
use Rattle.journal_fold.proofs.PutEntries.{set_there, inserted}
use Rattle.journal_fold.proofs.entries.put_entry.Goals as goal

pub returns-then-is_under : goal.returns-then-is_under
returns-then-is_under g c =
    set_there g.K.Ord.cmp c.args.key c.args.value c.args.list.now.items c.as_slice.result.now c.as_slice-2.result.now c.place_for-place.result c.is_under.result
    c.as_slice.ensures.value c.as_slice-2.ensures.value c.place_for-place.ensures.place c.is_under.ensures c.index_mut.result.now c.if-is_under.true c.index_mut.ensures.value

pub returns-in_ok-insert : goal.returns-in_ok-insert
returns-in_ok-insert g c =
    c.in_ok-insert.ensures.items
    ∙ inserted g.K.Ord.cmp c.args.key c.args.value c.args.list.now.items c.as_slice.result.now c.as_slice-2.result.now c.place_for-place.result c.is_under.result
    c.as_slice.ensures.value c.as_slice-2.ensures.value c.place_for-place.ensures.place c.is_under.ensures c.if-is_under.false
