use Rattle.std.proofs.Common.{◌∙◌, arith}
use Rattle.std.specs.Ordering.{is_eq}
use Rattle.journal_fold.proofs.PutEntries.{removed, none_removed}
use Rattle.journal_fold.proofs.entries.drop_entry.Goals as goal

pub returns-then-place-len : goal.returns-then-place-len
returns-then-place-len g c =
    c.remove-entry.ensures.items ∙ removed (λ k. is_eq (g.K.Ord.cmp c.args.key k)) c.args.list.now.items c.as_slice.result.now c.count_before-place.result c.as_slice.ensures.value c.count_before-place.ensures.place (omega arith)

pub returns-else-place-len : goal.returns-else-place-len
returns-else-place-len g c =
    none_removed (λ k. is_eq (g.K.Ord.cmp c.args.key k)) c.args.list.now.items c.as_slice.result.now c.count_before-place.result c.as_slice.ensures.value c.count_before-place.ensures.place (omega arith)
