use Rattle.std.proofs.Common.{◌≡◌, ◌+◌, ◌*◌, ◌∙◌, ◌||◌, ap, map, rules, refl}
use Rattle.std.specs.Prelude.{nat_lt, nat_le}
use Rattle.std.proofs.lemmas.Fn.{filter_same}
use Rattle.hsm_types.specs.Limits.{segment_blocks}
use Rattle.journal_fold.specs.FoldedFiles.{mapping_of}
use Rattle.journal_fold.proofs.WideExtents.{outside_segment}
use Rattle.journal_fold.proofs.files.drop_segment.Goals as goal

pub returns : goal.returns
returns c =
    let low = c.from-blocks.result * c.from.result in
    let high = low + c.from-blocks.result in
    let from : low ≡ segment_blocks * c.args.segment = rw (c.from-blocks.ensures, c.from.ensures) refl in
    let to : high ≡ segment_blocks * c.args.segment + segment_blocks = rw (c.from-blocks.ensures, c.from.ensures) refl in
    ap (map mapping_of) (filter_same _ (λ e. nat_lt e.0 low || nat_le high e.0) _ (λ x b f' k. search rules) _ _ c.retain.ensures.filtered) ∙ outside_segment c.args.extents.now.items low high c.args.segment from to
