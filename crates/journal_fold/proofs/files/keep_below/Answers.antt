use Rattle.std.proofs.Common.{◌∙◌, ap, map, rules}
use Rattle.std.proofs.lemmas.Fn.{filter_same}
use Rattle.journal_fold.specs.FoldedFiles.{mapping_of}
use Rattle.journal_fold.proofs.WideExtents.{below}
use Rattle.journal_fold.proofs.files.keep_below.Goals as goal

pub returns : goal.returns
returns c = ap (map mapping_of) (filter_same _ _ _ (λ x b f' k. search rules) _ _ c.retain.ensures.filtered) ∙ below c.args.extents.now.items c.args.count
