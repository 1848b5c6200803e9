use Rattle.journal_fold.proofs.OneStore.{without_batches}
use Rattle.journal_fold.proofs.laws.image_without_batches.Goals as goal

pub returns : goal.returns
returns c = λ fsid place n c image. without_batches image fsid place n c
