use Rattle.std.proofs.Common.{◌≡◌, drop}
use Rattle.journal_fold.specs.Open.{IsFold, fold_said}
use Rattle.journal_fold.proofs.GoingOn.{IsGoing}
use Rattle.journal_fold.proofs.fold.Fold.take_all.Given as goal

abbrev pub invariant-loop-batch : goal.invariant-loop-batch
invariant-loop-batch l = record {
  still : IsFold l.self;
  going : IsGoing l.fn.self.geometry (fold_said l.fn.self) l.batches (fold_said l.self) (drop l.batch-index l.batches);
  geometry : l.self.geometry ≡ l.fn.self.geometry;
}
