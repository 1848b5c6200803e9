use Rattle.std.proofs.Common.{◌≡◌, vec_len}
use Rattle.journal_fold.specs.Open.{IsOpen}
use Rattle.journal_fold.proofs.fold.Fold.settle.Given as goal

abbrev pub invariant-loop-ino : goal.invariant-loop-ino
invariant-loop-ino l = record {
  still : IsOpen l.self.geometry l.self.store l.self.uses l.touched.items;
  store : l.self.store ≡ l.fn.self.store;
  geometry : l.self.geometry ≡ l.fn.self.geometry;
}

abbrev pub decreases-loop-ino : goal.decreases-loop-ino
decreases-loop-ino l = vec_len l.touched
