use Rattle.std.proofs.Common.{◌≡◌, length}
use Rattle.std.specs.Vec.Iter.{into_iter_items, into_iter_len}
use Rattle.journal_fold.specs.FoldedStores.{store_said}
use Rattle.journal_fold.specs.Open.{IsOpen}
use Rattle.journal_fold.proofs.OpenStores.{IsTaking}
use Rattle.journal_fold.proofs.fold.Fold.take_records.Given as goal

abbrev pub invariant-loop-record : goal.invariant-loop-record
invariant-loop-record l = record {
  left : into_iter_len l.record-iterator ≡ length (into_iter_items l.record-iterator);
  still : IsOpen l.self.geometry l.self.store l.self.uses l.touched.items;
  taking : IsTaking l.fn.records (into_iter_items l.record-iterator) (store_said l.fn.self.store) (store_said l.self.store);
  geometry : l.self.geometry ≡ l.fn.self.geometry;
}
