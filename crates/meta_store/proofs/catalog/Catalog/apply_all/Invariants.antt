use Rattle.std.proofs.Common.{◌≡◌, length}
use Rattle.std.specs.Vec.Iter.{into_iter_items, into_iter_len}
use Rattle.meta_store.proofs.AppliedRecords.{IsTaking}
use Rattle.meta_store.proofs.catalog.Catalog.apply_all.Given as goal

abbrev pub invariant-loop-record : goal.invariant-loop-record
invariant-loop-record l = record {
  left : into_iter_len l.record-iterator ≡ length (into_iter_items l.record-iterator);
  taking : IsTaking l.fn.records l.fn.self (into_iter_items l.record-iterator) l.self;
}
