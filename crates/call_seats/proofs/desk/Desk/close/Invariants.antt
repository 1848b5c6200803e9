use Rattle.std.proofs.Common.{◌≡◌, length}
use Rattle.std.specs.Prelude.{All}
use Rattle.std.specs.Vec.Iter.{into_iter_items, into_iter_len}
use Rattle.call_seats.proofs.Ending.{IsWhole, HaveTold}
use Rattle.call_seats.proofs.desk.Desk.close.Given as goal

abbrev pub invariant-loop-pass : goal.invariant-loop-pass
invariant-loop-pass l = record {
  left : into_iter_len l.pass-iterator ≡ length (into_iter_items l.pass-iterator);
  at : l.whole.table ≡ l.fn.self.table;
  same : All (λ q. q.table ≡ l.fn.self.table) (into_iter_items l.pass-iterator);
  whole : IsWhole l.fn.pen.pass l.whole;
  told : HaveTold l.fn.pen.pass l.fn.passes (into_iter_items l.pass-iterator);
}
