use Rattle.std.proofs.Common.{◌≡◌, ℕ}
use Rattle.std.specs.Prelude.{Result, Ok, Err, OnOk}
use Rattle.journal_records.specs.declared.records.Record.TheVariants.{Stub}
use Rattle.meta_store.specs.Batches.{file_changed}
use Rattle.journal_fold.proofs.files.FoldedFile.change.Goals as goal

-- what holds of each number holds of one
of_one : {T E : Type 0} (P : ℕ → Type 0) (n : ℕ) (r : Result T E) → OnOk r ((m : ℕ) → P m) → OnOk r (P n)
of_one P n (Ok x) each = each n
of_one P n (Err e) each = tt

pub returns-in-Stub : goal.returns-in-Stub
returns-in-Stub c = rw c.in-Stub.is (of_one (λ ino. c.set_stub.new.self ≡ file_changed (Stub ino c.in-Stub.segment c.in-Stub.stub) c.args.self.now) c.in-Stub.ino c.set_stub.result c.set_stub.ensures)
