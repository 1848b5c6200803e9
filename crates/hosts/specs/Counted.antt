-- A reader or a writer with a count of its faults.
use Rattle.std.specs.Prelude.{ℕ}

pub record Counted (A : Type 0) : Type 0 where
  pub inner : A
  pub faults : ℕ
