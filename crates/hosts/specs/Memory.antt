-- What a source and a sink in memory show.
use Rattle.std.specs.Prelude.{ℕ, List}

pub record SourceState : Type 0 where
  pub left : List ℕ
  pub faults : ℕ

pub record SinkState : Type 0 where
  pub taken : List ℕ
  pub faults : ℕ
