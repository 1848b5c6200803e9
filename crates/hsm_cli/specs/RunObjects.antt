-- What the objects of a run tell of it: before, and at its end.
use Rattle.std.specs.Prelude.{ℕ, ◌≡◌, ◌⊎◌, List, Option}
use Rattle.disk_model.specs.Calls.{RoseByOne}

-- it has failed in one call at most
abbrev pub FailsOnce : ℕ → ℕ → Type 0
FailsOnce before now = (now ≡ before) ⊎ RoseByOne before now

-- the bytes that the source has left, and its counts of faults
pub record SourceTold : Type 0 where
  pub given : Option (List ℕ)
  pub left : Option (List ℕ)
  pub before : ℕ
  pub now : ℕ

abbrev pub source_told : {I : Type 0} → (I → Option (List ℕ)) → (I → ℕ) → I → I → SourceTold
source_told left faults old new = record { given = left old; left = left new; before = faults old; now = faults new }

-- the bytes that the sink has taken
pub record SinkTold : Type 0 where
  pub old : Option (List ℕ)
  pub new : Option (List ℕ)
  pub before : ℕ
  pub now : ℕ

abbrev pub sink_told : {O : Type 0} → (O → Option (List ℕ)) → (O → ℕ) → O → O → SinkTold
sink_told taken faults old new = record { old = taken old; new = taken new; before = faults old; now = faults new }

pub record HostTold : Type 0 where
  pub before : ℕ
  pub now : ℕ

abbrev pub host_told : {H : Type 0} → (H → ℕ) → H → H → HostTold
host_told faults old new = record { before = faults old; now = faults new }
