-- Counts of faults that rise.
use Rattle.std.proofs.Common.{◌≡◌, ℕ, ap, ◌∙◌, arith}
use Rattle.disk_model.specs.Calls.{Rose, raised}

-- one fault more is a rise
pub rises_by_one : (before after : ℕ) → after ≡ raised before → Rose before after
rises_by_one before after is = omega (arith, is)

-- one more than a count that was left as it was
pub raised_since : (begun old new : ℕ) → old ≡ begun → new ≡ raised old → new ≡ raised begun
raised_since begun old new same is = is ∙ ap raised same
