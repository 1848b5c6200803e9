use Rattle.std.proofs.Common.{ap}
use Rattle.plain_model.specs.Seen.{blanked}
use Rattle.seen_history.proofs.laws.seen_where_told.Goals as goal

pub returns : goal.returns
returns c = λ held seen. (λ is. is.told tt, λ same. record { alike = ap blanked same; told = λ told. same })
