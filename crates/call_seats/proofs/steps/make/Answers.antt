use Rattle.call_seats.proofs.Keeping.{begins}
use Rattle.call_seats.proofs.steps.make.Goals as goal

pub of_words-requires : goal.of_words-requires
of_words-requires c = begins
