use Rattle.file_store.proofs.EventTexts.{few_alone, few_rewritten, few_punched, greatest_punched, few_fit}
use Rattle.file_store.proofs.laws.greatest_event.Goals as goal

pub returns : goal.returns
returns c = record {
  alone = few_alone;
  rewritten = few_rewritten;
  punched = few_punched;
  greatest = greatest_punched;
  fits = few_fit;
}
