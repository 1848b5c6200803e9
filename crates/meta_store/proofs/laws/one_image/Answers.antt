use Rattle.meta_store.proofs.FoundImages.{found-one}
use Rattle.meta_store.proofs.laws.one_image.Goals as goal

pub returns : goal.returns
returns c = found-one
