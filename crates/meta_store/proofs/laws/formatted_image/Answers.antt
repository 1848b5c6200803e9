use Rattle.meta_store.proofs.FormattedStores.{formatted-image}
use Rattle.meta_store.proofs.laws.formatted_image.Goals as goal

pub returns : goal.returns
returns c = formatted-image
