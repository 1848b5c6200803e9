use Rattle.plain_model.proofs.Syncing.{synced_laws}
use Rattle.plain_model.proofs.laws.synced_grows.Goals as goal

pub returns : goal.returns
returns c = synced_laws
