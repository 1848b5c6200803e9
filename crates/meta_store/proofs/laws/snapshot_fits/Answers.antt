use Rattle.meta_store.proofs.SnapshotFits.{snapshot-short}
use Rattle.meta_store.proofs.laws.snapshot_fits.Goals as goal

pub returns : goal.returns
returns c = snapshot-short
