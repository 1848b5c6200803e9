use Rattle.meta_store.specs.Snapshots.{snapshot_of}
use Rattle.meta_store.proofs.OpenedImages.{err_on}
use Rattle.meta_store.proofs.opening.catalog_in.Goals as goal

pub returns-in-Err-clause-corrupt : goal.returns-in-Err-clause-corrupt
returns-in-Err-clause-corrupt c = λ is n x same spelled. c.in-Err.ensures.refused (err_on is) (snapshot_of n x) spelled.spelled

pub returns-in-Err-catalog_of-clause-corrupt : goal.returns-in-Err-catalog_of-clause-corrupt
returns-in-Err-catalog_of-clause-corrupt c = λ is n x same spelled. c.in-Err-catalog_of.ensures.corrupt (err_on is) n x same spelled.number spelled.catalog spelled.lengths (c.in-Ok.ensures.only (snapshot_of n x) spelled.spelled)
