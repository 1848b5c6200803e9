use Rattle.file_store.proofs.Names.{ap, Err}
use Rattle.file_store.proofs.Loaded.{reads_on}
use Rattle.disk_model.specs.declared.refusal.OpenRefusal.{OpenRefusal}
use Rattle.file_store.proofs.opening.read_in.Goals as goal

pub returns-in-Err-clause-not_store : goal.returns-in-Err-clause-not_store
returns-in-Err-clause-not_store g c = λ is. c.in-Err.ensures.not_store (ap (λ (e : OpenRefusal). Err e) is)

pub returns-in-Err-clause-corrupt : goal.returns-in-Err-clause-corrupt
returns-in-Err-clause-corrupt g c = λ place is. c.in-Err.ensures.corrupt place (ap (λ (e : OpenRefusal). Err e) is)

pub returns-in-Err-read_files-clause-reads : goal.returns-in-Err-read_files-clause-reads
returns-in-Err-read_files-clause-reads g c = reads_on g.D.Disk _ _ _ (c.open.ensures.keeps, c.open.ensures.given) c.read_files.ensures.reads

pub returns-clause-reads : goal.returns-clause-reads
returns-clause-reads g c = reads_on g.D.Disk _ _ _ (c.open.ensures.keeps, c.open.ensures.given) c.read_files.ensures.reads
