use Rattle.file_store.proofs.Names.{refl}
use Rattle.meta_store.specs.Laws.{no_files}
use Rattle.meta_store.proofs.FormattedStores.{formatted-image}
use Rattle.file_store.specs.Bodies.{held_by}
use Rattle.file_store.proofs.laws.formatted_is_empty.Goals as goal

pub returns : goal.returns
unfolding held_by
returns c = λ geometry fsid image empty. record { catalog = no_files geometry; same = refl; is = formatted-image geometry fsid image empty; holds = refl }
