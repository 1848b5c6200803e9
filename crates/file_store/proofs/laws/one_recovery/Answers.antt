use Rattle.file_store.proofs.Names.{◌≡◌, refl, sym, ◌∙◌, ap, Catalog, blocks_in_image, held_at}
use Rattle.meta_store.proofs.FoundImages.{found-one}
use Rattle.file_store.proofs.laws.one_recovery.Goals as goal

pub returns : goal.returns
returns c = λ image geometry fsid n h geometry' fsid' n' h' found found'.
    let one = found-one image fsid n found.catalog fsid' n' found'.catalog found.is found'.is in
    let same : geometry' ≡ geometry = sym found'.same ∙ ap (λ (c : Catalog). c.geometry) one.2 ∙ found.same in
    let held : held_at (blocks_in_image geometry' image) found'.catalog ≡ held_at (blocks_in_image geometry image) found.catalog = rw (same, one.2) refl in
    (same, one.0, one.1, sym found'.holds ∙ held ∙ found.holds)
