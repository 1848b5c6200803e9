use Rattle.std.proofs.Common.{ℕ, List, inr, refl, subst}
use Rattle.commit_slots.specs.Images.{IsEmptyStore}
use Rattle.snapshot_text.specs.Files.{geometry_of}
use Rattle.plain_model.specs.State.{nothing_held}
use Rattle.file_store.specs.Stores.{IsRecovered}
use Rattle.hsm_cli.proofs.in_memory.new_store.Goals as goal

pub returns-in-Ok-open-clause-empty : goal.returns-in-Ok-open-clause-empty
unfolding geometry_of
returns-in-Ok-open-clause-empty c =
    let image : List ℕ = c.format.new.disk in
    let empty : IsRecovered 0 1 0 nothing_held image = c.formatted_is_empty.ensures 0 1 image (subst (λ (n : ℕ). IsEmptyStore n 1 image) c.geometry-2.ensures (c.in-Ok.ensures.formatted image (inr refl))) in
    let found : IsRecovered c.in-Ok-open.hsm.files.meta.durable.geometry c.in-Ok-open.hsm.files.meta.fsid c.in-Ok-open.hsm.files.meta.number c.in-Ok-open.hsm.files.durable image
    = c.in-Ok-open.ensures.durable image (inr (c.in-Ok-open.ensures.opening.1.1 image refl)) in
    let same = c.one_recovery.ensures image 0 1 0 nothing_held _ _ _ _ empty found in
    rw (c.in-Ok-open.ensures.opened.0, same.0, same.1, c.in-Ok-open.ensures.found.0, same.3) (refl, refl, same.2)
