use Rattle.std.proofs.Common.{◌∙◌, ap, arith}
use Rattle.std.specs.Prelude.{Err}
use Rattle.disk_model.proofs.Steps.{sames_on}
use Rattle.snapshot_text.specs.declared.snapshot.ReadRefusal.{ReadRefusal}
use Rattle.meta_store.proofs.OpenedImages.{err_on, place_is, gate_fits, snapshot_corrupt, gate_corrupt, image_found}
use Rattle.meta_store.proofs.store.MetaStore.inspect.Goals as goal

pub returns-in-Err-clause-not_store : goal.returns-in-Err-clause-not_store
returns-in-Err-clause-not_store g c = λ is. c.in-Err.ensures.not_store (err_on is)

pub returns-in-Err-Corrupt-clause-corrupt : goal.returns-in-Err-Corrupt-clause-corrupt
returns-in-Err-Corrupt-clause-corrupt g c = λ place is image given.
    snapshot_corrupt (record { store = c.in-Ok.ensures.found image given; select = c.in-Ok.ensures.selected image given; holds = c.deref.ensures.value ∙ c.in-Ok.ensures.image image given }) place
    (rw (← place_is _ _ is) c.selected-snapshot.ensures.snapshot) (c.in-Err-Corrupt.ensures.corrupt (ap (λ (e : ReadRefusal). Err e) c.in-Err-Corrupt.field-0-is))

pub is_closed-requires : goal.is_closed-requires
is_closed-requires g c = omega (arith, gate_fits c.in-Ok.loaded.geometry c.in-Ok.loaded.slots.slot, c.selected-snapshot.ensures.journal, c.load.ensures.keeps.moments.length, c.in-Ok.ensures.length)

pub returns-in-Ok-false-clause-corrupt : goal.returns-in-Ok-false-clause-corrupt
returns-in-Ok-false-clause-corrupt g c = λ place is image given.
    rw (← place_is _ _ is) (gate_corrupt (record { store = c.in-Ok.ensures.found image given; select = c.in-Ok.ensures.selected image given; holds = c.deref.ensures.value ∙ c.in-Ok.ensures.image image given })
    _ c.selected-snapshot.ensures.journal _ _ c.in-Ok-catalog_in.ensures.geometry c.in-Ok-catalog_in.ensures.found ((c.in-Ok-false.ensures.closed image (c.load.ensures.given.1 image given)).1 c.in-Ok-false.field-0-test))

pub returns-clause-found : goal.returns-clause-found
returns-clause-found g c = λ image given.
    rw c.of.ensures (image_found (record { store = c.in-Ok.ensures.found image given; select = c.in-Ok.ensures.selected image given; holds = c.deref.ensures.value ∙ c.in-Ok.ensures.image image given })
    _ c.selected-snapshot.ensures.journal _ _ c.in-Ok-catalog_in.ensures.geometry c.in-Ok-catalog_in.ensures.found ((c.in-Ok-true.ensures.closed image (c.load.ensures.given.1 image given)).0 c.in-Ok-true.field-0-test))

pub returns-in-Ok-false-clause-keeps : goal.returns-in-Ok-false-clause-keeps
returns-in-Ok-false-clause-keeps g c = sames_on g.D.Disk _ _ _ c.load.ensures.keeps c.is_closed.ensures.keeps

pub returns-in-Ok-false-clause-given : goal.returns-in-Ok-false-clause-given
returns-in-Ok-false-clause-given g c = (λ d gives. c.load.ensures.given.0 d (c.is_closed.ensures.given.0 d gives), λ d gives. c.is_closed.ensures.given.1 d (c.load.ensures.given.1 d gives))

pub returns-in-Err-is_closed-clause-keeps : goal.returns-in-Err-is_closed-clause-keeps
returns-in-Err-is_closed-clause-keeps g c = sames_on g.D.Disk _ _ _ c.load.ensures.keeps c.is_closed.ensures.keeps

pub returns-in-Err-is_closed-clause-given : goal.returns-in-Err-is_closed-clause-given
returns-in-Err-is_closed-clause-given g c = (λ d gives. c.load.ensures.given.0 d (c.is_closed.ensures.given.0 d gives), λ d gives. c.is_closed.ensures.given.1 d (c.load.ensures.given.1 d gives))

pub returns-clause-keeps : goal.returns-clause-keeps
returns-clause-keeps g c = sames_on g.D.Disk _ _ _ c.load.ensures.keeps c.is_closed.ensures.keeps

pub returns-clause-given : goal.returns-clause-given
returns-clause-given g c = (λ d gives. c.load.ensures.given.0 d (c.is_closed.ensures.given.0 d gives), λ d gives. c.is_closed.ensures.given.1 d (c.load.ensures.given.1 d gives))
