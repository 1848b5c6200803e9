use Rattle.file_store.proofs.Names.{ℕ, refl, ◌∙◌, subst, geometry_of, held_with, IsLawful}
use Rattle.file_store.proofs.Durable.{opened_sound}
use Rattle.file_store.proofs.ShownFiles.{lawful_with}
use Rattle.file_store.proofs.store.FileStore.open.Goals as goal

pub invariant_of-result : goal.invariant_of-result
invariant_of-result g c =
    let is = c.in-Ok.ensures in
    (is.bodies, opened_sound g.D.Disk _ is.lawful is.backs is.same (rw (c.of.ensures, is.same) refl) (λ image may. is.holds image may) is.space)

pub returns-in-Ok-clause-durable : goal.returns-in-Ok-clause-durable
returns-in-Ok-clause-durable g c = λ image may. record {
  catalog = c.in-Ok.meta.durable;
  same = refl;
  is = record { place = _; holds = c.in-Ok.ensures.backs.image image may };
  holds = c.in-Ok.ensures.holds image may ∙ rw (c.of.ensures, c.in-Ok.ensures.same) refl;
}

pub returns-in-Ok-clause-lawful : goal.returns-in-Ok-clause-lawful
returns-in-Ok-clause-lawful g c =
    let bodies = c.in-Ok.bodies.items in
    let m = c.in-Ok.meta in
    subst (λ (z : ℕ). IsLawful (geometry_of z).files (held_with bodies m.current)) c.in-Ok.ensures.lawful.stored.geometry (lawful_with bodies m c.in-Ok.ensures.bodies c.in-Ok.ensures.lawful)
