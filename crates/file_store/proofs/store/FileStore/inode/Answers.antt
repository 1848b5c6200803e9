use Rattle.file_store.proofs.Names.{refl, sym, ◌∙◌, ap, FileKey, bytes_with, geometry_of, kept_at, key_on}
use Rattle.meta_store.specs.Records.{others_of}
use Rattle.snapshot_text.specs.FileRecords.{part_refusal}
use Rattle.file_store.proofs.FilesBy.{kept-held, others-held, stubs-others, key_on-live}
use Rattle.file_store.proofs.WithBodies.{live-held}
use Rattle.file_store.proofs.store.FileStore.inode.Goals as goal

pub returns : goal.returns
returns g c =
    let bs = c.self.inside.bodies.items in
    let now = c.self.inside.meta.current in
    let live = live-held c.self.invariant.0 c.args.key (rw (← c.self.view_is) at c.requires) in
    let key = key_on-live now c.args.key live.file c.self.invariant.0.catalog live.found in
    let kept = kept-held (bytes_with bs) now c.args.key in
    let others = others-held (bytes_with bs) now c.args.key live.file live.found in
    let stubs = stubs-others (bytes_with bs) now c.args.key live.file live.found in
    rw (← c.self.view_is) record {
      inode = refl;
      key = key;
      stands = (live.file, rw key live.found, tt);
      kept = kept;
      refusal = λ r is.
          ap (λ (k : FileKey). part_refusal r (others_of k now) (geometry_of now.geometry) (kept_at k now)) (ap (λ ino. key_on ino now) is ∙ key)
          ∙ (λ i. part_refusal r (record { attributes = sym others i; stubs = sym stubs i }) (geometry_of (c.self.invariant.1.meta.stored.geometry i)) (sym kept i));
    }
