use Rattle.file_store.proofs.Names.{◌≡◌, ◌-◌, ℕ, List, sym, ◌∙◌, subst, arith, length-set, take_all, AllByRecursion, CatalogFile, IsBody}
use Rattle.file_store.proofs.Names.{blocks_in_image, body_at, bytes_at, bytes_with, size-few}
use Rattle.file_store.proofs.Loaded.{reads_on, next-file, each-more, listed-count, stub-starts, offline-holes}
use Rattle.file_store.proofs.FilesBy.{held-same}
use Rattle.file_store.proofs.loading.load_bodies.Goals as goal

pub slot-requires : goal.slot-requires
slot-requires g c = (next-file c.args.catalog.now c.loop-index.index _ c.geometry-geometry.ensures.valid (sym (rw c.unwrap-size.ensures at c.file.ensures))).low

pub index_mut-requires : goal.index_mut-requires
index_mut-requires g c =
    let is = next-file c.args.catalog.now c.loop-index.index _ c.geometry-geometry.ensures.valid (sym (rw c.unwrap-size.ensures at c.file.ensures)) in
    omega (arith, c.loop-index.invariant.count, c.slot.ensures)

pub load_body-requires-clause-size : goal.load_body-requires-clause-size
load_body-requires-clause-size g c =
    let is = next-file c.args.catalog.now c.loop-index.index _ c.geometry-geometry.ensures.valid (sym (rw c.unwrap-size.ensures at c.file.ensures)) in
    size-few c.args.catalog.now.geometry _ is.lawful

pub load_body-requires-clause-starts : goal.load_body-requires-clause-starts
load_body-requires-clause-starts g c =
    let is = next-file c.args.catalog.now c.loop-index.index _ c.geometry-geometry.ensures.valid (sym (rw c.unwrap-size.ensures at c.file.ensures)) in
    rw c.stubs.ensures (stub-starts _ _ is.lawful)

pub load_body-requires-clause-away : goal.load_body-requires-clause-away
load_body-requires-clause-away g c =
    let is = next-file c.args.catalog.now c.loop-index.index _ c.geometry-geometry.ensures.valid (sym (rw c.unwrap-size.ensures at c.file.ensures)) in
    rw (c.stubs.ensures, c.places-places.ensures) (offline-holes _ _ is.lawful)

pub loop-index-preserved : goal.loop-index-preserved
loop-index-preserved g c =
    let catalog = c.args.catalog.now in
    let so_far = c.loop-index.invariant in
    let bodies = c.loop-index.bodies.items in
    let body = c.in_ok-bodies.field-0 in
    let is = next-file catalog c.loop-index.index _ c.geometry-geometry.ensures.valid (sym (rw c.unwrap-size.ensures at c.file.ensures)) in
    rw c.slot.ensures record {
      reads = reads_on g.D.Disk _ _ _ so_far.reads c.in_ok-bodies.ensures.reads;
      quiet = c.in_ok-bodies.ensures.faults.quiet (λ is. cc) ∙ so_far.quiet;
      count = length-set bodies (c.unwrap-size.result.0.ino - 1) body ∙ so_far.count;
      sizes = each-more (λ f b. IsBody b f) catalog c.loop-index.index _ bodies body is so_far.count (record { size = c.in_ok-bodies.ensures.size; here = rw c.stubs.ensures at c.in_ok-bodies.ensures.here }) so_far.sizes;
      loaded = λ d gives. each-more (λ f b. b.bytes ≡ bytes_at (blocks_in_image catalog.geometry d) f) catalog c.loop-index.index _ bodies body is so_far.count
          (subst (λ (n : ℕ). body.bytes ≡ body_at (blocks_in_image n d) c.unwrap-size.result.2 c.unwrap-size.result.3.now.places) c.geometry-geometry.ensures.geometry (rw c.places-places.ensures at (c.in_ok-bodies.ensures.loaded d (so_far.reads.1.1 d gives))))
          (so_far.loaded d gives);
    }

pub returns-clause-loaded : goal.returns-clause-loaded
returns-clause-loaded g c = λ d gives.
    let catalog = c.args.catalog.now in
    let blocks = blocks_in_image catalog.geometry d in
    let bodies = c.loop-index.bodies.items in
    let all = take_all c.loop-index.index catalog.files (omega (arith, listed-count _ _ catalog _ c.names.ensures c.len-index-end.ensures.len)) in
    held-same (bytes_at blocks) (bytes_with bodies) catalog (subst (λ (fs : List CatalogFile). AllByRecursion (λ f. bytes_with bodies f ≡ bytes_at blocks f) fs) all (c.loop-index.invariant.loaded d gives))
