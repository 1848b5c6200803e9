use Rattle.file_store.proofs.Names.{◌≡◌, ◌<◌, ℕ, List, length, refl, ◌∙◌, ap, subst, arith, take_all, Option, Same, idle, layout_of, geometry_of}
use Rattle.file_store.proofs.Names.{blocks_in_image, length-replicate}
use Rattle.file_store.proofs.Beside.{length-block}
use Rattle.file_store.proofs.ByBlocks.{HasBytes}
use Rattle.file_store.proofs.Loaded.{reads_on, present-at, no_bytes, hole-more, block-more, all-filled}
use Rattle.file_store.proofs.loading.load_body.Goals.{in-Some+in-Ok-fill, in_default-place}
use Rattle.file_store.proofs.loading.load_body.Goals as goal

pub fill-requires-clause-place : goal.fill-requires-clause-place
fill-requires-clause-place g c = present-at (λ p. p < (geometry_of c.args.geometry).blocks) c.args.places.now c.loop-place.place-index c.in-Some.place c.requires.within c.in-Some.is

pub loop-place-init : goal.loop-place-init
loop-place-init g c = record {
  start = refl;
  reads = (idle g.D.Disk _ Same (λ d. refl) (g.met.D.Disk.only_now c.args.disk.now), (λ d gives. gives, λ d gives. gives));
  quiet = refl;
  size = ap length c.in-Ok.ensures.bytes ∙ length-replicate c.args.size 0;
  here = c.in-Ok.ensures.here;
  loaded = λ d gives. rw c.in-Ok.ensures.bytes (no_bytes (blocks_in_image c.args.geometry d) c.args.size);
}

pub loop-place-preserved : goal.loop-place-preserved
loop-place-preserved g c =
    let so_far = c.loop-place.invariant in
    let begins = so_far.start in
    let i = c.loop-place.place-index in
    let places = c.args.places.now in
    elim c.match-place.branch [
      | in-Some+in-Ok-fill w ↦ rw (w.disk-is, w.body-is) record {
        start = omega arith;
        reads = reads_on g.D.Disk _ _ _ so_far.reads w.fill.ensures.reads;
        quiet = w.in-Ok-fill.ensures.cause.quiet refl ∙ so_far.quiet;
        size = w.fill.ensures.size ∙ so_far.size;
        here = λ j. w.fill.ensures.same j ∙ so_far.here j;
        loaded = λ d gives.
            let within = present-at (λ p. p < (geometry_of c.args.geometry).blocks) places i w.in-Some.place c.requires.within w.in-Some.is in
            let whole : length d ≡ (layout_of c.args.geometry).whole = g.met.D.Disk.given_length c.args.disk.now d gives ∙ c.requires.whole in
            block-more (blocks_in_image c.args.geometry d) c.args.size places i w.in-Some.place c.loop-place.start _ _ c.loop-place-test.true w.in-Some.is (length-block c.args.geometry d w.in-Some.place within whole) begins so_far.size
            (omega (arith, c.requires.count, c.loop-place-test.true)) (w.in-Ok-fill.ensures.filled d (so_far.reads.1.1 d gives)) (so_far.loaded d gives);
      }
      | in_default-place w ↦ rw (w.disk-is, w.body-is) record {
        start = omega arith;
        reads = so_far.reads;
        quiet = so_far.quiet;
        size = so_far.size;
        here = so_far.here;
        loaded = λ d gives. hole-more (blocks_in_image c.args.geometry d) c.args.size places i _ c.loop-place-test.true w.in_default-place.is (so_far.loaded d gives);
      }
    ]

pub returns-clause-loaded : goal.returns-clause-loaded
returns-clause-loaded g c = λ d gives.
    let so_far = c.loop-place.invariant in
    let all = take_all c.loop-place.place-index c.args.places.now c.loop-place-test.false in
    all-filled c.args.geometry c.args.size d c.args.places.now _ (g.met.D.Disk.given_length c.args.disk.now d gives ∙ c.requires.whole) c.requires.within c.requires.count so_far.size
    (subst (λ (ps : List (Option ℕ)). HasBytes (blocks_in_image c.args.geometry d) c.args.size ps c.loop-place.body.bytes) all (so_far.loaded d gives))
