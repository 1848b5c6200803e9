use Rattle.file_store.proofs.Names.{arith, new_size, ◌≡◌, refl, ◌∙◌, ap, length, marked, layout_of, Layout, touched, effect_of, touched_of}
use Rattle.file_store.proofs.Names.{places_for, taken_are_free}
use Rattle.file_store.proofs.Beside.{blocks_low}
use Rattle.file_store.proofs.ByteChanges.{length-grown, changed-grown, grown-no_more}
use Rattle.file_store.proofs.StoreEvents.{places_within, undone}
use Rattle.file_store.proofs.events.stage.Given.{Over}
use Rattle.file_store.proofs.events.stage.Goals.{After-as_slice-places, After-of_geometry-base}
use Rattle.file_store.proofs.events.stage.Goals as goal

touched_is : (g : Over) (c : After-as_slice-places g) → c.touched-touched.result ≡ touched_of c.args.change c.args.body.now.bytes
touched_is g c = c.touched-touched.ensures ∙ ap (touched (effect_of c.args.change)) c.len-old.ensures.len

places_is : (g : Over) (c : After-as_slice-places g) → c.as_slice-places.result.now ≡ places_for c.args.change c.args.body.now.bytes c.args.space.now
places_is g c = c.as_slice-places.ensures.value ∙ rw (c.count.ensures, touched_is g c) at c.in_ok-blocks.ensures.taken

space_is : (g : Over) (c : After-as_slice-places g) → c.take.new.space ≡ record c.args.space.now { current = marked (places_for c.args.change c.args.body.now.bytes c.args.space.now) c.args.space.now.current }
space_is g c = rw (c.count.ensures, touched_is g c) at c.in_ok-blocks.ensures.marked

base_is : (g : Over) (c : After-of_geometry-base g) → c.of_geometry-base.result.blocks ≡ (layout_of c.args.catalog.now.geometry).blocks
base_is g c = ap (λ (l : Layout). l.blocks) c.of_geometry-base.ensures ∙ ap (λ z. (layout_of z).blocks) c.geometry.ensures.geometry

pub release_all-requires : goal.release_all-requires
release_all-requires g c = let at = (goal.at.release_all-requires g c).After-as_slice-places in rw (space_is g at, places_is g at) (places_within c.args.space.now (length (touched_of c.args.change c.args.body.now.bytes)))

pub returns-in_default-clause-memory : goal.returns-in_default-clause-memory
returns-in_default-clause-memory g c = λ is.
    let at = (goal.at.returns-in_default-clause-memory g c).After-as_slice-places in
    (c.release_all.ensures ∙ rw (space_is g at, places_is g at, undone c.args.space.now (length (touched_of c.args.change c.args.body.now.bytes))) refl, refl)

pub put_blocks-requires-clause-grows : goal.put_blocks-requires-clause-grows
put_blocks-requires-clause-grows g c = λ some.
    let touched = touched_is g (goal.at.put_blocks-requires-clause-grows g c).After-as_slice-places in
    rw c.in-Ok.ensures.room.bytes (grown-no_more c.args.change c.args.body.now.bytes (rw touched at some))

pub put_blocks-requires-clause-low : goal.put_blocks-requires-clause-low
put_blocks-requires-clause-low g c = rw (base_is g (goal.at.put_blocks-requires-clause-low g c).After-of_geometry-base) (blocks_low c.args.catalog.now.geometry)

pub put_blocks-requires-clause-fits : goal.put_blocks-requires-clause-fits
put_blocks-requires-clause-fits g c = let at = goal.at.put_blocks-requires-clause-fits g c in rw (base_is g at.After-of_geometry-base, places_is g at.After-as_slice-places) c.requires.fits

pub put_blocks-requires-clause-apart : goal.put_blocks-requires-clause-apart
put_blocks-requires-clause-apart g c = rw (places_is g (goal.at.put_blocks-requires-clause-apart g c).After-as_slice-places) (taken_are_free c.args.space.now _).once

pub undo-requires : goal.undo-requires
undo-requires g c =
    let size = new_size c.args.change c.args.body.now.bytes in
    record {
      lawful = c.requires.lawful;
      file = c.len-old.ensures.limit;
      size = rw (c.in-Ok.ensures.room.bytes, c.len-old.ensures.len) (omega (arith, length-grown size c.args.body.now.bytes));
      within = rw c.len-old.ensures.len c.requires.within;
    }

pub returns-clause-staged : goal.returns-clause-staged
returns-clause-staged g c =
    let at = (goal.at.returns-clause-staged g c).After-as_slice-places in
    let base = base_is g (goal.at.returns-clause-staged g c).After-of_geometry-base in
    record {
      rewriting = λ f found. rw (touched_is g at, places_is g at) at c.in-Ok.ensures.records f found;
      frees = rw (touched_is g at) at c.in-Ok.ensures.freed;
      written = rw (base, touched_is g at, places_is g at, c.in-Ok.ensures.room.bytes, changed-grown c.args.change c.args.body.now.bytes) at c.in-Ok-put_blocks.ensures.written;
    }
