use Rattle.std.proofs.Common.{◌≡◌, [], ◌∷◌, refl, arith, length-append}
use Rattle.event_text.specs.Render.{region_word}
use Rattle.script_text.specs.Reading.{parts}
use Rattle.script_text.proofs.RegionParts.{read_first, read_more, read_last, read_other, read_many}
use Rattle.script_text.proofs.regions.some_regions.Goals as goal

pub loop-init : goal.loop-init
loop-init c = record { read = rw c.new-regions.ensures.items (read_first c.args.word.now); count = rw c.new-regions.ensures.items refl }

pub returns-in_default : goal.returns-in_default
returns-in_default c xs h same =
    read_other c.args.word.now c.loop.rest.now c.first_part.result.0.now _ c.loop.regions.items xs c.loop.invariant.read c.first_part.ensures c.in_default.ensures h same

pub returns-in-None : goal.returns-in-None
returns-in-None c =
    let first : parts c.loop.rest.now ≡ region_word c.in-Some.region ∷ [] = rw (c.in-None.is, c.in-Some.ensures.1) at c.first_part.ensures in
    rw (c.from.ensures, c.in_ok-push.ensures.items)
    (read_last c.args.word.now c.loop.rest.now c.loop.regions.items c.in-Some.region c.loop.invariant.read first c.in-Some.ensures.0 (omega arith))

pub loop-preserved : goal.loop-preserved
loop-preserved c =
    let first : parts c.loop.rest.now ≡ region_word c.in-Some.region ∷ parts c.in-Some-more.more.now = rw (c.in-Some-more.is, c.in-Some.ensures.1) at c.first_part.ensures in
    record {
      read = rw c.in_ok-push.ensures.items
          (read_more c.args.word.now c.loop.rest.now c.in-Some-more.more.now c.loop.regions.items c.in-Some.region c.loop.invariant.read first c.in-Some.ensures.0);
      count = rw c.in_ok-push.ensures.items (omega (arith, length-append c.loop.regions.items (c.in-Some.region ∷ []), c.loop.invariant.count));
    }

pub returns : goal.returns
returns c xs h same = read_many c.args.word.now c.loop.rest.now c.loop.regions.items xs c.loop.invariant.read (omega arith) h same
