use Rattle.journal_records.specs.Texts.{region_bytes}
use Rattle.snapshot_text.proofs.WrittenParts.{each-written}
use Rattle.snapshot_text.proofs.writing.put_regions.Goals as goal

pub loop-region-preserved : goal.loop-region-preserved
loop-region-preserved c =
    rw (c.in_ok-extend_from_slice.ensures.items, c.spell_region.ensures.bytes, each-written region_bytes c.loop-region.out.items c.args.regions.now c.loop-region.region-index _ c.loop-region-test.true) c.loop-region.invariant
