use Rattle.std.proofs.Common.{ℕ, List, ◌∙◌, sym, ap, subst, length, arith, length-append, take, get_or}
use Rattle.std.specs.List.{flat_map}
use Rattle.hsm_types.specs.declared.regions.Region.{Region}
use Rattle.journal_records.specs.Texts.{region_bytes, RegionFits}
use Rattle.journal_records.specs.Places.{Puts}
use Rattle.journal_records.proofs.WrittenTexts.{puts_both, more_text, within_text, all_more}
use Rattle.journal_records.proofs.spelling.put_regions.Goals as goal

abbrev any : Region
any = record { offset = 0; size = 0; flags = 0 }

pub put-end-requires : goal.put-end-requires
put-end-requires c =
    let room = within_text region_bytes c.args.regions.now c.loop-region.region-index any c.loop-region-test.true in
    omega (arith, c.loop-region.invariant.end, c.loop-region.invariant.len, c.requires, room, ap length c.spell_region.ensures.bytes)

pub loop-region-preserved : goal.loop-region-preserved
loop-region-preserved c =
    let xs : List Region = c.args.regions.now in
    let i : ℕ = c.loop-region.region-index in
    let text : List ℕ = region_bytes (get_or xs i any) in
    let more = more_text region_bytes xs i any c.loop-region-test.true in
    let room = within_text region_bytes xs i any c.loop-region-test.true in
    let puts : Puts c.loop-region.end text c.loop-region.out c.put-end.new.out = subst (λ (t : List ℕ). Puts c.loop-region.end t c.loop-region.out c.put-end.new.out) c.spell_region.ensures.bytes c.put-end.ensures.puts in
    record {
      end = omega (arith, c.put-end.ensures.end, ap length c.spell_region.ensures.bytes, c.loop-region.invariant.end, ap length more, length-append (flat_map region_bytes (take i xs)) text);
      puts = subst (λ (t : List ℕ). Puts c.args.at t c.args.out.now c.put-end.new.out) (sym more)
          (puts_both c.args.at c.loop-region.end (flat_map region_bytes (take i xs)) text c.args.out.now _ _ c.loop-region.invariant.end (omega (arith, c.loop-region.invariant.end, c.requires, room)) c.loop-region.invariant.puts puts);
      len = c.put-end.ensures.len ∙ c.loop-region.invariant.len;
      fits = all_more RegionFits xs i any c.loop-region-test.true c.spell_region.ensures.fits c.loop-region.invariant.fits;
    }
