use Rattle.std.proofs.Common.{ℕ, List, ◌++◌, ◌<◌, ◌^◌, length, length-append, subst, arith}
use Rattle.std.specs.List.{flat_map, AllByRecursion}
use Rattle.byteorder.specs.Endian.{big_bytes}
use Rattle.hsm_types.specs.declared.regions.Region.{Region}
use Rattle.journal_records.specs.Texts.{sized_bytes, counted_bytes, region_bytes, stub_bytes, RegionFits}
use Rattle.journal_records.specs.Places.{Puts}
use Rattle.journal_records.proofs.WrittenTexts.{puts_both}
use Rattle.journal_records.proofs.spelling.put_fields.Goals as goal

pub returns-in-Make-clause-puts : goal.returns-in-Make-clause-puts
returns-in-Make-clause-puts c =
    let room = rw c.in-Make.is at c.requires.room in
    let igen : List ℕ = big_bytes 8 c.in-Make.key.igen in
    rw c.in-Make.is (subst (λ (n : List ℕ). Puts c.args.at (igen ++ sized_bytes 1 n) c.args.out.now c.put_name.new.out) c.as_slice.ensures
    (puts_both c.args.at c.put_u64-at.result igen (sized_bytes 1 c.as_slice.result.now) c.args.out.now _ _ c.put_u64-at.ensures.end (omega (arith, c.put_u64-at.ensures.end, room)) c.put_u64-at.ensures.puts c.put_name.ensures.puts))

pub returns-in-Map-clause-puts : goal.returns-in-Map-clause-puts
returns-in-Map-clause-puts c =
    let room = rw c.in-Map.is at c.requires.room in
    let places : List ℕ = c.as_slice-places.result.now in
    let block : List ℕ = big_bytes 4 c.in-Map.block in
    let count : List ℕ = big_bytes 1 (length places) in
    rw c.in-Map.is (subst (λ (ps : List ℕ). Puts c.args.at (big_bytes 4 c.in-Map.block ++ counted_bytes 1 (big_bytes 4) ps) c.args.out.now c.put_places.new.out) c.as_slice-places.ensures
    (puts_both c.args.at c.put_u8-at.result (block ++ count) (flat_map (big_bytes 4) places) c.args.out.now _ _ (omega (arith, c.put_u32-at.ensures.end, c.put_u8-at.ensures.end)) (omega (arith, c.put_u32-at.ensures.end, c.put_u8-at.ensures.end, room))
    (puts_both c.args.at c.put_u32-at.result block count c.args.out.now _ _ c.put_u32-at.ensures.end (omega (arith, c.put_u32-at.ensures.end, room)) c.put_u32-at.ensures.puts c.put_u8-at.ensures.puts) c.put_places.ensures.puts))

pub returns-in-Map-clause-fits : goal.returns-in-Map-clause-fits
returns-in-Map-clause-fits c =
    let short = rw c.in-Map.is at c.requires.short in
    rw c.in-Map.is (search, short, subst (AllByRecursion (λ (p : ℕ). p < 2 ^ 32)) c.as_slice-places.ensures c.put_places.ensures.fits)

pub returns-in-Regions-clause-puts : goal.returns-in-Regions-clause-puts
returns-in-Regions-clause-puts c =
    let room = rw c.in-Regions.is at c.requires.room in
    let regions : List Region = c.as_slice-regions.result.now in
    let count : List ℕ = big_bytes 1 (length regions) in
    rw c.in-Regions.is (subst (λ (rs : List Region). Puts c.args.at (counted_bytes 1 region_bytes rs) c.args.out.now c.put_regions.new.out) c.as_slice-regions.ensures
    (puts_both c.args.at c.put_u8-at-in-Regions.result count (flat_map region_bytes regions) c.args.out.now _ _ c.put_u8-at-in-Regions.ensures.end (omega (arith, c.put_u8-at-in-Regions.ensures.end, room)) c.put_u8-at-in-Regions.ensures.puts c.put_regions.ensures.puts))

pub returns-in-Regions-clause-fits : goal.returns-in-Regions-clause-fits
returns-in-Regions-clause-fits c =
    let short = rw c.in-Regions.is at c.requires.short in
    rw c.in-Regions.is (short, subst (AllByRecursion RegionFits) c.as_slice-regions.ensures c.put_regions.ensures.fits)

pub returns-in-SetAttr-clause-puts : goal.returns-in-SetAttr-clause-puts
returns-in-SetAttr-clause-puts c =
    let room = rw c.in-SetAttr.is at c.requires.room in
    rw c.in-SetAttr.is (subst (λ (v : List ℕ). Puts c.args.at (c.in-SetAttr.name.0 ++ sized_bytes 2 v) c.args.out.now c.put_value.new.out) c.as_slice-in-SetAttr.ensures
    (puts_both c.args.at c.put-at.result c.in-SetAttr.name.0 (sized_bytes 2 c.as_slice-in-SetAttr.result.now) c.args.out.now _ _ c.put-at.ensures.end (omega (arith, c.put-at.ensures.end, room, length-append c.in-SetAttr.name.0 (sized_bytes 2 c.in-SetAttr.value))) c.put-at.ensures.puts c.put_value.ensures.puts))

pub returns-in-Stub-clause-puts : goal.returns-in-Stub-clause-puts
returns-in-Stub-clause-puts c =
    let room = rw c.in-Stub.is at c.requires.room in
    let segment : List ℕ = big_bytes 4 c.in-Stub.segment in
    rw c.in-Stub.is
    (puts_both c.args.at c.put_u32-at-in-Stub.result segment (stub_bytes c.in-Stub.stub) c.args.out.now _ _ c.put_u32-at-in-Stub.ensures.end (omega (arith, c.put_u32-at-in-Stub.ensures.end, room)) c.put_u32-at-in-Stub.ensures.puts c.put_stub.ensures.puts)
