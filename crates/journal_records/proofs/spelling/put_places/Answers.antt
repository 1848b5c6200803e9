use Rattle.std.proofs.Common.{ℕ, List, ◌∙◌, sym, ap, subst, length, arith, length-append, take, get_or, ◌<◌, ◌^◌}
use Rattle.std.specs.List.{flat_map}
use Rattle.byteorder.specs.Endian.{big_bytes}
use Rattle.journal_records.specs.Places.{Puts}
use Rattle.journal_records.proofs.WrittenTexts.{puts_both, more_text, within_text, all_more}
use Rattle.journal_records.proofs.spelling.put_places.Goals as goal

pub put_u32-end-requires : goal.put_u32-end-requires
put_u32-end-requires c =
    let room = within_text (big_bytes 4) c.args.places.now c.loop-place.place-index 0 c.loop-place-test.true in
    omega (arith, c.loop-place.invariant.end, c.loop-place.invariant.len, c.requires, room)

pub loop-place-preserved : goal.loop-place-preserved
loop-place-preserved c =
    let xs : List ℕ = c.args.places.now in
    let i : ℕ = c.loop-place.place-index in
    let more = more_text (big_bytes 4) xs i 0 c.loop-place-test.true in
    let room = within_text (big_bytes 4) xs i 0 c.loop-place-test.true in
    record {
      end = omega (arith, c.put_u32-end.ensures.end, c.loop-place.invariant.end, ap length more, length-append (flat_map (big_bytes 4) (take i xs)) (big_bytes 4 (get_or xs i 0)));
      puts = subst (λ (t : List ℕ). Puts c.args.at t c.args.out.now c.put_u32-end.new.out) (sym more)
          (puts_both c.args.at c.loop-place.end (flat_map (big_bytes 4) (take i xs)) (big_bytes 4 (get_or xs i 0)) c.args.out.now _ _ c.loop-place.invariant.end (omega (arith, c.loop-place.invariant.end, c.requires, room)) c.loop-place.invariant.puts c.put_u32-end.ensures.puts);
      len = c.put_u32-end.ensures.len ∙ c.loop-place.invariant.len;
      fits = all_more (λ (p : ℕ). p < 2 ^ 32) xs i 0 c.loop-place-test.true (omega (arith, c.type_inv.places i)) c.loop-place.invariant.fits;
    }
