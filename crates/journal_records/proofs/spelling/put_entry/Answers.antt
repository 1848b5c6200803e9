use Rattle.std.proofs.Common.{◌≡◌, ℕ, List, ◌++◌, length, ap, subst, ◌∙◌, arith}
use Rattle.byteorder.specs.Endian.{big_bytes}
use Rattle.hsm_types.specs.declared.stubs.Fingerprint.{Fingerprint}
use Rattle.hsm_types.specs.Stubs.{entry_place, entry_print}
use Rattle.journal_records.specs.Places.{Puts}
use Rattle.journal_records.proofs.WrittenTexts.{puts_both}
use Rattle.journal_records.proofs.spelling.put_entry.Goals as goal

pub returns-clause-puts : goal.returns-clause-puts
returns-clause-puts c =
    let long = ap length c.spell_place.ensures in
    let puts = puts_both c.args.at c.put-at.result c.spell_place.result c.print.result.digest.0 c.args.out.now _ _ c.put-at.ensures.end (omega (arith, c.put-at.ensures.end, c.requires, long)) c.put-at.ensures.puts c.put.ensures.puts in
    let head : List ℕ = big_bytes 4 (entry_place c.args.entry).volume ++ big_bytes 4 (entry_place c.args.entry).object ++ big_bytes 4 (entry_print c.args.entry).len in
    let text : c.spell_place.result ++ c.print.result.digest.0 ≡ head ++ (entry_print c.args.entry).digest.0 =
    ap (λ (l : List ℕ). l ++ c.print.result.digest.0) c.spell_place.ensures ∙ ap (λ (p : Fingerprint). head ++ p.digest.0) c.print.ensures in
    subst (λ (t : List ℕ). Puts c.args.at t c.args.out.now c.put.new.out) text puts
