use Rattle.std.proofs.Common.{◌≡◌, sym, ◌∙◌, ap, arith}
use Rattle.snapshot_text.specs.Files.{CatalogFile}
use Rattle.hsm_core.specs.Summaries.{offline_by}
use Rattle.hsm_core.proofs.Summaries.{sum-next}
use Rattle.hsm_core.proofs.totals.offline_of.Goals as goal

pub loop-index-preserved : goal.loop-index-preserved
loop-index-preserved c =
    let more = sum-next (λ (f : CatalogFile). offline_by f.kept.stubs) c.args.catalog.now.files c.loop-index.index _ (sym (rw c.unwrap-size.ensures at c.file.ensures)) in
    let own : c.offline_by.result ≡ offline_by c.unwrap-size.result.3.now.stubs = c.offline_by.ensures ∙ ap offline_by c.stubs.ensures in
    record { sum = omega (arith, more, own, c.loop-index.invariant.sum, c.from-offline.ensures); few = omega (arith, c.loop-index.invariant.few, c.from-offline.ensures) }
