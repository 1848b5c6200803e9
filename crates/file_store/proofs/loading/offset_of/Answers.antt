use Rattle.file_store.proofs.Names.{◌≡◌, ap, arith, layout_of, Layout}
use Rattle.file_store.proofs.Beside.{block_fits}
use Rattle.file_store.proofs.loading.offset_of.Goals as goal

pub overflow_add-result : goal.overflow_add-result
overflow_add-result c =
    let there : c.of_geometry.result.blocks ≡ (layout_of c.args.geometry).blocks = ap (λ (l : Layout). l.blocks) c.of_geometry.ensures in
    omega (arith, block_fits c.args.geometry c.args.place c.requires)

pub returns-clause-fits : goal.returns-clause-fits
returns-clause-fits c =
    let there : c.of_geometry.result.blocks ≡ (layout_of c.args.geometry).blocks = ap (λ (l : Layout). l.blocks) c.of_geometry.ensures in
    omega (arith, block_fits c.args.geometry c.args.place c.requires)
