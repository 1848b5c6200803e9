use Rattle.file_store.proofs.Names.{◌<◌, All-from_recursion, geometry_of, blocks_of, blocks-within}
use Rattle.file_store.proofs.spaces.space_of.Goals as goal

pub new-requires : goal.new-requires
new-requires c =
    let total = (geometry_of c.args.catalog.now.geometry).blocks in
    let within = All-from_recursion (λ b. b < total) (blocks_of c.args.catalog.now.files) (blocks-within (geometry_of c.args.catalog.now.geometry) c.args.catalog.now.files c.geometry.ensures.valid.each) in
    rw (c.as_slice.ensures.value, c.in_ok-used.ensures, c.geometry_of-total.ensures.geometry, c.geometry.ensures.geometry) within
