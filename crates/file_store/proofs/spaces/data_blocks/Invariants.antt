use Rattle.file_store.proofs.Names.{◌≡◌, ◌++◌, drop, blocks_of}
use Rattle.file_store.proofs.spaces.data_blocks.Given as goal

abbrev pub invariant-loop-index : goal.invariant-loop-index
invariant-loop-index l = l.blocks.items ++ blocks_of (drop l.index l.catalog.files) ≡ blocks_of l.catalog.files
