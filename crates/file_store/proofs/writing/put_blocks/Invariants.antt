use Rattle.file_store.proofs.Names.{◌≡◌, take, Follows, Keeps, rebody, effect_of, mappings_of, IsBesideBlocks, HasBlocks}
use Rattle.file_store.proofs.writing.put_blocks.Given as goal

abbrev pub invariant-loop-i : goal.invariant-loop-i
invariant-loop-i g l = record {
  keeps : Keeps g.D.Disk l.fn.disk l.disk (IsBesideBlocks l.base l.places);
  quiet : g.D.Disk.fault_count l.disk ≡ g.D.Disk.fault_count l.fn.disk;
  written : Follows (HasBlocks l.base (rebody (effect_of l.change) l.body.bytes) (take l.i (mappings_of l.blocks l.places))) (g.D.Disk.gives l.fn.disk) (g.D.Disk.gives l.disk);
}
