use Rattle.file_store.proofs.Names.{◌≡◌, ℕ, List, length, take, AllByRecursion, geometry_of, blocks_in_image, bytes_at, bytes_with, AreBodies, OnlyReads}
use Rattle.file_store.proofs.loading.load_bodies.Given as goal

abbrev pub invariant-loop-index : goal.invariant-loop-index
invariant-loop-index g l = record {
  reads : OnlyReads g.D.Disk l.fn.disk l.disk;
  quiet : g.D.Disk.fault_count l.disk ≡ g.D.Disk.fault_count l.fn.disk;
  count : length l.bodies.items ≡ (geometry_of l.catalog.geometry).files;
  sizes : AreBodies l.bodies.items (take l.index l.catalog.files);
  loaded : (c : List ℕ) → g.D.Disk.gives l.fn.disk c → AllByRecursion (λ f. bytes_with l.bodies.items f ≡ bytes_at (blocks_in_image l.catalog.geometry c) f) (take l.index l.catalog.files);
}
