use Rattle.file_store.proofs.Names.{◌≡◌, ◌*◌, ℕ, List, length, take, is_away, blocks_in_image, OnlyReads}
use Rattle.hsm_types.specs.Limits.{block_bytes}
use Rattle.hsm_types.specs.Stubs.{offline_at}
use Rattle.file_store.proofs.ByBlocks.{HasBytes}
use Rattle.file_store.proofs.loading.load_body.Given as goal

abbrev pub invariant-loop-place : goal.invariant-loop-place
invariant-loop-place g l = record {
  start : l.start ≡ block_bytes * l.place-index;
  reads : OnlyReads g.D.Disk l.fn.disk l.disk;
  quiet : g.D.Disk.fault_count l.disk ≡ g.D.Disk.fault_count l.fn.disk;
  size : length l.body.bytes ≡ l.size;
  here : (j : ℕ) → is_away l.body j ≡ offline_at l.stubs j;
  loaded : (c : List ℕ) → g.D.Disk.gives l.fn.disk c → HasBytes (blocks_in_image l.geometry c) l.size (take l.place-index l.places) l.body.bytes;
}
