use Rattle.std.proofs.Common.{◌≡◌, map, take}
use Rattle.plain_model.specs.Segments.{row_of}
use Rattle.plain_model.specs.State.{Held}
use Rattle.file_store.specs.Stores.{Shows}
use Rattle.hsm_core.specs.Stamps.{stamp_in}
use Rattle.hsm_core.proofs.services.tables.rows.Given as goal

abbrev pub invariant-loop-index : goal.invariant-loop-index
invariant-loop-index l = (h : Held) → Shows l.catalog h → l.rows.items ≡ map (row_of l.superblock (stamp_in l.stamps.entries)) (take l.index h.files)
