-- A store may be sent to another thread where its disk may.
use denote.RattleType.{RattleType}
use denote.Param.Send.{IsSend, sendable}
use Rattle.std.specs.contracts.alloc.Global as global
use Rattle.std.specs.contracts.impls.GlobalAllocator.TheImpl.{ghosts}
use Rattle.std.specs.declared.cmp.PartialEq as eq
use Rattle.std.specs.declared.hash.BuildHasher as builder
use Rattle.std.specs.declared.hash.Hash as hash
use Rattle.std.specs.declared.hash.Hasher as hasher
use Rattle.std.proofs.Crossing.{crosses}
use Rattle.indexmap.specs.contracts.columns.Columns as columns
use Rattle.indexmap.specs.contracts.index_table.IndexTable as table
use Rattle.indexmap.specs.contracts.map.IndexMap as map
use Rattle.disk_model.specs.declared.device.Disk as disk
use Rattle.plain_model.proofs.entries.Entry.TheSendSync.{the_field_send as entry_send}
use Rattle.file_body.proofs.bodies.Body.TheSendSync.{the_send as body_send}
use Rattle.meta_store.proofs.catalog.Catalog.TheSendSync.{the_send as catalog_send}
use Rattle.meta_store.specs.contracts.store.MetaStore as meta
use Rattle.file_store.specs.contracts.store.FileStore as files
use Rattle.dm_service.proofs.service.DmService.TheSendSync.{the_send as service_send}
use Rattle.hsm_core.specs.contracts.store.Hsm as hsm

-- ---- a map, by its columns and its table

columns_send : (K V : RattleType) → IsSend K → IsSend V → IsSend (columns.the_field K V global.the_row ghosts).row
columns_send K V k v = search (sendable, crosses) depth 20

table_send : IsSend (table.the_field global.the_row ghosts).row
table_send = search (sendable, crosses) depth 20

map_send : (K V S T : RattleType) (e : eq.Ghosts K.Denot) (h : hash.Ghosts K.Denot) (b : builder.Ghosts S.Denot T.Denot) (w : hasher.Ghosts T.Denot) → IsSend K → IsSend V → IsSend S → IsSend (map.the_field K V S global.the_row T e h b w ghosts).row
map_send K V S T e h b w k v s = search (sendable, columns_send, table_send) depth 20

-- ---- the store, by its files

meta_send : IsSend meta.the_row
meta_send = search (sendable, crosses, catalog_send) depth 40

pub files_send : (D : RattleType) (g : disk.Ghosts D.Denot) → IsSend D → IsSend (files.the_row D g)
files_send D g s = search (sendable, crosses, meta_send, body_send) depth 40

pub hsm_send : (D : RattleType) (g : disk.Ghosts D.Denot) → IsSend D → IsSend (hsm.the_row D g)
hsm_send D g s = search (sendable, crosses, files_send, map_send, service_send, entry_send) depth 40
