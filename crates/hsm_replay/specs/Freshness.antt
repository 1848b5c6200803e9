-- Whether migration may still begin a pass by `high`.
use Rattle.std.specs.Prelude.{◌≡◌, ◌⊎◌, List, ◌++◌, true, IfSome, Contains}
use Rattle.hsm_types.specs.declared.dm.DmCall.TheVariants.{GetTable}
use Rattle.hsm_types.specs.declared.dm.DmReply.TheVariants.{Table as TheTable}
use Rattle.hsm_types.specs.declared.keys.Sid.{Sid}
use Rattle.hsm_types.specs.declared.tables.Table.{Table}
use Rattle.plain_model.specs.declared.entries.Action.TheVariants.{Dm}
use Rattle.plain_model.specs.declared.entries.Actor.TheVariants.{Session}
use Rattle.plain_model.specs.declared.entries.Answer.TheVariants.{Dm as Told}
use Rattle.plain_model.specs.declared.entries.Entry.{Entry}
use Rattle.hsm_core.specs.Answers.{entry_of}
use Rattle.migrate_daemon.specs.Known.{knows_by}
use Rattle.hsm_system.specs.Running.{Migrating}
use Rattle.hsm_replay.specs.Systems.{Run, told_next}

-- where it runs it may, by all that it was told
abbrev pub IsFresh : {D M : Type 0} → Run D M → Type 0
IsFresh s = IfSome s.system.migrate (λ (m : Migrating). (knows_by m.machine.limits m.machine.known m.machine.asked (told_next m.next)).fresh ≡ true)

-- a session was told the table, with which a pass begins
abbrev pub IsToldTable : List Entry → Type 0
IsToldTable entries = (sid : Sid) × (table : Table) × Contains entries (entry_of (Session sid) (Dm GetTable) (Told (TheTable table)))

-- If it might before these entries it still may, unless the table was told in them.
abbrev pub StaysFresh : {D M : Type 0} → Run D M → Run D M → Type 0
StaysFresh old new = (entries : List Entry) × (new.system.store.history ≡ old.system.store.history ++ entries) × (IsFresh old → IsFresh new ⊎ IsToldTable entries)
