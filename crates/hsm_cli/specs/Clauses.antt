-- What is promised of a run: each clause over the words, the outcome, and what the objects tell.
use Rattle.std.specs.Prelude.{ℕ, ◌≡◌, ◌≢◌, ◌+◌, ◌⊎◌, List, [], ◌∷◌, take, sum_by, true, false, Option, Some, None, IfSome, IsSome}
use Rattle.std.specs.Io.KnownBytes.{Appends, IsAtEnd}
use Rattle.std.specs.List.{AllByRecursion}
use Rattle.disk_model.specs.declared.device.Disk as disk
use Rattle.disk_model.specs.Calls.{Rose, raised}
use Rattle.media_model.specs.declared.drive.Drive as drive
use Rattle.media_model.specs.Objects.{Objects}
use Rattle.disk_model.specs.Images.{Alike}
use Rattle.disk_model.specs.Moments.{MayBe, Tells, LeavesOnly, Keeps, Same}
use Rattle.hsm_types.specs.declared.media.Fault.{Fault}
use Rattle.hsm_types.specs.declared.media.Fault.TheVariants.{Failed, Damaged}
use Rattle.command_words.specs.Commands.{Form, Format, Replay, ReplayStore, Show, ShowVolumes, Drill, geometry_number, fsid_of}
use Rattle.commit_slots.specs.Images.{IsStore, IsEmptyStore}
use Rattle.meta_store.specs.Images.{IsCorruptAt}
use Rattle.plain_model.specs.declared.entries.Entry.{Entry}
use Rattle.event_text.specs.Render.{text_of}
use Rattle.plain_model.specs.Plain.{File}
use Rattle.plain_model.specs.Faults.{has_fault}
use Rattle.plain_model.specs.State.{Held, nothing_held, just_opened}
use Rattle.plain_model.specs.Stands.{Stands}
use Rattle.plain_model.specs.Laws.{IsPlain, IsRunSeen, IsOrderly, IsGoodRun}
use Rattle.plain_model.specs.Exact.{held_by}
use Rattle.plain_model.specs.Synced.{synced}
use Rattle.seen_history.specs.Laws.{IsGoodSeen}
use Rattle.hsm_policy.specs.Settings.{standard}
use Rattle.file_store.specs.Stores.{Store, superblock_of, IsRecovered, IsDurable}
use Rattle.hsm_core.specs.Crashes.{IsPrefix}
use Rattle.hsm_core.specs.Packed.{ArePacked}
use Rattle.marked_history.specs.Caused.{Caused}
use Rattle.hsm_replay.specs.Drives.{HaveGrown}
use Rattle.hsm_replay.specs.Faults.{faults_in, AreTrue}
use Rattle.reconcile.specs.Classes.{AreRead}
use Rattle.script_text.specs.Scripts.{IsScript, IsFirstBad}
use Rattle.script_text.specs.declared.lines.Line.{Line}
use Rattle.hsm_cli.specs.declared.causes.Cause.{Cause}
use Rattle.hsm_cli.specs.declared.causes.Cause.TheVariants.{ScriptRefused, WordsRefused, NotStore, Corrupt, ReadFault, WriteFault, DiskFault}
use Rattle.hsm_cli.specs.declared.causes.Cause.TheVariants.{HostFault, NoMemory}
use Rattle.hosts.specs.declared.outside.Host as host
use Rattle.hsm_cli.specs.declared.outcomes.Outcome.{Outcome}
use Rattle.hsm_cli.specs.Statuses.{status_of, place_of}
use Rattle.hsm_cli.specs.Sources.{script_bytes, GivesFirst, GivesWhole}
use Rattle.hsm_cli.specs.Openings.{opened_in, superblock_at, held_at, base_of}
use Rattle.hsm_cli.specs.Deeds.{DeedsClause}
use Rattle.hosts.specs.Hosts.{IsHanded, AreHanded, HoldsNothing, HoldsOthers, HoldsAll, StoresNothing, StoresOthers, StoresAll}
use Rattle.hsm_cli.specs.Texts.{IsUnwritten, TakesText, IsShown, AreUntold, AreCounted, shown_drives, shown_volumes, drill_text}
use Rattle.hsm_cli.specs.RunObjects.{SourceTold, SinkTold, HostTold, host_told, FailsOnce}

-- ---- where the disk tells

-- Clauses that go by the bytes of files are said where the disk that comes back tells what it holds. One in memory, which doesn't come back, always does.
abbrev pub TellsGiven : {D : Type 0} → disk.Ghosts D → Option D → Type 0
TellsGiven g None = Unit {0}
TellsGiven g (Some disk) = Tells g disk

-- ---- the reading clause

-- nothing was asked of the source
pub record IsUnread (source : SourceTold) : Type 0 where
  pub left : source.left ≡ source.given
  pub faults : source.now ≡ source.before

-- How much of the source a run on a store reads: nothing where the host failed, a part of it where reading failed or memory was wanting, else the whole. One
-- that ends well, or fails only in writing, has read the script to its end.
abbrev pub HasRead : SourceTold → Option Cause → Type 0
HasRead source None = GivesWhole source.given source.left × IsAtEnd source.left
HasRead source (Some WriteFault) = GivesWhole source.given source.left × IsAtEnd source.left
HasRead source (Some HostFault) = IsUnread source
HasRead source (Some ReadFault) = GivesFirst source.given source.left
HasRead source (Some NoMemory) = GivesFirst source.given source.left
HasRead source other = GivesWhole source.given source.left

-- a run without a store reads nothing
abbrev pub HasReadOn : {S : Type 0} → Option S → SourceTold → Option Cause → Type 0
HasReadOn None source cause = IsUnread source
HasReadOn (Some s) source cause = HasRead source cause

abbrev pub ReadingClause : {D M : Type 0} → Option Form → SourceTold → Outcome D M → Type 0
ReadingClause None source o = IsUnread source
ReadingClause (Some (Format path size)) source o = IsUnread source
ReadingClause (Some Replay) source o = HasRead source o.cause
ReadingClause (Some (ReplayStore path dir)) source o = HasReadOn (opened_in o) source o.cause
ReadingClause (Some (Show path)) source o = IsUnread source
ReadingClause (Some (ShowVolumes path dir)) source o = IsUnread source
ReadingClause (Some (Drill number)) source o = IsUnread source

-- ---- the legality clause and the plain clause

-- Over the store that the run began with the history is a run on any disk: each answer is exact but for bytes, and for whether these refuse a seal, and in
-- these too where the disk tells.
abbrev pub IsRunOver : {D : Type 0} → Type 0 → Option (Store D) → List Entry → Type 0
IsRunOver Told opened history = IsRunSeen Told (superblock_at opened) (base_of opened) (held_at opened) history

-- There each token is given once, and after each beginning of the history the tables are in order.
abbrev pub IsOrderlyOver : {D : Type 0} → Option (Store D) → List Entry → Type 0
IsOrderlyOver opened history = IsOrderly (superblock_at opened) (base_of opened) (held_at opened) history

-- And each buffer that a session was told is that of messages that it then had.
abbrev pub IsPackedOver : {D : Type 0} → Option (Store D) → List Entry → Type 0
IsPackedOver opened history = ArePacked (superblock_at opened) (just_opened (base_of opened) (held_at opened)) history

-- From each plain map that the store stands for it is good but for bytes, and where the disk tells in these too: each entry is alike to one that may come;
-- what each beginning of the history leaves stands so for the map that it leaves; and the mapped blocks, all that sessions keep, and the stamps are just
-- those of the rules.
abbrev pub IsGoodSeenOver : {D : Type 0} → Type 0 → Option (Store D) → List Entry → Type 0
IsGoodSeenOver Told opened history = IsGoodSeen Told (superblock_at opened) (base_of opened) (held_at opened) history

-- Where it tells the history is a good run: each answer is the exact one, each token is given once, and from each plain map that the store stands for it
-- is legal; what each beginning of it leaves stands for the map that it leaves, with the mapped blocks and all that sessions keep by the rules, and with
-- the stamps of the accesses. That the files are plain, which is a part of it too, is the next clause.
abbrev pub IsGoodOver : {D : Type 0} → Option (Store D) → List Entry → Type 0
IsGoodOver opened history = IsGoodRun (superblock_at opened) (base_of opened) (held_at opened) history

-- the disk that is given back has failed, in just one call since the host handed it out
pub record HasFailed {D : Type 0} (g : disk.Ghosts D) (given : Option D) : Type 0 where
  pub disk : D
  pub back : given ≡ Some disk
  pub once : g.fault_count disk ≡ 1

-- An answer for a fault of the disk comes only where the disk has failed, and then the run ends for that fault, or for want of memory. A run on a
-- store that was opened ends for a fault of the disk only where an entry says so.
pub record LegalityClause {D M : Type 0} (g : disk.Ghosts D) (o : Outcome D M) : Type 0 where
  pub from : IsRunOver (TellsGiven g o.disk) (opened_in o) o.history
  pub orderly : IsOrderlyOver (opened_in o) o.history
  pub packed : IsPackedOver (opened_in o) o.history
  pub seen : IsGoodSeenOver (TellsGiven g o.disk) (opened_in o) o.history
  pub good : TellsGiven g o.disk → IsGoodOver (opened_in o) o.history
  pub caused : has_fault o.history ≡ true → HasFailed g o.disk
  pub told : o.cause ≡ Some DiskFault → IsSome (opened_in o) → has_fault o.history ≡ true
  pub faultless : o.cause ≢ Some DiskFault → o.cause ≢ Some NoMemory → has_fault o.history ≡ false

-- From each plain map that the store stands for: where each restore brought the bytes that the map has, the files after each beginning of the history are
-- those that were never moved.
abbrev pub IsPlainOver : {D : Type 0} → Option (Store D) → List Entry → Type 0
IsPlainOver opened history = (P : List File) → Stands (held_at opened).files P → IsPlain P history

abbrev pub PlainClause : {D M : Type 0} → Outcome D M → Type 0
PlainClause o = IsPlainOver (opened_in o) o.history

-- ---- the media clause

-- no drive has failed in a fetch: each is damage
abbrev pub IsDamage : Fault → Type 0
IsDamage (Failed volume object before after) = ⊥
IsDamage (Damaged volume object want got) = Unit {0}

abbrev pub NoneFailed : List Fault → Type 0
NoneFailed faults = AllByRecursion IsDamage faults

-- The faults of media that events were answered for. Drives in memory never fail. Of the drives of the host each has counted those of its volumes:
-- their intervals don't overlap, and end at or below what it counts in the end; it had counted none at first. And the payload that it gives of a
-- damaged object is the one that was got.
abbrev pub TellsFaults : {M : Type 0} → drive.Ghosts M → Option Form → List M → List Fault → Type 0
TellsFaults g (Some Replay) drives faults = NoneFailed faults
TellsFaults g (Some (ReplayStore path dir)) drives faults = AreTrue g drives faults
TellsFaults g (Some (Drill number)) drives faults = NoneFailed faults
TellsFaults g (Some (Format path size)) drives faults = faults ≡ []
TellsFaults g (Some (Show path)) drives faults = faults ≡ []
TellsFaults g (Some (ShowVolumes path dir)) drives faults = faults ≡ []
TellsFaults g None drives faults = faults ≡ []

-- of a run on that store
abbrev pub IsCausedOver : {D : Type 0} → Option (Store D) → List Entry → Type 0
IsCausedOver opened history = Caused (superblock_at opened) (just_opened (base_of opened) (held_at opened)) history

-- An event is answered for a fault of a medium only by a session that was told, after the access was parked, that bytes of its file are away in that object.
-- And what is told of the fault is so, as far as drives come back or never fail.
pub record MediaClause {D M : Type 0} (g : drive.Ghosts M) (form : Option Form) (o : Outcome D M) : Type 0 where
  pub caused : IsCausedOver (opened_in o) o.history
  pub faults : TellsFaults g form o.drives (faults_in o.history)

-- ---- the crash clause

-- Recovery finds what all entries of the history have left, under the number of the last one before the last sync.
abbrev pub IsWhole : {D : Type 0} → Store D → List Entry → List ℕ → Type 0
IsWhole opened history image = IsRecovered opened.meta.durable.geometry opened.meta.fsid (opened.meta.number + synced history) (held_by (superblock_of opened) opened.meta.number opened.held history) image

-- the host failed, or the script could not be read, or was refused, so no line was run
abbrev pub IsBeforeRun : Option Cause → Type 0
IsBeforeRun (Some HostFault) = Unit {0}
IsBeforeRun (Some (ScriptRefused line)) = Unit {0}
IsBeforeRun (Some ReadFault) = Unit {0}
IsBeforeRun other = ⊥

-- the script was run to its end, though the transcript may not have been written
abbrev pub RanToItsEnd : Option Cause → Type 0
RanToItsEnd None = Unit {0}
RanToItsEnd (Some WriteFault) = Unit {0}
RanToItsEnd (Some other) = ⊥

-- A crash at any moment since the host handed the disk out leaves what the opened store and the first entries make, under the number of the last of
-- them; and a crash from now on leaves all that was synced. Where the script was run to its end it leaves what all entries make, under the number of
-- the last one before the commit. Where no line was run, as the host failed, or the script could not be read or was refused, the disk stays as it was.
pub record IsCrashSafe {D : Type 0} (g : disk.Ghosts D) (held : List ℕ → Type 0) (opened : Store D) (history : List Entry) (cause : Option Cause) (disk : D) : Type 0 where
  pub handed : D
  pub by_host : IsHanded g held handed
  pub since : LeavesOnly g handed disk (IsPrefix opened history 0)
  pub now : (c : List ℕ) → MayBe g disk c → IsPrefix opened history (synced history) c
  pub whole : RanToItsEnd cause → (c : List ℕ) → MayBe g disk c → IsWhole opened history c
  pub untouched : IsBeforeRun cause → Keeps g handed disk Same

-- a disk that wasn't opened as a store stays as it was, and has failed only where that is told
pub record IsUntouched {D : Type 0} (g : disk.Ghosts D) (held : List ℕ → Type 0) (cause : Option Cause) (disk : D) : Type 0 where
  pub handed : D
  pub by_host : IsHanded g held handed
  pub keeps : Keeps g handed disk Same
  pub quiet : cause ≢ Some DiskFault → g.fault_count disk ≡ 0

abbrev pub LeavesSafe : {D : Type 0} → disk.Ghosts D → (List ℕ → Type 0) → Option (Store D) → List Entry → Option Cause → Option D → Type 0
LeavesSafe g held (Some opened) history cause (Some disk) = IsCrashSafe g held opened history cause disk
LeavesSafe g held None history cause (Some disk) = IsUntouched g held cause disk × (history ≡ [])
LeavesSafe g held (Some opened) history cause None = ⊥
LeavesSafe g held None history cause None = history ≡ []

-- A disk that was only read gives what it gave, a crash leaves nothing new of it, and it has failed only where that is told.
pub record IsOnlyRead {D : Type 0} (g : disk.Ghosts D) (held : List ℕ → Type 0) (cause : Option Cause) (disk : D) : Type 0 where
  pub handed : D
  pub by_host : IsHanded g held handed
  pub keeps : Keeps g handed disk Same
  pub gives : Alike (g.gives handed) (g.gives disk)
  pub quiet : cause ≢ Some DiskFault → g.fault_count disk ≡ 0

abbrev pub ComesBackRead : {D : Type 0} → disk.Ghosts D → (List ℕ → Type 0) → Option Cause → Option D → Type 0
ComesBackRead g held cause (Some disk) = IsOnlyRead g held cause disk
ComesBackRead g held cause None = Unit {0}

-- a form that only reads a store runs nothing on it, and gives its disk back only read
abbrev pub OnlyReads : {D M : Type 0} → disk.Ghosts D → (List ℕ → Type 0) → Outcome D M → Type 0
OnlyReads g held o = (opened_in o ≡ None) × (o.history ≡ []) × ComesBackRead g held o.cause o.disk

-- Only `replay PATH DIR` opens a store of the host to run on it.
abbrev pub CrashClause : {D M : Type 0} → disk.Ghosts D → Option Form → (List ℕ → List ℕ → Type 0) → Outcome D M → Type 0
CrashClause g (Some (ReplayStore path dir)) holds o = LeavesSafe g (holds path) (opened_in o) o.history o.cause o.disk
CrashClause g (Some (Format path size)) holds o = opened_in o ≡ None
CrashClause g (Some (Show path)) holds o = OnlyReads g (holds path) o
CrashClause g (Some (ShowVolumes path dir)) holds o = OnlyReads g (holds path) o
CrashClause g (Some Replay) holds o = opened_in o ≡ None
CrashClause g (Some (Drill number)) holds o = opened_in o ≡ None
CrashClause g None holds o = opened_in o ≡ None

-- The disk that `format` gives back is one whose every image, also after a crash, is the empty store of that size and of the path's file system id.
pub record IsFormatted {D : Type 0} (g : disk.Ghosts D) (geometry fsid : ℕ) (given : Option D) : Type 0 where
  pub disk : D
  pub back : given ≡ Some disk
  pub empty : (c : List ℕ) → MayBe g disk c → IsEmptyStore geometry fsid c
  pub recovered : (c : List ℕ) → MayBe g disk c → IsRecovered geometry fsid 0 nothing_held c

abbrev pub FormatClause : {D M : Type 0} → disk.Ghosts D → Option Form → Outcome D M → Type 0
FormatClause g (Some (Format path size)) o = o.cause ≡ None → IsFormatted g (geometry_number size) (fsid_of path) o.disk
FormatClause g (Some Replay) o = Unit {0}
FormatClause g (Some (ReplayStore path dir)) o = Unit {0}
FormatClause g (Some (Show path)) o = Unit {0}
FormatClause g (Some (ShowVolumes path dir)) o = Unit {0}
FormatClause g (Some (Drill number)) o = Unit {0}
FormatClause g None o = Unit {0}

-- ---- the host clause

-- A disk came, and the host has none under that name any more and holds all others as before; or none came, and it holds all as before.
abbrev pub HandsOut : {D : Type 0} → List ℕ → (List ℕ → List ℕ → Type 0) → (List ℕ → List ℕ → Type 0) → Option D → Type 0
HandsOut path old new (Some disk) = HoldsNothing (new path) × HoldsOthers path old new
HandsOut path old new None = HoldsAll old new

-- memory was wanting for the words, and the host wasn't asked
abbrev pub IsUnasked : {H D M : Type 0} → H → H → Outcome D M → Type 0
IsUnasked old new o = (o.cause ≡ Some NoMemory) × (o.disk ≡ None) × (new ≡ old)

-- the host was asked once for a disk that it holds, and never to make one; or memory was wanting before
abbrev pub OpensOnce : {H D M : Type 0} → (H → ℕ) → (H → ℕ) → H → H → Outcome D M → Type 0
OpensOnce makes openings old new o = ((openings new ≡ raised (openings old)) × (makes new ≡ makes old)) ⊎ IsUnasked old new o

-- and the other way round
abbrev pub MakesOnce : {H D M : Type 0} → (H → ℕ) → (H → ℕ) → H → H → Outcome D M → Type 0
MakesOnce makes openings old new o = ((makes new ≡ raised (makes old)) × (openings new ≡ openings old)) ⊎ IsUnasked old new o

-- `format` asks the host once to make a disk, and `replay PATH DIR` and `show` once for one that it holds, unless memory was wanting for the words. They
-- change nothing else of the disks that it holds; what came of it is given back. Words that name no disk leave the host alone.
abbrev pub HostClause : {H D M : Type 0} → (H → List ℕ → List ℕ → Type 0) → (H → ℕ) → (H → ℕ) → Option Form → H → H → Outcome D M → Type 0
HostClause holds makes openings None old new o = (new ≡ old) × (o.disk ≡ None)
HostClause holds makes openings (Some Replay) old new o = (new ≡ old) × (o.disk ≡ None)
HostClause holds makes openings (Some (Drill number)) old new o = (new ≡ old) × (o.disk ≡ None)
HostClause holds makes openings (Some (Format path size)) old new o = HandsOut path (holds old) (holds new) o.disk × MakesOnce makes openings old new o
HostClause holds makes openings (Some (ReplayStore path dir)) old new o = HandsOut path (holds old) (holds new) o.disk × OpensOnce makes openings old new o
HostClause holds makes openings (Some (Show path)) old new o = HandsOut path (holds old) (holds new) o.disk × OpensOnce makes openings old new o
HostClause holds makes openings (Some (ShowVolumes path dir)) old new o = HandsOut path (holds old) (holds new) o.disk × OpensOnce makes openings old new o

-- ---- the drives clause

-- Drives as the host handed them out, used: each volume has the objects that it had, and perhaps more.
abbrev pub AreUsed : {M : Type 0} → drive.Ghosts M → (ℕ → Objects → Type 0) → List M → Type 0
AreUsed {M = M} g stored drives = (handed : List M) × AreHanded g stored standard.drives standard.volumes standard.capacity handed × HaveGrown g handed drives

-- On a store that was opened a run asks for the drives of the default settings before it reads the script. What came is given back. None came where the
-- host failed, and perhaps where memory was wanting.
abbrev pub GivesBack : {S M : Type 0} → drive.Ghosts M → (ℕ → Objects → Type 0) → Option S → Option Cause → List M → Type 0
GivesBack g stored None cause drives = drives ≡ []
GivesBack g stored (Some opened) (Some HostFault) drives = drives ≡ []
GivesBack g stored (Some opened) (Some NoMemory) drives = (drives ≡ []) ⊎ AreUsed g stored drives
GivesBack g stored (Some opened) cause drives = AreUsed g stored drives

-- Drives came, and the host has no objects in their folder any more and in all others what it had; or none came, and it has in all what it had.
abbrev pub HandsDrives : {M : Type 0} → List ℕ → (List ℕ → ℕ → Objects → Type 0) → (List ℕ → ℕ → Objects → Type 0) → List M → Type 0
HandsDrives dir old new [] = StoresAll old new
HandsDrives dir old new (d ∷ ds) = StoresNothing (new dir) × StoresOthers dir old new

-- how often the host was asked for drives: once more for a store that was opened
abbrev pub asked_by : {S : Type 0} → Option S → ℕ → ℕ
asked_by None count = count
asked_by (Some opened) count = raised count

-- Drives as the host handed them out, over the volumes that are shown, of the default capacity. No volume of them was changed.
abbrev pub AreShown : {M : Type 0} → drive.Ghosts M → (ℕ → Objects → Type 0) → List M → Type 0
AreShown {M = M} g stored drives = (handed : List M) × AreHanded g stored shown_drives shown_volumes standard.capacity handed × AreRead g handed drives

-- the store that the host holds can't be opened
abbrev pub FindsNothing : List ℕ → Type 0
FindsNothing image = (geometry fsid n : ℕ) → (h : Held) → IsRecovered geometry fsid n h image → ⊥

-- `show PATH DIR` gives back the drives that came. None came where its store couldn't be read or the host failed; a drive that failed is given back.
abbrev pub GivesShown : {D M : Type 0} → drive.Ghosts M → (ℕ → Objects → Type 0) → Option D → Option Cause → List M → Type 0
GivesShown g stored None cause drives = drives ≡ []
GivesShown g stored (Some disk) None drives = AreShown g stored drives
GivesShown g stored (Some disk) (Some WriteFault) drives = AreShown g stored drives
GivesShown g stored (Some disk) (Some HostFault) drives = (drives ≡ []) ⊎ AreShown g stored drives
GivesShown g stored (Some disk) (Some NoMemory) drives = (drives ≡ []) ⊎ AreShown g stored drives
GivesShown g stored (Some disk) (Some other) drives = drives ≡ []

-- how often it asks for them: once, but where its store couldn't be read, and perhaps where memory was wanting
abbrev pub AsksShown : {D : Type 0} → Option D → Option Cause → ℕ → ℕ → Type 0
AsksShown None cause old new = new ≡ old
AsksShown (Some disk) None old new = new ≡ raised old
AsksShown (Some disk) (Some WriteFault) old new = new ≡ raised old
AsksShown (Some disk) (Some HostFault) old new = new ≡ raised old
AsksShown (Some disk) (Some NoMemory) old new = (new ≡ old) ⊎ (new ≡ raised old)
AsksShown (Some disk) (Some other) old new = new ≡ old

-- Only `replay PATH DIR` and `show PATH DIR` ask for drives, and for those of their folder; the latter doesn't where no store is found.
abbrev pub DrivesClause : {H D M : Type 0} → drive.Ghosts M → (H → List ℕ → List ℕ → Type 0) → (H → List ℕ → ℕ → Objects → Type 0) → (H → ℕ) → Option Form → H → H → Outcome D M → Type 0
DrivesClause g holds stores askings (Some (ReplayStore path dir)) old new o = GivesBack g (stores old dir) (opened_in o) o.cause o.drives × HandsDrives dir (stores old) (stores new) o.drives × (askings new ≡ asked_by (opened_in o) (askings old))
DrivesClause g holds stores askings (Some (ShowVolumes path dir)) old new o = GivesShown g (stores old dir) o.disk o.cause o.drives × HandsDrives dir (stores old) (stores new) o.drives × AsksShown o.disk o.cause (askings old) (askings new)
    × ((image : List ℕ) → holds old path image → FindsNothing image → askings new ≡ askings old)
DrivesClause g holds stores askings (Some (Format path size)) old new o = (o.drives ≡ []) × StoresAll (stores old) (stores new) × (askings new ≡ askings old)
DrivesClause g holds stores askings (Some (Show path)) old new o = (o.drives ≡ []) × StoresAll (stores old) (stores new) × (askings new ≡ askings old)
DrivesClause g holds stores askings (Some Replay) old new o = o.drives ≡ []
DrivesClause g holds stores askings (Some (Drill number)) old new o = o.drives ≡ []
DrivesClause g holds stores askings None old new o = o.drives ≡ []

-- ---- the output clause

-- The sink took a beginning of the history's text; all of it, where the run ended well, and where the sink did not fail and there was memory.
pub record TakesTranscript {D M : Type 0} (o : Outcome D M) (sink : SinkTold) : Type 0 where
  pub first : (n : ℕ) × Appends sink.old sink.new (take n (text_of o.history))
  pub done : o.cause ≡ None → Appends sink.old sink.new (text_of o.history)
  pub all : ¬ (Rose sink.before sink.now) → o.cause ≢ Some NoMemory → Appends sink.old sink.new (text_of o.history)

-- `show` tells of the store that the host held, and with DIR of the classes over the objects that the host had in its volumes. `drill` tells of its history and
-- of what that has left in the new store. Either `replay` writes the history. Words that ask for no text leave the sink alone.
abbrev pub OutputClause : {D M : Type 0} → Option Form → (List ℕ → List ℕ → Type 0) → (List ℕ → ℕ → Objects → Type 0) → Outcome D M → SinkTold → Type 0
OutputClause (Some (Show path)) holds stores o sink = TakesText (IsShown (holds path) AreUntold) sink o.cause
OutputClause (Some (ShowVolumes path dir)) holds stores o sink = TakesText (IsShown (holds path) (AreCounted (stores dir))) sink o.cause
OutputClause (Some (Drill number)) holds stores o sink = TakesText (λ text. text ≡ drill_text number o.history) sink o.cause
OutputClause (Some Replay) holds stores o sink = TakesTranscript o sink
OutputClause (Some (ReplayStore path dir)) holds stores o sink = TakesTranscript o sink
OutputClause (Some (Format path size)) holds stores o sink = IsUnwritten sink
OutputClause None holds stores o sink = IsUnwritten sink

-- ---- the status clause

-- the images that the host held for the store that the words name
abbrev pub IsNamed : Option Form → (List ℕ → List ℕ → Type 0) → List ℕ → Type 0
IsNamed (Some (ReplayStore path dir)) holds image = holds path image
IsNamed (Some (Show path)) holds image = holds path image
IsNamed (Some (ShowVolumes path dir)) holds image = holds path image
IsNamed (Some (Format path size)) holds image = ⊥
IsNamed (Some Replay) holds image = ⊥
IsNamed (Some (Drill number)) holds image = ⊥
IsNamed None holds image = ⊥

-- one of the drives that are given back has failed, in just one call since the host handed it out, and no other has
abbrev pub HasDriveFailed : {M : Type 0} → drive.Ghosts M → List M → Type 0
HasDriveFailed g given = sum_by g.fault_count given ≡ 1

-- What is told as a fault of the host: its count rose, or in `show PATH DIR` a drive failed. A drive's fault in a run changes no status.
abbrev pub HostFails : {M : Type 0} → drive.Ghosts M → Option Form → HostTold → List M → Type 0
HostFails g (Some (ShowVolumes path dir)) host drives = Rose host.before host.now ⊎ HasDriveFailed g drives
HostFails g other host drives = Rose host.before host.now

-- Why a run ends as it does, given what a fault of the host means. Want of memory is free.
abbrev pub Why : {D : Type 0} → disk.Ghosts D → (List ℕ → Type 0) → Type 0 → SourceTold → SinkTold → Option D → Option Cause → Type 0
Why g named Fails source sink disk None = Unit {0}
Why g named Fails source sink disk (Some (ScriptRefused line)) = IfSome source.given (λ bytes. IsFirstBad (script_bytes bytes) line)
Why g named Fails source sink disk (Some WordsRefused) = Unit {0}
Why g named Fails source sink disk (Some NotStore) = (image : List ℕ) → named image → (geometry fsid : ℕ) → IsStore geometry fsid image → ⊥
Why g named Fails source sink disk (Some (Corrupt place)) = (image : List ℕ) → named image → IsCorruptAt place image
Why g named Fails source sink disk (Some ReadFault) = Rose source.before source.now
Why g named Fails source sink disk (Some WriteFault) = Rose sink.before sink.now
Why g named Fails source sink disk (Some DiskFault) = HasFailed g disk
Why g named Fails source sink disk (Some HostFault) = Fails
Why g named Fails source sink disk (Some NoMemory) = Unit {0}

-- the words ask for a script to be read
abbrev pub ReadsScript : Option Form → Type 0
ReadsScript (Some Replay) = Unit {0}
ReadsScript (Some (ReplayStore path dir)) = Unit {0}
ReadsScript (Some (Format path size)) = ⊥
ReadsScript (Some (Show path)) = ⊥
ReadsScript (Some (ShowVolumes path dir)) = ⊥
ReadsScript (Some (Drill number)) = ⊥
ReadsScript None = ⊥

-- the words ask for a text to be written
abbrev pub WritesText : Option Form → Type 0
WritesText (Some Replay) = Unit {0}
WritesText (Some (ReplayStore path dir)) = Unit {0}
WritesText (Some (Show path)) = Unit {0}
WritesText (Some (ShowVolumes path dir)) = Unit {0}
WritesText (Some (Drill number)) = Unit {0}
WritesText (Some (Format path size)) = ⊥
WritesText None = ⊥

-- the words ask for a store of the host to be opened and run on
abbrev pub OpensStore : Option Form → Type 0
OpensStore (Some (ReplayStore path dir)) = Unit {0}
OpensStore (Some (Format path size)) = ⊥
OpensStore (Some Replay) = ⊥
OpensStore (Some (Show path)) = ⊥
OpensStore (Some (ShowVolumes path dir)) = ⊥
OpensStore (Some (Drill number)) = ⊥
OpensStore None = ⊥

-- the words ask for a store of the host to be read
abbrev pub ReadsStore : Option Form → Type 0
ReadsStore (Some (ReplayStore path dir)) = Unit {0}
ReadsStore (Some (Show path)) = Unit {0}
ReadsStore (Some (ShowVolumes path dir)) = Unit {0}
ReadsStore (Some (Format path size)) = ⊥
ReadsStore (Some Replay) = ⊥
ReadsStore (Some (Drill number)) = ⊥
ReadsStore None = ⊥

-- the words name a disk
abbrev pub NamesDisk : Option Form → Type 0
NamesDisk (Some (Format path size)) = Unit {0}
NamesDisk (Some (ReplayStore path dir)) = Unit {0}
NamesDisk (Some (Show path)) = Unit {0}
NamesDisk (Some (ShowVolumes path dir)) = Unit {0}
NamesDisk (Some Replay) = ⊥
NamesDisk (Some (Drill number)) = ⊥
NamesDisk None = ⊥

-- the forms that can end for a cause
abbrev pub CanEnd : Option Form → Option Cause → Type 0
CanEnd form (Some (ScriptRefused line)) = ReadsScript form
CanEnd form (Some ReadFault) = ReadsScript form
CanEnd form (Some WriteFault) = WritesText form
CanEnd form (Some NotStore) = ReadsStore form
CanEnd form (Some (Corrupt place)) = ReadsStore form
CanEnd form (Some DiskFault) = NamesDisk form
CanEnd form (Some HostFault) = NamesDisk form
CanEnd form other = Unit {0}

-- Whether the store of the host was opened, by what went wrong first. So what is wrong with the store is told before what is wrong with the script, and
-- a run that ends well has its store. Faults of the host and of the disk and want of memory come before the opening and after it.
abbrev pub HasBegun : {S : Type 0} → Option S → Option Cause → Type 0
HasBegun opened (Some WordsRefused) = opened ≡ None
HasBegun opened (Some HostFault) = Unit {0}
HasBegun opened (Some NotStore) = opened ≡ None
HasBegun opened (Some (Corrupt place)) = opened ≡ None
HasBegun opened (Some DiskFault) = Unit {0}
HasBegun opened (Some NoMemory) = Unit {0}
HasBegun opened other = IsSome opened

-- the cause says why a store wasn't read: it is none, or corrupt at a place
abbrev pub TellsStore : Option Cause → Type 0
TellsStore (Some NotStore) = Unit {0}
TellsStore (Some (Corrupt place)) = Unit {0}
TellsStore other = ⊥

-- the host holds an image on which recovery finds a store
abbrev pub HoldsStore : (List ℕ → Type 0) → Type 0
HoldsStore held = (image : List ℕ) × held image × (geometry : ℕ) × (fsid : ℕ) × (n : ℕ) × (h : Held) × IsRecovered geometry fsid n h image

-- the host holds a store under the name, where the words name one, and the words have a form
abbrev pub FindsStore : Option Form → (List ℕ → List ℕ → Type 0) → Type 0
FindsStore (Some (ReplayStore path dir)) holds = HoldsStore (holds path)
FindsStore (Some (Show path)) holds = HoldsStore (holds path)
FindsStore (Some (ShowVolumes path dir)) holds = HoldsStore (holds path)
FindsStore (Some (Format path size)) holds = Unit {0}
FindsStore (Some Replay) holds = Unit {0}
FindsStore (Some (Drill number)) holds = Unit {0}
FindsStore None holds = ⊥

-- the source gives a script
pub record GivesScript (given : Option (List ℕ)) : Type 0 where
  pub bytes : List ℕ
  pub known : given ≡ Some bytes
  pub lines : List Line
  pub script : IsScript (script_bytes bytes) lines

abbrev pub FindsScript : Option Form → Option (List ℕ) → Type 0
FindsScript (Some (Format path size)) given = Unit {0}
FindsScript (Some (Show path)) given = Unit {0}
FindsScript (Some (ShowVolumes path dir)) given = Unit {0}
FindsScript (Some (Drill number)) given = Unit {0}
FindsScript (Some Replay) given = GivesScript given
FindsScript (Some (ReplayStore path dir)) given = GivesScript given
FindsScript None given = ⊥

pub record NothingFails {D : Type 0} (g : disk.Ghosts D) (Fails : Type 0) (source : SourceTold) (sink : SinkTold) (disk : Option D) : Type 0 where
  pub source_works : ¬ (Rose source.before source.now)
  pub sink_works : ¬ (Rose sink.before sink.now)
  pub host_works : ¬ Fails
  pub disk_works : ¬ (HasFailed g disk)

-- The host has failed: it handed out no disk, or, for a store that was opened, no drives.
abbrev pub Lacks : {D M : Type 0} → Outcome D M → Type 0
Lacks o = (o.disk ≡ None) ⊎ (IsSome (opened_in o) × (o.drives ≡ []))

-- The same of a store that is shown with its classes; or a drive has failed that is given back.
abbrev pub LacksShown : {D M : Type 0} → drive.Ghosts M → Outcome D M → Type 0
LacksShown g o = (o.disk ≡ None) ⊎ ((o.drives ≡ []) ⊎ HasDriveFailed g o.drives)

-- what is wanting where the host has failed
abbrev pub LacksFor : {D M : Type 0} → drive.Ghosts M → Option Form → Outcome D M → Type 0
LacksFor g (Some (ShowVolumes path dir)) o = LacksShown g o
LacksFor g other o = Lacks o

-- When each status comes. Words that have no form are refused, and no others, but for want of memory. A disk that the host handed out is given
-- back, and the host has failed only where it didn't hand out one, or drives, or where a drive failed whose objects are counted. A store that was
-- opened is the one that recovery finds on what the host held. Where recovery finds nothing, the disk came and hasn't failed, that is told, or
-- want of memory. And a run of a command that finds its store and its script, and in which nothing fails, ends with status 0, or 8.
pub record StatusClause {D M : Type 0} (g : disk.Ghosts D) (h : drive.Ghosts M) (form : Option Form) (holds : List ℕ → List ℕ → Type 0) (source : SourceTold) (sink : SinkTold) (host : HostTold) (o : Outcome D M) : Type 0 where
  pub status : o.status ≡ status_of o.cause
  pub place : o.at ≡ place_of o.cause
  pub base : o.base ≡ base_of (opened_in o)
  pub words : o.cause ≡ Some WordsRefused → form ≡ None
  pub no_words : form ≡ None → (o.cause ≡ Some WordsRefused) ⊎ (o.cause ≡ Some NoMemory)
  pub why : Why g (IsNamed form holds) (HostFails h form host o.drives) source sink o.disk o.cause
  pub forms : CanEnd form o.cause
  pub begun : OpensStore form → HasBegun (opened_in o) o.cause
  pub lent : o.cause ≡ Some HostFault → LacksFor h form o
  pub back : NamesDisk form → o.disk ≡ None → (o.cause ≡ Some HostFault) ⊎ (o.cause ≡ Some NoMemory)
  pub opened : IfSome (opened_in o) (λ s. (s.held ≡ s.durable) × ((image : List ℕ) → IsNamed form holds image → IsDurable s image))
  pub refused : (image : List ℕ) → IsNamed form holds image → FindsNothing image → IsSome o.disk → ¬ (HasFailed g o.disk) → TellsStore o.cause ⊎ (o.cause ≡ Some NoMemory)
  pub complete : FindsStore form holds → FindsScript form source.given → NothingFails g (HostFails h form host o.drives) source sink o.disk → (o.cause ≡ None) ⊎ (o.cause ≡ Some NoMemory)

-- ---- the faults clause

-- a source has failed only where that is told
abbrev pub ReadsQuietly : SourceTold → Option Cause → Type 0
ReadsQuietly source cause = cause ≢ Some ReadFault → source.now ≡ source.before

-- a sink has failed only where that is told, or a fault of the disk, or want of memory
abbrev pub WritesQuietly : SinkTold → Option Cause → Type 0
WritesQuietly sink cause = cause ≢ Some WriteFault → cause ≢ Some DiskFault → cause ≢ Some NoMemory → sink.now ≡ sink.before

-- a disk that the host handed out has failed only where that is told, by the cause or by an entry
abbrev pub KeepsQuietly : {D : Type 0} → disk.Ghosts D → List Entry → Option Cause → Option D → Type 0
KeepsQuietly g history cause disk = cause ≢ Some DiskFault → has_fault history ≡ false → IfSome disk (λ d. g.fault_count d ≡ 0)

-- a host has failed only where that is told
abbrev pub HandsQuietly : HostTold → Option Cause → Type 0
HandsQuietly host cause = cause ≢ Some HostFault → host.now ≡ host.before

-- no drive has failed
abbrev pub NeverFailed : {M : Type 0} → drive.Ghosts M → List M → Type 0
NeverFailed g drives = AllByRecursion (λ d. g.fault_count d ≡ 0) drives

-- a drive that `show PATH DIR` gives back has failed only where that is told
abbrev pub CountsQuietly : {M : Type 0} → drive.Ghosts M → Option Form → Option Cause → List M → Type 0
CountsQuietly g (Some (ShowVolumes path dir)) cause drives = cause ≢ Some HostFault → NeverFailed g drives
CountsQuietly g other cause drives = Unit {0}

-- What has failed is told: a source, a host or a disk, a drive whose objects are counted, and a sink, unless something else is told. And a source, a sink
-- and a host fail in one call at most, since the run ends for it.
pub record FaultsClause {D M : Type 0} (g : disk.Ghosts D) (h : drive.Ghosts M) (form : Option Form) (source : SourceTold) (sink : SinkTold) (host : HostTold) (o : Outcome D M) : Type 0 where
  pub reads : ReadsQuietly source o.cause
  pub writes : WritesQuietly sink o.cause
  pub keeps : KeepsQuietly g o.history o.cause o.disk
  pub hands : HandsQuietly host o.cause
  pub counts : CountsQuietly h form o.cause o.drives
  pub source_once : FailsOnce source.before source.now
  pub sink_once : FailsOnce sink.before sink.now
  pub host_once : FailsOnce host.before host.now

-- ---- all of them

-- All that is promised of a run whose words have that form, by what the host, the source and the sink tell before it and after it.
pub record KeepsPromises {H D M : Type 0} (t : host.Ghosts H D M) (g : disk.Ghosts D) (h : drive.Ghosts M) (form : Option Form) (old new : H) (source : SourceTold) (sink : SinkTold) (o : Outcome D M) : Type 0 where
  pub deeds : DeedsClause h (t.stores old) form source o
  pub reading : ReadingClause form source o
  pub legality : LegalityClause g o
  pub plain : PlainClause o
  pub media : MediaClause h form o
  pub crash : CrashClause g form (t.holds old) o
  pub format : FormatClause g form o
  pub host : HostClause t.holds t.make_count t.open_count form old new o
  pub drives : DrivesClause h t.holds t.stores t.drive_count form old new o
  pub output : OutputClause form (t.holds old) (t.stores old) o sink
  pub status : StatusClause g h form (t.holds old) source sink (host_told t.fault_count old new) o
  pub faults : FaultsClause g h form source sink (host_told t.fault_count old new) o
