-- What an event does to one file, of callers and sessions alike. What becomes of files, and of what stands beside them, goes by the effect of a
-- completed event, and not by its call.
use Rattle.std.specs.Prelude.{ℕ, ◌+◌, ◌/◌, ◌==◌, List, if◌then◌else◌}
use Rattle.hsm_types.specs.Limits.{file_segments, segment_bytes}
use Rattle.hsm_types.specs.Segments.{segments_in}
use Rattle.hsm_types.specs.Rights.{Rights, with_right, requested, without_right}
use Rattle.hsm_types.specs.Sessions.{SessionTable, with_session, without_session, with_kinds, delivered_within, user_event, sent}
use Rattle.hsm_types.specs.declared.attributes.AttrName.{AttrName}
use Rattle.hsm_types.specs.declared.regions.Region.{Region}
use Rattle.hsm_types.specs.declared.stubs.StubEntry.{StubEntry}
use Rattle.hsm_types.specs.declared.keys.FileKey.{FileKey}
use Rattle.hsm_types.specs.declared.keys.Sid.{Sid}
use Rattle.hsm_types.specs.declared.keys.Token.{Token}
use Rattle.hsm_types.specs.declared.calls.Call.{Call}
use Rattle.hsm_types.specs.declared.calls.Call.TheVariants.{Create, Read, Write, Truncate, Remove, Stat, Sync}
use Rattle.hsm_types.specs.declared.dm.Right.TheVariants.{Shared, Excl}
use Rattle.hsm_types.specs.declared.dm.DmCall.{DmCall}
use Rattle.hsm_types.specs.declared.dm.DmCall.TheVariants.{CreateSession, DestroySession, GetAllSessions, QuerySession, SetDisp, GetDisp, GetEvents}
use Rattle.hsm_types.specs.declared.dm.DmCall.TheVariants.{GetAllTokens, FindEventMsg, Respond, CreateUserEvent, SendMsg, RequestRight, ReleaseRight}
use Rattle.hsm_types.specs.declared.dm.DmCall.TheVariants.{QueryRight, UpgradeRight, DowngradeRight, GetFileAttr, SetRegion, GetRegion, SetDmAttr}
use Rattle.hsm_types.specs.declared.dm.DmCall.TheVariants.{GetDmAttr, RemoveDmAttr, GetAllDmAttr, ReadInvis, WriteInvis, PunchHole, ProbeHole}
use Rattle.hsm_types.specs.declared.dm.DmCall.TheVariants.{GetAllocInfo, Seal, Restore, PathToHandle, GetSpace, GetTable}

pub data Effect : Type 0 where
  Leaves : Effect
  -- a new file of that name, with no bytes
  Makes : List ℕ → Effect
  Drops : Effect
  -- the bytes stand at the offset
  Writes : ℕ → List ℕ → Effect
  -- the file has that size
  Resizes : ℕ → Effect
  -- its regions are these
  Manages : List Region → Effect
  -- its attribute of that name has this value
  Attaches : AttrName → List ℕ → Effect
  -- it has no attribute of that name
  Detaches : AttrName → Effect
  -- the segment is sealed with that entry
  Seals : ℕ → StubEntry → Effect
  -- the bytes of the segments from the first up to the second are away, and their entries stand for them
  Punches : ℕ → ℕ → Effect
  -- the bytes of the segment are here again
  Restores : ℕ → List ℕ → Effect

-- of a caller's call that is done
abbrev pub effect_of : Call → Effect
effect_of (Create name) = Makes name
effect_of (Read name offset len) = Leaves
effect_of (Write name offset bytes) = Writes offset bytes
effect_of (Truncate name size) = Resizes size
effect_of (Remove name) = Drops
effect_of (Stat name) = Leaves
effect_of Sync = Leaves

-- The segments that a punch is of: those from the first number up to the second, as far as the file has them. No file of any format has more than
-- `file_segments`.
abbrev pub punch_from : ℕ → ℕ
punch_from offset = offset / segment_bytes

abbrev pub punch_to : ℕ → ℕ → ℕ
punch_to offset len = if len == 0 then file_segments else segments_in (offset + len)

-- what a call changes that is done: nothing, one file, the sessions, for which there is a token that was never given, or what tokens hold
pub data Change : Type 0 where
  Nothing : Change
  OfFile : FileKey → Effect → Change
  OfSessions : (Token → SessionTable → SessionTable) → Change
  OfRights : (Rights → Rights) → Change
  -- a token of that session is over, with all its rights
  Closes : Sid → Token → Change

-- of a call of that session
abbrev pub change_of : Sid → DmCall → Change
change_of sid (CreateSession old info) = OfSessions (λ new. with_session old info)
change_of sid DestroySession = OfSessions (λ new. without_session sid)
change_of sid GetAllSessions = Nothing
change_of sid (QuerySession target) = Nothing
change_of sid (SetDisp kinds) = OfSessions (λ new. with_kinds sid kinds)
change_of sid GetDisp = Nothing
change_of sid (GetEvents max room) = OfSessions (λ new. delivered_within sid max room)
change_of sid GetAllTokens = Nothing
change_of sid (FindEventMsg token room) = Nothing
change_of sid (Respond token response) = Closes sid token
change_of sid (CreateUserEvent body) = OfSessions (λ new. user_event sid new body)
change_of sid (SendMsg target body) = OfSessions (λ new. sent target body)
change_of sid (RequestRight token handle right) = OfRights (requested token handle.key right)
change_of sid (ReleaseRight token handle) = OfRights (without_right token handle.key)
change_of sid (QueryRight token handle) = Nothing
change_of sid (UpgradeRight token handle) = OfRights (with_right token handle.key Excl)
change_of sid (DowngradeRight token handle) = OfRights (with_right token handle.key Shared)
change_of sid (GetFileAttr token handle) = Nothing
change_of sid (SetRegion token handle regions) = OfFile handle.key (Manages regions)
change_of sid (GetRegion token handle) = Nothing
change_of sid (SetDmAttr token handle name value) = OfFile handle.key (Attaches name value)
change_of sid (GetDmAttr token handle name) = Nothing
change_of sid (RemoveDmAttr token handle name) = OfFile handle.key (Detaches name)
change_of sid (GetAllDmAttr token handle) = Nothing
change_of sid (ReadInvis token handle offset len) = Nothing
change_of sid (WriteInvis token handle offset body) = OfFile handle.key (Writes offset body)
change_of sid (PunchHole token handle offset len) = OfFile handle.key (Punches (punch_from offset) (punch_to offset len))
change_of sid (ProbeHole token handle offset len) = Nothing
change_of sid (GetAllocInfo token handle) = Nothing
change_of sid (Seal token handle segment entry) = OfFile handle.key (Seals segment entry)
change_of sid (Restore token handle segment bytes) = OfFile handle.key (Restores segment bytes)
change_of sid (PathToHandle name) = Nothing
change_of sid GetSpace = Nothing
change_of sid GetTable = Nothing
