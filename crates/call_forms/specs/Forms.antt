-- The forms of calls: the verb, and the parts behind it in order.
use Rattle.std.specs.Prelude.{ℕ, List, [], ◌∷◌, codes, drop}
use Rattle.hsm_types.specs.declared.calls.Call.{Call}
use Rattle.hsm_types.specs.declared.calls.Call.TheVariants.{Create, Read, Write, Truncate, Remove, Stat, Sync}
use Rattle.hsm_types.specs.declared.dm.DmCall.{DmCall}
use Rattle.hsm_types.specs.declared.dm.DmCall.TheVariants.{CreateSession, DestroySession, GetAllSessions, QuerySession, SetDisp, GetDisp, GetEvents}
use Rattle.hsm_types.specs.declared.dm.DmCall.TheVariants.{GetAllTokens, FindEventMsg, Respond, CreateUserEvent, SendMsg, RequestRight, ReleaseRight}
use Rattle.hsm_types.specs.declared.dm.DmCall.TheVariants.{QueryRight, UpgradeRight, DowngradeRight, GetFileAttr, SetRegion, GetRegion, SetDmAttr}
use Rattle.hsm_types.specs.declared.dm.DmCall.TheVariants.{GetDmAttr, RemoveDmAttr, GetAllDmAttr, ReadInvis, WriteInvis, PunchHole, ProbeHole}
use Rattle.hsm_types.specs.declared.dm.DmCall.TheVariants.{GetAllocInfo, Seal, Restore, PathToHandle, GetSpace, GetTable}
use Rattle.hsm_types.specs.Stubs.{entry_place, entry_print}
use Rattle.call_forms.specs.declared.forms.CallVerb.{CallVerb}
use Rattle.call_forms.specs.declared.forms.CallVerb.TheVariants as verbs
use Rattle.call_forms.specs.declared.forms.DmVerb.{DmVerb}
use Rattle.call_forms.specs.declared.forms.DmVerb.TheVariants as dm_verbs
use Rattle.call_forms.specs.declared.parts.Part.{Part}
use Rattle.call_forms.specs.declared.parts.Part.TheVariants as part
use Rattle.call_forms.specs.declared.parts.PartKind.{PartKind}
use Rattle.call_forms.specs.declared.parts.PartKind.TheVariants as kinds
use Rattle.call_forms.specs.Parts.{number_in, count_in, fetch_in, word_in, handle_in, regions_in, name_in, kinds_in, response_in, right_in, entry_in}
use Rattle.call_forms.specs.Parts.{data_in, verified_in}

-- ---- callers

-- a verb's text, and the kinds of what stands behind it
abbrev pub verb_row : CallVerb → List ℕ × List PartKind
verb_row verbs.Create = (codes "create", kinds.Word ∷ [])
verb_row verbs.Read = (codes "read", kinds.Word ∷ kinds.Number ∷ kinds.Fetch ∷ [])
verb_row verbs.Write = (codes "write", kinds.Word ∷ kinds.Number ∷ kinds.Data ∷ [])
verb_row verbs.Truncate = (codes "truncate", kinds.Word ∷ kinds.Number ∷ [])
verb_row verbs.Remove = (codes "remove", kinds.Word ∷ [])
verb_row verbs.Stat = (codes "stat", kinds.Word ∷ [])
verb_row verbs.Sync = (codes "sync", [])

abbrev pub verb_text : CallVerb → List ℕ
verb_text verb = (verb_row verb).0

abbrev pub verb_kinds : CallVerb → List PartKind
verb_kinds verb = (verb_row verb).1

abbrev pub call_form : Call → CallVerb × List Part
call_form (Create name) = (verbs.Create, part.Word name ∷ [])
call_form (Read name offset len) = (verbs.Read, part.Word name ∷ part.Number offset ∷ part.Fetch len ∷ [])
call_form (Write name offset bytes) = (verbs.Write, part.Word name ∷ part.Number offset ∷ part.Data bytes ∷ [])
call_form (Truncate name size) = (verbs.Truncate, part.Word name ∷ part.Number size ∷ [])
call_form (Remove name) = (verbs.Remove, part.Word name ∷ [])
call_form (Stat name) = (verbs.Stat, part.Word name ∷ [])
call_form Sync = (verbs.Sync, [])

-- the call of a verb and parts of the kinds that it has
abbrev pub call_of : CallVerb → List Part → Call
call_of verbs.Create ps = Create (word_in ps)
call_of verbs.Read ps = Read (word_in ps) (number_in (drop 1 ps)) (fetch_in (drop 1 (drop 1 ps)))
call_of verbs.Write ps = Write (word_in ps) (number_in (drop 1 ps)) (data_in (drop 1 (drop 1 ps)))
call_of verbs.Truncate ps = Truncate (word_in ps) (number_in (drop 1 ps))
call_of verbs.Remove ps = Remove (word_in ps)
call_of verbs.Stat ps = Stat (word_in ps)
call_of verbs.Sync ps = Sync

-- ---- sessions

-- a verb's text, and the kinds of what stands behind it
abbrev pub dm_verb_row : DmVerb → List ℕ × List PartKind
dm_verb_row dm_verbs.CreateSession = (codes "session", kinds.Number ∷ kinds.Word ∷ [])
dm_verb_row dm_verbs.DestroySession = (codes "destroy", [])
dm_verb_row dm_verbs.GetAllSessions = (codes "sessions", [])
dm_verb_row dm_verbs.QuerySession = (codes "query", kinds.Number ∷ [])
dm_verb_row dm_verbs.SetDisp = (codes "setdisp", kinds.Kinds ∷ [])
dm_verb_row dm_verbs.GetDisp = (codes "disp", [])
dm_verb_row dm_verbs.GetEvents = (codes "getevents", kinds.Count ∷ kinds.Count ∷ [])
dm_verb_row dm_verbs.GetAllTokens = (codes "tokens", [])
dm_verb_row dm_verbs.FindEventMsg = (codes "findmsg", kinds.Number ∷ kinds.Count ∷ [])
dm_verb_row dm_verbs.Respond = (codes "respond", kinds.Number ∷ kinds.Response ∷ [])
dm_verb_row dm_verbs.CreateUserEvent = (codes "userevent", kinds.Data ∷ [])
dm_verb_row dm_verbs.SendMsg = (codes "send", kinds.Number ∷ kinds.Data ∷ [])
dm_verb_row dm_verbs.RequestRight = (codes "request", kinds.Number ∷ kinds.Handle ∷ kinds.Right ∷ [])
dm_verb_row dm_verbs.ReleaseRight = (codes "release", kinds.Number ∷ kinds.Handle ∷ [])
dm_verb_row dm_verbs.QueryRight = (codes "right", kinds.Number ∷ kinds.Handle ∷ [])
dm_verb_row dm_verbs.UpgradeRight = (codes "upgrade", kinds.Number ∷ kinds.Handle ∷ [])
dm_verb_row dm_verbs.DowngradeRight = (codes "downgrade", kinds.Number ∷ kinds.Handle ∷ [])
dm_verb_row dm_verbs.GetFileAttr = (codes "fileattr", kinds.Number ∷ kinds.Handle ∷ [])
dm_verb_row dm_verbs.SetRegion = (codes "setregion", kinds.Number ∷ kinds.Handle ∷ kinds.Regions ∷ [])
dm_verb_row dm_verbs.GetRegion = (codes "getregion", kinds.Number ∷ kinds.Handle ∷ [])
dm_verb_row dm_verbs.SetDmAttr = (codes "setattr", kinds.Number ∷ kinds.Handle ∷ kinds.Name ∷ kinds.Data ∷ [])
dm_verb_row dm_verbs.GetDmAttr = (codes "getattr", kinds.Number ∷ kinds.Handle ∷ kinds.Name ∷ [])
dm_verb_row dm_verbs.RemoveDmAttr = (codes "rmattr", kinds.Number ∷ kinds.Handle ∷ kinds.Name ∷ [])
dm_verb_row dm_verbs.GetAllDmAttr = (codes "attrs", kinds.Number ∷ kinds.Handle ∷ [])
dm_verb_row dm_verbs.ReadInvis = (codes "readinvis", kinds.Number ∷ kinds.Handle ∷ kinds.Number ∷ kinds.Fetch ∷ [])
dm_verb_row dm_verbs.WriteInvis = (codes "writeinvis", kinds.Number ∷ kinds.Handle ∷ kinds.Number ∷ kinds.Data ∷ [])
dm_verb_row dm_verbs.PunchHole = (codes "punch", kinds.Number ∷ kinds.Handle ∷ kinds.Number ∷ kinds.Number ∷ [])
dm_verb_row dm_verbs.ProbeHole = (codes "probe", kinds.Number ∷ kinds.Handle ∷ kinds.Number ∷ kinds.Number ∷ [])
dm_verb_row dm_verbs.GetAllocInfo = (codes "alloc", kinds.Number ∷ kinds.Handle ∷ [])
dm_verb_row dm_verbs.Seal = (codes "seal", kinds.Number ∷ kinds.Handle ∷ kinds.Count ∷ kinds.Count ∷ kinds.Count ∷ kinds.Count ∷ kinds.Digest ∷ [])
dm_verb_row dm_verbs.Restore = (codes "restore", kinds.Number ∷ kinds.Handle ∷ kinds.Count ∷ kinds.Verified ∷ [])
dm_verb_row dm_verbs.PathToHandle = (codes "handle", kinds.Word ∷ [])
dm_verb_row dm_verbs.GetSpace = (codes "space", [])
dm_verb_row dm_verbs.GetTable = (codes "table", [])

abbrev pub dm_verb_text : DmVerb → List ℕ
dm_verb_text verb = (dm_verb_row verb).0

abbrev pub dm_verb_kinds : DmVerb → List PartKind
dm_verb_kinds verb = (dm_verb_row verb).1

abbrev pub dm_form : DmCall → DmVerb × List Part
dm_form (CreateSession old info) = (dm_verbs.CreateSession, part.Number old.0 ∷ part.Word info ∷ [])
dm_form DestroySession = (dm_verbs.DestroySession, [])
dm_form GetAllSessions = (dm_verbs.GetAllSessions, [])
dm_form (QuerySession target) = (dm_verbs.QuerySession, part.Number target.0 ∷ [])
dm_form (SetDisp taken) = (dm_verbs.SetDisp, part.Kinds taken ∷ [])
dm_form GetDisp = (dm_verbs.GetDisp, [])
dm_form (GetEvents max room) = (dm_verbs.GetEvents, part.Count max ∷ part.Count room ∷ [])
dm_form GetAllTokens = (dm_verbs.GetAllTokens, [])
dm_form (FindEventMsg token room) = (dm_verbs.FindEventMsg, part.Number token.0 ∷ part.Count room ∷ [])
dm_form (Respond token response) = (dm_verbs.Respond, part.Number token.0 ∷ part.Response response ∷ [])
dm_form (CreateUserEvent body) = (dm_verbs.CreateUserEvent, part.Data body ∷ [])
dm_form (SendMsg target body) = (dm_verbs.SendMsg, part.Number target.0 ∷ part.Data body ∷ [])
dm_form (RequestRight token handle right) = (dm_verbs.RequestRight, part.Number token.0 ∷ part.Handle handle ∷ part.Right right ∷ [])
dm_form (ReleaseRight token handle) = (dm_verbs.ReleaseRight, part.Number token.0 ∷ part.Handle handle ∷ [])
dm_form (QueryRight token handle) = (dm_verbs.QueryRight, part.Number token.0 ∷ part.Handle handle ∷ [])
dm_form (UpgradeRight token handle) = (dm_verbs.UpgradeRight, part.Number token.0 ∷ part.Handle handle ∷ [])
dm_form (DowngradeRight token handle) = (dm_verbs.DowngradeRight, part.Number token.0 ∷ part.Handle handle ∷ [])
dm_form (GetFileAttr token handle) = (dm_verbs.GetFileAttr, part.Number token.0 ∷ part.Handle handle ∷ [])
dm_form (SetRegion token handle regions) = (dm_verbs.SetRegion, part.Number token.0 ∷ part.Handle handle ∷ part.Regions regions ∷ [])
dm_form (GetRegion token handle) = (dm_verbs.GetRegion, part.Number token.0 ∷ part.Handle handle ∷ [])
dm_form (SetDmAttr token handle name value) = (dm_verbs.SetDmAttr, part.Number token.0 ∷ part.Handle handle ∷ part.Name name ∷ part.Data value ∷ [])
dm_form (GetDmAttr token handle name) = (dm_verbs.GetDmAttr, part.Number token.0 ∷ part.Handle handle ∷ part.Name name ∷ [])
dm_form (RemoveDmAttr token handle name) = (dm_verbs.RemoveDmAttr, part.Number token.0 ∷ part.Handle handle ∷ part.Name name ∷ [])
dm_form (GetAllDmAttr token handle) = (dm_verbs.GetAllDmAttr, part.Number token.0 ∷ part.Handle handle ∷ [])
dm_form (ReadInvis token handle offset len) = (dm_verbs.ReadInvis, part.Number token.0 ∷ part.Handle handle ∷ part.Number offset ∷ part.Fetch len ∷ [])
dm_form (WriteInvis token handle offset body) = (dm_verbs.WriteInvis, part.Number token.0 ∷ part.Handle handle ∷ part.Number offset ∷ part.Data body ∷ [])
dm_form (PunchHole token handle offset len) = (dm_verbs.PunchHole, part.Number token.0 ∷ part.Handle handle ∷ part.Number offset ∷ part.Number len ∷ [])
dm_form (ProbeHole token handle offset len) = (dm_verbs.ProbeHole, part.Number token.0 ∷ part.Handle handle ∷ part.Number offset ∷ part.Number len ∷ [])
dm_form (GetAllocInfo token handle) = (dm_verbs.GetAllocInfo, part.Number token.0 ∷ part.Handle handle ∷ [])
dm_form (Seal token handle segment entry) = (
  dm_verbs.Seal,
  part.Number token.0 ∷ part.Handle handle ∷ part.Count segment ∷ part.Count (entry_place entry).volume ∷ part.Count (entry_place entry).object ∷ part.Count (entry_print entry).len ∷ part.Digest (entry_print entry).digest ∷ [],
)
dm_form (Restore token handle segment bytes) = (dm_verbs.Restore, part.Number token.0 ∷ part.Handle handle ∷ part.Count segment ∷ part.Verified bytes ∷ [])
dm_form (PathToHandle name) = (dm_verbs.PathToHandle, part.Word name ∷ [])
dm_form GetSpace = (dm_verbs.GetSpace, [])
dm_form GetTable = (dm_verbs.GetTable, [])

abbrev pub dm_call_of : DmVerb → List Part → DmCall
dm_call_of dm_verbs.CreateSession ps = CreateSession (record { 0 = number_in ps }) (word_in (drop 1 ps))
dm_call_of dm_verbs.DestroySession ps = DestroySession
dm_call_of dm_verbs.GetAllSessions ps = GetAllSessions
dm_call_of dm_verbs.QuerySession ps = QuerySession (record { 0 = number_in ps })
dm_call_of dm_verbs.SetDisp ps = SetDisp (kinds_in ps)
dm_call_of dm_verbs.GetDisp ps = GetDisp
dm_call_of dm_verbs.GetEvents ps = GetEvents (count_in ps) (count_in (drop 1 ps))
dm_call_of dm_verbs.GetAllTokens ps = GetAllTokens
dm_call_of dm_verbs.FindEventMsg ps = FindEventMsg (record { 0 = number_in ps }) (count_in (drop 1 ps))
dm_call_of dm_verbs.Respond ps = Respond (record { 0 = number_in ps }) (response_in (drop 1 ps))
dm_call_of dm_verbs.CreateUserEvent ps = CreateUserEvent (data_in ps)
dm_call_of dm_verbs.SendMsg ps = SendMsg (record { 0 = number_in ps }) (data_in (drop 1 ps))
dm_call_of dm_verbs.RequestRight ps = RequestRight (record { 0 = number_in ps }) (handle_in (drop 1 ps)) (right_in (drop 1 (drop 1 ps)))
dm_call_of dm_verbs.ReleaseRight ps = ReleaseRight (record { 0 = number_in ps }) (handle_in (drop 1 ps))
dm_call_of dm_verbs.QueryRight ps = QueryRight (record { 0 = number_in ps }) (handle_in (drop 1 ps))
dm_call_of dm_verbs.UpgradeRight ps = UpgradeRight (record { 0 = number_in ps }) (handle_in (drop 1 ps))
dm_call_of dm_verbs.DowngradeRight ps = DowngradeRight (record { 0 = number_in ps }) (handle_in (drop 1 ps))
dm_call_of dm_verbs.GetFileAttr ps = GetFileAttr (record { 0 = number_in ps }) (handle_in (drop 1 ps))
dm_call_of dm_verbs.SetRegion ps = SetRegion (record { 0 = number_in ps }) (handle_in (drop 1 ps)) (regions_in (drop 1 (drop 1 ps)))
dm_call_of dm_verbs.GetRegion ps = GetRegion (record { 0 = number_in ps }) (handle_in (drop 1 ps))
dm_call_of dm_verbs.SetDmAttr ps = SetDmAttr (record { 0 = number_in ps }) (handle_in (drop 1 ps)) (name_in (drop 1 (drop 1 ps))) (data_in (drop 1 (drop 1 (drop 1 ps))))
dm_call_of dm_verbs.GetDmAttr ps = GetDmAttr (record { 0 = number_in ps }) (handle_in (drop 1 ps)) (name_in (drop 1 (drop 1 ps)))
dm_call_of dm_verbs.RemoveDmAttr ps = RemoveDmAttr (record { 0 = number_in ps }) (handle_in (drop 1 ps)) (name_in (drop 1 (drop 1 ps)))
dm_call_of dm_verbs.GetAllDmAttr ps = GetAllDmAttr (record { 0 = number_in ps }) (handle_in (drop 1 ps))
dm_call_of dm_verbs.ReadInvis ps = ReadInvis (record { 0 = number_in ps }) (handle_in (drop 1 ps)) (number_in (drop 1 (drop 1 ps))) (fetch_in (drop 1 (drop 1 (drop 1 ps))))
dm_call_of dm_verbs.WriteInvis ps = WriteInvis (record { 0 = number_in ps }) (handle_in (drop 1 ps)) (number_in (drop 1 (drop 1 ps))) (data_in (drop 1 (drop 1 (drop 1 ps))))
dm_call_of dm_verbs.PunchHole ps = PunchHole (record { 0 = number_in ps }) (handle_in (drop 1 ps)) (number_in (drop 1 (drop 1 ps))) (number_in (drop 1 (drop 1 (drop 1 ps))))
dm_call_of dm_verbs.ProbeHole ps = ProbeHole (record { 0 = number_in ps }) (handle_in (drop 1 ps)) (number_in (drop 1 (drop 1 ps))) (number_in (drop 1 (drop 1 (drop 1 ps))))
dm_call_of dm_verbs.GetAllocInfo ps = GetAllocInfo (record { 0 = number_in ps }) (handle_in (drop 1 ps))
dm_call_of dm_verbs.Seal ps = Seal (record { 0 = number_in ps }) (handle_in (drop 1 ps)) (count_in (drop 1 (drop 1 ps))) (entry_in (drop 1 (drop 1 (drop 1 ps))))
dm_call_of dm_verbs.Restore ps = Restore (record { 0 = number_in ps }) (handle_in (drop 1 ps)) (count_in (drop 1 (drop 1 ps))) (verified_in (drop 1 (drop 1 (drop 1 ps))))
dm_call_of dm_verbs.PathToHandle ps = PathToHandle (word_in ps)
dm_call_of dm_verbs.GetSpace ps = GetSpace
dm_call_of dm_verbs.GetTable ps = GetTable
