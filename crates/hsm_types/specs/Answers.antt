-- The kinds of answers that sessions are told.
use Rattle.hsm_types.specs.declared.dm.DmCall.{DmCall}
use Rattle.hsm_types.specs.declared.dm.DmCall.TheVariants.{CreateSession, DestroySession, GetAllSessions, QuerySession, SetDisp, GetDisp, GetEvents}
use Rattle.hsm_types.specs.declared.dm.DmCall.TheVariants.{GetAllTokens, FindEventMsg, Respond, CreateUserEvent, SendMsg, RequestRight, ReleaseRight}
use Rattle.hsm_types.specs.declared.dm.DmCall.TheVariants.{QueryRight, UpgradeRight, DowngradeRight, GetFileAttr, SetRegion, GetRegion, SetDmAttr}
use Rattle.hsm_types.specs.declared.dm.DmCall.TheVariants.{GetDmAttr, RemoveDmAttr, GetAllDmAttr, ReadInvis, WriteInvis, PunchHole, ProbeHole}
use Rattle.hsm_types.specs.declared.dm.DmCall.TheVariants.{GetAllocInfo, Seal, Restore, PathToHandle, GetSpace, GetTable}
use Rattle.hsm_types.specs.declared.dm.DmReply.{DmReply}
use Rattle.hsm_types.specs.declared.dm.DmReply.TheVariants as told

pub data ReplyKind : Type 0 where
  OfDone : ReplyKind
  OfSession : ReplyKind
  OfSids : ReplyKind
  OfInfo : ReplyKind
  OfKinds : ReplyKind
  OfPacked : ReplyKind
  OfTokens : ReplyKind
  OfToken : ReplyKind
  OfRight : ReplyKind
  OfAttr : ReplyKind
  OfData : ReplyKind
  OfRange : ReplyKind
  OfAlloc : ReplyKind
  OfRegions : ReplyKind
  OfNames : ReplyKind
  OfHandle : ReplyKind
  OfSpace : ReplyKind
  OfTable : ReplyKind
  OfRefusal : ReplyKind

abbrev pub reply_kind : DmReply → ReplyKind
reply_kind told.Done = OfDone
reply_kind (told.Session sid) = OfSession
reply_kind (told.Sids sids) = OfSids
reply_kind (told.Info info) = OfInfo
reply_kind (told.Kinds kinds) = OfKinds
reply_kind (told.Packed bytes tokens) = OfPacked
reply_kind (told.Tokens tokens) = OfTokens
reply_kind (told.Token token) = OfToken
reply_kind (told.Right right) = OfRight
reply_kind (told.Attr size stamp blocks) = OfAttr
reply_kind (told.Data bytes) = OfData
reply_kind (told.Range offset len) = OfRange
reply_kind (told.Alloc segments) = OfAlloc
reply_kind (told.Regions regions) = OfRegions
reply_kind (told.Names names) = OfNames
reply_kind (told.Handle handle) = OfHandle
reply_kind (told.Space used total) = OfSpace
reply_kind (told.Table table) = OfTable
reply_kind (told.Refused why) = OfRefusal

-- the kind of the answer to a call that is done
abbrev pub answer_kind : DmCall → ReplyKind
answer_kind (CreateSession old info) = OfSession
answer_kind DestroySession = OfDone
answer_kind GetAllSessions = OfSids
answer_kind (QuerySession target) = OfInfo
answer_kind (SetDisp kinds) = OfDone
answer_kind GetDisp = OfKinds
answer_kind (GetEvents max room) = OfPacked
answer_kind GetAllTokens = OfTokens
answer_kind (FindEventMsg token room) = OfPacked
answer_kind (Respond token response) = OfDone
answer_kind (CreateUserEvent body) = OfToken
answer_kind (SendMsg target body) = OfDone
answer_kind (RequestRight token handle right) = OfDone
answer_kind (ReleaseRight token handle) = OfDone
answer_kind (QueryRight token handle) = OfRight
answer_kind (UpgradeRight token handle) = OfDone
answer_kind (DowngradeRight token handle) = OfDone
answer_kind (GetFileAttr token handle) = OfAttr
answer_kind (SetRegion token handle regions) = OfDone
answer_kind (GetRegion token handle) = OfRegions
answer_kind (SetDmAttr token handle name value) = OfDone
answer_kind (GetDmAttr token handle name) = OfData
answer_kind (RemoveDmAttr token handle name) = OfDone
answer_kind (GetAllDmAttr token handle) = OfNames
answer_kind (ReadInvis token handle offset len) = OfData
answer_kind (WriteInvis token handle offset body) = OfDone
answer_kind (PunchHole token handle offset len) = OfDone
answer_kind (ProbeHole token handle offset len) = OfRange
answer_kind (GetAllocInfo token handle) = OfAlloc
answer_kind (Seal token handle segment entry) = OfDone
answer_kind (Restore token handle segment bytes) = OfDone
answer_kind (PathToHandle name) = OfHandle
answer_kind GetSpace = OfSpace
answer_kind GetTable = OfTable
