-- Who may make a session's call, and what it names.
use Rattle.hsm_types.specs.declared.dm.DmCall.{DmCall}
use Rattle.hsm_types.specs.declared.dm.DmCall.TheVariants.{CreateSession, DestroySession, GetAllSessions, QuerySession, SetDisp, GetDisp, GetEvents}
use Rattle.hsm_types.specs.declared.dm.DmCall.TheVariants.{GetAllTokens, FindEventMsg, Respond, CreateUserEvent, SendMsg, RequestRight, ReleaseRight}
use Rattle.hsm_types.specs.declared.dm.DmCall.TheVariants.{QueryRight, UpgradeRight, DowngradeRight, GetFileAttr, SetRegion, GetRegion, SetDmAttr}
use Rattle.hsm_types.specs.declared.dm.DmCall.TheVariants.{GetDmAttr, RemoveDmAttr, GetAllDmAttr, ReadInvis, WriteInvis, PunchHole, ProbeHole}
use Rattle.hsm_types.specs.declared.dm.DmCall.TheVariants.{GetAllocInfo, Seal, Restore, PathToHandle, GetSpace, GetTable}
use Rattle.hsm_types.specs.declared.dm.Right.TheVariants.{Null, Shared, Excl}
use Rattle.hsm_types.specs.declared.dm.Scope.{Scope}
use Rattle.hsm_types.specs.declared.dm.Scope.TheVariants.{Anyone, InSession, OnToken, OnFile, OnRight}

abbrev pub scope_of : DmCall → Scope
scope_of (CreateSession old info) = Anyone
scope_of DestroySession = InSession
scope_of GetAllSessions = Anyone
scope_of (QuerySession target) = Anyone
scope_of (SetDisp kinds) = InSession
scope_of GetDisp = InSession
scope_of (GetEvents max room) = InSession
scope_of GetAllTokens = InSession
scope_of (FindEventMsg token room) = OnToken token
scope_of (Respond token response) = OnToken token
scope_of (CreateUserEvent body) = InSession
scope_of (SendMsg target body) = InSession
scope_of (RequestRight token handle right) = OnRight token handle Null
scope_of (ReleaseRight token handle) = OnRight token handle Null
scope_of (QueryRight token handle) = OnRight token handle Null
scope_of (UpgradeRight token handle) = OnRight token handle Shared
scope_of (DowngradeRight token handle) = OnRight token handle Excl
scope_of (GetFileAttr token handle) = OnFile token handle Shared
scope_of (SetRegion token handle regions) = OnFile token handle Excl
scope_of (GetRegion token handle) = OnFile token handle Shared
scope_of (SetDmAttr token handle name value) = OnFile token handle Excl
scope_of (GetDmAttr token handle name) = OnFile token handle Shared
scope_of (RemoveDmAttr token handle name) = OnFile token handle Excl
scope_of (GetAllDmAttr token handle) = OnFile token handle Shared
scope_of (ReadInvis token handle offset len) = OnFile token handle Shared
scope_of (WriteInvis token handle offset body) = OnFile token handle Excl
scope_of (PunchHole token handle offset len) = OnFile token handle Excl
scope_of (ProbeHole token handle offset len) = OnFile token handle Shared
scope_of (GetAllocInfo token handle) = OnFile token handle Shared
scope_of (Seal token handle segment entry) = OnFile token handle Excl
scope_of (Restore token handle segment bytes) = OnFile token handle Excl
scope_of (PathToHandle name) = InSession
scope_of GetSpace = InSession
scope_of GetTable = InSession
