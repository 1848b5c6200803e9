-- What is handed out to sessions.
use Rattle.hsm_types.specs.Messages.{handed_out}
use Rattle.hsm_types.specs.Sessions.{SessionTable, queue_of, outstanding_message}
use Rattle.hsm_types.specs.declared.keys.Sid.{Sid}
use Rattle.hsm_types.specs.declared.dm.DmCall.{DmCall}
use Rattle.hsm_types.specs.declared.dm.DmCall.TheVariants.{GetEvents, FindEventMsg}
use Rattle.hsm_types.specs.declared.dm.DmReply.{DmReply}
use Rattle.hsm_types.specs.declared.dm.DmReply.TheVariants.{Packed}
use Rattle.plain_model.specs.Services.{message_or_none}
use Rattle.event_msgs.specs.Buffers.{IsPacked}

-- A buffer that a call hands out is that of its messages: each of their numbers has room in its field.
abbrev pub HandsOut : SessionTable → Sid → DmCall → DmReply → Type 0
HandsOut t sid (GetEvents most room) (Packed bytes tokens) = IsPacked bytes (handed_out most room (queue_of sid t))
HandsOut t sid (FindEventMsg token room) (Packed bytes tokens) = IsPacked bytes (message_or_none (outstanding_message token t))
HandsOut t sid call reply = Unit {0}
