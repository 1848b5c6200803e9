-- Which events of daemons are quiet.
use Rattle.std.specs.Prelude.{Bool, true, false, ◌||◌}
use Rattle.hsm_types.specs.declared.dm.DmCall.{DmCall}
use Rattle.hsm_types.specs.declared.dm.DmCall.TheVariants as call
use Rattle.hsm_types.specs.declared.dm.DmReply.{DmReply}
use Rattle.hsm_types.specs.declared.dm.DmReply.TheVariants.{Refused}
use Rattle.plain_model.specs.declared.entries.Action.{Action}
use Rattle.plain_model.specs.declared.entries.Action.TheVariants.{Dm}
use Rattle.plain_model.specs.declared.entries.Answer.{Answer}
use Rattle.plain_model.specs.declared.entries.Answer.TheVariants.{Dm as Told}
use Rattle.plain_model.specs.declared.entries.Entry.{Entry}

-- it only asks
abbrev pub is_question : DmCall → Bool
is_question call.GetAllSessions = true
is_question (call.QuerySession target) = true
is_question call.GetSpace = true
is_question call.GetTable = true
is_question call.GetAllTokens = true
is_question (call.FindEventMsg t room) = true
is_question (call.GetFileAttr t h) = true
is_question (call.GetAllocInfo t h) = true
is_question (call.GetRegion t h) = true
is_question (call.ReadInvis t h offset len) = true
is_question other = false

abbrev pub is_refusal : DmReply → Bool
is_refusal (Refused why) = true
is_refusal reply = false

abbrev pub is_quiet_event : Action → Answer → Bool
is_quiet_event (Dm asked) (Told reply) = is_refusal reply || is_question asked
is_quiet_event action answer = false

-- a session was refused, or only asked
abbrev pub is_quiet : Entry → Bool
is_quiet e = is_quiet_event e.action e.answer
