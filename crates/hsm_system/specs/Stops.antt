-- Which answers stop a run.
use Rattle.std.specs.Prelude.{◌≢◌}
use Rattle.hsm_types.specs.declared.calls.CallRefusal.TheVariants as call
use Rattle.hsm_types.specs.declared.calls.Reply.{Reply}
use Rattle.hsm_types.specs.declared.calls.Reply.TheVariants as calls
use Rattle.hsm_types.specs.declared.dm.DmRefusal.TheVariants as dm
use Rattle.hsm_types.specs.declared.dm.DmReply.{DmReply}
use Rattle.hsm_types.specs.declared.dm.DmReply.TheVariants.{Refused}
use Rattle.plain_model.specs.Faults.{fault_of}
use Rattle.plain_model.specs.declared.entries.Action.{Action}
use Rattle.plain_model.specs.declared.entries.Answer.{Answer}
use Rattle.hsm_core.specs.Answers.{memory_of}
use Rattle.hsm_system.specs.declared.stops.Stop.{Stop}
use Rattle.hsm_system.specs.declared.stops.Stop.TheVariants as stop

-- what a session is told where the run stops
abbrev pub reply_of : Stop → DmReply
reply_of stop.Disk = Refused dm.Disk
reply_of stop.Memory = Refused dm.Memory

-- what a caller is
abbrev pub call_reply_of : Stop → Reply
call_reply_of stop.Disk = calls.Refused call.Disk
call_reply_of stop.Memory = calls.Refused call.Memory

-- the answer of an event at which it stops
abbrev pub stop_answer : Stop → Action → Answer
stop_answer stop.Disk action = fault_of action
stop_answer stop.Memory action = memory_of action

-- the store has answered itself, and not stopped the run
abbrev pub StopsNothing : DmReply → Type 0
StopsNothing reply = (why : Stop) → reply ≢ reply_of why
