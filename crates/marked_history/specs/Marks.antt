-- A history in which each entry is marked with the daemon that made it.
use Rattle.std.specs.Prelude.{List, map, Option, None, Some}
use Rattle.hsm_types.specs.declared.daemons.Daemon.{Daemon}
use Rattle.hsm_types.specs.declared.dm.DmCall.{DmCall}
use Rattle.hsm_types.specs.declared.dm.DmReply.{DmReply}
use Rattle.hsm_types.specs.declared.keys.Sid.{Sid}
use Rattle.plain_model.specs.declared.entries.Action.{Action}
use Rattle.plain_model.specs.declared.entries.Action.TheVariants.{Dm}
use Rattle.plain_model.specs.declared.entries.Actor.{Actor}
use Rattle.plain_model.specs.declared.entries.Actor.TheVariants.{Session}
use Rattle.plain_model.specs.declared.entries.Answer.{Answer}
use Rattle.plain_model.specs.declared.entries.Answer.TheVariants.{Dm as Told}
use Rattle.plain_model.specs.declared.entries.Entry.{Entry}
use Rattle.hsm_core.specs.Answers.{entry_of}

pub record Mark : Type 0 where
  pub entry : Entry
  -- the daemon that made it, if one did
  pub by : Option Daemon

abbrev pub entries_of : List Mark → List Entry
entries_of marks = map (λ m. m.entry) marks

-- an entry of a script's line, or of a caller who went on
abbrev pub no_daemons : Entry → Mark
no_daemons e = record { entry = e; by = None }

-- the daemon made the call of that session, and was told this
abbrev pub made : Daemon → Sid → DmCall → DmReply → Mark
made daemon sid call reply = record { entry = entry_of (Session sid) (Dm call) (Told reply); by = Some daemon }

-- ---- what a daemon is told

pub record AnsweredCall : Type 0 where
  pub sid : Sid
  pub call : DmCall
  pub reply : DmReply

-- the call of a session with its answer
abbrev pub answered_call_by : Actor → Action → Answer → Option AnsweredCall
answered_call_by (Session sid) (Dm call) (Told reply) = Some (record { sid = sid; call = call; reply = reply })
answered_call_by actor action answer = None

abbrev pub answered_call_in : Entry → Option AnsweredCall
answered_call_in e = answered_call_by e.actor e.action e.answer
