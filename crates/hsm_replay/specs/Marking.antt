-- Which marks deeds leave in a history: each call of a daemon with that daemon, and each other event without one.
use Rattle.std.specs.Prelude.{List, Option, Some, None}
use Rattle.std.specs.List.{filter_map}
use Rattle.hsm_types.specs.declared.daemons.Act.{Act}
use Rattle.hsm_types.specs.declared.daemons.Act.TheVariants as act
use Rattle.hsm_types.specs.declared.daemons.Daemon.{Daemon}
use Rattle.hsm_types.specs.declared.daemons.Heard.{Heard}
use Rattle.hsm_types.specs.declared.daemons.Heard.TheVariants as heard
use Rattle.hsm_types.specs.declared.dm.DmReply.TheVariants.{Refused}
use Rattle.hsm_types.specs.declared.dm.DmRefusal.TheVariants as why
use Rattle.deeds.specs.Deeds.{Deed, Enters, Hears, Breaks}
use Rattle.marked_history.specs.Marks.{Mark, made, no_daemons}

-- a call that was answered is marked, and neither a copy nor a fetch nor a rest is
abbrev pub call_mark : Daemon → Act → Heard → Option Mark
call_mark daemon (act.Dm sid call) (heard.Dm reply) = Some (made daemon sid call reply)
call_mark daemon asked told = None

abbrev pub mark_in : Deed → Option Mark
mark_in (Enters e) = Some (no_daemons e)
mark_in (Hears daemon asked told) = call_mark daemon asked told
mark_in (Breaks daemon sid call) = Some (made daemon sid call (Refused why.Disk))
mark_in deed = None

abbrev pub marks_of : List Deed → List Mark
marks_of deeds = filter_map mark_in deeds
