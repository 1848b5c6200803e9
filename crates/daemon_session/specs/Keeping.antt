-- What a daemon keeps of the messages of a buffer, as their views show them.
use Rattle.std.specs.Prelude.{false, ◌==◌, ◌&&◌, length, Option, Some, None, if◌then◌else◌}
use Rattle.hsm_types.specs.Messages.{takes}
use Rattle.event_msgs.specs.Reading.{handle_in}
use Rattle.event_msgs.specs.Views.{Shown}
use Rattle.hsm_types.specs.declared.daemons.Daemon.{Daemon}
use Rattle.daemon_session.specs.declared.events.Event.{Event}
use Rattle.daemon_session.specs.declared.events.Kept.{Kept}
use Rattle.hsm_types.specs.Daemons.{kinds_of}

abbrev pub event_shown : Shown → Event
event_shown s = record { token = s.token; kind = s.kind; handle = handle_in s.handle; offset = s.offset; length = s.length }

-- the event of a message of its kinds, which has the 24 bytes of a handle
abbrev pub own_shown : Daemon → Shown → Option Kept
own_shown d s = if takes (kinds_of d) s.kind && length s.handle == 24 then Some (record { event = event_shown s; marked = false }) else None
