-- Which events messages tell a daemon.
use Rattle.std.specs.Prelude.{ℕ, List, false, Option, None, if◌then◌else◌}
use Rattle.std.specs.List.{filter_map}
use Rattle.std.specs.Option.{option_map}
use Rattle.hsm_types.specs.Daemons.{kinds_of}
use Rattle.hsm_types.specs.Messages.{takes}
use Rattle.hsm_types.specs.declared.daemons.Daemon.{Daemon}
use Rattle.hsm_types.specs.declared.keys.Handle.{Handle}
use Rattle.hsm_types.specs.declared.messages.Message.{Message}
use Rattle.event_msgs.specs.Reading.{told}
use Rattle.daemon_session.specs.declared.events.Event.{Event}
use Rattle.daemon_session.specs.declared.events.Kept.{Kept}

abbrev pub event_on : Message → Handle → Event
event_on m h = record { token = m.token; kind = m.kind; handle = h; offset = m.offset; length = m.length }

-- the event of a message of its kinds. Such a message has a handle
abbrev pub own_event : Daemon → Message → Option Kept
own_event d m = if takes (kinds_of d) m.kind then option_map (λ (h : Handle). record { event = event_on m h; marked = false }) m.handle else None

-- the events that a buffer of messages tells the daemon, in order
abbrev pub events_in : Daemon → List ℕ → List Kept
events_in d bytes = filter_map (own_event d) (told bytes)
