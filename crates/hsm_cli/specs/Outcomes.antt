-- How a run ends that opened no store of the host.
use Rattle.std.specs.Prelude.{List, [], Option, None}
use Rattle.plain_model.specs.declared.entries.Entry.{Entry}
use Rattle.hsm_cli.specs.declared.causes.Cause.{Cause}
use Rattle.hsm_cli.specs.declared.outcomes.Outcome.{Outcome}
use Rattle.hsm_cli.specs.Statuses.{status_of, place_of}

-- with these events, and the disk that the host handed out
abbrev pub ended_with : {D M : Type 0} → Option Cause → List Entry → Option D → Outcome D M
ended_with cause history disk = record { status = status_of cause; at = place_of cause; cause = cause; base = 0; opening = None; history = history; disk = disk; drives = [] }
