-- What a daemon waits for when it has given an act, what comes of that, and what it hears.
use Rattle.std.specs.Prelude.{◌≡◌, ◌≢◌, ◌+◌, ◌<◌, Option, None, Some, Ok, Err}
use Rattle.disk_model.specs.Calls.{Rose}
use Rattle.hsm_types.specs.Stubs.{print_of, entry_place, entry_print}
use Rattle.hsm_types.specs.declared.daemons.Act.{Act}
use Rattle.hsm_types.specs.declared.daemons.Act.TheVariants.{Dm, Copy, Fetch, Idle}
use Rattle.hsm_types.specs.declared.daemons.Heard.{Heard}
use Rattle.hsm_types.specs.declared.daemons.Heard.TheVariants as heard
use Rattle.hsm_types.specs.declared.daemons.Heard.TheVariants.{Nothing}
use Rattle.hsm_types.specs.declared.media.CopyRefusal.TheVariants as copying
use Rattle.hsm_types.specs.declared.media.FetchRefusal.TheVariants as fetching
use Rattle.deeds.specs.Deeds.{IsOf}
use Rattle.hsm_system.specs.declared.awaited.Awaited.{Awaited}
use Rattle.hsm_system.specs.declared.awaited.Awaited.TheVariants as wait
use Rattle.hsm_system.specs.declared.awaited.Outcome.{Outcome}
use Rattle.hsm_system.specs.declared.awaited.Outcome.TheVariants as outcome
use Rattle.hsm_system.specs.declared.daemons.Next.{Next}
use Rattle.hsm_system.specs.declared.daemons.Next.TheVariants.{Hears, Waits}

-- ---- one act

abbrev pub awaited_of : Act → Awaited
awaited_of (Dm sid call) = wait.Call
awaited_of (Copy volume handle segment bytes) = wait.Copy volume handle segment (print_of bytes)
awaited_of (Fetch entry) = wait.Fetch entry
awaited_of Idle = wait.Rest

-- ---- what comes of an act

abbrev pub awaited_by : Outcome → Awaited
awaited_by (outcome.Copied volume handle segment print answer) = wait.Copy volume handle segment print
awaited_by (outcome.Fetched entry answer) = wait.Fetch entry
awaited_by outcome.Rested = wait.Rest

abbrev pub heard_of : Outcome → Heard
heard_of (outcome.Copied volume handle segment print answer) = heard.Copied answer
heard_of (outcome.Fetched entry answer) = heard.Fetched answer
heard_of outcome.Rested = Nothing

-- What is heard is of what was asked, and no want of memory: an entry on that volume with that fingerprint, or a refusal with its cause; bytes with the
-- entry's fingerprint, or a refusal that speaks of its object.
abbrev pub IsSo : Outcome → Type 0
IsSo (outcome.Copied volume handle segment print (Ok entry)) = ((entry_place entry).volume ≡ volume) × (entry_print entry ≡ print)
IsSo (outcome.Copied volume handle segment print (Err (copying.Failed before after))) = Rose before after
IsSo (outcome.Copied volume handle segment print (Err (copying.Full used len capacity))) = capacity < used + len
IsSo (outcome.Copied volume handle segment print (Err (copying.Damaged want got))) = (want ≡ print) × (want ≢ got)
IsSo (outcome.Copied volume handle segment print (Err copying.Memory)) = ⊥
IsSo (outcome.Fetched entry (Ok bytes)) = print_of bytes ≡ entry_print entry
IsSo (outcome.Fetched entry (Err (fetching.Media fault))) = IsOf entry fault
IsSo (outcome.Fetched entry (Err (fetching.NoObject volume object))) = (volume ≡ (entry_place entry).volume) × (object ≡ (entry_place entry).object)
IsSo (outcome.Fetched entry (Err fetching.Memory)) = ⊥
IsSo outcome = Unit {0}

-- ---- what is heard next

-- none while it waits
abbrev pub heard_next : Next → Option Heard
heard_next (Hears told) = Some told
heard_next (Waits awaited) = None

abbrev pub IsWaiting : Next → Type 0
IsWaiting next = heard_next next ≡ None

-- while it waits, it waits for what comes of that act
abbrev pub WaitsFor : Next → Act → Type 0
WaitsFor (Hears told) act = Unit {0}
WaitsFor (Waits awaited) act = awaited ≡ awaited_of act
