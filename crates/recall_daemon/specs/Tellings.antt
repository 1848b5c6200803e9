-- What an answer tells.
use Rattle.std.specs.Prelude.{◌≡◌, ℕ, List, Bool, true, false, Option, Some, None, Result}
use Rattle.hsm_types.specs.declared.daemons.Heard.{Heard}
use Rattle.hsm_types.specs.declared.daemons.Heard.TheVariants.{Dm, Fetched}
use Rattle.hsm_types.specs.declared.dm.DmReply.TheVariants.{Done, Packed, Attr, Alloc, Refused}
use Rattle.hsm_types.specs.declared.dm.DmRefusal.{DmRefusal}
use Rattle.hsm_types.specs.declared.dm.DmRefusal.TheVariants.{NoSession, Again}
use Rattle.hsm_types.specs.declared.dm.Response.{Response}
use Rattle.hsm_types.specs.declared.dm.Response.TheVariants.{Media, Abort}
use Rattle.hsm_types.specs.declared.media.FetchRefusal.{FetchRefusal}
use Rattle.hsm_types.specs.declared.media.FetchRefusal.TheVariants as fetching
use Rattle.hsm_types.specs.declared.stubs.Segment.{Segment}

abbrev pub tells_done : Heard → Bool
tells_done (Dm Done) = true
tells_done told = false

-- the session is gone
abbrev pub TellsNoSession : Heard → Type 0
TellsNoSession told = told ≡ Dm (Refused NoSession)

-- there are no more events
abbrev pub TellsNoMore : Heard → Type 0
TellsNoMore told = told ≡ Dm (Refused Again)

abbrev pub size_told : Heard → Option ℕ
size_told (Dm (Attr size stamp blocks)) = Some size
size_told told = None

abbrev pub segments_told : Heard → Option (List Segment)
segments_told (Dm (Alloc segments)) = Some segments
segments_told told = None

abbrev pub refusal_told : Heard → Option DmRefusal
refusal_told (Dm (Refused why)) = Some why
refusal_told told = None

abbrev pub messages_told : Heard → Option (List ℕ)
messages_told (Dm (Packed bytes tokens)) = Some bytes
messages_told told = None

abbrev pub fetched_told : Heard → Option (Result (List ℕ) FetchRefusal)
fetched_told (Fetched fetched) = Some fetched
fetched_told told = None

-- the response to an event whose bytes were not fetched for that reason. For want of memory there is none
abbrev pub response_to : FetchRefusal → Option Response
response_to (fetching.Media cause) = Some (Media cause)
response_to (fetching.NoObject volume object) = Some (Abort 2)
response_to fetching.Memory = None
