-- The migration machine as contracts see it, and what it may do.
use Rattle.std.specs.Prelude.{◌≡◌, ◌≢◌, ℕ, ◌+◌, ◌<◌, ◌≤◌, ◌⊎◌, List, [], ◌∷◌, ◌++◌, length, slice_get, Bool, true, false, if◌then◌else◌, Some, None}
use Rattle.std.specs.Prelude.{Ok, Contains}
use Rattle.std.specs.List.{All}
use Rattle.hsm_types.specs.Limits.{segment_bytes, buffer_bytes}
use Rattle.hsm_types.specs.Regions.{covers}
use Rattle.hsm_types.specs.declared.daemons.Act.{Act}
use Rattle.hsm_types.specs.declared.daemons.Act.TheVariants.{Dm, Copy, Fetch, Idle}
use Rattle.hsm_types.specs.declared.daemons.Heard.{Heard}
use Rattle.hsm_types.specs.declared.daemons.Heard.TheVariants as heard
use Rattle.hsm_types.specs.declared.dm.DmCall.{DmCall}
use Rattle.hsm_types.specs.declared.dm.DmCall.TheVariants.{GetAllSessions, GetEvents, GetSpace, GetTable, Respond, GetRegion, SetRegion, ReadInvis}
use Rattle.hsm_types.specs.declared.dm.DmCall.TheVariants.{Seal, PunchHole}
use Rattle.hsm_types.specs.declared.dm.DmReply.{DmReply}
use Rattle.hsm_types.specs.declared.dm.DmReply.TheVariants as reply
use Rattle.hsm_types.specs.declared.dm.DmRefusal.TheVariants as why
use Rattle.hsm_types.specs.declared.dm.Response.{Response}
use Rattle.hsm_types.specs.declared.dm.Response.TheVariants.{Continue, Abort}
use Rattle.hsm_types.specs.declared.keys.Sid.{Sid}
use Rattle.hsm_types.specs.declared.keys.Token.{Token}
use Rattle.hsm_types.specs.declared.regions.Region.{Region}
use Rattle.hsm_types.specs.declared.stubs.StubEntry.{StubEntry}
use Rattle.hsm_types.specs.declared.tables.Table.{Table}
use Rattle.hsm_policy.specs.Picking.{IsPick}
use Rattle.hsm_policy.specs.Settings.{Numbers}
use Rattle.hsm_policy.specs.declared.picking.Picked.{Picked}
use Rattle.hsm_types.specs.declared.daemons.Daemon.TheVariants.{Migrate}
use Rattle.daemon_session.specs.declared.events.Kept.{Kept}
use Rattle.daemon_session.specs.Seats.{first_id, Refuses, IsSeated, MayEnter}
use Rattle.daemon_session.specs.Members.{IsRefusedOne}
use Rattle.migrate_daemon.specs.Known.{Known, nothing_known, is_due, knows_by, asks_by}
use Rattle.migrate_daemon.specs.Shares.{share}
use Rattle.migrate_daemon.specs.Passes.{Pass, begun_pass, no_pass, Exchange, Passed, IsOver, IsSkip, IsEnd, EndsAt, IsFull, IsCopy, skip_of}
use Rattle.migrate_daemon.specs.Passes.{told_since, asks_regions, sets_regions, reads, seals, punches, copies}

pub record Machine : Type 0 where
  pub limits : Numbers
  pub known : Known
  pub asked : Act
  pub pass : Pass

abbrev pub started : Numbers → Machine
started limits = record { limits = limits; known = nothing_known true; asked = Idle; pass = no_pass }

-- a pass by `high` may begin again, by what it hears of the space from here on
abbrev pub freshened : Machine → Machine
freshened m = record m { known = record (m.known) { space = None; fresh = true } }

-- a call of a pass, or its copy
abbrev pub IsOfPass : Act → Type 0
IsOfPass (Dm sid (GetRegion t h)) = Unit {0}
IsOfPass (Dm sid (SetRegion t h regions)) = Unit {0}
IsOfPass (Dm sid (ReadInvis t h offset len)) = Unit {0}
IsOfPass (Dm sid (Seal t h segment entry)) = Unit {0}
IsOfPass (Dm sid (PunchHole t h offset len)) = Unit {0}
IsOfPass (Copy volume h segment bytes) = Unit {0}
IsOfPass act = ⊥

-- ---- between passes

-- its message was there before the last pass began
abbrev pub CameBeforePass : List Kept → Token → Type 0
CameBeforePass kept t = (k : Kept) × Contains kept k × (k.event.token ≡ t) × (k.marked ≡ true)

abbrev pub NoneServed : List Kept → Type 0
NoneServed kept = All (λ (k : Kept). k.marked ≡ false) kept

-- it asked for events, and there is none more
abbrev pub HasAll : Act → Heard → Type 0
HasAll (Dm sid (GetEvents most room)) (heard.Dm (reply.Refused why.Again)) = (most ≡ 0) × (room ≡ buffer_bytes)
HasAll asked told = ⊥

-- no pass is under way, and each event that a pass served is answered
pub record IsFree (k : Known) (pass : Pass) (sid : Sid) : Type 0 where
  pub seated : IsSeated k.seat sid
  pub over : IsOver pass
  pub answered : NoneServed k.seat.kept

-- a pass by `high` may begin, and it has not heard of the space
abbrev pub WantsSpace : Known → Type 0
WantsSpace k = (k.fresh ≡ true) × (k.space ≡ None)

-- a pass is due: by `high`, or for an event
abbrev pub IsDue : Numbers → Known → Type 0
IsDue limits k = (is_due limits k ≡ true) ⊎ (k.seat.kept ≢ [])

abbrev pub IsTable : Heard → Type 0
IsTable (heard.Dm (reply.Table table)) = Unit {0}
IsTable told = ⊥

abbrev pub MayLook : Numbers → Known → Act → Heard → Sid → Type 0
MayLook limits k asked told sid = (HasAll asked told × IsDue limits k) ⊎ ((asked ≡ Dm sid GetTable) × (IsTable told → ⊥))

-- ---- in a pass

-- the answers that lead on from a call of a pass
abbrev pub LeadsOn : Act → Heard → Type 0
LeadsOn (Dm sid (GetRegion t h)) (heard.Dm (reply.Regions regions)) = Unit {0}
LeadsOn (Dm sid (SetRegion t h regions)) (heard.Dm reply.Done) = Unit {0}
LeadsOn (Dm sid (ReadInvis t h offset len)) (heard.Dm (reply.Data bytes)) = Unit {0}
LeadsOn (Copy volume h segment bytes) (heard.Copied (Ok entry)) = Unit {0}
LeadsOn (Dm sid (Seal t h segment entry)) (heard.Dm reply.Done) = Unit {0}
LeadsOn (Dm sid (PunchHole t h offset len)) (heard.Dm reply.Done) = Unit {0}
LeadsOn asked told = ⊥

abbrev pub SkipsAt : Sid → Picked → Act → Heard → Type 0
SkipsAt sid p asked (heard.Dm answer) = IsSkip sid p asked answer
SkipsAt sid p asked told = ⊥

-- The answer says nothing of the call, which is made again: it leads not on, and it neither skips the segment nor ends the pass.
pub record SaysNothing (volumes : ℕ) (sid : Sid) (p : Picked) (asked : Act) (told : Heard) : Type 0 where
  pub leads : LeadsOn asked told → ⊥
  pub skips : SkipsAt sid p asked told → ⊥
  pub ends : IsEnd volumes sid p asked told → ⊥

-- a region with all flags covers the segment
abbrev pub IsCovered : Sid → Picked → Act → Heard → Type 0
IsCovered sid p asked told =
    ((regions : List Region) × (asked ≡ asks_regions sid p) × (told ≡ heard.Dm (reply.Regions regions)) × (covers regions p.segment ≡ true))
    ⊎ ((asked ≡ sets_regions sid p) × (told ≡ heard.Dm reply.Done))

-- it is told that no region does
abbrev pub IsBare : Sid → Picked → Act → Heard → Type 0
IsBare sid p asked told = (regions : List Region) × (asked ≡ asks_regions sid p) × (told ≡ heard.Dm (reply.Regions regions)) × (covers regions p.segment ≡ false)

-- a copy came to nothing here: the next volume is tried, or the bytes are read again
abbrev pub IsToCopyAgain : Picked → Act → Heard → Type 0
IsToCopyAgain p asked told = ((volume : ℕ) × IsCopy p volume asked) × (LeadsOn asked told → ⊥)

-- its copy has that entry
abbrev pub IsCopied : Picked → StubEntry → Act → Heard → Type 0
IsCopied p entry asked told = ((volume : ℕ) × IsCopy p volume asked) × (told ≡ heard.Copied (Ok entry))

abbrev pub IsSealed : Sid → Picked → Act → Heard → Type 0
IsSealed sid p asked told = ((entry : StubEntry) × (asked ≡ seals sid p entry)) × (told ≡ heard.Dm reply.Done)

-- the pass comes to the segment: it begins, or has done with the one before
abbrev pub ComesAnew : Pass → Pass → Act → Heard → Type 0
ComesAnew old new asked told = ((sid : Sid) × (asked ≡ Dm sid GetTable) × IsTable told) ⊎ (new.at ≡ old.at + 1)

-- what may come next at the picked segment
abbrev pub MayAskRegions : ℕ → Pass → Pass → Picked → Act → Heard → Type 0
MayAskRegions volumes old new p asked told = ComesAnew old new asked told ⊎ ((asked ≡ asks_regions new.sid p) × SaysNothing volumes new.sid p asked told)

abbrev pub MaySetRegions : ℕ → Sid → Picked → Act → Heard → Type 0
MaySetRegions volumes sid p asked told = IsBare sid p asked told ⊎ ((asked ≡ sets_regions sid p) × SaysNothing volumes sid p asked told)

abbrev pub MayRead : ℕ → Sid → Picked → Act → Heard → Type 0
MayRead volumes sid p asked told = IsCovered sid p asked told ⊎ (IsToCopyAgain p asked told ⊎ ((asked ≡ reads sid p) × SaysNothing volumes sid p asked told))

abbrev pub MaySeal : ℕ → Sid → Picked → StubEntry → Act → Heard → Type 0
MaySeal volumes sid p entry asked told = IsCopied p entry asked told ⊎ ((asked ≡ seals sid p entry) × SaysNothing volumes sid p asked told)

-- a segment that was sealed is punched alone
abbrev pub MayPunch : ℕ → Sid → Picked → Act → Heard → Type 0
MayPunch volumes sid p asked told = ((p.sealed ≡ true) × IsCovered sid p asked told) ⊎ (IsSealed sid p asked told ⊎ ((asked ≡ punches sid p) × SaysNothing volumes sid p asked told))

abbrev pub MayTake : ℕ → Pass → Pass → Picked → Act → Heard → Act → Type 0
MayTake volumes old new p asked told (Dm sid (GetRegion t h)) = (Dm sid (GetRegion t h) ≡ asks_regions new.sid p) × MayAskRegions volumes old new p asked told
MayTake volumes old new p asked told (Dm sid (SetRegion t h regions)) = (Dm sid (SetRegion t h regions) ≡ sets_regions new.sid p) × MaySetRegions volumes new.sid p asked told
MayTake volumes old new p asked told (Dm sid (ReadInvis t h offset len)) = (Dm sid (ReadInvis t h offset len) ≡ reads new.sid p) × (p.sealed ≡ false) × MayRead volumes new.sid p asked told
MayTake volumes old new p asked told (Dm sid (Seal t h segment entry)) = (Dm sid (Seal t h segment entry) ≡ seals new.sid p entry) × (p.sealed ≡ false) × MaySeal volumes new.sid p entry asked told
MayTake volumes old new p asked told (Dm sid (PunchHole t h offset len)) = (Dm sid (PunchHole t h offset len) ≡ punches new.sid p) × MayPunch volumes new.sid p asked told
-- the bytes just read of the segment, to the lowest volume that wasn't found full
MayTake volumes old new p asked told (Copy volume h segment bytes) = (Copy volume h segment bytes ≡ copies p new.volume bytes) × (p.sealed ≡ false) × (asked ≡ reads new.sid p) × (told ≡ heard.Dm (reply.Data bytes)) × (bytes ≢ []) × (length bytes ≤ segment_bytes) × (new.volume < volumes)
MayTake volumes old new p asked told act = ⊥

-- the segment at which the pass stands
pub record IsAt (k : Known) (pass : Pass) (p : Picked) : Type 0 where
  pub seated : IsSeated k.seat pass.sid
  pub pick : slice_get pass.picks pass.at ≡ Some p
  pub under_way : pass.ended ≡ None

abbrev pub MayPass : Numbers → Known → Pass → Pass → Act → Heard → Act → Type 0
MayPass limits k old new asked told act = (p : Picked) × IsAt k new p × MayTake limits.volumes old new p asked told act

-- ---- what it may do

abbrev pub answer_of : Bool → Response
answer_of punched = if punched then Continue else Abort 28

-- the calls outside of passes
abbrev pub MayCall : Numbers → Known → Pass → Act → Heard → Sid → DmCall → Type 0
MayCall limits k pass asked told sid GetSpace = IsFree k pass sid × WantsSpace k
MayCall limits k pass asked told sid (GetEvents most room) = IsFree k pass sid × (most ≡ 0) × (room ≡ buffer_bytes) × (WantsSpace k → ⊥) × (HasAll asked told → ⊥)
MayCall limits k pass asked told sid GetTable = IsFree k pass sid × MayLook limits k asked told sid
MayCall limits k pass asked told sid (Respond t response) = IsSeated k.seat sid × IsOver pass × CameBeforePass k.seat.kept t × (response ≡ answer_of k.punched)
MayCall limits k pass asked told sid call = MayEnter Migrate k.seat asked told sid call

-- it knows of the space and has all events, each is answered, and no pass is due; or it was refused a session
abbrev pub MayRest : Numbers → Known → Pass → Act → Heard → Type 0
MayRest limits k pass asked told = (HasAll asked told × IsOver pass × (k.seat.kept ≡ []) × (is_due limits k ≡ false) × (WantsSpace k → ⊥)) ⊎ IsRefusedOne asked told

abbrev pub MayGive : Numbers → Known → Pass → Pass → Act → Heard → Act → Type 0
MayGive limits k old new asked told (Copy volume h segment bytes) = MayPass limits k old new asked told (Copy volume h segment bytes)
MayGive limits k old new asked told (Dm sid (GetRegion t h)) = MayPass limits k old new asked told (Dm sid (GetRegion t h))
MayGive limits k old new asked told (Dm sid (SetRegion t h regions)) = MayPass limits k old new asked told (Dm sid (SetRegion t h regions))
MayGive limits k old new asked told (Dm sid (ReadInvis t h offset len)) = MayPass limits k old new asked told (Dm sid (ReadInvis t h offset len))
MayGive limits k old new asked told (Dm sid (Seal t h segment entry)) = MayPass limits k old new asked told (Dm sid (Seal t h segment entry))
MayGive limits k old new asked told (Dm sid (PunchHole t h offset len)) = MayPass limits k old new asked told (Dm sid (PunchHole t h offset len))
MayGive limits k old new asked told (Dm sid call) = MayCall limits k new asked told sid call
MayGive limits k old new asked told (Fetch entry) = ⊥
MayGive limits k old new asked told Idle = MayRest limits k new asked told

-- a pass begins with a table, of which it picks until `low`
abbrev pub Begins : Numbers → Sid → Table → Pass → Type 0
Begins limits sid table pass = (picks : List Picked) × IsPick table (share limits.low table.total) picks × (pass ≡ begun_pass sid picks)

-- the volume stays, or the next is taken, where the answer was that it is full or not there
abbrev pub VolumeStays : Pass → Act → Heard → Pass → Type 0
VolumeStays old asked told new = ((new.volume ≡ old.volume) × (IsFull old.volume asked told → ⊥)) ⊎ ((new.volume ≡ old.volume + 1) × IsFull old.volume asked told)

-- a segment is skipped for the answer, and listed
abbrev pub AddsSkip : Pass → Act → Heard → Pass → Type 0
AddsSkip old asked told new = (p : Picked) × (answer : DmReply) × (slice_get old.picks old.at ≡ Some p) × (told ≡ heard.Dm answer) × IsSkip old.sid p asked answer × (new.skipped ≡ old.skipped ++ skip_of p answer ∷ []) × (new.at ≡ old.at + 1)

-- A pass stays with its session and its picks. It ends early by each answer that ends it, and by no other.
pub record Stays (volumes : ℕ) (old : Pass) (asked : Act) (told : Heard) (new : Pass) : Type 0 where
  pub session : new.sid ≡ old.sid
  pub picks : new.picks ≡ old.picks
  pub on : (new.at ≡ old.at) ⊎ (new.at ≡ old.at + 1)
  pub volume : VolumeStays old asked told new
  pub skipped : (new.skipped ≡ old.skipped) ⊎ AddsSkip old asked told new
  pub ended : ((new.ended ≡ old.ended) × (EndsAt volumes old asked told → ⊥)) ⊎ ((old.ended ≡ None) × (new.ended ≡ Some told) × EndsAt volumes old asked told)

abbrev pub ComesTo : Numbers → Pass → Act → Heard → Pass → Type 0
ComesTo limits old (Dm sid GetTable) (heard.Dm (reply.Table table)) new = Begins limits sid table new
ComesTo limits old asked told new = Stays limits.volumes old asked told new

-- It has heard the answer to what it asked, and gives an act that it may give. Where that isn't one of a pass, the last pass is over. Where its session is
-- gone it begins as at its start.
pub record StepsOn (old : Machine) (told : Heard) (act : Act) (new : Machine) : Type 0 where
  pub limits : new.limits ≡ old.limits
  pub known : new.known ≡ asks_by (knows_by old.limits old.known old.asked told) act
  pub asked : new.asked ≡ act
  pub pass : ComesTo old.limits old.pass old.asked told new.pass
  pub may : MayGive old.limits (knows_by old.limits old.known old.asked told) old.pass new.pass old.asked told act
  pub over : (IsOfPass act → ⊥) → IsOver new.pass
  pub begins : Refuses old.asked told → act ≡ Dm first_id GetAllSessions
  pub passes : (talk : List Exchange) → Passed old.limits.volumes talk old.pass → Passed old.limits.volumes (told_since talk old.asked told) new.pass

-- the bytes that it hears are at most those of a segment
abbrev pub IsWithin : Heard → Type 0
IsWithin (heard.Dm (reply.Data bytes)) = length bytes ≤ segment_bytes
IsWithin told = Unit {0}
