-- What migration does in each pass, by deeds: from the table with which the pass begins up to its end.
use Rattle.std.specs.Prelude.{◌≡◌, ◌≢◌, ◌⊎◌, ℕ, ◌<◌, List, [], ◌∷◌, ◌++◌, All, length, slice_get, true, false, None, Some, Ok, Contains}
use Rattle.std.specs.Option.{option_map, unwrap_or}
use Rattle.hsm_types.specs.Regions.{covers}
use Rattle.hsm_types.specs.declared.daemons.Act.{Act}
use Rattle.hsm_types.specs.declared.daemons.Act.TheVariants.{Dm, Copy}
use Rattle.hsm_types.specs.declared.daemons.Daemon.TheVariants.{Migrate}
use Rattle.hsm_types.specs.declared.daemons.Heard.{Heard}
use Rattle.hsm_types.specs.declared.daemons.Heard.TheVariants as heard
use Rattle.hsm_types.specs.declared.dm.DmCall.{DmCall}
use Rattle.hsm_types.specs.declared.dm.DmCall.TheVariants.{GetTable, GetRegion, SetRegion, ReadInvis, Seal, PunchHole}
use Rattle.hsm_types.specs.declared.dm.DmRefusal.TheVariants.{NoSession}
use Rattle.hsm_types.specs.declared.dm.DmReply.{DmReply}
use Rattle.hsm_types.specs.declared.dm.DmReply.TheVariants as reply
use Rattle.hsm_types.specs.declared.keys.Sid.{Sid}
use Rattle.hsm_types.specs.declared.regions.Region.{Region}
use Rattle.hsm_types.specs.declared.stubs.StubEntry.{StubEntry}
use Rattle.hsm_types.specs.declared.tables.Table.{Table}
use Rattle.hsm_policy.specs.Picking.{IsPick}
use Rattle.hsm_policy.specs.Settings.{Numbers}
use Rattle.hsm_policy.specs.declared.picking.Picked.{Picked}
use Rattle.migrate_daemon.specs.Machine.{IsOfPass}
use Rattle.migrate_daemon.specs.Passes.{Exchange, IsSkip, IsEnd, IsFull, asks_regions, sets_regions, reads, seals, punches, copies, told_since}
use Rattle.migrate_daemon.specs.Shares.{share}
use Rattle.deeds.specs.Deeds.{Deed, Gives}
use Rattle.deeds.specs.KnownByMoves.{Knowing, stands}
use Rattle.deeds.specs.Leads.{Served}
use Rattle.deeds.specs.Lives.{life}
use Rattle.hsm_system.specs.Lives.{recalls, migrates}
use Rattle.deed_laws.specs.Knowing.{known_now}

-- ---- what was asked and heard since a table

abbrev pub exchange : Act → Heard → Exchange
exchange asked told = record { asked = asked; heard = told }

abbrev pub table_told : Sid → Table → Exchange
table_told sid table = exchange (Dm sid GetTable) (heard.Dm (reply.Table table))

-- from a table on, one more with what is heard of each act
abbrev pub exchanges : Knowing (List Exchange)
exchanges = record { first = []; again = λ talk. talk; hears = told_since; asks = λ talk act. talk }

-- What migration has asked and heard since its last table, that first. What was lost it heard as nothing.
abbrev pub talk_behind : List Deed → List Exchange
talk_behind deeds = unwrap_or (option_map (known_now exchanges) (stands exchanges (life Migrate deeds) None)) []

-- it is that table, with nothing but acts of a pass since
abbrev pub IsPassOn : Sid → Table → List Exchange → Type 0
IsPassOn sid table talk = (during : List Exchange) × (talk ≡ table_told sid table ∷ during) × All (λ (x : Exchange). IsOfPass x.asked) during

-- it is the last of them
abbrev pub EndsWith : List Exchange → Exchange → Type 0
EndsWith talk x = (first : List Exchange) × (talk ≡ first ++ x ∷ [])

-- ---- what is known of a segment

-- it was told that a region with all flags covers the segment, or it set one on the whole file
abbrev pub IsCoveredIn : List Exchange → Sid → Picked → Type 0
IsCoveredIn talk sid p =
    ((regions : List Region) × Contains talk (exchange (asks_regions sid p) (heard.Dm (reply.Regions regions))) × (covers regions p.segment ≡ true))
    ⊎ Contains talk (exchange (sets_regions sid p) (heard.Dm reply.Done))

-- it was told that none does
abbrev pub IsBareIn : List Exchange → Sid → Picked → Type 0
IsBareIn talk sid p = (regions : List Region) × Contains talk (exchange (asks_regions sid p) (heard.Dm (reply.Regions regions))) × (covers regions p.segment ≡ false)

-- its copy was answered with the entry, and since then just that was to be sealed
pub record IsOfCopy (talk : List Exchange) (sid : Sid) (p : Picked) (entry : StubEntry) : Type 0 where
  pub first : List Exchange
  pub volume : ℕ
  pub bytes : List ℕ
  pub since : List Exchange
  pub parted : talk ≡ first ++ exchange (copies p volume bytes) (heard.Copied (Ok entry)) ∷ since
  pub again : All (λ (x : Exchange). x.asked ≡ seals sid p entry) since

-- it was sealed by the table, or in the pass
abbrev pub IsSealedIn : List Exchange → Sid → Picked → Type 0
IsSealedIn talk sid p = (p.sealed ≡ true) ⊎ ((entry : StubEntry) × Contains talk (exchange (seals sid p entry) (heard.Dm reply.Done)))

-- each volume below was found full, or not there
abbrev pub AreFullBelow : List Exchange → ℕ → Type 0
AreFullBelow talk volume = (v : ℕ) → v < volume → (asked : Act) × (told : Heard) × IsFull v asked told × Contains talk (exchange asked told)

-- ---- what comes before each act of a pass

-- Each is one on a picked segment, in the session of the pass. Regions are set once it was told that none covers that. It is read once it is covered; the
-- bytes just read, which are some, are copied to the lowest volume that wasn't found full; it is sealed with the entry of that copy, and punched once it is
-- sealed. One that the table shows sealed is punched alone.
abbrev pub IsFit : ℕ → List Picked → List Exchange → Sid → Act → Type 0
IsFit volumes picks talk sid (Dm s (GetRegion t h)) = (p : Picked) × Contains picks p × (Dm s (GetRegion t h) ≡ asks_regions sid p)
IsFit volumes picks talk sid (Dm s (SetRegion t h regions)) = (p : Picked) × Contains picks p × (Dm s (SetRegion t h regions) ≡ sets_regions sid p) × IsBareIn talk sid p
IsFit volumes picks talk sid (Dm s (ReadInvis t h offset len)) = (p : Picked) × Contains picks p × (Dm s (ReadInvis t h offset len) ≡ reads sid p) × (p.sealed ≡ false) × IsCoveredIn talk sid p
IsFit volumes picks talk sid (Copy volume h segment bytes) = (p : Picked) × Contains picks p × (Copy volume h segment bytes ≡ copies p volume bytes) × (p.sealed ≡ false) × IsCoveredIn talk sid p
    × EndsWith talk (exchange (reads sid p) (heard.Dm (reply.Data bytes))) × (bytes ≢ []) × (volume < volumes) × AreFullBelow talk volume
IsFit volumes picks talk sid (Dm s (Seal t h segment entry)) = (p : Picked) × Contains picks p × (Dm s (Seal t h segment entry) ≡ seals sid p entry) × (p.sealed ≡ false) × IsCoveredIn talk sid p × IsOfCopy talk sid p entry
IsFit volumes picks talk sid (Dm s (PunchHole t h offset len)) = (p : Picked) × Contains picks p × (Dm s (PunchHole t h offset len) ≡ punches sid p) × IsCoveredIn talk sid p × IsSealedIn talk sid p
IsFit volumes picks talk sid act = Unit {0}

-- there was a table, with nothing but acts of a pass since, and the act is fit for what that table picks
pub record IsWithinPass (limits : Numbers) (talk : List Exchange) (act : Act) : Type 0 where
  pub sid : Sid
  pub table : Table
  pub picks : List Picked
  pub on : IsPassOn sid table talk
  pub pick : IsPick table (share limits.low table.total) picks
  pub fit : IsFit limits.volumes picks talk sid act

-- ---- what a pass comes to

-- the segment was punched, or an answer came for which it is skipped
abbrev pub IsDoneIn : List Exchange → Sid → Picked → Type 0
IsDoneIn talk sid p =
    Contains talk (exchange (punches sid p) (heard.Dm reply.Done))
    ⊎ ((asked : Act) × (answer : DmReply) × IsSkip sid p asked answer × Contains talk (exchange asked (heard.Dm answer)))

-- The last answer, a copy's too, is one that ends a pass at that segment. Where it is that a volume is full, each volume was found so.
abbrev pub IsEndedIn : ℕ → List Exchange → Sid → Picked → Type 0
IsEndedIn volumes talk sid p = (asked : Act) × (told : Heard) × IsEnd volumes sid p asked told × EndsWith talk (exchange asked told) × ((volume : ℕ) → IsFull volume asked told → AreFullBelow talk volumes)

-- each of the table's picks is done, up to the last or to the one at which the pass ended
pub record IsPassed (limits : Numbers) (sid : Sid) (table : Table) (talk : List Exchange) : Type 0 where
  pub picks : List Picked
  pub pick : IsPick table (share limits.low table.total) picks
  pub at : ℕ
  pub done : (k : ℕ) (p : Picked) → k < at → slice_get picks k ≡ Some p → IsDoneIn talk sid p
  pub over : (at ≡ length picks) ⊎ ((p : Picked) × (slice_get picks at ≡ Some p) × IsEndedIn limits.volumes talk sid p)

-- it was told last that its session is gone
abbrev pub EndsGone : List Exchange → Type 0
EndsGone talk = (sid : Sid) × (call : DmCall) × EndsWith talk (exchange (Dm sid call) (heard.Dm (reply.Refused NoSession)))

-- Each act of a pass is within one. A pass is over where the daemon gives another act, and where its session is gone, and then has done with its picks.
pub record AllPassed (limits : Numbers) (deeds : List Deed) : Type 0 where
  pub within : (before : List Deed) (act : Act) (rest : List Deed) → deeds ≡ before ++ Gives Migrate act ∷ rest → IsOfPass act → IsWithinPass limits (talk_behind before) act
  pub over : (before : List Deed) (act : Act) (rest : List Deed) (sid : Sid) (table : Table) → deeds ≡ before ++ Gives Migrate act ∷ rest → IsPassOn sid table (talk_behind before) → (IsOfPass act → ⊥) → IsPassed limits sid table (talk_behind before)
  pub gone : (before rest : List Deed) (sid : Sid) (table : Table) → deeds ≡ before ++ rest → IsPassOn sid table (talk_behind before) → EndsGone (talk_behind before) → IsPassed limits sid table (talk_behind before)

abbrev pub ServedPasses : Numbers → List Deed → Type 0
ServedPasses limits deeds = Served recalls (migrates limits) deeds → AllPassed limits deeds
