-- A pass of migration, over what was asked and heard since its table.
use Rattle.std.specs.Prelude.{◌≡◌, ℕ, ◌+◌, ◌*◌, ◌<◌, ◌⊎◌, List, [], ◌∷◌, ◌++◌, length, slice_get, Option, Some, None, Err, Contains}
use Rattle.hsm_types.specs.Limits.{segment_bytes, all_flags}
use Rattle.hsm_types.specs.declared.daemons.Act.{Act}
use Rattle.hsm_types.specs.declared.daemons.Act.TheVariants.{Dm, Copy}
use Rattle.hsm_types.specs.declared.daemons.Heard.{Heard}
use Rattle.hsm_types.specs.declared.daemons.Heard.TheVariants as heard
use Rattle.hsm_types.specs.declared.dm.DmCall.TheVariants.{GetTable, GetRegion, SetRegion, ReadInvis, Seal, PunchHole}
use Rattle.hsm_types.specs.declared.dm.DmReply.{DmReply}
use Rattle.hsm_types.specs.declared.dm.DmReply.TheVariants as reply
use Rattle.hsm_types.specs.declared.dm.DmRefusal.TheVariants as why
use Rattle.hsm_types.specs.declared.keys.Sid.{Sid}
use Rattle.hsm_types.specs.declared.media.CopyRefusal.TheVariants as copying
use Rattle.hsm_types.specs.declared.regions.Region.{Region}
use Rattle.hsm_types.specs.declared.stubs.StubEntry.{StubEntry}
use Rattle.hsm_types.specs.Messages.{no_token}
use Rattle.hsm_policy.specs.declared.picking.Picked.{Picked}
use Rattle.migrate_daemon.specs.declared.skips.Skip.{Skip}

pub record Exchange : Type 0 where
  pub asked : Act
  pub heard : Heard

pub record Pass : Type 0 where
  pub sid : Sid
  pub picks : List Picked
  -- how many of the picks are done
  pub at : ℕ
  -- the lowest volume that it has not found full
  pub volume : ℕ
  pub skipped : List Skip
  -- the answer at which it ended early
  pub ended : Option Heard

-- at its first pick
abbrev pub begun_pass : Sid → List Picked → Pass
begun_pass sid picks = record { sid = sid; picks = picks; at = 0; volume = 0; skipped = []; ended = None }

abbrev pub no_pass : Pass
no_pass = begun_pass (record { 0 = 0 }) []

-- ---- the calls of a pass

abbrev pub start_of : Picked → ℕ
start_of p = segment_bytes * p.segment

abbrev pub whole_file : List Region
whole_file = record { offset = 0; size = 0; flags = all_flags } ∷ []

abbrev pub asks_regions : Sid → Picked → Act
asks_regions sid p = Dm sid (GetRegion no_token p.handle)

abbrev pub sets_regions : Sid → Picked → Act
sets_regions sid p = Dm sid (SetRegion no_token p.handle whole_file)

abbrev pub reads : Sid → Picked → Act
reads sid p = Dm sid (ReadInvis no_token p.handle (start_of p) segment_bytes)

abbrev pub seals : Sid → Picked → StubEntry → Act
seals sid p entry = Dm sid (Seal no_token p.handle p.segment entry)

abbrev pub punches : Sid → Picked → Act
punches sid p = Dm sid (PunchHole no_token p.handle (start_of p) segment_bytes)

abbrev pub copies : Picked → ℕ → List ℕ → Act
copies p volume bytes = Copy volume p.handle p.segment bytes

abbrev pub IsSeal : Sid → Picked → Act → Type 0
IsSeal sid p asked = (entry : StubEntry) × (asked ≡ seals sid p entry)

abbrev pub IsCopy : Picked → ℕ → Act → Type 0
IsCopy p volume asked = (bytes : List ℕ) × (asked ≡ copies p volume bytes)

-- a call on the picked segment, by the session of the pass
abbrev pub IsCallOf : Sid → Picked → Act → Type 0
IsCallOf sid p asked = (asked ≡ asks_regions sid p) ⊎ ((asked ≡ sets_regions sid p) ⊎ ((asked ≡ reads sid p) ⊎ (IsSeal sid p asked ⊎ (asked ≡ punches sid p))))

-- ---- the answers of a pass

-- the answers for which a segment is skipped
abbrev pub IsSkip : Sid → Picked → Act → DmReply → Type 0
IsSkip sid p asked (reply.Data bytes) = (bytes ≡ []) × (asked ≡ reads sid p)
IsSkip sid p asked (reply.Refused why.NoObject) = IsCallOf sid p asked
IsSkip sid p asked (reply.Refused (why.Busy token)) = IsCallOf sid p asked
IsSkip sid p asked (reply.Refused (why.Offline segment)) = (asked ≡ reads sid p) ⊎ (IsSeal sid p asked ⊎ (asked ≡ punches sid p))
IsSkip sid p asked (reply.Refused why.BadRange) = IsSeal sid p asked ⊎ (asked ≡ punches sid p)
IsSkip sid p asked (reply.Refused (why.Changed want got)) = IsSeal sid p asked
IsSkip sid p asked (reply.Refused (why.NotSealed segment)) = asked ≡ punches sid p
IsSkip sid p asked (reply.Refused (why.Uncovered segment)) = asked ≡ punches sid p
IsSkip sid p asked answer = ⊥

-- the answers at which a pass ends, of so many volumes
abbrev pub IsEnd : ℕ → Sid → Picked → Act → Heard → Type 0
IsEnd volumes sid p asked (heard.Dm (reply.Refused why.NoSession)) = IsCallOf sid p asked
IsEnd volumes sid p asked (heard.Dm (reply.Refused (why.TooMany count))) = IsSeal sid p asked
IsEnd volumes sid p asked (heard.Copied (Err (copying.Failed before after))) = (volume : ℕ) × IsCopy p volume asked
IsEnd volumes sid p asked (heard.Copied (Err (copying.Damaged want got))) = (volume : ℕ) × IsCopy p volume asked
IsEnd volumes sid p asked (heard.Copied (Err (copying.Full used len capacity))) = (volume : ℕ) × (volume + 1 ≡ volumes) × IsCopy p volume asked
IsEnd volumes sid p asked (heard.Copied (Err copying.NoVolume)) = (volume : ℕ) × (volume + 1 ≡ volumes) × IsCopy p volume asked
IsEnd volumes sid p asked told = ⊥

-- that volume was found full, or isn't there
abbrev pub IsFull : ℕ → Act → Heard → Type 0
IsFull volume (Copy v h segment bytes) (heard.Copied (Err (copying.Full used len capacity))) = v ≡ volume
IsFull volume (Copy v h segment bytes) (heard.Copied (Err copying.NoVolume)) = v ≡ volume
IsFull volume asked told = ⊥

-- ---- the pass

abbrev pub skip_of : Picked → DmReply → Skip
skip_of p answer = record { handle = p.handle; segment = p.segment; why = answer }

-- the segment was punched in the pass, or it is skipped with the answer that caused it
abbrev pub IsDone : List Exchange → Pass → Picked → Type 0
IsDone talk pass p =
    Contains talk (record { asked = punches pass.sid p; heard = heard.Dm reply.Done })
    ⊎ ((asked : Act) × (answer : DmReply) × Contains pass.skipped (skip_of p answer) × IsSkip pass.sid p asked answer × Contains talk (record { asked = asked; heard = heard.Dm answer }))

-- the answer ends the pass, at the segment at which it stands
abbrev pub EndsAt : ℕ → Pass → Act → Heard → Type 0
EndsAt volumes pass asked told = (p : Picked) × (slice_get pass.picks pass.at ≡ Some p) × IsEnd volumes pass.sid p asked told

-- an early end has its answer
abbrev pub IsEndedBy : ℕ → List Exchange → Pass → Option Heard → Type 0
IsEndedBy volumes talk pass None = Unit {0}
IsEndedBy volumes talk pass (Some told) = (asked : Act) × EndsAt volumes pass asked told × Contains talk (record { asked = asked; heard = told })

-- it is that of a segment that is done, for an answer for which that is skipped
abbrev pub IsListed : List Exchange → Pass → Skip → Type 0
IsListed talk pass s = (k : ℕ) × (p : Picked) × (asked : Act) × (k < pass.at) × (slice_get pass.picks k ≡ Some p) × (s ≡ skip_of p s.why) × IsSkip pass.sid p asked s.why × Contains talk (record { asked = asked; heard = heard.Dm s.why })

-- each segment before the one at which the pass stands is done, and nothing is listed but what was skipped
pub record Passed (volumes : ℕ) (talk : List Exchange) (pass : Pass) : Type 0 where
  pub done : (k : ℕ) (p : Picked) → k < pass.at → slice_get pass.picks k ≡ Some p → IsDone talk pass p
  pub listed : (s : Skip) → Contains pass.skipped s → IsListed talk pass s
  pub ended : IsEndedBy volumes talk pass pass.ended

-- the pass has come to the end of its picks, or ended early
abbrev pub IsOver : Pass → Type 0
IsOver pass = (pass.at ≡ length pass.picks) ⊎ ((told : Heard) × (pass.ended ≡ Some told))

-- the exchanges since the last table
abbrev pub told_since : List Exchange → Act → Heard → List Exchange
told_since talk (Dm sid GetTable) (heard.Dm (reply.Table table)) = record { asked = Dm sid GetTable; heard = heard.Dm (reply.Table table) } ∷ []
told_since talk asked told = talk ++ record { asked = asked; heard = told } ∷ []
