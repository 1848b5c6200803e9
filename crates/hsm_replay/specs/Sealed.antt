-- What the migration daemon has sealed: what the drives have of it, and what the recall daemon's answers say of that.
use Rattle.std.specs.Prelude.{◌≡◌, ◌≢◌, ℕ, ◌<◌, ◌≤◌, List, ◌∷◌, ◌++◌, length, slice_get, true, Option, None, Some, Ok, Err}
use Rattle.std.specs.List.{filter_map, AllByRecursion}
use Rattle.media_model.specs.Objects.{Objects}
use Rattle.media_model.specs.declared.drive.Drive as drive
use Rattle.hsm_types.specs.declared.daemons.Act.{Act}
use Rattle.hsm_types.specs.declared.daemons.Act.TheVariants as act
use Rattle.hsm_types.specs.declared.daemons.Daemon.{Daemon}
use Rattle.hsm_types.specs.declared.daemons.Daemon.TheVariants.{Recall, Migrate}
use Rattle.hsm_types.specs.declared.daemons.Heard.{Heard}
use Rattle.hsm_types.specs.declared.daemons.Heard.TheVariants.{Copied, Fetched}
use Rattle.hsm_types.specs.declared.dm.DmCall.TheVariants.{Respond, Seal}
use Rattle.hsm_types.specs.declared.dm.DmReply.{DmReply}
use Rattle.hsm_types.specs.declared.dm.Response.TheVariants.{Abort, Media}
use Rattle.hsm_types.specs.declared.keys.Sid.{Sid}
use Rattle.hsm_types.specs.declared.keys.Token.{Token}
use Rattle.hsm_types.specs.declared.media.Fault.TheVariants.{Damaged}
use Rattle.hsm_types.specs.declared.media.FetchRefusal.TheVariants.{NoObject}
use Rattle.hsm_types.specs.declared.stubs.Fingerprint.{Fingerprint}
use Rattle.hsm_types.specs.declared.stubs.StubEntry.{StubEntry}
use Rattle.hsm_types.specs.Stubs.{entry_place, entry_print, entry_at}
use Rattle.plain_model.specs.declared.entries.Action.{Action}
use Rattle.plain_model.specs.declared.entries.Action.TheVariants.{Dm}
use Rattle.hsm_policy.specs.Settings.{Numbers}
use Rattle.volume_shelf.specs.Shelf.{HasPrint}
use Rattle.recall_daemon.specs.Known.{Known, Hand, IsNeeded}
use Rattle.recall_daemon.specs.declared.away.Away.{Away}
use Rattle.hsm_replay.specs.Drives.{HaveGrown}
use Rattle.marked_history.specs.Marks.{Mark, made}
use Rattle.marked_history.specs.Served.{shown, nothing_shown}
use Rattle.hsm_replay.specs.Systems.{drive_of}

-- ---- entries that are sealed

-- the entry with which the migration daemon seals a segment
abbrev pub seal_by : Option Daemon → Action → Option StubEntry
seal_by (Some Migrate) (Dm (Seal t h segment entry)) = Some entry
seal_by by action = None

-- those of all its Seals, whatever these were answered
abbrev pub sealed_in : List Mark → List StubEntry
sealed_in marks = filter_map (λ (m : Mark). seal_by m.by m.entry.action) marks

-- none of the entries names the object that this one names
abbrev pub IsUnnamed : List StubEntry → StubEntry → Type 0
IsUnnamed sealed entry = AllByRecursion (λ (e : StubEntry). entry_place e ≢ entry_place entry) sealed

-- none of them names this object with this fingerprint
abbrev pub IsUnsealed : List StubEntry → ℕ → ℕ → Fingerprint → Type 0
IsUnsealed sealed volume object print = AllByRecursion (λ (e : StubEntry). e ≢ entry_at (record { volume = volume; object = object }) print) sealed

-- recall has made none of these entries
abbrev pub AreOfOthers : List Mark → Type 0
AreOfOthers marks = AllByRecursion (λ (m : Mark). m.by ≢ Some Recall) marks

module _ {M : Type 0} (g : drive.Ghosts M) where
  -- ---- what drives have

  -- the drive that has the volume tells that these may be its objects
  abbrev pub Gives : List M → ℕ → Objects → Type 0
  Gives drives volume o = (d : M) × (slice_get drives (drive_of volume drives) ≡ Some d) × g.gives d volume o

  -- that drive has the volume
  abbrev pub IsThere : List M → ℕ → Type 0
  IsThere drives volume = (d : M) × (slice_get drives (drive_of volume drives) ≡ Some d) × (g.has d volume ≡ true)

  -- The volume is there, and where its objects are told it has this one, which lasts, with a payload of the entry's fingerprint.
  pub record IsStored (drives : List M) (entry : StubEntry) : Type 0 where
    pub there : IsThere drives (entry_place entry).volume
    pub print : HasPrint (Gives drives (entry_place entry).volume) (entry_place entry).object (entry_print entry)
    pub lasts : (o : Objects) (gives : Gives drives (entry_place entry).volume o) → (entry_place entry).object < g.lasting gives.0 (entry_place entry).volume

  -- The volume's objects are told, and it is without this one.
  abbrev pub MayLack : List M → StubEntry → Type 0
  MayLack drives entry = (o : Objects) × Gives drives (entry_place entry).volume o × (length o ≤ (entry_place entry).object)

  -- Those first entries have all that recall was told, of the segments too, as it has made none since. Where the volume's objects are told, no Seal of
  -- theirs names the object, and by what the opened drives tell the volume was without it.
  pub record IsLost (opened drives : List M) (marks : List Mark) (entry : StubEntry) : Type 0 where
    pub first : List Mark
    pub since : List Mark
    pub parted : marks ≡ first ++ since
    pub others : AreOfOthers since
    pub unnamed : (o : Objects) → Gives drives (entry_place entry).volume o → IsUnnamed (sealed_in first) entry
    pub lacked : (o : Objects) → Gives drives (entry_place entry).volume o → MayLack opened entry

  -- ---- what daemons hear of it

  -- what migration heard last of a copy, or seals, is stored
  abbrev pub HearsStored : List M → Act → Heard → Type 0
  HearsStored drives (act.Copy volume h segment bytes) (Copied (Ok entry)) = IsStored drives entry
  HearsStored drives (act.Dm sid (Seal t h segment entry)) told = IsStored drives entry
  HearsStored drives asked told = Unit {0}

  -- the object that recall heard last not to be there is lost
  abbrev pub HearsLost : (opened drives : List M) → List Mark → Act → Heard → Type 0
  HearsLost opened drives marks (act.Fetch entry) (Fetched (Err (NoObject volume object))) = IsLost opened drives marks entry
  HearsLost opened drives marks asked told = Unit {0}

  -- ---- what recall answers

  -- the access in hand needs a segment whose object is lost
  abbrev pub NeedsLost : (opened drives : List M) → Known → List Mark → Type 0
  NeedsLost opened drives k marks = (hand : Hand) × (a : Away) × (k.hand ≡ Some hand) × IsNeeded k.seat.kept hand a × IsLost opened drives marks a.entry

  -- Each answer of recall that there is no such object is for one that is lost, by the entries before.
  abbrev pub AbortsAreRight : (opened drives : List M) → Numbers → List Mark → Type 0
  AbortsAreRight opened drives limits marks = (before : List Mark) (sid : Sid) (t : Token) (reply : DmReply) (rest : List Mark) → marks ≡ before ++ made Recall sid (Respond t (Abort 2)) reply ∷ rest → NeedsLost opened drives (shown limits nothing_shown before).recall before

  -- Where recall answers that an object is damaged, and the volume's objects are told, no Seal before had that object with the fingerprint that is wanted.
  abbrev pub DamagesAreRight : List M → List Mark → Type 0
  DamagesAreRight drives marks = (before : List Mark) (sid : Sid) (t : Token) (volume object : ℕ) (want got : Fingerprint) (reply : DmReply) (rest : List Mark) → marks ≡ before ++ made Recall sid (Respond t (Media (Damaged volume object want got))) reply ∷ rest
      → (o : Objects) → Gives drives volume o → IsUnsealed (sealed_in before) volume object want

  -- The drives are those that were opened, used. All that was sealed is on them, and recall's answers are right.
  pub record Tallies (opened drives : List M) (limits : Numbers) (marks : List Mark) : Type 0 where
    pub grown : HaveGrown g opened drives
    pub stored : AllByRecursion (IsStored drives) (sealed_in marks)
    pub aborts : AbortsAreRight opened drives limits marks
    pub damages : DamagesAreRight drives marks

  -- Over drives of a sure type recall never answers that an object is damaged that a Seal before had with the fingerprint that is wanted.
  abbrev pub SealsAreWhole : List Mark → Type 0
  SealsAreWhole marks = g.sure ≡ true → (before : List Mark) (sid : Sid) (t : Token) (volume object : ℕ) (want got : Fingerprint) (reply : DmReply) (rest : List Mark) → marks ≡ before ++ made Recall sid (Respond t (Media (Damaged volume object want got))) reply ∷ rest → IsUnsealed (sealed_in before) volume object want
