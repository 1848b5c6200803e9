-- The texts of the programs that tell of a store, or of a drill.
use Rattle.std.specs.Prelude.{ℕ, ◌≡◌, ◌+◌, ◌<◌, ◌%◌, List, length, take, slice_get, Option, Some, None, IfSome}
use Rattle.std.specs.Io.KnownBytes.{Appends}
use Rattle.hsm_types.specs.Limits.{most_volumes}
use Rattle.hsm_types.specs.declared.tables.Table.{Table}
use Rattle.media_model.specs.Objects.{Objects}
use Rattle.media_model.specs.declared.drive.Drive as drive
use Rattle.store_summary.specs.Shown.{ShowsText}
use Rattle.store_summary.specs.declared.summaries.ClassCounts.{ClassCounts}
use Rattle.store_summary.specs.declared.summaries.Summary.{Summary}
use Rattle.reconcile.specs.Classes.{class_counts, entries_of, Tells}
use Rattle.plain_model.specs.declared.entries.Entry.{Entry}
use Rattle.plain_model.specs.State.{Held, nothing_held, used}
use Rattle.plain_model.specs.Exact.{held_by}
use Rattle.hsm_core.specs.Summaries.{IsSummary, offline_of}
use Rattle.drill_script.specs.Summary.{summary_line}
use Rattle.hsm_cli.specs.declared.causes.Cause.{Cause}
use Rattle.hsm_cli.specs.declared.causes.Cause.TheVariants.{WriteFault}
use Rattle.hsm_cli.specs.Openings.{replay_store}
use Rattle.hsm_cli.specs.RunObjects.{SinkTold}

-- nothing was asked of the sink
pub record IsUnwritten (sink : SinkTold) : Type 0 where
  pub taken : sink.new ≡ sink.old
  pub faults : sink.now ≡ sink.before

-- What a sink took of a text that is written last: all of it, without a fault, where the run ended well, a prefix of it where writing failed. Else the sink
-- was left alone.
abbrev pub TakesText : (List ℕ → Type 0) → SinkTold → Option Cause → Type 0
TakesText IsText sink None = (text : List ℕ) × IsText text × Appends sink.old sink.new text × (sink.now ≡ sink.before)
TakesText IsText sink (Some WriteFault) = (text : List ℕ) × IsText text × (n : ℕ) × Appends sink.old sink.new (take n text)
TakesText IsText sink (Some other) = IsUnwritten sink

-- ---- show

-- the text tells of a summary, and of classes of which this is so
pub record ShowsStore (summary : Summary) (AreClasses : Table → Option ClassCounts → Type 0) (text : List ℕ) : Type 0 where
  pub classes : Option ClassCounts
  pub counted : AreClasses summary.table classes
  pub shows : ShowsText summary classes text

-- it tells of a store, by each image of it that was held
pub record IsShown (held : List ℕ → Type 0) (AreClasses : Table → Option ClassCounts → Type 0) (text : List ℕ) : Type 0 where
  pub summary : Summary
  pub told : (image : List ℕ) → held image → IsSummary summary image
  pub shows : ShowsStore summary AreClasses text

-- no classes are told
abbrev pub AreUntold : Table → Option ClassCounts → Type 0
AreUntold table classes = classes ≡ None

-- how many volumes are looked at, from 0, and how many drives they are shared by
abbrev pub shown_volumes : ℕ
shown_volumes = most_volumes

abbrev pub shown_drives : ℕ
shown_drives = 2

-- The classes are those over the volumes that are looked at, whatever objects these had. Each entry of the table is in one.
pub record AreCounted (stored : ℕ → Objects → Type 0) (table : Table) (classes : Option ClassCounts) : Type 0 where
  pub counts : ClassCounts
  pub told : classes ≡ Some counts
  pub are : (objects : ℕ → Objects) → ((v : ℕ) → v < shown_volumes → stored v (objects v)) → counts ≡ class_counts shown_volumes objects (entries_of table)
  pub each : counts.held + counts.missing + counts.altered ≡ length (entries_of table)

-- these are the objects of the volume, which is in the drive v mod their number
abbrev pub GivesVolume : {M : Type 0} → drive.Ghosts M → List M → ℕ → Objects → Type 0
GivesVolume g drives v objects = IfSome (slice_get drives (v % length drives)) (λ d. Tells g d v objects)

-- ---- drill

-- so many blocks of what is held are used, and so many segments offline
pub record HasLeft (h : Held) (blocks segments : ℕ) : Type 0 where
  pub are_used : blocks ≡ used h.files
  pub are_offline : segments ≡ offline_of h.files

-- what a new store holds after these entries
abbrev pub held_after : List Entry → Held
held_after history = held_by replay_store 0 nothing_held history

-- the line of a drill with that history, which tells of the used blocks and the offline segments that it has left
abbrev pub drill_text : ℕ → List Entry → List ℕ
drill_text number history = summary_line number history (used (held_after history).files) (offline_of (held_after history).files)
