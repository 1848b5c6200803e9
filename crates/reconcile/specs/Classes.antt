-- Classes: which objects of volumes are live, and which stub entries of a table are held.
use Rattle.std.specs.Prelude.{◌≡◌, ◌⊎◌, ℕ, ◌<◌, ◌%◌, Bool, false, not, ◌&&◌, nat_eq, nat_lt, List, [], length, count_by, sum_by, filter_map}
use Rattle.std.specs.Prelude.{flat_map, map, slice_get, slice_set, slice_index_or, if◌then◌else◌, Option, Some, None, is_none, IfSome, Result, Err}
use Rattle.std.specs.List.{AllZip, list_any, range_with_len}
use Rattle.std.specs.Option.{option_map_or}
use Rattle.disk_model.specs.Calls.{raised}
use Rattle.hsm_types.specs.Stubs.{print_of, entry_place, entry_print}
use Rattle.hsm_types.specs.declared.stubs.Segment.{Segment}
use Rattle.hsm_types.specs.declared.stubs.Segment.TheVariants.{Resident, Sealed, Offline}
use Rattle.hsm_types.specs.declared.stubs.StubEntry.{StubEntry}
use Rattle.hsm_types.specs.declared.tables.FileRow.{FileRow}
use Rattle.hsm_types.specs.declared.tables.Table.{Table}
use Rattle.media_model.specs.Objects.{Objects}
use Rattle.media_model.specs.declared.drive.Drive as drive
use Rattle.plain_model.specs.Segments.{same_print}
use Rattle.store_summary.specs.declared.summaries.ClassCounts.{ClassCounts}
use Rattle.volume_shelf.specs.Shelf.{payload_in, Reads}
use Rattle.reconcile.specs.declared.refusals.ReconcileRefusal.{ReconcileRefusal}
use Rattle.reconcile.specs.declared.refusals.ReconcileRefusal.TheVariants.{Failed, Memory}

-- ---- the entries of a table

-- that of a segment, which a resident one lacks
abbrev pub entry_of : Segment → Option StubEntry
entry_of (Resident blocks) = None
entry_of (Sealed blocks entry) = Some entry
entry_of (Offline entry) = Some entry

abbrev pub entries_in : FileRow → List StubEntry
entries_in row = filter_map entry_of row.segments

-- those of all files
abbrev pub entries_of : Table → List StubEntry
entries_of table = flat_map entries_in table.files

-- ---- objects. Each volume below a number has those that are told of it

abbrev pub names : ℕ → ℕ → StubEntry → Bool
names volume object e = nat_eq (entry_place e).volume volume && nat_eq (entry_place e).object object

-- some entry names the object, else it is dead
abbrev pub is_live : List StubEntry → ℕ → ℕ → Bool
is_live entries volume object = list_any (names volume object) entries

-- how many objects pass a test of their volume and their number
abbrev pub count_objects : (ℕ → ℕ → Bool) → ℕ → (ℕ → Objects) → ℕ
count_objects test volumes told = sum_by (λ v. count_by (test v) (range_with_len 0 (length (told v)))) (range_with_len 0 volumes)

-- ---- entries, by the payload of the object that they name

-- where the object is among these
abbrev pub payload_at : StubEntry → Objects → Option (List ℕ)
payload_at e objects = if nat_lt (entry_place e).object (length objects) then Some (payload_in (entry_place e).object objects) else None

-- where it is on a volume below that number
abbrev pub payload_of : ℕ → (ℕ → Objects) → StubEntry → Option (List ℕ)
payload_of volumes told e = if nat_lt (entry_place e).volume volumes then payload_at e (told (entry_place e).volume) else None

-- the payload has the entry's fingerprint
abbrev pub is_held : ℕ → (ℕ → Objects) → StubEntry → Bool
is_held volumes told e = option_map_or (λ payload. same_print (print_of payload) (entry_print e)) (payload_of volumes told e) false

-- there is none
abbrev pub is_missing : ℕ → (ℕ → Objects) → StubEntry → Bool
is_missing volumes told e = is_none (payload_of volumes told e)

-- it has another one
abbrev pub is_altered : ℕ → (ℕ → Objects) → StubEntry → Bool
is_altered volumes told e = option_map_or (λ payload. not (same_print (print_of payload) (entry_print e))) (payload_of volumes told e) false

-- ---- how many are of each class

abbrev pub class_counts : ℕ → (ℕ → Objects) → List StubEntry → ClassCounts
class_counts volumes told entries = record {
  live = count_objects (is_live entries) volumes told;
  dead = count_objects (λ v o. not (is_live entries v o)) volumes told;
  held = count_by (is_held volumes told) entries;
  missing = count_by (is_missing volumes told) entries;
  altered = count_by (is_altered volumes told) entries;
}

-- ---- what drives tell. Volume v is in the drive v mod their number

-- the answer says that a drive failed
abbrev pub TellsFailed : {T : Type 0} → Result T ReconcileRefusal → Type 0
TellsFailed (Err (Failed volume)) = Unit {0}
TellsFailed other = ⊥

-- these counts, with one more in that place
abbrev pub raised_at : ℕ → List ℕ → List ℕ
raised_at place counts = slice_set counts place (raised (slice_index_or counts place 0))

module _ {D : Type 0} (g : drive.Ghosts D) where
  -- these are the objects of the volume: none where the drive doesn't have it
  abbrev pub Tells : D → ℕ → Objects → Type 0
  Tells drive v objects = g.gives drive v objects ⊎ ((g.has drive v ≡ false) × (objects ≡ []))

  -- these are those of the volumes below that number
  pub record AreTold (volumes : ℕ) (drives : List D) (told : ℕ → Objects) : Type 0 where
    pub each : (v : ℕ) → v < volumes → IfSome (slice_get drives (v % length drives)) (λ drive. Tells drive v (told v))

  -- only reads were made
  abbrev pub AreRead : List D → List D → Type 0
  AreRead old new = AllZip (Reads g) old new

  -- each drive has counted as many faults as before
  abbrev pub AreQuiet : List D → List D → Type 0
  AreQuiet old new = map g.fault_count new ≡ map g.fault_count old

  -- one call of the drive that the volume is in has failed, and none of another drive
  abbrev pub FailsAt : ℕ → List D → List D → Type 0
  FailsAt volume old new = map g.fault_count new ≡ raised_at (volume % length old) (map g.fault_count old)

  -- why nothing was counted
  abbrev pub ClassesRefused : ℕ → List D → List D → ReconcileRefusal → Type 0
  ClassesRefused volumes old new (Failed volume) = (volume < volumes) × FailsAt volume old new
  ClassesRefused volumes old new Memory = Unit {0}
