-- What a marked history shows of a store with its drives and its daemons, and how deeds keep that.
use Rattle.std.specs.Prelude.{◌≡◌, ◌⊎◌, List, ◌++◌, length, false, None, Ok, Err, IfSome}
use Rattle.std.specs.List.{AllByRecursion}
use Rattle.media_model.specs.declared.drive.Drive as drive
use Rattle.hsm_types.specs.Stubs.{print_of, entry_print}
use Rattle.hsm_types.specs.declared.daemons.Act.{Act}
use Rattle.hsm_types.specs.declared.daemons.Act.TheVariants.{Fetch, Idle}
use Rattle.hsm_types.specs.declared.daemons.Heard.{Heard}
use Rattle.hsm_types.specs.declared.daemons.Heard.TheVariants.{Nothing, Fetched}
use Rattle.hsm_types.specs.declared.media.Fault.{Fault}
use Rattle.hsm_types.specs.declared.media.FetchRefusal.TheVariants as fetching
use Rattle.daemon_session.specs.Seats.{Seat, no_seat, all_marked}
use Rattle.recall_daemon.specs.Known as recall
use Rattle.migrate_daemon.specs.Known as migrate
use Rattle.hsm_system.specs.Running.{Recalling, Migrating}
use Rattle.deeds.specs.Deeds.{Deed}
use Rattle.hsm_replay.specs.Faults.{faults_in, IsApart, IsTrue, AreTrue}
use Rattle.marked_history.specs.Marks.{Mark, entries_of}
use Rattle.hsm_replay.specs.Sealed.{Tallies, HearsLost, HearsStored}
use Rattle.marked_history.specs.Served.{Served, IsOf, shown, nothing_shown}
use Rattle.hsm_replay.specs.Marking.{marks_of}
use Rattle.hsm_replay.specs.Systems.{Run, told_next}

-- ---- what machines know

-- no event is put off
abbrev pub unmarked : Seat → Seat
unmarked seat = record seat { kept = all_marked false seat.kept }

-- the same but for which events are put off, which a history doesn't show
pub record IsKnownAs (k shown : recall.Known) : Type 0 where
  pub seat : unmarked k.seat ≡ unmarked shown.seat
  pub hand : k.hand ≡ shown.hand

-- A history shows neither what is known of the space nor whether a pass by `high` may still begin.
pub record IsShownAs (k shown : migrate.Known) : Type 0 where
  pub seat : k.seat ≡ shown.seat
  pub punched : k.punched ≡ shown.punched

-- it was just started, or rests without a session
abbrev pub IsAtStart : Seat → Act → Heard → Type 0
IsAtStart seat asked told = (seat ≡ no_seat) × (asked ≡ Idle) × (told ≡ Nothing)

module _ {M : Type 0} (g : drive.Ghosts M) where
  -- What is heard of a fetch: bytes with the entry's fingerprint, or a fault of its object that is true, and apart from those that events were answered for.
  abbrev pub IsHeardOf : List M → List Fault → Act → Heard → Type 0
  IsHeardOf drives faults (Fetch entry) (Fetched (Ok bytes)) = print_of bytes ≡ entry_print entry
  IsHeardOf drives faults (Fetch entry) (Fetched (Err (fetching.Media fault))) = IsOf entry fault × IsTrue g drives fault × AllByRecursion (λ earlier. IsApart (length drives) earlier fault) faults
  IsHeardOf drives faults asked told = Unit {0}

  -- The recall daemon knows what the history shows, unless it is at its start.
  pub record RecallKnows (k : recall.Known) (drives : List M) (faults : List Fault) (r : Recalling) : Type 0 where
    pub known : (IsAtStart r.machine.known.seat r.machine.asked (told_next r.next) × (r.machine.known.hand ≡ None)) ⊎ IsKnownAs (recall.knows_by r.machine.known r.machine.asked (told_next r.next)) k
    pub heard : IsHeardOf drives faults r.machine.asked (told_next r.next)

-- So does the migration daemon.
abbrev pub MigrateKnows : migrate.Known → Migrating → Type 0
MigrateKnows k m = IsAtStart m.machine.known.seat m.machine.asked (told_next m.next) ⊎ IsShownAs (migrate.knows_by m.machine.limits m.machine.known m.machine.asked (told_next m.next)) k

-- ---- what a history shows

module _ {D M : Type 0} (g : drive.Ghosts M) where
  -- The marked entries are those of the store. They are served, the faults that events were answered for are true, and what was sealed is on the drives, which
  -- were opened as these.
  pub record IsMarked (opened : List M) (marks : List Mark) (s : Run D M) : Type 0 where
    pub entries : entries_of marks ≡ s.system.store.history
    pub served : Served s.system.limits marks
    pub faults : AreTrue g s.drives (faults_in s.system.store.history)
    pub sealed : Tallies g opened s.drives s.system.limits marks

  -- They show what the daemons know, too. What these heard last of a fetch and a copy is so.
  pub record Shows (opened : List M) (marks : List Mark) (s : Run D M) : Type 0 where
    pub marked : IsMarked opened marks s
    pub recall : IfSome s.system.recall (RecallKnows g (shown s.system.limits nothing_shown marks).recall s.drives (faults_in s.system.store.history))
    pub migrate : IfSome s.system.migrate (MigrateKnows (shown s.system.limits nothing_shown marks).migrate)
    pub lost : IfSome s.system.recall (λ (r : Recalling). HearsLost g opened s.drives marks r.machine.asked (told_next r.next))
    pub stored : IfSome s.system.migrate (λ (m : Migrating). HearsStored g s.drives m.machine.asked (told_next m.next))

  -- Each marked history that shows it goes on, with the marks of these deeds, to one that shows what is left.
  abbrev pub GrowsBy : List Deed → Run D M → Run D M → Type 0
  GrowsBy deeds old new = (opened : List M) (marks : List Mark) → Shows opened marks old → Shows opened (marks ++ marks_of deeds) new

  -- Where a run was stopped nothing is said of what the daemons know.
  abbrev pub Ends : List Deed → Run D M → Run D M → Type 0
  Ends deeds old new = (opened : List M) (marks : List Mark) → Shows opened marks old → IsMarked opened (marks ++ marks_of deeds) new
