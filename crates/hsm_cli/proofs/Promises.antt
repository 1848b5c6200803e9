-- Each form of the words keeps what is promised of a run, by what its function promises.
use Rattle.std.proofs.Common.{ℕ, ◌≡◌, ◌≢◌, ◌⊎◌, inl, List, [], Option, Some, None, IfSome, IsSome, false, true, refl, sym, ◌∙◌, ap, subst}
use Rattle.std.proofs.lemmas.Bool.{false≢true}
use Rattle.disk_model.specs.declared.device.Disk as disk
use Rattle.disk_model.specs.Calls.{Rose, raised}
use Rattle.media_model.specs.declared.drive.Drive as drive
use Rattle.command_words.specs.Commands.{Form, Format, Replay, ReplayStore, Show, ShowVolumes, Drill, geometry_number, fsid_of}
use Rattle.command_words.specs.declared.commands.StoreSize.{StoreSize}
use Rattle.plain_model.specs.Faults.{has_fault}
use Rattle.file_store.specs.Stores.{Store, IsDurable}
use Rattle.hsm_replay.specs.Faults.{faults_in, AreTrue}
use Rattle.script_text.specs.Scripts.{IsScript}
use Rattle.script_text.specs.Laws.{IsOneScript}
use Rattle.script_text.specs.declared.lines.Line.{Line}
use Rattle.hsm_cli.specs.declared.causes.Cause.TheVariants.{WordsRefused, HostFault, NoMemory}
use Rattle.hosts.specs.declared.outside.Host as host
use Rattle.hsm_cli.specs.declared.outcomes.Outcome.{Outcome}
use Rattle.hsm_cli.specs.Statuses.{status_of, place_of}
use Rattle.hsm_cli.specs.Openings.{opened_in, superblock_at, held_at, base_of}
use Rattle.hsm_cli.specs.Outcomes.{ended_with}
use Rattle.hsm_cli.specs.Deeds.{DeedsClause}
use Rattle.hosts.specs.Hosts.{StoresAll}
use Rattle.hsm_cli.specs.Texts.{IsUnwritten, TakesText, IsShown, AreUntold, AreCounted, drill_text}
use Rattle.hsm_cli.specs.RunObjects.{SourceTold, SinkTold, FailsOnce, host_told}
use Rattle.hsm_cli.specs.Endings.{WritingEnds, RunEnds, FormatEnds, ShowEnds}
use Rattle.hsm_cli.specs.Clauses.{HasRead, HasReadOn, IsUnread, TellsGiven, IsRunOver, IsGoodSeenOver, IsOrderlyOver, IsPackedOver, IsGoodOver, IsPlainOver}
use Rattle.hsm_cli.specs.Clauses.{IsCausedOver, NoneFailed, TellsFaults}
use Rattle.hsm_cli.specs.Clauses.{LegalityClause, PlainClause, MediaClause, LeavesSafe, OnlyReads, IsFormatted, HandsOut, HasFailed, HasDriveFailed}
use Rattle.hsm_cli.specs.Clauses.{GivesBack, HandsDrives, GivesShown, AsksShown, asked_by, FindsNothing, TakesTranscript, Why, HasBegun, Lacks}
use Rattle.hsm_cli.specs.Clauses.{LacksShown, ReadsQuietly, WritesQuietly, KeepsQuietly, HandsQuietly, NeverFailed, KeepsPromises}
use Rattle.hsm_cli.proofs.Completeness.{status_new, status_store}
use Rattle.hsm_cli.proofs.Drills.{status_drill}
use Rattle.hsm_cli.proofs.Faults.{caused_none, none_named}
use Rattle.hsm_cli.proofs.Formats.{status_format}
use Rattle.hsm_cli.proofs.Legality.{good_but_bytes, good_seen, legal_with}
use Rattle.hsm_cli.proofs.Quiet.{read_quietly, text_quietly}
use Rattle.hsm_cli.proofs.Showings.{status_show, status_volumes}

module _ {H D M : Type 0} (t : host.Ghosts H D M) (g : disk.Ghosts D) (h : drive.Ghosts M) (old new : H) (source : SourceTold) (sink : SinkTold) (o : Outcome D M) where
  -- ---- forms that run nothing

  module _ (drives : List M) (is : o ≡ record (ended_with o.cause [] o.disk) { drives = drives }) where
    idle_told : (o.status ≡ status_of o.cause) × (o.at ≡ place_of o.cause)
    idle_told = (ap (λ (x : Outcome D M). x.status) is, ap (λ (x : Outcome D M). x.at) is)

    idle_new : (o.opening ≡ None) × (o.base ≡ 0)
    idle_new = (ap (λ (x : Outcome D M). x.opening) is, ap (λ (x : Outcome D M). x.base) is)

    idle : o.history ≡ []
    idle = ap (λ (x : Outcome D M). x.history) is

    idle_legal : LegalityClause g o
    idle_legal = legal_with g o o.cause o.disk drives is

    idle_plain : PlainClause o
    idle_plain P stands = (idle_legal.seen P stands).plain

    idle_media : (form : Option Form) → TellsFaults h form o.drives (faults_in o.history) → MediaClause h form o
    idle_media form faults = record { caused = caused_none (superblock_at (opened_in o)) (base_of (opened_in o)) (held_at (opened_in o)) o.history idle; faults = faults }

  pub format_keeps : (path : List ℕ) (size : StoreSize)
      → o ≡ ended_with o.cause [] o.disk
      → (o.cause ≡ None → IsFormatted g (geometry_number size) (fsid_of path) o.disk)
      → HandsOut path (t.holds old) (t.holds new) o.disk
      → t.make_count new ≡ raised (t.make_count old)
      → t.open_count new ≡ t.open_count old
      → t.drive_count new ≡ t.drive_count old
      → StoresAll (t.stores old) (t.stores new)
      → (o.cause ≡ Some HostFault → o.disk ≡ None)
      → (o.disk ≡ None → (o.cause ≡ Some HostFault) ⊎ (o.cause ≡ Some NoMemory))
      → (o.cause ≢ Some HostFault → t.fault_count new ≡ t.fault_count old)
      → FailsOnce (t.fault_count old) (t.fault_count new)
      → KeepsQuietly g o.history o.cause o.disk
      → FormatEnds (HasFailed g o.disk) (host_told t.fault_count old new) o.cause
      → IsUnread source → IsUnwritten sink → KeepsPromises t g h (Some (Format path size)) old new source sink o
  format_keeps path size is formatted hands made unasked undriven folders lent back quiet host_once sound ends unread unwritten = record {
    deeds = idle [] is;
    reading = unread;
    legality = idle_legal [] is;
    plain = idle_plain [] is;
    media = idle_media [] is (Some (Format path size)) (none_named o.history (idle [] is));
    crash = ap (λ (x : Outcome D M). opened_in x) is;
    format = formatted;
    host = (hands, inl (made, unasked));
    drives = (ap (λ (x : Outcome D M). x.drives) is, folders, undriven);
    output = unwritten;
    status = status_format g h (t.holds old) source sink (host_told t.fault_count old new) o path size (idle_told [] is) (idle_new [] is) lent back ends;
    faults = record { reads = λ sound. unread.faults; writes = λ sound working ample. unwritten.faults; keeps = sound; hands = quiet; counts = tt; source_once = inl unread.faults; sink_once = inl unwritten.faults; host_once = host_once };
  }

  pub show_keeps : (path : List ℕ)
      → o ≡ ended_with o.cause [] o.disk
      → OnlyReads g (t.holds old path) o
      → HandsOut path (t.holds old) (t.holds new) o.disk
      → t.open_count new ≡ raised (t.open_count old)
      → t.make_count new ≡ t.make_count old
      → t.drive_count new ≡ t.drive_count old
      → StoresAll (t.stores old) (t.stores new)
      → (o.cause ≡ Some HostFault → o.disk ≡ None)
      → (o.disk ≡ None → (o.cause ≡ Some HostFault) ⊎ (o.cause ≡ Some NoMemory))
      → TakesText (IsShown (t.holds old path) AreUntold) sink o.cause
      → (o.cause ≢ Some HostFault → t.fault_count new ≡ t.fault_count old)
      → FailsOnce (t.fault_count old) (t.fault_count new)
      → FailsOnce sink.before sink.now
      → ShowEnds (t.holds old path) (Rose (t.fault_count old) (t.fault_count new)) (HasFailed g o.disk) sink o.cause
      → IsUnread source → KeepsPromises t g h (Some (Show path)) old new source sink o
  show_keeps path is reads hands asked unmade undriven folders lent back output quiet host_once sink_once ends unread = record {
    deeds = idle [] is;
    reading = unread;
    legality = idle_legal [] is;
    plain = idle_plain [] is;
    media = idle_media [] is (Some (Show path)) (none_named o.history (idle [] is));
    crash = reads;
    format = tt;
    host = (hands, inl (asked, unmade));
    drives = (ap (λ (x : Outcome D M). x.drives) is, folders, undriven);
    output = output;
    status = status_show g h (t.holds old) source sink (host_told t.fault_count old new) o (idle_told [] is) (idle_new [] is) path AreUntold output back lent ends;
    faults = record { reads = λ sound. unread.faults; writes = text_quietly (IsShown (t.holds old path) AreUntold) sink o.cause output; keeps = λ works none. read_quietly g (t.holds old path) o.cause o.disk reads.2 works; hands = quiet; counts = tt; source_once = inl unread.faults; sink_once = sink_once; host_once = host_once };
  }

  pub volumes_keep : (path dir : List ℕ)
      → o ≡ record (ended_with o.cause [] o.disk) { drives = o.drives }
      → OnlyReads g (t.holds old path) o
      → HandsOut path (t.holds old) (t.holds new) o.disk
      → t.open_count new ≡ raised (t.open_count old)
      → t.make_count new ≡ t.make_count old
      → GivesShown h (t.stores old dir) o.disk o.cause o.drives
      → HandsDrives dir (t.stores old) (t.stores new) o.drives
      → AsksShown o.disk o.cause (t.drive_count old) (t.drive_count new)
      → (o.cause ≡ Some HostFault → LacksShown h o)
      → (o.disk ≡ None → (o.cause ≡ Some HostFault) ⊎ (o.cause ≡ Some NoMemory))
      → ((image : List ℕ) → t.holds old path image → FindsNothing image → t.drive_count new ≡ t.drive_count old)
      → ((image : List ℕ) → t.holds old path image → FindsNothing image → IsSome o.disk → o.cause ≢ Some HostFault)
      → TakesText (IsShown (t.holds old path) (AreCounted (t.stores old dir))) sink o.cause
      → (o.cause ≢ Some HostFault → t.fault_count new ≡ t.fault_count old)
      → FailsOnce (t.fault_count old) (t.fault_count new)
      → FailsOnce sink.before sink.now
      → (o.cause ≢ Some HostFault → NeverFailed h o.drives)
      → ShowEnds (t.holds old path) (Rose (t.fault_count old) (t.fault_count new) ⊎ HasDriveFailed h o.drives) (HasFailed g o.disk) sink o.cause
      → IsUnread source → KeepsPromises t g h (Some (ShowVolumes path dir)) old new source sink o
  volumes_keep path dir is reads hands asked unmade drives folders driven lent back unasked first output quiet host_once sink_once well ends unread = record {
    deeds = idle o.drives is;
    reading = unread;
    legality = idle_legal o.drives is;
    plain = idle_plain o.drives is;
    media = idle_media o.drives is (Some (ShowVolumes path dir)) (none_named o.history (idle o.drives is));
    crash = reads;
    format = tt;
    host = (hands, inl (asked, unmade));
    drives = (drives, folders, driven, unasked);
    output = output;
    status = status_volumes g h (t.holds old) source sink (host_told t.fault_count old new) o (idle_told o.drives is) (idle_new o.drives is) path (AreCounted (t.stores old dir)) output back dir lent first ends;
    faults = record { reads = λ sound. unread.faults; writes = text_quietly (IsShown (t.holds old path) (AreCounted (t.stores old dir))) sink o.cause output; keeps = λ works none. read_quietly g (t.holds old path) o.cause o.disk reads.2 works; hands = quiet; counts = well; source_once = inl unread.faults; sink_once = sink_once; host_once = host_once };
  }

  -- ---- forms that run lines on a new store

  module _ (is : o ≡ ended_with o.cause o.history None) (good : IsGoodOver {D = D} None o.history) (packed : IsPackedOver {D = D} None o.history) (faultless : has_fault o.history ≡ false)
      (plain : IsPlainOver {D = D} None o.history) (caused : IsCausedOver {D = D} None o.history) (media : NoneFailed (faults_in o.history)) where
    told : (o.status ≡ status_of o.cause) × (o.at ≡ place_of o.cause)
    told = (ap (λ (x : Outcome D M). x.status) is, ap (λ (x : Outcome D M). x.at) is)

    nothing_left : (o.opening ≡ None) × (o.disk ≡ None) × (o.base ≡ 0) × (o.drives ≡ [])
    nothing_left = (ap (λ (x : Outcome D M). x.opening) is, ap (λ (x : Outcome D M). x.disk) is, ap (λ (x : Outcome D M). x.base) is, ap (λ (x : Outcome D M). x.drives) is)

    no_disk : KeepsQuietly g o.history o.cause o.disk
    no_disk works none = subst (λ (d : Option D). IfSome d (λ x. g.fault_count x ≡ 0)) (sym nothing_left.1) tt

    not_opened : opened_in o ≡ None
    not_opened = ap (λ (x : Outcome D M). opened_in x) is

    new_legal : LegalityClause g o
    new_legal = record {
      from = subst (λ (s : Option (Store D)). IsRunOver (TellsGiven g o.disk) s o.history) (sym not_opened) (good_seen {D = D} (TellsGiven g o.disk) None o.history good);
      seen = subst (λ (s : Option (Store D)). IsGoodSeenOver (TellsGiven g o.disk) s o.history) (sym not_opened) (good_but_bytes {D = D} (TellsGiven g o.disk) None o.history (good_seen {D = D} (TellsGiven g o.disk) None o.history good));
      orderly = subst (λ (s : Option (Store D)). IsOrderlyOver s o.history) (sym not_opened) (record { once = good.once; ordered = good.ordered });
      packed = subst (λ (s : Option (Store D)). IsPackedOver s o.history) (sym not_opened) packed;
      good = λ tells. subst (λ (s : Option (Store D)). IsGoodOver s o.history) (sym not_opened) good;
      caused = λ is. absurd (false≢true (sym faultless ∙ is));
      told = λ is some. absurd (false≢true (subst (λ (s : Option (Store D)). IsSome s) not_opened some));
      faultless = λ sound ample. faultless;
    }

    new_plain : PlainClause o
    new_plain = subst (λ (s : Option (Store D)). IsPlainOver s o.history) (sym not_opened) plain

    new_caused : IsCausedOver (opened_in o) o.history
    new_caused = subst (λ (s : Option (Store D)). IsCausedOver s o.history) (sym not_opened) caused

    pub replay_keeps : ((bytes : List ℕ) (lines : List Line) → IsScript bytes lines → IsOneScript bytes lines)
        → DeedsClause h (t.stores old) (Some Replay) source o
        → HasRead source o.cause
        → TakesTranscript o sink
        → ReadsQuietly source o.cause
        → WritesQuietly sink o.cause
        → FailsOnce source.before source.now
        → FailsOnce sink.before sink.now
        → RunEnds ⊥ ⊥ source sink o.cause
        → KeepsPromises t g h (Some Replay) old old source sink o
    replay_keeps law deeds reading output reads writes source_once sink_once ends = record {
      deeds = deeds;
      reading = reading;
      legality = new_legal;
      plain = new_plain;
      media = record { caused = new_caused; faults = media };
      crash = not_opened;
      format = tt;
      host = (refl, nothing_left.1);
      drives = nothing_left.3;
      output = output;
      status = status_new law g h (t.holds old) source sink (host_told t.fault_count old old) o told nothing_left ends;
      faults = record { reads = reads; writes = writes; keeps = no_disk; hands = λ sound. refl; counts = tt; source_once = source_once; sink_once = sink_once; host_once = inl refl };
    }

    pub drill_keeps : (number : ℕ)
        → DeedsClause h (t.stores old) (Some (Drill number)) source o
        → TakesText (λ text. text ≡ drill_text number o.history) sink o.cause
        → IfSome o.cause (WritingEnds sink)
        → FailsOnce sink.before sink.now
        → IsUnread source → KeepsPromises t g h (Some (Drill number)) old old source sink o
    drill_keeps number deeds output ends sink_once unread = record {
      deeds = deeds;
      reading = unread;
      legality = new_legal;
      plain = new_plain;
      media = record { caused = new_caused; faults = media };
      crash = not_opened;
      format = tt;
      host = (refl, nothing_left.1);
      drives = nothing_left.3;
      output = output;
      status = status_drill g h (t.holds old) source sink (host_told t.fault_count old old) o number told nothing_left ends;
      faults = record { reads = λ sound. unread.faults; writes = text_quietly (λ text. text ≡ drill_text number o.history) sink o.cause output; keeps = no_disk; hands = λ sound. refl; counts = tt; source_once = inl unread.faults; sink_once = sink_once; host_once = inl refl };
    }

  -- ---- one that runs them on a store of the host

  pub store_keeps : (path dir : List ℕ) → ((bytes : List ℕ) (lines : List Line) → IsScript bytes lines → IsOneScript bytes lines)
      → (o.status ≡ status_of o.cause) × (o.at ≡ place_of o.cause) × (o.base ≡ base_of (opened_in o))
      → o.cause ≢ Some WordsRefused
      → DeedsClause h (t.stores old) (Some (ReplayStore path dir)) source o
      → HasReadOn (opened_in o) source o.cause
      → LegalityClause g o
      → PlainClause o
      → AreTrue h o.drives (faults_in o.history)
      → IsCausedOver (opened_in o) o.history
      → LeavesSafe g (t.holds old path) (opened_in o) o.history o.cause o.disk
      → TakesTranscript o sink
      → HandsOut path (t.holds old) (t.holds new) o.disk
      → t.open_count new ≡ raised (t.open_count old)
      → t.make_count new ≡ t.make_count old
      → (o.cause ≡ Some HostFault → Lacks o)
      → GivesBack h (t.stores old dir) (opened_in o) o.cause o.drives
      → HandsDrives dir (t.stores old) (t.stores new) o.drives
      → t.drive_count new ≡ asked_by (opened_in o) (t.drive_count old)
      → HasBegun (opened_in o) o.cause
      → IfSome (opened_in o) (λ s. (s.held ≡ s.durable) × ((image : List ℕ) → t.holds old path image → IsDurable s image))
      → (o.disk ≡ None → (o.cause ≡ Some HostFault) ⊎ (o.cause ≡ Some NoMemory))
      → KeepsQuietly g o.history o.cause o.disk
      → ReadsQuietly source o.cause
      → WritesQuietly sink o.cause
      → FailsOnce source.before source.now
      → FailsOnce sink.before sink.now
      → HandsQuietly (host_told t.fault_count old new) o.cause
      → FailsOnce (t.fault_count old) (t.fault_count new)
      → Why g (t.holds old path) (Rose (t.fault_count old) (t.fault_count new)) source sink o.disk o.cause
      → KeepsPromises t g h (Some (ReplayStore path dir)) old new source sink o
  store_keeps path dir law told command deeds reading legality plain media caused crash output hands asked unmade lent drives folders driven begun opened back sound reads writes source_once sink_once quiet host_once why = record {
    deeds = deeds;
    reading = reading;
    legality = legality;
    plain = plain;
    media = record { caused = caused; faults = media };
    crash = crash;
    format = tt;
    host = (hands, inl (asked, unmade));
    drives = (drives, folders, driven);
    output = output;
    status = status_store law g h (t.holds old) source sink (host_told t.fault_count old new) o (told.0, told.1) path dir told.2 command begun opened lent back why;
    faults = record { reads = reads; writes = writes; keeps = sound; hands = quiet; counts = tt; source_once = source_once; sink_once = sink_once; host_once = host_once };
  }
