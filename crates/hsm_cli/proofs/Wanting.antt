-- Words that ask for nothing, and want of memory for the words: nothing was done.
use Rattle.std.proofs.Common.{◌≡◌, inl, inr, ℕ, List, [], Option, Some, None, refl, sym, subst, arith}
use Rattle.std.proofs.KnownBytes.{Appends-nil, Consumes-nil}
use Rattle.disk_model.specs.declared.device.Disk as disk
use Rattle.media_model.specs.declared.drive.Drive as drive
use Rattle.media_model.specs.Objects.{Objects}
use Rattle.command_words.specs.Commands.{Form, Format, Replay, ReplayStore, Show, ShowVolumes, Drill}
use Rattle.plain_model.specs.State.{nothing_held}
use Rattle.hsm_replay.specs.Faults.{faults_in}
use Rattle.hsm_cli.specs.declared.causes.Cause.TheVariants.{WordsRefused, NoMemory}
use Rattle.hosts.specs.declared.outside.Host as host
use Rattle.hsm_cli.specs.declared.outcomes.Outcome.{Outcome}
use Rattle.hsm_cli.specs.Openings.{replay_store}
use Rattle.hsm_cli.specs.Outcomes.{ended_with}
use Rattle.hsm_cli.specs.Sources.{GivesFirst}
use Rattle.hosts.specs.Hosts.{HoldsAll, StoresAll}
use Rattle.hsm_cli.specs.Texts.{IsUnwritten}
use Rattle.hsm_cli.specs.RunObjects.{SourceTold, SinkTold, HostTold, host_told}
use Rattle.hsm_cli.specs.Clauses.{ReadingClause, MediaClause, TellsFaults, CrashClause, FormatClause, HostClause, DrivesClause}
use Rattle.hsm_cli.specs.Clauses.{OutputClause, TakesTranscript, LegalityClause, PlainClause, StatusClause, KeepsPromises}
use Rattle.hsm_cli.proofs.Deeds.{deeds_wanting}
use Rattle.hsm_cli.proofs.Faults.{caused_none}
use Rattle.hsm_cli.proofs.Legality.{legal_as}
use Rattle.hsm_cli.proofs.Quiet.{faults_idle}

-- the outcomes
abbrev pub refused : {D M : Type 0} → Outcome D M
refused = ended_with (Some WordsRefused) [] None

abbrev pub wanting : {D M : Type 0} → Outcome D M
wanting = ended_with (Some NoMemory) [] None

-- what was left, and is
abbrev unread : Option (List ℕ) → ℕ → SourceTold
unread given faults = record { given = given; left = given; before = faults; now = faults }

abbrev untaken : Option (List ℕ) → ℕ → SinkTold
untaken taken faults = record { old = taken; new = taken; before = faults; now = faults }

pub gives_none : (given : Option (List ℕ)) → GivesFirst given given
gives_none given = record { bytes = []; consumed = Consumes-nil given; within = omega arith }

module _ {D M : Type 0} (g : disk.Ghosts D) (h : drive.Ghosts M) where
  reading_wanting : (form : Option Form) (given : Option (List ℕ)) (faults : ℕ) → ReadingClause form (unread given faults) (wanting {D = D} {M = M})
  reading_wanting None given faults = record { left = refl; faults = refl }
  reading_wanting (Some (Format path size)) given faults = record { left = refl; faults = refl }
  reading_wanting (Some Replay) given faults = gives_none given
  reading_wanting (Some (ReplayStore path dir)) given faults = record { left = refl; faults = refl }
  reading_wanting (Some (Show path)) given faults = record { left = refl; faults = refl }
  reading_wanting (Some (ShowVolumes path dir)) given faults = record { left = refl; faults = refl }
  reading_wanting (Some (Drill number)) given faults = record { left = refl; faults = refl }

  no_faults : (form : Option Form) → TellsFaults h form [] (faults_in [])
  no_faults None = refl
  no_faults (Some (Format path size)) = refl
  no_faults (Some Replay) = tt
  no_faults (Some (ReplayStore path dir)) = record { each = tt; apart = tt }
  no_faults (Some (Show path)) = refl
  no_faults (Some (ShowVolumes path dir)) = refl
  no_faults (Some (Drill number)) = tt

  media_wanting : (form : Option Form) → MediaClause h form (wanting {D = D} {M = M})
  media_wanting form = record { caused = caused_none replay_store 0 nothing_held [] refl; faults = no_faults form }

  crash_wanting : (form : Option Form) (holds : List ℕ → List ℕ → Type 0) → CrashClause g form holds (wanting {D = D} {M = M})
  crash_wanting None holds = refl
  crash_wanting (Some (Format path size)) holds = refl
  crash_wanting (Some Replay) holds = refl
  crash_wanting (Some (ReplayStore path dir)) holds = refl
  crash_wanting (Some (Show path)) holds = (refl, refl, tt)
  crash_wanting (Some (ShowVolumes path dir)) holds = (refl, refl, tt)
  crash_wanting (Some (Drill number)) holds = refl

  format_wanting : (form : Option Form) → FormatClause g form (wanting {D = D} {M = M})
  format_wanting None = tt
  format_wanting (Some (Format path size)) = λ none. absurd cc
  format_wanting (Some Replay) = tt
  format_wanting (Some (ReplayStore path dir)) = tt
  format_wanting (Some (Show path)) = tt
  format_wanting (Some (ShowVolumes path dir)) = tt
  format_wanting (Some (Drill number)) = tt

  holds_all : (holds : List ℕ → List ℕ → Type 0) → HoldsAll holds holds
  holds_all holds name = (λ c is. is, λ c is. is)

  host_wanting : {H : Type 0} (holds : H → List ℕ → List ℕ → Type 0) (makes openings : H → ℕ) (form : Option Form) (host : H) → HostClause holds makes openings form host host (wanting {D = D} {M = M})
  host_wanting holds makes openings None host = (refl, refl)
  host_wanting holds makes openings (Some Replay) host = (refl, refl)
  host_wanting holds makes openings (Some (Drill number)) host = (refl, refl)
  host_wanting holds makes openings (Some (Format path size)) host = (holds_all (holds host), inr (refl, refl, refl))
  host_wanting holds makes openings (Some (ReplayStore path dir)) host = (holds_all (holds host), inr (refl, refl, refl))
  host_wanting holds makes openings (Some (Show path)) host = (holds_all (holds host), inr (refl, refl, refl))
  host_wanting holds makes openings (Some (ShowVolumes path dir)) host = (holds_all (holds host), inr (refl, refl, refl))

  stores_all : (stores : List ℕ → ℕ → Objects → Type 0) → StoresAll stores stores
  stores_all stores name v = (λ o is. is, λ o is. is)

  drives_wanting : {H : Type 0} (holds : H → List ℕ → List ℕ → Type 0) (stores : H → List ℕ → ℕ → Objects → Type 0) (askings : H → ℕ) (form : Option Form) (host : H) → DrivesClause h holds stores askings form host host (wanting {D = D} {M = M})
  drives_wanting holds stores askings None host = refl
  drives_wanting holds stores askings (Some Replay) host = refl
  drives_wanting holds stores askings (Some (Drill number)) host = refl
  drives_wanting holds stores askings (Some (Format path size)) host = (refl, stores_all (stores host), refl)
  drives_wanting holds stores askings (Some (Show path)) host = (refl, stores_all (stores host), refl)
  drives_wanting holds stores askings (Some (ReplayStore path dir)) host = (refl, stores_all (stores host), refl)
  drives_wanting holds stores askings (Some (ShowVolumes path dir)) host = (refl, stores_all (stores host), refl, λ image is nothing. refl)

  transcript_wanting : (taken : Option (List ℕ)) (faults : ℕ) → TakesTranscript (wanting {D = D} {M = M}) (untaken taken faults)
  transcript_wanting taken faults = record { first = (0, Appends-nil taken); done = λ none. absurd cc; all = λ works ample. absurd (ample refl) }

  unwritten : (taken : Option (List ℕ)) (faults : ℕ) → IsUnwritten (untaken taken faults)
  unwritten taken faults = record { taken = refl; faults = refl }

  output_wanting : (form : Option Form) (holds : List ℕ → List ℕ → Type 0) (stores : List ℕ → ℕ → Objects → Type 0) (taken : Option (List ℕ)) (faults : ℕ) → OutputClause form holds stores (wanting {D = D} {M = M}) (untaken taken faults)
  output_wanting None holds stores taken faults = unwritten taken faults
  output_wanting (Some (Format path size)) holds stores taken faults = unwritten taken faults
  output_wanting (Some Replay) holds stores taken faults = transcript_wanting taken faults
  output_wanting (Some (ReplayStore path dir)) holds stores taken faults = transcript_wanting taken faults
  output_wanting (Some (Show path)) holds stores taken faults = unwritten taken faults
  output_wanting (Some (ShowVolumes path dir)) holds stores taken faults = unwritten taken faults
  output_wanting (Some (Drill number)) holds stores taken faults = unwritten taken faults

  status_wanting : (form : Option Form) (holds : List ℕ → List ℕ → Type 0) (source : SourceTold) (sink : SinkTold) (host : HostTold) → StatusClause g h form holds source sink host (wanting {D = D} {M = M})
  status_wanting form holds source sink host = record {
    status = refl;
    place = refl;
    base = refl;
    words = λ is. absurd cc;
    no_words = λ none. inr refl;
    why = tt;
    forms = tt;
    begun = λ opens. tt;
    lent = λ is. absurd cc;
    back = λ names none. inr refl;
    opened = tt;
    refused = λ image is nothing came disk_works. inr refl;
    complete = λ store script works. inr refl;
  }

  plain_by : (o : Outcome D M) → LegalityClause g o → PlainClause o
  plain_by o legal P stands = (legal.seen P stands).plain

  status_refused : (holds : List ℕ → List ℕ → Type 0) (source : SourceTold) (sink : SinkTold) (host : HostTold) → StatusClause g h None holds source sink host (refused {D = D} {M = M})
  status_refused holds source sink host = record {
    status = refl;
    place = refl;
    base = refl;
    words = λ is. refl;
    no_words = λ none. inl refl;
    why = tt;
    forms = tt;
    begun = λ opens. absurd opens;
    lent = λ is. absurd cc;
    back = λ names. absurd names;
    opened = tt;
    refused = λ image named. absurd named;
    complete = λ store. absurd store;
  }

  -- ---- all clauses

  module _ {H : Type 0} (t : host.Ghosts H D M) (host : H) (given taken : Option (List ℕ)) (read written : ℕ) (o : Outcome D M) where
    pub refused_keeps : o ≡ refused → KeepsPromises t g h None host host (unread given read) (untaken taken written) o
    refused_keeps is =
        let legal : LegalityClause g refused = legal_as g refused _ None refl in
        subst (λ (x : Outcome D M). KeepsPromises t g h None host host (unread given read) (untaken taken written) x) (sym is) (
        record {
          deeds = refl;
          reading = record { left = refl; faults = refl };
          legality = legal;
          plain = plain_by refused legal;
          media = record { caused = caused_none replay_store 0 nothing_held [] refl; faults = refl };
          crash = refl;
          format = tt;
          host = (refl, refl);
          drives = refl;
          output = unwritten taken written;
          status = status_refused (t.holds host) _ _ _;
          faults = faults_idle g h (Some WordsRefused) None (unread given read) (untaken taken written) (host_told t.fault_count host host) refl refl refl;
        }
        )

    pub wanting_keeps : (form : Option Form) → o ≡ wanting → KeepsPromises t g h form host host (unread given read) (untaken taken written) o
    wanting_keeps form is =
        let legal : LegalityClause g wanting = legal_as g wanting _ None refl in
        subst (λ (x : Outcome D M). KeepsPromises t g h form host host (unread given read) (untaken taken written) x) (sym is) (
        record {
          deeds = deeds_wanting D h (t.stores host) form _;
          reading = reading_wanting form given read;
          legality = legal;
          plain = plain_by wanting legal;
          media = media_wanting form;
          crash = crash_wanting form (t.holds host);
          format = format_wanting form;
          host = host_wanting t.holds t.make_count t.open_count form host;
          drives = drives_wanting t.holds t.stores t.drive_count form host;
          output = output_wanting form (t.holds host) (t.stores host) taken written;
          status = status_wanting form (t.holds host) _ _ _;
          faults = faults_idle g h (Some NoMemory) form (unread given read) (untaken taken written) (host_told t.fault_count host host) refl refl refl;
        }
        )
