-- A run in which nothing fails ends well, or for want of memory.
use Rattle.std.proofs.Common.{ℕ, ◌≡◌, ◌≢◌, ◌⊎◌, inl, inr, ⊎_elim, List, [], Option, Some, None, IfSome, IsSome, refl, ◌∙◌, subst}
use Rattle.command_words.specs.Commands.{Replay, ReplayStore}
use Rattle.disk_model.specs.declared.device.Disk as disk
use Rattle.disk_model.specs.Calls.{Rose}
use Rattle.media_model.specs.declared.drive.Drive as drive
use Rattle.meta_store.proofs.HeldImages.{image_store, not_corrupt}
use Rattle.plain_model.specs.State.{Held}
use Rattle.file_store.specs.Stores.{Store, IsRecovered, IsDurable}
use Rattle.script_text.specs.Scripts.{IsScript, IsFirstBad}
use Rattle.script_text.specs.Laws.{IsOneScript}
use Rattle.script_text.specs.declared.lines.Line.{Line}
use Rattle.hsm_cli.specs.declared.causes.Cause.{Cause}
use Rattle.hsm_cli.specs.declared.causes.Cause.TheVariants.{ScriptRefused, WordsRefused, NotStore, Corrupt, ReadFault, WriteFault, DiskFault}
use Rattle.hsm_cli.specs.declared.causes.Cause.TheVariants.{HostFault, NoMemory}
use Rattle.hsm_cli.specs.declared.outcomes.Outcome.{Outcome}
use Rattle.hsm_cli.specs.Statuses.{status_of, place_of}
use Rattle.hsm_cli.specs.Openings.{opened_in, base_of}
use Rattle.hsm_cli.specs.Sources.{script_bytes}
use Rattle.hsm_cli.specs.RunObjects.{SourceTold, SinkTold, HostTold}
use Rattle.hsm_cli.specs.Endings.{RunEnds}
use Rattle.hsm_cli.specs.Clauses.{Why, GivesScript, NothingFails, HasFailed, HasBegun, CanEnd, FindsNothing, TellsStore, Lacks, StatusClause}

module _ (law : (bytes : List ℕ) (lines : List Line) → IsScript bytes lines → IsOneScript bytes lines) {D : Type 0} (g : disk.Ghosts D) (Fails : Type 0) (source : SourceTold) (sink : SinkTold) (disk : Option D)
    (script : GivesScript source.given) (works : NothingFails g Fails source sink disk) where
  -- a script isn't refused
  accepted : (line : ℕ) → IfSome source.given (λ bytes. IsFirstBad (script_bytes bytes) line) → ⊥
  accepted line bad =
      let refused : IsFirstBad (script_bytes script.bytes) line = subst (λ (given : Option (List ℕ)). IfSome given (λ bytes. IsFirstBad (script_bytes bytes) line)) script.known bad in
      (law (script_bytes script.bytes) script.lines script.script).good line refused

  pub complete_new : (cause : Option Cause) → RunEnds ⊥ ⊥ source sink cause → (cause ≡ None) ⊎ (cause ≡ Some NoMemory)
  complete_new None ends = inl refl
  complete_new (Some NoMemory) ends = inr refl
  complete_new (Some (ScriptRefused line)) ends = absurd (accepted line ends)
  complete_new (Some ReadFault) ends = absurd (works.source_works ends)
  complete_new (Some WriteFault) ends = absurd (works.sink_works ends)
  complete_new (Some DiskFault) ends = absurd ends
  complete_new (Some WordsRefused) ends = absurd ends
  complete_new (Some NotStore) ends = absurd ends
  complete_new (Some (Corrupt place)) ends = absurd ends
  complete_new (Some HostFault) ends = absurd ends

  pub complete_store : (named : List ℕ → Type 0) (image : List ℕ) (geometry fsid n : ℕ) (h : Held) (cause : Option Cause) → named image → IsRecovered geometry fsid n h image
      → cause ≢ Some WordsRefused → Why g named Fails source sink disk cause → (cause ≡ None) ⊎ (cause ≡ Some NoMemory)
  complete_store named image geometry fsid n h None is found words why = inl refl
  complete_store named image geometry fsid n h (Some NoMemory) is found words why = inr refl
  complete_store named image geometry fsid n h (Some (ScriptRefused line)) is found words why = absurd (accepted line why)
  complete_store named image geometry fsid n h (Some ReadFault) is found words why = absurd (works.source_works why)
  complete_store named image geometry fsid n h (Some WriteFault) is found words why = absurd (works.sink_works why)
  complete_store named image geometry fsid n h (Some DiskFault) is found words why = absurd (works.disk_works why)
  complete_store named image geometry fsid n h (Some HostFault) is found words why = absurd (works.host_works why)
  complete_store named image geometry fsid n h (Some WordsRefused) is found words why = absurd (words refl)
  complete_store named image geometry fsid n h (Some NotStore) is found words why = absurd (why image is found.catalog.geometry fsid (image_store found.is))
  complete_store named image geometry fsid n h (Some (Corrupt place)) is found words why = absurd (not_corrupt found.is place (why image is))

module _ {D : Type 0} (g : disk.Ghosts D) (named : List ℕ → Type 0) (Fails : Type 0) (source : SourceTold) (sink : SinkTold) (disk : Option D) where
  why_new : (cause : Option Cause) → RunEnds ⊥ ⊥ source sink cause → Why g named Fails source sink disk cause
  why_new None ends = tt
  why_new (Some NoMemory) ends = tt
  why_new (Some (ScriptRefused line)) ends = ends
  why_new (Some ReadFault) ends = ends
  why_new (Some WriteFault) ends = ends
  why_new (Some DiskFault) ends = absurd ends
  why_new (Some WordsRefused) ends = absurd ends
  why_new (Some NotStore) ends = absurd ends
  why_new (Some (Corrupt place)) ends = absurd ends
  why_new (Some HostFault) ends = absurd ends

-- a run on a store in memory reads a script
can_end_new : (source : SourceTold) (sink : SinkTold) (cause : Option Cause) → RunEnds ⊥ ⊥ source sink cause → CanEnd (Some Replay) cause
can_end_new source sink None ends = tt
can_end_new source sink (Some NoMemory) ends = tt
can_end_new source sink (Some (ScriptRefused line)) ends = tt
can_end_new source sink (Some ReadFault) ends = tt
can_end_new source sink (Some WriteFault) ends = tt
can_end_new source sink (Some DiskFault) ends = absurd ends
can_end_new source sink (Some WordsRefused) ends = absurd ends
can_end_new source sink (Some NotStore) ends = absurd ends
can_end_new source sink (Some (Corrupt place)) ends = absurd ends
can_end_new source sink (Some HostFault) ends = absurd ends

-- one on a store of the host can end for each cause
can_end_store : (path dir : List ℕ) (cause : Option Cause) → CanEnd (Some (ReplayStore path dir)) cause
can_end_store path dir None = tt
can_end_store path dir (Some NoMemory) = tt
can_end_store path dir (Some (ScriptRefused line)) = tt
can_end_store path dir (Some ReadFault) = tt
can_end_store path dir (Some WriteFault) = tt
can_end_store path dir (Some DiskFault) = tt
can_end_store path dir (Some WordsRefused) = tt
can_end_store path dir (Some NotStore) = tt
can_end_store path dir (Some (Corrupt place)) = tt
can_end_store path dir (Some HostFault) = tt

-- a disk that came is there
pub came_not : {D : Type 0} (disk : Option D) → disk ≡ None → IsSome disk → ⊥
came_not None none came = absurd cc
came_not (Some d) none came = absurd cc

module _ {D : Type 0} (g : disk.Ghosts D) (named : List ℕ → Type 0) (image : List ℕ) (is : named image) (nothing : FindsNothing image) where
  -- a store on whose image recovery finds nothing wasn't opened
  not_opened : (opened : Option (Store D)) → IfSome opened (λ s. (s.held ≡ s.durable) × ((i : List ℕ) → named i → IsDurable s i)) → IsSome opened → ⊥
  not_opened None durable some = absurd cc
  not_opened (Some s) durable some = nothing s.meta.durable.geometry s.meta.fsid s.meta.number s.durable (durable.1 image is)

  refused_store : (host : HostTold) (disk : Option D) (opened : Option (Store D)) (A : Type 0) (cause : Option Cause) → HasBegun opened cause → IfSome opened (λ s. (s.held ≡ s.durable) × ((i : List ℕ) → named i → IsDurable s i))
      → (source : SourceTold) (sink : SinkTold) → Why g named (Rose host.before host.now) source sink disk cause → cause ≢ Some WordsRefused → (cause ≡ Some HostFault → (disk ≡ None) ⊎ (IsSome opened × A)) → IsSome disk → ¬ (HasFailed g disk) → TellsStore cause ⊎ (cause ≡ Some NoMemory)
  refused_store host disk opened A None begun durable source sink why words lent came disk_works = absurd (not_opened opened durable begun)
  refused_store host disk opened A (Some (ScriptRefused line)) begun durable source sink why words lent came disk_works = absurd (not_opened opened durable begun)
  refused_store host disk opened A (Some ReadFault) begun durable source sink why words lent came disk_works = absurd (not_opened opened durable begun)
  refused_store host disk opened A (Some WriteFault) begun durable source sink why words lent came disk_works = absurd (not_opened opened durable begun)
  refused_store host disk opened A (Some DiskFault) begun durable source sink why words lent came disk_works = absurd (disk_works why)
  refused_store host disk opened A (Some HostFault) begun durable source sink why words lent came disk_works = absurd (⊎_elim (λ none. came_not disk none came) (λ lacks. not_opened opened durable lacks.0) (lent refl))
  refused_store host disk opened A (Some WordsRefused) begun durable source sink why words lent came disk_works = absurd (words refl)
  refused_store host disk opened A (Some NotStore) begun durable source sink why words lent came disk_works = inl tt
  refused_store host disk opened A (Some (Corrupt place)) begun durable source sink why words lent came disk_works = inl tt
  refused_store host disk opened A (Some NoMemory) begun durable source sink why words lent came disk_works = inr refl

words_given : (source : SourceTold) (sink : SinkTold) (cause : Option Cause) → RunEnds ⊥ ⊥ source sink cause → cause ≡ Some WordsRefused → ⊥
words_given source sink cause ends is = subst (λ (c : Option Cause). RunEnds ⊥ ⊥ source sink c) is ends

module _ (law : (bytes : List ℕ) (lines : List Line) → IsScript bytes lines → IsOneScript bytes lines) {D M : Type 0} (g : disk.Ghosts D) (h : drive.Ghosts M) (holds : List ℕ → List ℕ → Type 0) (source : SourceTold) (sink : SinkTold) (host : HostTold) (o : Outcome D M)
    (told : (o.status ≡ status_of o.cause) × (o.at ≡ place_of o.cause)) where
  pub status_new : (o.opening ≡ None) × (o.disk ≡ None) × (o.base ≡ 0) × (o.drives ≡ []) → RunEnds ⊥ ⊥ source sink o.cause → StatusClause g h (Some Replay) holds source sink host o
  status_new new ends = record {
    status = told.0;
    place = told.1;
    base = rw new.0 new.2;
    words = λ is. absurd (words_given source sink o.cause ends is);
    no_words = λ is. absurd cc;
    why = why_new g (λ _. ⊥) (Rose host.before host.now) source sink o.disk o.cause ends;
    forms = can_end_new source sink o.cause ends;
    begun = λ opens. absurd opens;
    lent = λ is. inl new.1;
    back = λ names. absurd names;
    opened = rw new.0 tt;
    refused = λ image is. absurd is;
    complete = λ store script works. complete_new law g (Rose host.before host.now) source sink o.disk script works o.cause ends;
  }

  pub status_store : (path dir : List ℕ) → o.base ≡ base_of (opened_in o) → o.cause ≢ Some WordsRefused → HasBegun (opened_in o) o.cause → IfSome (opened_in o) (λ s. (s.held ≡ s.durable) × ((image : List ℕ) → holds path image → IsDurable s image))
      → (o.cause ≡ Some HostFault → Lacks o) → (o.disk ≡ None → (o.cause ≡ Some HostFault) ⊎ (o.cause ≡ Some NoMemory)) → Why g (holds path) (Rose host.before host.now) source sink o.disk o.cause → StatusClause g h (Some (ReplayStore path dir)) holds source sink host o
  status_store path dir base words begun opened lent back why = record {
    status = told.0;
    place = told.1;
    base = base;
    words = λ is. absurd (words is);
    no_words = λ is. absurd cc;
    why = why;
    forms = can_end_store path dir o.cause;
    begun = λ opens. begun;
    lent = lent;
    back = λ names. back;
    opened = opened;
    refused = λ image is nothing. refused_store g (holds path) image is nothing host o.disk (opened_in o) (o.drives ≡ []) o.cause begun opened source sink why words lent;
    complete = λ store script works. complete_store law g (Rose host.before host.now) source sink o.disk script works (holds path) store.0 store.2 store.3 store.4 store.5 o.cause store.1 store.6 words why;
  }
