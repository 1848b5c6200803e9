-- Marked histories that go on.
use Rattle.std.proofs.Common.{◌≡◌, ◌∙◌, ◌∷◌, ◌++◌, [], ℕ, List, Option, Some, None, IfSome, Ok, Err, refl, sym, ap, subst, append-nil}
use Rattle.std.specs.List.{AllByRecursion}
use Rattle.std.proofs.lemmas.List.{map-append}
use Rattle.std.proofs.lemmas.List.Elements.{filter_map-append}
use Rattle.media_model.specs.declared.drive.Drive as drive
use Rattle.hsm_types.specs.declared.daemons.Act.{Act}
use Rattle.hsm_types.specs.declared.daemons.Act.TheVariants.{Dm, Copy, Fetch, Idle}
use Rattle.hsm_types.specs.declared.daemons.Heard.{Heard}
use Rattle.hsm_types.specs.declared.daemons.Heard.TheVariants as heard
use Rattle.hsm_types.specs.declared.media.Fault.{Fault}
use Rattle.hsm_types.specs.declared.media.FetchRefusal.TheVariants as fetching
use Rattle.plain_model.specs.declared.entries.Entry.{Entry}
use Rattle.hsm_policy.specs.Settings.{Numbers}
use Rattle.recall_daemon.specs.Known as recall
use Rattle.hsm_system.specs.Running.{Recalling}
use Rattle.hsm_replay.specs.Drives.{HaveGrown}
use Rattle.hsm_replay.specs.Faults.{fault_in, faults_in, IsApart, AreTrue}
use Rattle.marked_history.specs.Marks.{Mark, entries_of}
use Rattle.hsm_replay.specs.Sealed.{Tallies}
use Rattle.marked_history.specs.Served.{Shown, learned, shown, nothing_shown, IsServedBy, ServedFrom, Served}
use Rattle.hsm_replay.specs.Keeping.{IsHeardOf, RecallKnows, IsMarked}
use Rattle.hsm_replay.specs.Systems.{Run, told_next}
use Rattle.hsm_replay.proofs.Growing.{still_true, are_true, grown_count}
use Rattle.hsm_replay.proofs.Sealing.{tallies_still}

-- ---- one entry more

pub shown_more : (limits : Numbers) (k : Shown) (marks : List Mark) (m : Mark) → shown limits k (marks ++ m ∷ []) ≡ learned limits (shown limits k marks) m
shown_more limits k [] m = refl
shown_more limits k (x ∷ marks) m = shown_more limits (learned limits k x) marks m

served_more : (limits : Numbers) (k : Shown) (marks : List Mark) (m : Mark) → ServedFrom limits k marks → IsServedBy m.by (shown limits k marks) m → ServedFrom limits k (marks ++ m ∷ [])
served_more limits k [] m served is = (is, tt)
served_more limits k (x ∷ marks) m served is = (served.0, served_more limits (learned limits k x) marks m served.1 is)

entries_more : (marks : List Mark) (m : Mark) → entries_of (marks ++ m ∷ []) ≡ entries_of marks ++ m.entry ∷ []
entries_more marks m = map-append (λ (x : Mark). x.entry) marks (m ∷ [])

faults_more : (history : List Entry) (e : Entry) → faults_in (history ++ e ∷ []) ≡ faults_in history ++ faults_in (e ∷ [])
faults_more history e = filter_map-append (λ (x : Entry). fault_in x.action) history (e ∷ [])

-- an entry that names no fault
faults_of_one : (e : Entry) → fault_in e.action ≡ None → faults_in (e ∷ []) ≡ []
faults_of_one e none = rw none refl

pub no_fault_more : (history : List Entry) (e : Entry) → fault_in e.action ≡ None → faults_in (history ++ e ∷ []) ≡ faults_in history
no_fault_more history e none = faults_more history e ∙ ap (λ (fs : List Fault). faults_in history ++ fs) (faults_of_one e none) ∙ append-nil (faults_in history)

-- one that names a fault
fault_of_one : (e : Entry) (fault : Fault) → fault_in e.action ≡ Some fault → faults_in (e ∷ []) ≡ fault ∷ []
fault_of_one e fault is = rw is refl

pub fault_more : (history : List Entry) (e : Entry) (fault : Fault) → fault_in e.action ≡ Some fault → faults_in (history ++ e ∷ []) ≡ faults_in history ++ fault ∷ []
fault_more history e fault is = faults_more history e ∙ ap (λ (fs : List Fault). faults_in history ++ fs) (fault_of_one e fault is)

-- ---- what a history shows

module _ {D M : Type 0} (g : drive.Ghosts M) where
  -- With an entry more it is marked, where that entry is served, its fault is true, and what was sealed is on the drives.
  pub marked_more : (opened : List M) (marks : List Mark) (m : Mark) (old new : Run D M) → IsMarked g opened marks old → new.system.limits ≡ old.system.limits → new.system.store.history ≡ old.system.store.history ++ m.entry ∷ [] → IsServedBy m.by (shown old.system.limits nothing_shown marks) m → AreTrue g new.drives (faults_in new.system.store.history)
      → Tallies g opened new.drives new.system.limits (marks ++ m ∷ []) → IsMarked g opened (marks ++ m ∷ []) new
  marked_more opened marks m old new marked limits history served faults sealed = record {
    entries = entries_more marks m ∙ ap (λ (es : List Entry). es ++ m.entry ∷ []) marked.entries ∙ sym history;
    served = subst (λ (l : Numbers). Served l (marks ++ m ∷ [])) (sym limits) (served_more old.system.limits nothing_shown marks m marked.served served);
    faults = faults;
    sealed = sealed;
  }

  -- Where no entry came it is marked as before, though drives were used.
  pub marked_still : (opened : List M) (marks : List Mark) (old new : Run D M) → IsMarked g opened marks old → new.system.limits ≡ old.system.limits → new.system.store.history ≡ old.system.store.history → HaveGrown g old.drives new.drives → IsMarked g opened (marks ++ []) new
  marked_still opened marks old new marked limits history grown = record {
    entries = ap entries_of (append-nil marks) ∙ marked.entries ∙ sym history;
    served = subst (λ (l : Numbers). Served l (marks ++ [])) (sym limits) (subst (λ (ms : List Mark). Served old.system.limits ms) (sym (append-nil marks)) marked.served);
    faults = subst (λ (es : List Entry). AreTrue g new.drives (faults_in es)) (sym history) (are_true g old.drives new.drives (faults_in old.system.store.history) grown marked.faults);
    sealed = subst (λ (l : Numbers). Tallies g opened new.drives l (marks ++ [])) (sym limits) (subst (λ (ms : List Mark). Tallies g opened new.drives old.system.limits ms) (sym (append-nil marks)) (tallies_still g opened old.drives new.drives old.system.limits marks grown marked.sealed));
  }

module _ {M : Type 0} (g : drive.Ghosts M) where
  -- ---- what recall has heard, while drives are used

  pub still_heard : (old new : List M) (faults : List Fault) (asked : Act) (told : Heard) → HaveGrown g old new → IsHeardOf g old faults asked told → IsHeardOf g new faults asked told
  still_heard old new faults (Fetch entry) (heard.Fetched (Ok bytes)) grown is = is
  still_heard old new faults (Fetch entry) (heard.Fetched (Err (fetching.Media fault))) grown is = (is.0, still_true g old new fault grown is.1, subst (λ (n : ℕ). AllByRecursion (λ earlier. IsApart n earlier fault) faults) (sym (grown_count g old new grown)) is.2)
  still_heard old new faults (Fetch entry) (heard.Fetched (Err (fetching.NoObject volume object))) grown is = tt
  still_heard old new faults (Fetch entry) (heard.Fetched (Err fetching.Memory)) grown is = tt
  still_heard old new faults (Fetch entry) heard.Nothing grown is = tt
  still_heard old new faults (Fetch entry) (heard.Dm reply) grown is = tt
  still_heard old new faults (Fetch entry) (heard.Copied copied) grown is = tt
  still_heard old new faults (Dm sid call) told grown is = tt
  still_heard old new faults (Copy volume h segment bytes) told grown is = tt
  still_heard old new faults Idle told grown is = tt

  still_known : (k : recall.Known) (old new : List M) (faults : List Fault) (r : Recalling) → HaveGrown g old new → RecallKnows g k old faults r → RecallKnows g k new faults r
  still_known k old new faults r grown knows = record { known = knows.known; heard = still_heard old new faults r.machine.asked (told_next r.next) grown knows.heard }

  pub still_known_if : (k : recall.Known) (old new : List M) (faults : List Fault) (r : Option Recalling) → HaveGrown g old new → IfSome r (RecallKnows g k old faults) → IfSome r (RecallKnows g k new faults)
  still_known_if k old new faults None grown knows = tt
  still_known_if k old new faults (Some r) grown knows = still_known k old new faults r grown knows
