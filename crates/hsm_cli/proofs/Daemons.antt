-- A served run is well served.
use Rattle.std.proofs.Common.{◌≡◌, ◌∙◌, ◌++◌, ◌∷◌, [], ℕ, List, Some, None, refl, sym, ap, subst}
use Rattle.std.proofs.lemmas.List.{map-append}
use Rattle.disk_model.specs.declared.device.Disk as disk
use Rattle.disk_model.specs.Moments.{Tells}
use Rattle.hsm_types.specs.declared.daemons.Daemon.{Daemon}
use Rattle.hsm_types.specs.declared.daemons.Daemon.TheVariants.{Recall, Migrate}
use Rattle.hsm_types.specs.declared.keys.Sid.{Sid}
use Rattle.hsm_types.specs.declared.stores.Superblock.{Superblock}
use Rattle.hsm_types.specs.declared.tables.Table.{Table}
use Rattle.plain_model.specs.declared.entries.Entry.{Entry}
use Rattle.plain_model.specs.State.{State, Held, just_opened}
use Rattle.plain_model.specs.Laws.{IsRunSeen}
use Rattle.plain_model.proofs.AnyDisk.{run_on_any}
use Rattle.plain_model.proofs.Histories.{ExactSeen-first}
use Rattle.file_store.specs.Stores.{Store, superblock_of}
use Rattle.hsm_core.specs.Kept.{IsKept}
use Rattle.hsm_core.specs.Packed.{ArePacked}
use Rattle.hsm_core.specs.Store.{Store as HsmStore}
use Rattle.hsm_core.proofs.Packing.{packed_first}
use Rattle.hsm_policy.specs.Settings.{Numbers, standard}
use Rattle.deeds.specs.Deeds.{Deed, entries_of}
use Rattle.deeds.specs.Leads as leading
use Rattle.deed_laws.specs.Beginning.{BeginsRight, ServedBeginsRight}
use Rattle.deed_laws.specs.DaemonSessions.{ServedMakesAnew, ServedTakesOver}
use Rattle.deed_laws.specs.Passes.{table_told, talk_behind, IsPassOn, AllPassed, ServedPasses}
use Rattle.marked_history.specs.Marks.{Mark}
use Rattle.marked_history.specs.Marks as marking
use Rattle.marked_history.specs.Served.{Shown, nothing_shown, learned, ServedFrom, Served}
use Rattle.marked_history.specs.Freeing.{PunchFrees}
use Rattle.marked_history.specs.Tokens.{KeepsAll, ServedKeepsAll}
use Rattle.marked_history.proofs.Lists.{none_there, both_none}
use Rattle.hsm_system.specs.Events.{HasGrown}
use Rattle.hsm_system.specs.Lives.{recalls, migrates}
use Rattle.hsm_replay.specs.Marking.{marks_of}
use Rattle.hsm_replay.proofs.Marking.{marks_tell}
use Rattle.hsm_cli.specs.Daemons.{IsWellServed, IsWellServedOver, ServedIsWell, KeepsThroughout}

-- nothing was done

none_begins : (limits : Numbers) → BeginsRight limits []
none_begins limits = record {
  first = λ before daemon act rest is. absurd (none_there before _ rest is);
  next = λ before daemon act rest is. absurd (none_there before _ rest is);
  anew = λ before daemon sid rest is. absurd (none_there before _ rest is);
}

no_pass : (before rest : List Deed) (sid : Sid) (table : Table) → [] ≡ before ++ rest → IsPassOn sid table (talk_behind before) → ⊥
no_pass before rest sid table is on =
    let here : IsPassOn sid table [] = subst (λ (ds : List Deed). IsPassOn sid table (talk_behind ds)) (both_none before rest is).0 on in
    none_there [] (table_told sid table) here.0 here.1

none_passed : (limits : Numbers) → AllPassed limits []
none_passed limits = record {
  within = λ before act rest is. absurd (none_there before _ rest is);
  over = λ before act rest sid table is. absurd (none_there before _ rest is);
  gone = λ before rest sid table is on. absurd (no_pass before rest sid table is on);
}

-- no daemon has a session
unseated : {A : Type 0} (a : A) → None ≡ Some a → ⊥
unseated a is = cc

keeps_none : (daemon : Daemon) (s : Superblock) (st : State) → KeepsAll daemon standard s st []
keeps_none Recall s st sid m seated there own = absurd (unseated sid seated.session)
keeps_none Migrate s st sid m seated there own = absurd (unseated sid seated.session)

none_kept : (s : Superblock) (base : ℕ) (h : Held) → KeepsThroughout s base h []
none_kept s base h daemon first rest parted = subst (λ (marks : List Mark). KeepsAll daemon standard s (just_opened base h) marks) (sym (both_none first rest parted).0) (keeps_none daemon s (just_opened base h))

pub none_well : (s : Superblock) (base : ℕ) (h : Held) → IsWellServed s base h []
none_well s base h = record {
  anew = λ before daemon sid info rest is. absurd (none_there before _ rest is);
  over = λ before daemon sid old info rest taken is. absurd (none_there before _ rest is);
  begins = none_begins standard;
  passes = none_passed standard;
  frees = λ before sid t handle offset len rest is. absurd (none_there before _ rest is);
  keeps = none_kept s base h;
}

-- ---- by marks

served_first : (limits : Numbers) (k : Shown) (first rest : List Mark) → ServedFrom limits k (first ++ rest) → ServedFrom limits k first
served_first limits k [] rest served = tt
served_first limits k (m ∷ first) rest served = (served.0, served_first limits (learned limits k m) first rest served.1)

-- of whatever a daemon keeps
abbrev pub Keeping : Type 0
Keeping = (daemon : Daemon) (limits : Numbers) (s : Superblock) (base : ℕ) (h : Held) (marks : List Mark) (es : List Entry) → ServedKeepsAll daemon limits s base h marks es

module _ (law : Keeping) (s : Superblock) (base : ℕ) (h : Held) where
  -- a beginning of a run is one
  run_first : (first rest : List Entry) → IsRunSeen ⊥ s base h (first ++ rest) → IsRunSeen ⊥ s base h first
  run_first first rest run = record { opening = run.opening; exact = ExactSeen-first ⊥ s (just_opened base h) first rest run.exact }

  keeps_throughout : (history : List Entry) → IsRunSeen ⊥ s base h history → ArePacked s (just_opened base h) history → (marks : List Mark) → marking.entries_of marks ≡ history → Served standard marks → KeepsThroughout s base h marks
  keeps_throughout history run packed marks same served daemon first rest parted =
      let both : history ≡ marking.entries_of first ++ marking.entries_of rest = sym same ∙ ap marking.entries_of parted ∙ map-append (λ (m : Mark). m.entry) first rest in
      law daemon standard s base h first (marking.entries_of first) refl
      (served_first standard nothing_shown first rest (subst (ServedFrom standard nothing_shown) parted served))
      (run_first (marking.entries_of first) (marking.entries_of rest) (subst (λ (es : List Entry). IsRunSeen ⊥ s base h es) both run))
      (packed_first s (just_opened base h) (marking.entries_of first) (marking.entries_of rest) (subst (λ (es : List Entry). ArePacked s (just_opened base h) es) both packed))

-- ---- by deeds

-- the laws over deeds that are served
pub record Laws : Type 0 where
  pub anew : (limits : Numbers) (s : Superblock) (base : ℕ) (h : Held) (deeds : List Deed) → ServedMakesAnew limits s base h deeds
  pub over : (limits : Numbers) (deeds : List Deed) → ServedTakesOver limits deeds
  pub begins : (limits : Numbers) (deeds : List Deed) → ServedBeginsRight limits deeds
  pub passes : (limits : Numbers) (deeds : List Deed) → ServedPasses limits deeds
  pub frees : (s : Superblock) (base : ℕ) (h : Held) (es : List Entry) → PunchFrees s base h es
  pub keeps : Keeping

well_served : Laws → (s : Superblock) (base : ℕ) (h : Held) (history : List Entry) → IsRunSeen ⊥ s base h history → ArePacked s (just_opened base h) history
    → (deeds : List Deed) → entries_of deeds ≡ history → leading.Served recalls (migrates standard) deeds → Served standard (marks_of deeds) → IsWellServed s base h deeds
well_served laws s base h history run packed deeds same served marked =
    let is_run : IsRunSeen ⊥ s base h (entries_of deeds) = subst (λ (es : List Entry). IsRunSeen ⊥ s base h es) (sym same) run in
    record {
      anew = laws.anew standard s base h deeds served is_run;
      over = laws.over standard deeds served;
      begins = laws.begins standard deeds served;
      passes = laws.passes standard deeds served;
      frees = laws.frees s base h (entries_of deeds) is_run;
      keeps = keeps_throughout laws.keeps s base h history run packed (marks_of deeds) (marks_tell deeds ∙ same) marked;
    }

-- on a store that was just opened
pub run_is_well : {D : Type 0} → Laws → (g : disk.Ghosts D) (old new : HsmStore D) → HasGrown g old new → IsKept g new → ServedIsWell (Some old.opened) new.history
run_is_well {D = D} laws g old new goes kept deeds same served marked =
    subst (λ (o : Store D). IsWellServedOver (Some o) deeds) goes.opened
    (well_served laws (superblock_of new.opened) new.opened.meta.number new.opened.held new.history
    (run_on_any (Tells g new.files.disk) (superblock_of new.opened) new.opened.meta.number new.opened.held new.history kept.run) kept.packed deeds same served marked)
