-- Rounds of settling.
use Rattle.std.proofs.Common.{◌≡◌, ◌≢◌, ◌∙◌, ◌+◌, ◌<◌, ◌≤◌, ◌⊎◌, ◌∷◌, ◌++◌, ◌&&◌, [], ℕ, Bool, true, false, List, length, drop, map, Option, IfSome}
use Rattle.std.proofs.Common.{is_some, ap₂, inl, inr, refl, sym, ap, subst, append-nil, append_assoc, arith}
use Rattle.std.specs.List.{list_all}
use Rattle.std.specs.Prelude.{◌==◌}
use Rattle.std.proofs.lemmas.Bool.{eqb-true, eqb-false}
use Rattle.std.proofs.lemmas.List.{map-append}
use Rattle.hsm_types.specs.declared.daemons.Daemon.TheVariants.{Recall, Migrate}
use Rattle.hsm_types.specs.Limits.{callers}
use Rattle.hsm_types.specs.Rights.{Rights}
use Rattle.plain_model.specs.declared.entries.Action.TheVariants.{Resume}
use Rattle.plain_model.specs.declared.entries.Actor.TheVariants.{Caller}
use Rattle.plain_model.specs.declared.entries.Entry.{Entry}
use Rattle.plain_model.specs.declared.entries.Answer.{Answer}
use Rattle.hsm_types.specs.declared.daemons.Act.{Act}
use Rattle.hsm_core.specs.Answers.{entry_of}
use Rattle.deeds.specs.Deeds as deed
use Rattle.deeds.specs.Deeds.{Deed}
use Rattle.deeds.specs.Given.{Given}
use Rattle.hsm_core.specs.Ready.{ready}
use Rattle.hsm_core.specs.Store.{Store, state_of}
use Rattle.hsm_core.specs.declared.store.Ready.TheVariants.{Now}
use Rattle.hsm_system.specs.Running.{Recalling, Migrating}
use Rattle.marked_history.specs.Waiting.{Running}
use Rattle.marked_history.specs.Marks.{Mark, entries_of}
use Rattle.marked_history.specs.Quiet.{is_quiet}
use Rattle.hsm_replay.specs.Freshness.{StaysFresh}
use Rattle.hsm_replay.specs.Resting.{EndsInTurns}
use Rattle.hsm_replay.specs.Settled.{RecallEndedTurn, AreStillRefused, NoneReady, EndsQuietly}
use Rattle.hsm_replay.specs.Systems.{Run, running}
use Rattle.hsm_replay.specs.Turns.{HasTurned, MayResume, IsResumeOf, HaveResumed}
use Rattle.hsm_replay.specs.Marking.{marks_of}
use Rattle.hsm_replay.specs.Parts.{IsTurnFrom, AreResumes, resume_of, are_quiet}
use Rattle.hsm_replay.proofs.Freshness.{fresh_alone, fresh_on}
use Rattle.hsm_replay.proofs.MarkKinds.{turn_marks}
use Rattle.hsm_replay.proofs.Marking.{marks_then, marks_tell}
use Rattle.deeds.proofs.Living.{entries_then}
use Rattle.marked_history.proofs.QuietEvents.{all_quiet_append}

-- what stands behind the first entries
pub drop_first : (xs ys : List Entry) → drop (length xs) (xs ++ ys) ≡ ys
drop_first [] ys = refl
drop_first (x ∷ xs) ys = drop_first xs ys

-- ---- resumes

-- Callers up to that number have resumed.
abbrev pub NoneBelow : {D : Type 0} → ℕ → Store D → Type 0
NoneBelow number s = (caller : ℕ) → 1 ≤ caller → caller < number → ready s caller ≢ Now

pub record ResumedTo {D M : Type 0} (number : ℕ) (old new : Run D M) : Type 0 where
  pub recall : new.system.recall ≡ old.system.recall
  pub migrate : new.system.migrate ≡ old.system.migrate
  pub none : (new.system.store ≡ old.system.store) × NoneBelow number new.system.store ⊎ ((first : Entry) × (more : List Entry) × IsResumeOf first × (new.system.store.history ≡ old.system.store.history ++ first ∷ more))

last_by : (caller number : ℕ) (b : Bool) → (caller == number) ≡ b → caller < number + 1 → (caller < number) ⊎ (caller ≡ number)
last_by caller number true is below = inr (eqb-true caller number is)
last_by caller number false is below = let differs : caller ≢ number = eqb-false caller number is in inl (let less : caller < number = omega (arith, below, differs) in less)

none_on : {D : Type 0} (number : ℕ) (s : Store D) → NoneBelow number s → ready s number ≢ Now → NoneBelow (number + 1) s
none_on number s none last caller from below is = by (last_by caller number (caller == number) refl below)
  where
    by : (caller < number) ⊎ (caller ≡ number) → ⊥
    by (inl before) = none caller from before is
    by (inr same) = last (ap (λ (c : ℕ). ready s c) (sym same) ∙ is)

-- a resume isn't quiet
loud : (first : Entry) (more : List Entry) → IsResumeOf first → list_all is_quiet (first ∷ more) ≡ true → ⊥
loud first more is quiet = let wrong : false ≡ true = sym (ap (λ (e : Entry). is_quiet e && list_all is_quiet more) is.2) ∙ quiet in cc wrong

module _ {D M : Type 0} where
  pub resumed_none : (s : Run D M) → ResumedTo 1 s s
  resumed_none s = record { recall = refl; migrate = refl; none = inl (refl, λ caller from below. omega (arith, from, below)) }

  pub resumed_on : (number : ℕ) (a b c : Run D M) → ResumedTo number a b → MayResume number b c → ResumedTo (number + 1) a c
  resumed_on number a b c resumed (inl same) = subst (λ (s : Run D M). ResumedTo (number + 1) a s) (sym same.0) (record { recall = resumed.recall; migrate = resumed.migrate; none = still resumed.none })
    where
      still : (b.system.store ≡ a.system.store) × NoneBelow number b.system.store ⊎ ((first : Entry) × (more : List Entry) × IsResumeOf first × (b.system.store.history ≡ a.system.store.history ++ first ∷ more)) → (b.system.store ≡ a.system.store) × NoneBelow (number + 1) b.system.store ⊎ ((first : Entry) × (more : List Entry) × IsResumeOf first × (b.system.store.history ≡ a.system.store.history ++ first ∷ more))
      still (inl none) = inl (none.0, none_on number b.system.store none.1 same.1)
      still (inr some) = inr some
  resumed_on number a b c resumed (inr one) = record {
    recall = ap (λ (s : Run D M). s.system.recall) one.1 ∙ resumed.recall;
    migrate = ap (λ (s : Run D M). s.system.migrate) one.1 ∙ resumed.migrate;
    none = inr (more resumed.none);
  }
    where
      e : Entry
      e = entry_of (Caller number) Resume one.0

      more : (b.system.store ≡ a.system.store) × NoneBelow number b.system.store ⊎ ((first : Entry) × (more : List Entry) × IsResumeOf first × (b.system.store.history ≡ a.system.store.history ++ first ∷ more)) → (first : Entry) × (more : List Entry) × IsResumeOf first × (c.system.store.history ≡ a.system.store.history ++ first ∷ more)
      more (inl none) = (e, [], (number, one.0, refl), one.2 ∙ ap (λ (s : Store D). s.history ++ e ∷ []) none.0)
      more (inr some) = (some.0, some.1 ++ e ∷ [], some.2, one.2 ∙ ap (λ (h : List Entry). h ++ e ∷ []) some.3 ∙ append_assoc a.system.store.history (some.0 ∷ some.1) (e ∷ []))

  pub resumed_all : (a b : Run D M) → ResumedTo (callers + 1) a b → HaveResumed a b
  resumed_all a b resumed = record { recall = resumed.recall; migrate = resumed.migrate; none = all resumed.none }
    where
      all : (b.system.store ≡ a.system.store) × NoneBelow (callers + 1) b.system.store ⊎ ((first : Entry) × (more : List Entry) × IsResumeOf first × (b.system.store.history ≡ a.system.store.history ++ first ∷ more)) → (b.system.store ≡ a.system.store) × NoneReady b.system.store ⊎ ((first : Entry) × (more : List Entry) × IsResumeOf first × (b.system.store.history ≡ a.system.store.history ++ first ∷ more))
      all (inl none) = inl (none.0, λ caller is. none.1 caller is.0 (omega (arith, is.1)))
      all (inr some) = inr some

-- ---- a round

abbrev with_daemons : Option Recalling → Option Migrating → Running
with_daemons r m = record { recall = is_some r; migrate = is_some m }

-- the daemons of a round run on
module _ {D M : Type 0} where
  resumed_runs : (a b : Run D M) → HaveResumed a b → running b ≡ running a
  resumed_runs a b resumed = ap₂ with_daemons resumed.recall resumed.migrate

  pub begun_runs : (old a b : Run D M) → HasTurned Recall old a → HaveResumed a b → running b ≡ running old
  begun_runs old a b recalled resumed = resumed_runs a b resumed ∙ recalled.runs

  pub round_runs : (old a b c : Run D M) → HasTurned Recall old a → HaveResumed a b → HasTurned Migrate b c → running c ≡ running old
  round_runs old a b c recalled resumed migrated = migrated.runs ∙ begun_runs old a b recalled resumed

-- migration may still begin a pass by `high` behind a round, or it has told the table
module _ {D M : Type 0} where
  resumed_fresh : (a b : Run D M) → HaveResumed a b → StaysFresh a b
  resumed_fresh a b resumed = by resumed.none
    where
      by : (b.system.store ≡ a.system.store) × NoneReady b.system.store ⊎ ((first : Entry) × (more : List Entry) × IsResumeOf first × (b.system.store.history ≡ a.system.store.history ++ first ∷ more)) → StaysFresh a b
      by (inl none) = fresh_alone a b [] (ap (λ (s : Store D). s.history) none.0 ∙ sym (append-nil a.system.store.history)) resumed.migrate
      by (inr some) = fresh_alone a b (some.0 ∷ some.1) some.3 resumed.migrate

  pub begun_fresh : (old a b : Run D M) → HasTurned Recall old a → HaveResumed a b → StaysFresh old b
  begun_fresh old a b recalled resumed = fresh_on old a b recalled.fresh (resumed_fresh a b resumed)

  pub round_fresh : (old a b c : Run D M) → HasTurned Recall old a → HaveResumed a b → HasTurned Migrate b c → StaysFresh old c
  round_fresh old a b c recalled resumed migrated = fresh_on old b c (begun_fresh old a b recalled resumed) migrated.fresh

-- the marks that led on to these entries are theirs
pub marked_since : (marks more : List Mark) (old new entries : List Entry) → entries_of marks ≡ old → entries_of (marks ++ more) ≡ new → new ≡ old ++ entries → entries_of more ≡ entries
marked_since marks more old new entries was now is =
    let whole : old ++ entries_of more ≡ old ++ entries = ap (λ (x : List Entry). x ++ entries_of more) (sym was) ∙ sym (map-append (λ (m : Mark). m.entry) marks more) ∙ now ∙ is in
    sym (drop_first old (entries_of more)) ∙ ap (λ (x : List Entry). drop (length old) x) whole ∙ drop_first old entries

-- the entries behind the same ones
pub behind_same : (first xs ys : List Entry) → first ++ xs ≡ first ++ ys → xs ≡ ys
behind_same first xs ys same = sym (drop_first first xs) ∙ ap (λ (es : List Entry). drop (length first) es) same ∙ drop_first first ys

-- the last of more marks are those of the same turns
pub ends_later : (before part : List Mark) (recall_turn migrate_turn : List Entry) → EndsInTurns part recall_turn migrate_turn → EndsInTurns (before ++ part) recall_turn migrate_turn
ends_later before part recall_turn migrate_turn ends = record {
  before = before ++ ends.before;
  recalls = ends.recalls;
  migrates = ends.migrates;
  parted = ap (λ (ms : List Mark). before ++ ms) ends.parted ∙ sym (append_assoc before ends.before (ends.recalls ++ ends.migrates));
  by_recall = ends.by_recall;
  by_migrate = ends.by_migrate;
  recalled = ends.recalled;
  migrated = ends.migrated;
}

-- ---- the marks of a quiet round

module _ (recalls resumes deeds : List Deed) (parted : deeds ≡ recalls ++ resumes) (quiet : are_quiet is_quiet deeds ≡ true) where
  -- no caller has resumed
  none_resumed : (told : List (ℕ × Answer)) → resumes ≡ map resume_of told → resumes ≡ []
  none_resumed [] is = is
  none_resumed (x ∷ told) is =
      let first : Entry = entry_of (Caller x.0) Resume x.1 in
      let more : List Entry = deed.entries_of (map resume_of told) in
      let whole : deed.entries_of deeds ≡ deed.entries_of recalls ++ (first ∷ more) = ap deed.entries_of (parted ∙ ap (λ (ds : List Deed). recalls ++ ds) is) ∙ entries_then recalls (resume_of x ∷ map resume_of told) in
      absurd (loud first more (x.0, x.1, refl) (all_quiet_append (deed.entries_of recalls) (first ∷ more) (ap (λ (es : List Entry). list_all is_quiet es) (sym whole) ∙ quiet)).1)

  -- so its marks are those of both turns
  pub turns_end : (May : List Entry → ℕ → Type 0) (given : Given) → AreResumes May given resumes → (migrates : List Deed) (recall_turn migrate_turn : List Entry)
      → (last : Option Act) → IsTurnFrom Recall last recalls → deed.entries_of recalls ≡ recall_turn → (gave : Option Act) → IsTurnFrom Migrate gave migrates → deed.entries_of migrates ≡ migrate_turn
      → EndsInTurns (marks_of (deeds ++ migrates)) recall_turn migrate_turn
  turns_end May given resumed migrates recall_turn migrate_turn last recalled recall_entries gave migrated migrate_entries =
      let none : resumes ≡ [] = none_resumed resumed.told resumed.parted in
      let same : deeds ≡ recalls = parted ∙ ap (λ (ds : List Deed). recalls ++ ds) none ∙ append-nil recalls in
      record {
        before = [];
        recalls = marks_of recalls;
        migrates = marks_of migrates;
        parted = ap (λ (ds : List Deed). marks_of (ds ++ migrates)) same ∙ marks_then recalls migrates;
        by_recall = turn_marks Recall last recalls recalled;
        by_migrate = turn_marks Migrate gave migrates migrated;
        recalled = marks_tell recalls ∙ recall_entries;
        migrated = marks_tell migrates ∙ migrate_entries;
      }

module _ {D M : Type 0} where
  pub round_ends : (old a b c : Run D M) (recalled : HasTurned Recall old a) → HaveResumed a b → (migrated : HasTurned Migrate b c) → list_all is_quiet (drop (length old.system.store.history) c.system.store.history) ≡ true
      → (marks : List Mark) → EndsInTurns marks recalled.entries migrated.entries → (turns : EndsQuietly old.system.store.history c) × EndsInTurns marks turns.recall_turn turns.migrate_turn
  round_ends old a b c recalled resumed migrated quiet marks ends = by resumed.none
    where
      Ends : Type 0
      Ends = (turns : EndsQuietly old.system.store.history c) × EndsInTurns marks turns.recall_turn turns.migrate_turn

      from : List Entry
      from = old.system.store.history

      -- all entries of the round
      behind : (entries : List Entry) → c.system.store.history ≡ from ++ entries → list_all is_quiet entries ≡ true
      behind entries is = ap (λ (x : List Entry). list_all is_quiet x) (sym (ap (λ (x : List Entry). drop (length from) x) is ∙ drop_first from entries)) ∙ quiet

      by : (b.system.store ≡ a.system.store) × NoneReady b.system.store ⊎ ((first : Entry) × (more : List Entry) × IsResumeOf first × (b.system.store.history ≡ a.system.store.history ++ first ∷ more)) → Ends
      by (inl none) =
          let history : c.system.store.history ≡ from ++ recalled.entries ++ migrated.entries = migrated.history ∙ ap (λ (s : Store D). s.history ++ migrated.entries) none.0 ∙ ap (λ (x : List Entry). x ++ migrated.entries) recalled.history in
          let all_quiet : list_all is_quiet (recalled.entries ++ migrated.entries) ≡ true = behind (recalled.entries ++ migrated.entries) (history ∙ append_assoc from recalled.entries migrated.entries) in
          let parts = all_quiet_append recalled.entries migrated.entries all_quiet in
          let stays : c.system.recall ≡ a.system.recall = migrated.alone ∙ resumed.recall in
          let calm = migrated.calm in
          let same : calm.0 ≡ migrated.entries = sym (drop_first b.system.store.history calm.0) ∙ ap (λ (x : List Entry). drop (length b.system.store.history) x) (sym calm.1 ∙ migrated.history) ∙ drop_first b.system.store.history migrated.entries in
          let alike = calm.2 (ap (λ (x : List Entry). list_all is_quiet x) same ∙ parts.1) in
          let rights : (state_of c.system.store).rights ≡ (state_of a.system.store).rights = alike.rights ∙ ap (λ (s : Store D). (state_of s).rights) none.0 in (
            record {
              recall_turn = recalled.entries;
              migrate_turn = migrated.entries;
              history = history;
              quiet = all_quiet;
              recall = subst (λ (o : Option Recalling). IfSome o (λ (r : Recalling). RecallEndedTurn recalled.entries r.machine)) (sym stays) recalled.over.turn;
              migrate = migrated.over.turn;
              held_up = subst (λ (o : Option Recalling). IfSome o (λ (r : Recalling). AreStillRefused recalled.entries (state_of c.system.store).rights r.machine.known.seat)) (sym stays)
                  (subst (λ (rs : Rights). IfSome a.system.recall (λ (r : Recalling). AreStillRefused recalled.entries rs r.machine.known.seat)) (sym rights) (recalled.over.held_up parts.0));
              ready = λ caller is now. none.1 caller is (sym (alike.ready caller) ∙ now);
            },
            ends,
          )
      by (inr some) =
          let resumes : List Entry = some.0 ∷ some.1 in
          let history : c.system.store.history ≡ from ++ (recalled.entries ++ (resumes ++ migrated.entries)) = migrated.history ∙ ap (λ (x : List Entry). x ++ migrated.entries) (some.3 ∙ ap (λ (x : List Entry). x ++ resumes) recalled.history) ∙ append_assoc (from ++ recalled.entries) resumes migrated.entries ∙ append_assoc from recalled.entries (resumes ++ migrated.entries) in
          let all_quiet = behind (recalled.entries ++ (resumes ++ migrated.entries)) history in
          let later_quiet = (all_quiet_append recalled.entries (resumes ++ migrated.entries) all_quiet).1 in
          absurd (loud some.0 some.1 some.2 (all_quiet_append resumes migrated.entries later_quiet).0)
