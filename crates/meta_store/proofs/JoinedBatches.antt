-- Two batches one behind the other are one.
use Rattle.std.proofs.Common.{◌≡◌, ℕ, ◌≤◌, List, [], ◌∷◌, ◌++◌, refl, sym, ◌∙◌, ap, subst, arith}
use Rattle.std.specs.List.{AllByRecursion}
use Rattle.journal_records.specs.declared.records.Record.{Record}
use Rattle.journal_records.specs.declared.records.Record.TheVariants.{Make, Drop, Size, Map, Regions, SetAttr, DropAttr, Stub}
use Rattle.snapshot_text.specs.Snapshots.{Snapshot}
use Rattle.meta_store.specs.Batches.{changed, changed_all, Applies, AllApply, after_batch, IsLawful, CanFollow}
use Rattle.meta_store.specs.Laws.{AreJoined}

-- the same store under another number
abbrev under : ℕ → Snapshot → Snapshot
under n s = record s { number = n }

changed_under : (n : ℕ) (r : Record) (s : Snapshot) → changed r (under n s) ≡ under n (changed r s)
changed_under n (Make key name) s = refl
changed_under n (Drop ino) s = refl
changed_under n (Size ino size) s = refl
changed_under n (Map ino block places) s = refl
changed_under n (Regions ino regions) s = refl
changed_under n (SetAttr ino name value) s = refl
changed_under n (DropAttr ino name) s = refl
changed_under n (Stub ino j stub) s = refl

has_under : (n : ℕ) (r : Record) (s : Snapshot) → Applies r (under n s) → Applies r s
has_under n (Make key name) s h = record { inode = h.inode; free = h.free; generation = h.generation }
has_under n (Drop ino) s h = h
has_under n (Size ino size) s h = h
has_under n (Map ino block places) s h = h
has_under n (Regions ino regions) s h = h
has_under n (SetAttr ino name value) s h = h
has_under n (DropAttr ino name) s h = h
has_under n (Stub ino j stub) s h = h

all_under : (n : ℕ) (rs : List Record) (s : Snapshot) → changed_all rs (under n s) ≡ under n (changed_all rs s)
all_under n [] s = refl
all_under n (r ∷ rs) s = ap (changed_all rs) (changed_under n r s) ∙ all_under n rs (changed r s)

have_under : (n : ℕ) (rs : List Record) (s : Snapshot) → AllApply rs (under n s) → AllApply rs s
have_under n [] s h = tt
have_under n (r ∷ rs) s h = (has_under n r s h.0, have_under n rs (changed r s) (subst (λ (x : Snapshot). AllApply rs x) (changed_under n r s) h.1))

pub changed_both : (rs ss : List Record) (s : Snapshot) → changed_all (rs ++ ss) s ≡ changed_all ss (changed_all rs s)
changed_both [] ss s = refl
changed_both (r ∷ rs) ss s = changed_both rs ss (changed r s)

pub have_both : (rs ss : List Record) (s : Snapshot) → AllApply rs s → AllApply ss (changed_all rs s) → AllApply (rs ++ ss) s
have_both [] ss s h k = k
have_both (r ∷ rs) ss s h k = (h.0, have_both rs ss (changed r s) h.1 k)

pub fit_both : (P : Record → Type 0) (rs ss : List Record) → AllByRecursion P rs → AllByRecursion P ss → AllByRecursion P (rs ++ ss)
fit_both P [] ss h k = k
fit_both P (r ∷ rs) ss h k = (h.0, fit_both P rs ss h.1 k)

pub joined : (geometry : ℕ) (s : Snapshot) (n m : ℕ) (rs ss : List Record) → AreJoined geometry s n m rs ss
joined geometry s n m rs ss h k =
    let same : after_batch m (rs ++ ss) s ≡ after_batch m ss (after_batch n rs s) =
    ap (under m) (changed_both rs ss s) ∙ sym (ap (under m) (all_under n ss (changed_all rs s))) in (
      record {
        rises = omega (arith, h.rises, k.rises);
        fit = fit_both _ rs ss h.fit k.fit;
        files = have_both rs ss s h.files (have_under n ss (changed_all rs s) k.files);
        lawful = subst (IsLawful geometry) (sym same) k.lawful;
      },
      same,
    )
