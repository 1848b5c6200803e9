-- Which files are lawful by themselves.
use Rattle.std.proofs.Common.{◌≡◌, ℕ, zero, suc, ◌^◌, ◌<◌, ◌≤◌, List, [], ◌∷◌, length, map, replicate, get_or, true, false, refl, sym, ap, subst, arith}
use Rattle.std.specs.Prelude.{Any, IsTrue, ◌↔◌}
use Rattle.std.specs.List.{AllByRecursion}
use Rattle.std.proofs.lemmas.List.{length-replicate}
use Rattle.hsm_types.specs.declared.stores.Geometry.{Geometry}
use Rattle.hsm_types.specs.Attributes.{bytes_of_attributes}
use Rattle.hsm_types.specs.Stubs.{FitsFile}
use Rattle.plain_model.specs.Blocks.{blocks_in}
use Rattle.snapshot_text.specs.declared.snapshot.Mapping.{Mapping}
use Rattle.snapshot_text.specs.Files.{CatalogFile, NumbersFit, IsLawfulKept, IsCatalogFile, HasLengths}
use Rattle.snapshot_text.specs.Snapshots.{SnapshotFile, snapshot_file}
use Rattle.snapshot_text.specs.FileValidity.{MayKeep}
use Rattle.snapshot_text.proofs.EachOf.{each-as}
use Rattle.snapshot_text.proofs.KeptAttributes.{attributes-pass}
use Rattle.snapshot_text.proofs.LawfulStubs.{stubs-pass}
use Rattle.snapshot_text.proofs.SpreadPlaces.{filled, are_extents-from, places-again, extents-tell}
use Rattle.meta_store.specs.Catalogs.{Catalog}
use Rattle.meta_store.specs.Validity.{can_follow, Follows, HasTaken}
use Rattle.meta_store.proofs.PassingFiles.{follows}
use Rattle.meta_store.proofs.TakenFiles.{is-lawful, extents-again}
use Rattle.hsm_types.specs.Limits.{IsCountable}
use Rattle.journal_fold.specs.FoldedFiles.{mapping_of}
use Rattle.journal_fold.specs.Judged.{IsAlone}

-- a catalog without files, and no flag set
abbrev nothing : ℕ → Catalog
nothing next = record { geometry = 0; next = next; files = [] }

unset : (n p : ℕ) → get_or (replicate n false) p false ≡ false
unset zero p = refl
unset (suc n) zero = refl
unset (suc n) (suc p) = unset n p

none_taken : (g : Geometry) (next : ℕ) → HasTaken 0 next g.blocks (map snapshot_file (nothing next).files) (nothing next) (replicate g.blocks false)
none_taken g next = record { geometry = refl; next = refl; taken = refl; lengths = tt; count = length-replicate g.blocks false; flagged = λ p lt. unset g.blocks p }

pub alone_from : (g : Geometry) (next : ℕ) (f : SnapshotFile) → can_follow g next [] f ≡ true → MayKeep g.limits g.attributes g.stubs f → IsLawfulKept g.limits f.kept → AllByRecursion NumbersFit f.kept.stubs → IsAlone g next f
alone_from g next f can may kept numbers =
    let told : Follows g next [] f = follows g next [] f can in
    let none = none_taken g next in
    record {
      low = omega (arith, told.above);
      high = told.high;
      early = told.old;
      few = may.few;
      few_stubs = may.few_stubs;
      file = filled f;
      lawful = is-lawful {c = nothing next} none told kept may.stubs numbers;
      lengths = each-as (FitsFile f.size f.kept.regions) _ f.kept.stubs (λ x fit. fit.len) may.stubs.fit.each;
      says = ap (λ (es : List Mapping). record f { extents = es }) (sym (extents-again {c = nothing next} none told));
    }

file_passes : (g : Geometry) (next : ℕ) (f : CatalogFile) → 1 ≤ f.key.ino → f.key.ino ≤ g.files → f.key.igen < next → IsCatalogFile g f → can_follow g next [] (snapshot_file f) ≡ true
file_passes g next f low high early is =
    let extents = are_extents-from 0 0 (blocks_in f.size) g.blocks f.places (omega arith) (omega (arith, is.places)) is.within in
    grind (arith, is.generation, is.size, is.name)

kept_passes : (g : Geometry) (f : CatalogFile) → IsCatalogFile g f → HasLengths f → bytes_of_attributes f.kept.attributes ≤ g.attributes → length f.kept.stubs ≤ g.stubs → MayKeep g.limits g.attributes g.stubs (snapshot_file f)
kept_passes g f is long few few_stubs = record {
  regions = rw is.kept.regions refl;
  attributes = attributes-pass f.kept.attributes is.kept.attributes;
  few = few;
  stubs = rw (places-again f is.places) (stubs-pass f is.ascend is.stubs long);
  few_stubs = few_stubs;
}

pub alone_passes : (g : Geometry) (next : ℕ) (f : SnapshotFile) → IsAlone g next f → (can_follow g next [] f ≡ true) × MayKeep g.limits g.attributes g.stubs f
alone_passes g next f is =
    let same = is.says in
    let low = subst (λ (x : SnapshotFile). 1 ≤ x.key.ino) same is.low in
    let high = subst (λ (x : SnapshotFile). x.key.ino ≤ g.files) same is.high in
    let early = subst (λ (x : SnapshotFile). x.key.igen < next) same is.early in
    let few = subst (λ (x : SnapshotFile). bytes_of_attributes x.kept.attributes ≤ g.attributes) same is.few in
    let few_stubs = subst (λ (x : SnapshotFile). length x.kept.stubs ≤ g.stubs) same is.few_stubs in
    subst (λ (x : SnapshotFile). (can_follow g next [] x ≡ true) × MayKeep g.limits g.attributes g.stubs x) (sym same) (file_passes g next is.file low high early is.lawful, kept_passes g is.file is.lawful is.lengths few few_stubs)

-- what is true of each is true of the one at a place
each_at : {X : Type 0} (P : X → Type 0) (xs : List X) (k : ℕ) (x : X) → AllByRecursion P xs → k < length xs → get_or xs k x ≡ x → P x
each_at P [] k x each lt is = absurd (omega (arith, lt))
each_at P (y ∷ ys) zero x each lt is = subst P is each.0
each_at P (y ∷ ys) (suc k) x each lt is = each_at P ys k x each.1 (omega (arith, lt)) is

-- no block of a lawful file is past the last that has a number in a snapshot
pub none_far : (g : Geometry) (next : ℕ) (f : SnapshotFile) → IsCountable g.limits → IsAlone g next f → Any (λ (e : Mapping). 2 ^ 32 ≤ e.block) f.extents → ⊥
none_far g next f few is far =
    let told : Follows g next [] f = follows g next [] f (alone_passes g next f is).0 in
    let below = extents-tell 0 (blocks_in f.size) g.blocks f.extents told.extents in
    let here : far.1.block < blocks_in f.size = each_at (λ (e : Mapping). e.block < blocks_in f.size) f.extents far.0 far.1 below.0 far.2 far.3 in
    omega (arith, here, far.4, told.size, few.0)

pub accepted : {A : Type 0} → A → IsTrue true ↔ A
accepted x = (λ h. x, λ h. refl)

pub refused : {A : Type 0} → (A → ⊥) → IsTrue false ↔ A
refused never = (λ h. absurd (cc), λ h. absurd (never h))

-- an extent that is too far, in a list of them
pub far_at : (es : List (ℕ × ℕ)) (i : ℕ) (d : ℕ × ℕ) → i < length es → 2 ^ 32 ≤ (get_or es i d).0 → Any (λ (e : Mapping). 2 ^ 32 ≤ e.block) (map mapping_of es)
far_at es i d lt far = (i, mapping_of (get_or es i d), long es i lt, there es i d lt, far)
  where
    long : (es : List (ℕ × ℕ)) (i : ℕ) → i < length es → i < length (map mapping_of es)
    long [] i lt = lt
    long (e ∷ es) zero lt = omega arith
    long (e ∷ es) (suc i) lt = omega (arith, long es i (omega (arith, lt)))

    there : (es : List (ℕ × ℕ)) (i : ℕ) (d : ℕ × ℕ) → i < length es → get_or (map mapping_of es) i (mapping_of (get_or es i d)) ≡ mapping_of (get_or es i d)
    there [] i d lt = absurd (omega (arith, lt))
    there (e ∷ es) zero d lt = refl
    there (e ∷ es) (suc i) d lt = there es i d (omega (arith, lt))
