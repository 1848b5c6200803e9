-- A store in the midst of a batch, as inodes are touched and records are taken.
use Rattle.std.proofs.Common.{◌≡◌, ℕ, ◌<◌, ◌≤◌, ◌^◌, List, [], ◌∷◌, ◌++◌, length, Bool, true, false, cond, refl, sym, ◌∙◌, ap, subst, arith}
use Rattle.std.specs.Prelude.{◌==◌, Option, Some, None, is_some}
use Rattle.std.specs.BTreeMap.{is_at}
use Rattle.std.specs.List.{AllByRecursion}
use Rattle.std.specs.Map.{lookup}
use Rattle.std.specs.Ordering.{nat_cmp}
use Rattle.hsm_types.specs.declared.keys.FileKey.{FileKey}
use Rattle.hsm_types.specs.declared.stores.Geometry.{Geometry}
use Rattle.hsm_types.specs.Attributes.{bytes_of_attributes}
use Rattle.hsm_types.specs.Keyed.{same_key, find_key}
use Rattle.hsm_types.specs.Limits.{small_geometry, large_geometry, last_generation}
use Rattle.plain_model.specs.Blocks.{blocks_in}
use Rattle.plain_model.specs.Distinct.{Distinct}
use Rattle.inode_table.specs.Listing.{has_inode}
use Rattle.journal_records.specs.declared.records.Record.{Record}
use Rattle.journal_records.specs.declared.records.Record.TheVariants.{Make, Drop, Size, Map, Regions, SetAttr, DropAttr, Stub}
use Rattle.journal_records.specs.Texts.{inode_of}
use Rattle.snapshot_text.specs.declared.snapshot.Mapping.{Mapping}
use Rattle.snapshot_text.specs.Files.{geometry_of}
use Rattle.snapshot_text.specs.Snapshots.{SnapshotFile, Snapshot}
use Rattle.snapshot_text.proofs.BlockUses.{uses-append, uses-absent, distinct-uses, uses-distinct}
use Rattle.snapshot_text.proofs.EachOf.{each-as}
use Rattle.snapshot_text.proofs.SpreadPlaces.{extents-tell}
use Rattle.meta_store.specs.Validity.{names_in, Follows}
use Rattle.meta_store.specs.Batches.{changed, changed_all, Applies, AllApply}
use Rattle.meta_store.proofs.PassingFiles.{follows}
use Rattle.journal_fold.specs.declared.stores.FoldedStore.{FoldedStore}
use Rattle.journal_fold.specs.declared.uses.Uses.{Uses}
use Rattle.journal_fold.specs.FoldedStores.{files_in, store_said, IsHeld}
use Rattle.journal_fold.specs.Judged.{IsAlone}
use Rattle.journal_fold.specs.Counted.{IsCounted}
use Rattle.journal_fold.specs.Open.{is_touched, untouched, IsOpen}
use Rattle.journal_fold.proofs.AloneFiles.{alone_passes}
use Rattle.journal_fold.proofs.FoldedEdits.{in_map, found, key_found}
use Rattle.journal_fold.proofs.UntouchedFiles.{attributes_cons, stubs_cons, counted_alike, absent_more, pulled, touched_more, record_untouched, at_cons}

either : {P : Type 0} (b : Bool) → (b ≡ true → P) → (b ≡ false → P) → P
either true this other = this refl
either false this other = other refl

-- the places of a lawful file are on the disk
pub alone_within : (g : Geometry) (next : ℕ) (f : SnapshotFile) → IsAlone g next f → AllByRecursion (λ (e : Mapping). e.place < g.blocks) f.extents
alone_within g next f is =
    let told : Follows g next [] f = follows g next [] f (alone_passes g next f is).0 in
    (extents-tell 0 (blocks_in f.size) g.blocks f.extents told.extents).1

pub small_counts : (geometry : ℕ) → (geometry_of geometry).attributes < 2 ^ 32
unfolding geometry_of
small_counts geometry = by_kind (geometry == 0)
  where
    by_kind : (b : Bool) → (cond b small_geometry large_geometry).attributes < 2 ^ 32
    by_kind true = omega arith
    by_kind false = omega arith

-- ---- each file that isn't touched

module _ (P : SnapshotFile → Type 0) where
  each_there : (ts : List ℕ) (k : FileKey) (f : SnapshotFile) (fs : List SnapshotFile) → AllByRecursion P (untouched ts fs) → find_key (λ x. x.key) k fs ≡ Some f → is_touched ts f.key.ino ≡ false → P f
  each_there ts k f [] each there out = absurd cc
  each_there ts k f (g ∷ fs) each there out =
      either (same_key g.key k)
      (λ here.
      let it : g ≡ f = grind arith in
      let mine : is_touched ts g.key.ino ≡ false = ap (λ (x : SnapshotFile). is_touched ts x.key.ino) it ∙ out in
      subst P it (subst (AllByRecursion P) (at_cons ts g fs false mine) each).0)
      (λ other. each_there ts k f fs (rest_of ts g fs each) (grind arith) out)
    where
      rest_of : (ts : List ℕ) (g : SnapshotFile) (fs : List SnapshotFile) → AllByRecursion P (untouched ts (g ∷ fs)) → AllByRecursion P (untouched ts fs)
      rest_of ts g fs each =
          either (is_touched ts g.key.ino)
          (λ yes. subst (AllByRecursion P) (at_cons ts g fs true yes) each)
          (λ other. (subst (AllByRecursion P) (at_cons ts g fs false other) each).1)

  each_fewer : (ts : List ℕ) (ino : ℕ) (fs : List SnapshotFile) → AllByRecursion P (untouched ts fs) → AllByRecursion P (untouched (ts ++ ino ∷ []) fs)
  each_fewer ts ino [] each = tt
  each_fewer ts ino (g ∷ fs) each =
      either (is_touched ts g.key.ino)
      (λ yes.
      let in_both : is_touched (ts ++ ino ∷ []) g.key.ino ≡ true = grind (arith, touched_more ts ino g.key.ino) in
      subst (AllByRecursion P) (sym (at_cons (ts ++ ino ∷ []) g fs true in_both)) (each_fewer ts ino fs (subst (AllByRecursion P) (at_cons ts g fs true yes) each)))
      (λ other.
      let both = subst (AllByRecursion P) (at_cons ts g fs false other) each in
      let rest = each_fewer ts ino fs both.1 in
      either (is_touched (ts ++ ino ∷ []) g.key.ino)
      (λ now. subst (AllByRecursion P) (sym (at_cons (ts ++ ino ∷ []) g fs true now)) rest)
      (λ still. subst (AllByRecursion P) (sym (at_cons (ts ++ ino ∷ []) g fs false still)) (both.0, rest)))

-- ---- an inode is touched

once_more : (ts : List ℕ) (ino : ℕ) → Distinct ts → is_touched ts ino ≡ false → Distinct (ts ++ ino ∷ [])
once_more ts ino once fresh = uses-distinct (ts ++ ino ∷ []) (λ n. grind (arith, uses-append n ts (ino ∷ []), distinct-uses ts once n, uses-absent ino ts fresh))

module _ (geometry : ℕ) (s : FoldedStore) (u : Uses) (ts : List ℕ) (ino : ℕ) (is : IsOpen geometry s u ts) (fresh : is_touched ts ino ≡ false) where
  pub touched_none : lookup (is_at (nat_cmp ino)) s.files.entries ≡ None → IsOpen geometry s u (ts ++ ino ∷ [])
  touched_none none =
      let absent : has_inode ino (names_in (files_in s)) ≡ false = sym (in_map ino s.files.entries is.held.keyed) ∙ ap (λ (o : Option SnapshotFile). is_some o) none in
      let same = sym (absent_more ino ts (files_in s) absent) in
      record {
        known = is.known;
        held = is.held;
        first = is.first;
        next = is.next;
        once = once_more ts ino is.once fresh;
        each = subst (AllByRecursion (IsAlone (geometry_of geometry) s.next)) same is.each;
        counted = subst (IsCounted (geometry_of geometry) u) same is.counted;
      }

  module _ (f : SnapshotFile) (there : lookup (is_at (nat_cmp ino)) s.files.entries ≡ Some f) where
    low : f.key.ino ≡ ino
    low = key_found ino f s.files.entries is.held.keyed there

    pub alone : IsAlone (geometry_of geometry) s.next f
    alone = each_there (IsAlone (geometry_of geometry) s.next) ts f.key f (files_in s) is.each (found ino f s.files.entries is.held.keyed there).1 (ap (is_touched ts) low ∙ fresh)

    pub counted : IsCounted (geometry_of geometry) u (f ∷ untouched (ts ++ ino ∷ []) (files_in s))
    counted = counted_alike (geometry_of geometry) u (untouched ts (files_in s)) (f ∷ untouched (ts ++ ino ∷ []) (files_in s)) (pulled 0 ino ts f (files_in s) is.held.ascend fresh low (found ino f s.files.entries is.held.keyed there).1) is.counted

    pub within : AllByRecursion (λ (e : Mapping). e.place < length u.flags.items) f.extents
    within = subst (λ (n : ℕ). AllByRecursion (λ (e : Mapping). e.place < n) f.extents) (sym is.counted.count) (alone_within (geometry_of geometry) s.next f alone)

    pub attributes : bytes_of_attributes f.kept.attributes ≤ u.attributes
    attributes = omega (arith, counted.attributes, attributes_cons f (untouched (ts ++ ino ∷ []) (files_in s)))

    pub stubs : length f.kept.stubs ≤ u.stubs
    stubs = omega (arith, counted.stubs, stubs_cons f (untouched (ts ++ ino ∷ []) (files_in s)))

    pub few : u.attributes < 2 ^ 32
    few = omega (arith, is.counted.attributes, is.counted.fit.few, small_counts geometry)

    pub touched : (v : Uses) → IsCounted (geometry_of geometry) v (untouched (ts ++ ino ∷ []) (files_in s)) → IsOpen geometry s v (ts ++ ino ∷ [])
    touched v left = record {
      known = is.known;
      held = is.held;
      first = is.first;
      next = is.next;
      once = once_more ts ino is.once fresh;
      each = each_fewer (IsAlone (geometry_of geometry) s.next) ts ino (files_in s) is.each;
      counted = left;
    }

-- ---- a record is taken

later_alone : (g : Geometry) (next later : ℕ) → next ≤ later → (f : SnapshotFile) → IsAlone g next f → IsAlone g later f
later_alone g next later le f is = record { low = is.low; high = is.high; early = omega (arith, is.early, le); few = is.few; few_stubs = is.few_stubs; file = is.file; lawful = is.lawful; lengths = is.lengths; says = is.says }

next_grows : (r : Record) (s : Snapshot) → Applies r s → s.next ≤ (changed r s).next
next_grows (Make key name) s is = omega (arith, is.generation)
next_grows (Drop ino) s is = omega arith
next_grows (Size ino size) s is = omega arith
next_grows (Map ino block places) s is = omega arith
next_grows (Regions ino regions) s is = omega arith
next_grows (SetAttr ino name value) s is = omega arith
next_grows (DropAttr ino name) s is = omega arith
next_grows (Stub ino j stub) s is = omega arith

pub all_grow : (rs : List Record) (s : Snapshot) → AllApply rs s → s.next ≤ (changed_all rs s).next
all_grow [] s is = omega arith
all_grow (r ∷ rs) s is = omega (arith, next_grows r s is.0, all_grow rs (changed r s) is.1)

pub record_taken : (geometry : ℕ) (s t : FoldedStore) (u : Uses) (ts : List ℕ) (r : Record) → IsOpen geometry s u ts → is_touched ts (inode_of r) ≡ true → Applies r (store_said s) → IsHeld t → store_said t ≡ changed r (store_said s) → t.next ≤ last_generation → IsOpen geometry t u ts
record_taken geometry s t u ts r is there applies held said last =
    let files : untouched ts (files_in s) ≡ untouched ts (files_in t) = sym (ap (λ (x : Snapshot). untouched ts x.files) said ∙ record_untouched ts r (store_said s) there) in
    let grows : s.next ≤ t.next = omega (arith, next_grows r (store_said s) applies, ap (λ (x : Snapshot). x.next) said) in
    record {
      known = is.known;
      held = held;
      first = omega (arith, is.first, grows);
      next = last;
      once = is.once;
      each = subst (AllByRecursion (IsAlone (geometry_of geometry) t.next)) files (each-as (IsAlone (geometry_of geometry) s.next) (IsAlone (geometry_of geometry) t.next) (untouched ts (files_in s)) (later_alone (geometry_of geometry) s.next t.next grows) is.each);
      counted = subst (IsCounted (geometry_of geometry) u) files is.counted;
    }

-- what is left to take of the records, from a store on
pub record IsTaking (rs left : List Record) (s t : Snapshot) : Type 0 where
  pub applies : AllApply left t → AllApply rs s
  pub back : AllApply rs s → AllApply left t
  pub changed : changed_all rs s ≡ changed_all left t

pub taking_next : (rs left : List Record) (r : Record) (s t v : Snapshot) → IsTaking rs (r ∷ left) s t → Applies r t → v ≡ changed r t → IsTaking rs left s v
taking_next rs left r s t v is applies to = record {
  applies = λ rest. is.applies (applies, subst (AllApply left) to rest);
  back = λ all. subst (AllApply left) (sym to) (is.back all).1;
  changed = is.changed ∙ ap (changed_all left) (sym to);
}

-- where the next record doesn't apply, or gives a generation past the last, all don't, or do
pub taking_stops : (rs left : List Record) (r : Record) (s t : Snapshot) → IsTaking rs (r ∷ left) s t → (Applies r t → last_generation < (changed r t).next) → AllApply rs s → last_generation < (changed_all rs s).next
taking_stops rs left r s t is stops all =
    let here = is.back all in
    omega (arith, stops here.0, all_grow left (changed r t) here.1, ap (λ (x : Snapshot). x.next) is.changed)
