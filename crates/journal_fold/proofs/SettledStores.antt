-- A store at the end of a batch, as its touched files are judged.
use Rattle.std.proofs.Common.{◌≡◌, ℕ, ◌+◌, ◌<◌, ◌≤◌, List, [], ◌∷◌, ◌++◌, length, Bool, true, false, refl, sym, ◌∙◌, ap, subst, arith}
use Rattle.std.specs.Prelude.{◌==◌, Option, Some, None, is_some}
use Rattle.std.specs.BTreeMap.{is_at}
use Rattle.std.specs.List.{AllByRecursion}
use Rattle.std.specs.Map.{lookup}
use Rattle.std.specs.Ordering.{nat_cmp}
use Rattle.std.proofs.lemmas.Bool.Decides.{nat_tests}
use Rattle.hsm_types.specs.declared.keys.FileKey.{FileKey}
use Rattle.hsm_types.specs.declared.stores.Geometry.{Geometry}
use Rattle.hsm_types.specs.Keyed.{same_key, find_key}
use Rattle.plain_model.specs.Distinct.{Distinct}
use Rattle.inode_table.specs.Listing.{has_inode, Ascend}
use Rattle.snapshot_text.specs.declared.snapshot.Mapping.{Mapping}
use Rattle.snapshot_text.specs.Files.{geometry_of}
use Rattle.snapshot_text.specs.FileValidity.{places_of}
use Rattle.snapshot_text.specs.Snapshots.{SnapshotFile}
use Rattle.snapshot_text.proofs.BlockUses.{uses, uses-append, absent-unused, distinct-uses, uses-distinct}
use Rattle.meta_store.specs.Validity.{names_in, places_in, attribute_total_in, stub_total_in}
use Rattle.journal_fold.specs.declared.stores.FoldedStore.{FoldedStore}
use Rattle.journal_fold.specs.declared.uses.Uses.{Uses}
use Rattle.journal_fold.specs.FoldedStores.{files_in}
use Rattle.journal_fold.specs.Judged.{IsAlone}
use Rattle.journal_fold.specs.Counted.{FitTogether, IsCounted}
use Rattle.journal_fold.specs.Open.{is_touched, untouched, IsOpen, AreLawfulTogether}
use Rattle.journal_fold.proofs.FoldedEdits.{in_map, found, key_found}
use Rattle.journal_fold.proofs.OpenStores.{alone_within}
use Rattle.journal_fold.proofs.UntouchedFiles.{attributes_cons, stubs_cons, counted_alike, fit_alike, alike_back, absent_more, pulled, touched_more, at_cons}

either : {P : Type 0} (b : Bool) → (b ≡ true → P) → (b ≡ false → P) → P
either true this other = this refl
either false this other = other refl

-- ---- only one file has an inode

none_below : (low ino : ℕ) (f : SnapshotFile) (fs : List SnapshotFile) → Ascend low (names_in fs) → ino < low → AllByRecursion (λ g. g.key.ino ≡ ino → g ≡ f) fs
none_below low ino f [] up lt = tt
none_below low ino f (g ∷ fs) up lt = (λ is. absurd (omega (arith, up.0, lt, is)), none_below (g.key.ino + 1) ino f fs up.1 (omega (arith, up.0, lt)))

only_one : (low : ℕ) (f : SnapshotFile) (fs : List SnapshotFile) → Ascend low (names_in fs) → find_key (λ x. x.key) f.key fs ≡ Some f → AllByRecursion (λ g. g.key.ino ≡ f.key.ino → g ≡ f) fs
only_one low f [] up there = tt
only_one low f (g ∷ fs) up there =
    either (same_key g.key f.key)
    (λ here. let it : g ≡ f = grind arith in (λ is. it, none_below (g.key.ino + 1) f.key.ino f fs up.1 (omega (arith, ap (λ (x : SnapshotFile). x.key.ino) it))))
    (λ other.
    let behind : find_key (λ x. x.key) f.key fs ≡ Some f = grind arith in
    (λ is. absurd (not_first (g.key.ino + 1) f fs up.1 behind (omega (arith, is))), only_one (g.key.ino + 1) f fs up.1 behind))
  where
    not_first : (low : ℕ) (f : SnapshotFile) (fs : List SnapshotFile) → Ascend low (names_in fs) → find_key (λ x. x.key) f.key fs ≡ Some f → f.key.ino < low → ⊥
    not_first low f [] up there lt = cc
    not_first low f (g ∷ fs) up there lt =
        either (same_key g.key f.key)
        (λ here. let it : g ≡ f = grind arith in omega (arith, up.0, lt, ap (λ (x : SnapshotFile). x.key.ino) it))
        (λ other. not_first (g.key.ino + 1) f fs up.1 (grind arith) (omega (arith, up.0, lt)))

module _ (P : SnapshotFile → Type 0) where
  each_more : (ts : List ℕ) (ino : ℕ) (fs : List SnapshotFile) → AllByRecursion (λ g. g.key.ino ≡ ino → P g) fs → AllByRecursion P (untouched (ts ++ ino ∷ []) fs) → AllByRecursion P (untouched ts fs)
  each_more ts ino [] this each = tt
  each_more ts ino (g ∷ fs) this each =
      either (is_touched ts g.key.ino)
      (λ yes.
      let in_both : is_touched (ts ++ ino ∷ []) g.key.ino ≡ true = grind (arith, touched_more ts ino g.key.ino) in
      subst (AllByRecursion P) (sym (at_cons ts g fs true yes)) (each_more ts ino fs this.1 (subst (AllByRecursion P) (at_cons (ts ++ ino ∷ []) g fs true in_both) each)))
      (λ other.
      either (ino == g.key.ino)
      (λ same.
      let now : is_touched (ts ++ ino ∷ []) g.key.ino ≡ true = grind (arith, touched_more ts ino g.key.ino) in
      let is : g.key.ino ≡ ino = grind (arith, nat_tests) in
      subst (AllByRecursion P) (sym (at_cons ts g fs false other)) (this.0 is, each_more ts ino fs this.1 (subst (AllByRecursion P) (at_cons (ts ++ ino ∷ []) g fs true now) each)))
      (λ differs.
      let still : is_touched (ts ++ ino ∷ []) g.key.ino ≡ false = grind (arith, touched_more ts ino g.key.ino) in
      let both = subst (AllByRecursion P) (at_cons (ts ++ ino ∷ []) g fs false still) each in
      subst (AllByRecursion P) (sym (at_cons ts g fs false other)) (both.0, each_more ts ino fs this.1 both.1)))

  each_same : (f : SnapshotFile) (ino : ℕ) (fs : List SnapshotFile) → P f → f.key.ino ≡ ino → AllByRecursion (λ g. g.key.ino ≡ f.key.ino → g ≡ f) fs → AllByRecursion (λ g. g.key.ino ≡ ino → P g) fs
  each_same f ino [] it is same = tt
  each_same f ino (g ∷ fs) it is same = (λ here. subst P (sym (same.0 (here ∙ sym is))) it, each_same f ino fs it is same.1)

  each_found : (k : FileKey) (f : SnapshotFile) (fs : List SnapshotFile) → AllByRecursion P fs → find_key (λ x. x.key) k fs ≡ Some f → P f
  each_found k f [] each there = absurd cc
  each_found k f (g ∷ fs) each there = either (same_key g.key k) (λ here. let it : g ≡ f = grind arith in subst P it each.0) (λ other. each_found k f fs each.1 (grind arith))

-- ---- fewer files use no more

record UseNoMore (fs gs : List SnapshotFile) : Type 0 where
  places : (n : ℕ) → uses n (places_in fs) ≤ uses n (places_in gs)
  attributes : attribute_total_in fs ≤ attribute_total_in gs
  stubs : stub_total_in fs ≤ stub_total_in gs

fewer : (ts : List ℕ) (fs : List SnapshotFile) → UseNoMore (untouched ts fs) fs
fewer ts [] = record { places = λ n. omega arith; attributes = omega arith; stubs = omega arith }
fewer ts (g ∷ fs) =
    let rest = fewer ts fs in
    either (is_touched ts g.key.ino)
    (λ yes. subst (λ (l : List SnapshotFile). UseNoMore l (g ∷ fs)) (sym (at_cons ts g fs true yes)) (record {
      places = λ n. omega (arith, rest.places n, uses-append n (places_of g.extents) (places_in fs));
      attributes = omega (arith, rest.attributes, attributes_cons g fs);
      stubs = omega (arith, rest.stubs, stubs_cons g fs);
    }))
    (λ other. subst (λ (l : List SnapshotFile). UseNoMore l (g ∷ fs)) (sym (at_cons ts g fs false other)) (record {
      places = λ n. omega (arith, rest.places n, uses-append n (places_of g.extents) (places_in fs), uses-append n (places_of g.extents) (places_in (untouched ts fs)));
      attributes = omega (arith, rest.attributes, attributes_cons g fs, attributes_cons g (untouched ts fs));
      stubs = omega (arith, rest.stubs, stubs_cons g fs, stubs_cons g (untouched ts fs));
    }))

fit_fewer : (g : Geometry) (ts : List ℕ) (fs : List SnapshotFile) → FitTogether g fs → FitTogether g (untouched ts fs)
fit_fewer g ts fs fit =
    let less = fewer ts fs in
    record {
      distinct = uses-distinct (places_in (untouched ts fs)) (λ n. omega (arith, less.places n, distinct-uses (places_in fs) fit.distinct n));
      few = omega (arith, less.attributes, fit.few);
      few_stubs = omega (arith, less.stubs, fit.few_stubs);
    }

-- ---- an inode is settled

last_once : (ts : List ℕ) (ino : ℕ) → Distinct (ts ++ ino ∷ []) → is_touched ts ino ≡ false
last_once ts ino once = absent-unused ino ts (grind (arith, uses-append ino ts (ino ∷ []), distinct-uses (ts ++ ino ∷ []) once ino))

front_once : (ts : List ℕ) (ino : ℕ) → Distinct (ts ++ ino ∷ []) → Distinct ts
front_once ts ino once = uses-distinct ts (λ n. omega (arith, uses-append n ts (ino ∷ []), distinct-uses (ts ++ ino ∷ []) once n))

module _ (geometry : ℕ) (s : FoldedStore) (u : Uses) (ts : List ℕ) (ino : ℕ) (is : IsOpen geometry s u (ts ++ ino ∷ [])) where
  pub settled_none : lookup (is_at (nat_cmp ino)) s.files.entries ≡ None → IsOpen geometry s u ts
  settled_none none =
      let absent : has_inode ino (names_in (files_in s)) ≡ false = sym (in_map ino s.files.entries is.held.keyed) ∙ ap (λ (o : Option SnapshotFile). is_some o) none in
      let same = absent_more ino ts (files_in s) absent in
      record {
        known = is.known;
        held = is.held;
        first = is.first;
        next = is.next;
        once = front_once ts ino is.once;
        each = subst (AllByRecursion (IsAlone (geometry_of geometry) s.next)) same is.each;
        counted = subst (IsCounted (geometry_of geometry) u) same is.counted;
      }

  module _ (f : SnapshotFile) (there : lookup (is_at (nat_cmp ino)) s.files.entries ≡ Some f) where
    low : f.key.ino ≡ ino
    low = key_found ino f s.files.entries is.held.keyed there

    it : find_key (λ g. g.key) f.key (files_in s) ≡ Some f
    it = (found ino f s.files.entries is.held.keyed there).1

    pub settled : (v : Uses) → IsAlone (geometry_of geometry) s.next f → IsCounted (geometry_of geometry) v (f ∷ untouched (ts ++ ino ∷ []) (files_in s)) → IsOpen geometry s v ts
    settled v alone counted = record {
      known = is.known;
      held = is.held;
      first = is.first;
      next = is.next;
      once = front_once ts ino is.once;
      each = each_more (IsAlone (geometry_of geometry) s.next) ts ino (files_in s) (each_same (IsAlone (geometry_of geometry) s.next) f ino (files_in s) alone low (only_one 0 f (files_in s) is.held.ascend it)) is.each;
      counted = counted_alike (geometry_of geometry) v (f ∷ untouched (ts ++ ino ∷ []) (files_in s)) (untouched ts (files_in s)) (alike_back _ _ (pulled 0 ino ts f (files_in s) is.held.ascend (last_once ts ino is.once) low it)) counted;
    }

    pub alone_of : AreLawfulTogether geometry s → IsAlone (geometry_of geometry) s.next f
    alone_of all = each_found (IsAlone (geometry_of geometry) s.next) f.key f (files_in s) all.each it

    pub fit_of : AreLawfulTogether geometry s → FitTogether (geometry_of geometry) (f ∷ untouched (ts ++ ino ∷ []) (files_in s))
    fit_of all = fit_alike (geometry_of geometry) (untouched ts (files_in s)) (f ∷ untouched (ts ++ ino ∷ []) (files_in s)) (pulled 0 ino ts f (files_in s) is.held.ascend (last_once ts ino is.once) low it) (fit_fewer (geometry_of geometry) ts (files_in s) all.fit)

    pub places_within : IsAlone (geometry_of geometry) s.next f → AllByRecursion (λ (e : Mapping). e.place < length u.flags.items) f.extents
    places_within alone = subst (λ (n : ℕ). AllByRecursion (λ (e : Mapping). e.place < n) f.extents) (sym is.counted.count) (alone_within (geometry_of geometry) s.next f alone)
