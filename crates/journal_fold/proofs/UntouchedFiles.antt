-- The files that no record was about, with one less and one more.
use Rattle.std.proofs.Common.{◌≡◌, ℕ, ◌+◌, ◌<◌, ◌≤◌, List, [], ◌∷◌, ◌++◌, length, Bool, true, false, not, cond, eqb, refl, sym, ◌∙◌, ap, subst, arith}
use Rattle.std.specs.Prelude.{◌==◌, Some, None, if◌then◌else◌}
use Rattle.std.specs.List.{list_any}
use Rattle.std.proofs.lemmas.Bool.Decides.{nat_tests}
use Rattle.std.proofs.lemmas.List.Folds.{list_any-append}
use Rattle.std.proofs.lemmas.List.Sums.{sum_by-cons}
use Rattle.hsm_types.specs.declared.keys.FileKey.{FileKey}
use Rattle.hsm_types.specs.declared.stores.Geometry.{Geometry}
use Rattle.hsm_types.specs.Attributes.{bytes_of_attributes}
use Rattle.hsm_types.specs.Keyed.{same_key, find_key, change_key, put_key, drop_key}
use Rattle.inode_table.specs.Listing.{has_inode, Ascend}
use Rattle.journal_records.specs.declared.records.Record.{Record}
use Rattle.journal_records.specs.declared.records.Record.TheVariants.{Make, Drop, Size, Map, Regions, SetAttr, DropAttr, Stub}
use Rattle.journal_records.specs.Texts.{inode_of}
use Rattle.snapshot_text.specs.FileValidity.{places_of}
use Rattle.snapshot_text.specs.Snapshots.{SnapshotFile, Snapshot}
use Rattle.snapshot_text.proofs.BlockUses.{uses, uses-append, uses-absent, absent-unused, distinct-uses, uses-distinct}
use Rattle.meta_store.specs.Validity.{names_in, places_in, attribute_total_in, stub_total_in}
use Rattle.meta_store.specs.Batches.{file_changed, key_in, changed}
use Rattle.meta_store.proofs.BatchedRecords.{ino_on}
use Rattle.journal_fold.specs.declared.uses.Uses.{Uses}
use Rattle.journal_fold.specs.Counted.{FitTogether, IsCounted}
use Rattle.journal_fold.specs.Open.{is_touched, untouched}

either : {P : Type 0} (b : Bool) → (b ≡ true → P) → (b ≡ false → P) → P
either true this other = this refl
either false this other = other refl

-- ---- lists of files that use the same

pub record UseAlike (fs gs : List SnapshotFile) : Type 0 where
  pub places : (n : ℕ) → uses n (places_in fs) ≡ uses n (places_in gs)
  pub attributes : attribute_total_in fs ≡ attribute_total_in gs
  pub stubs : stub_total_in fs ≡ stub_total_in gs

some_used : (n : ℕ) (xs ys : List ℕ) → uses n xs ≡ uses n ys → list_any (λ q. eqb q n) xs ≡ list_any (λ q. eqb q n) ys
some_used n xs ys same =
    either (list_any (λ q. eqb q n) ys)
    (λ yes. either (list_any (λ q. eqb q n) xs) (λ also. cc) (λ other. absurd (omega (arith, uses-absent n xs other, used n ys yes, same))))
    (λ other. absent-unused n xs (same ∙ uses-absent n ys other) ∙ sym other)
  where
    used : (n : ℕ) (ps : List ℕ) → list_any (λ q. eqb q n) ps ≡ true → 1 ≤ uses n ps
    used n [] here = absurd cc
    used n (p ∷ ps) here = grind (arith, used n ps)

pub fit_alike : (g : Geometry) (fs gs : List SnapshotFile) → UseAlike fs gs → FitTogether g fs → FitTogether g gs
fit_alike g fs gs same fit = record {
  distinct = uses-distinct (places_in gs) (λ n. omega (arith, same.places n, distinct-uses (places_in fs) fit.distinct n));
  few = omega (arith, same.attributes, fit.few);
  few_stubs = omega (arith, same.stubs, fit.few_stubs);
}

pub counted_alike : (g : Geometry) (u : Uses) (fs gs : List SnapshotFile) → UseAlike fs gs → IsCounted g u fs → IsCounted g u gs
counted_alike g u fs gs same is = record {
  fit = fit_alike g fs gs same is.fit;
  count = is.count;
  flagged = λ n lt. is.flagged n lt ∙ some_used n (places_in fs) (places_in gs) (same.places n);
  attributes = is.attributes ∙ same.attributes;
  stubs = is.stubs ∙ same.stubs;
}

pub alike_back : (fs gs : List SnapshotFile) → UseAlike fs gs → UseAlike gs fs
alike_back fs gs same = record { places = λ n. sym (same.places n); attributes = sym same.attributes; stubs = sym same.stubs }

pub attributes_cons : (f : SnapshotFile) (fs : List SnapshotFile) → attribute_total_in (f ∷ fs) ≡ bytes_of_attributes f.kept.attributes + attribute_total_in fs
attributes_cons f fs = sum_by-cons (λ (x : SnapshotFile). bytes_of_attributes x.kept.attributes) f fs

pub stubs_cons : (f : SnapshotFile) (fs : List SnapshotFile) → stub_total_in (f ∷ fs) ≡ length f.kept.stubs + stub_total_in fs
stubs_cons f fs = sum_by-cons (λ (x : SnapshotFile). length x.kept.stubs) f fs

-- two files in the other order
pub turned : (f g : SnapshotFile) (fs gs : List SnapshotFile) → UseAlike fs (f ∷ gs) → UseAlike (g ∷ fs) (f ∷ g ∷ gs)
turned f g fs gs same = record {
  places = λ n. omega (arith, same.places n, uses-append n (places_of g.extents) (places_in fs), uses-append n (places_of f.extents) (places_in gs), uses-append n (places_of f.extents) (places_of g.extents ++ places_in gs), uses-append n (places_of g.extents) (places_in gs));
  attributes = omega (arith, same.attributes, attributes_cons g fs, attributes_cons f gs, attributes_cons f (g ∷ gs), attributes_cons g gs);
  stubs = omega (arith, same.stubs, stubs_cons g fs, stubs_cons f gs, stubs_cons f (g ∷ gs), stubs_cons g gs);
}

same_alike : (fs gs : List SnapshotFile) → fs ≡ gs → UseAlike fs gs
same_alike fs gs is = record { places = λ n. ap (λ (l : List SnapshotFile). uses n (places_in l)) is; attributes = ap attribute_total_in is; stubs = ap stub_total_in is }

-- ---- one inode more

pub touched_more : (ts : List ℕ) (ino n : ℕ) → is_touched (ts ++ ino ∷ []) n ≡ (if is_touched ts n then true else (ino == n))
touched_more ts ino n = grind (arith, list_any-append (λ t. eqb t n) ts (ino ∷ []))

-- where no file behind has it, nothing changes
none_more : (low ino : ℕ) (ts : List ℕ) (fs : List SnapshotFile) → Ascend low (names_in fs) → ino < low → untouched (ts ++ ino ∷ []) fs ≡ untouched ts fs
none_more low ino ts [] up lt = refl
none_more low ino ts (f ∷ fs) up lt =
    let rest = none_more (f.key.ino + 1) ino ts fs up.1 (omega (arith, up.0, lt)) in
    let differs : (ino == f.key.ino) ≡ false = grind (arith, nat_tests, up.0) in
    grind (arith, touched_more ts ino f.key.ino, rest)

pub absent_more : (ino : ℕ) (ts : List ℕ) (fs : List SnapshotFile) → has_inode ino (names_in fs) ≡ false → untouched (ts ++ ino ∷ []) fs ≡ untouched ts fs
absent_more ino ts [] none = refl
absent_more ino ts (f ∷ fs) none =
    let differs : (ino == f.key.ino) ≡ false = grind (arith, nat_tests) in
    let rest = absent_more ino ts fs (grind arith) in
    grind (arith, touched_more ts ino f.key.ino, rest)

pub at_cons : (ts : List ℕ) (g : SnapshotFile) (fs : List SnapshotFile) (b : Bool) → is_touched ts g.key.ino ≡ b → untouched ts (g ∷ fs) ≡ cond (not b) (g ∷ untouched ts fs) (untouched ts fs)
at_cons ts g fs b is = ap (λ (x : Bool). cond (not x) (g ∷ untouched ts fs) (untouched ts fs)) is

found_above : (low : ℕ) (k : FileKey) (f : SnapshotFile) (fs : List SnapshotFile) → Ascend low (names_in fs) → find_key (λ x. x.key) k fs ≡ Some f → low ≤ f.key.ino
found_above low k f [] up there = absurd cc
found_above low k f (g ∷ fs) up there =
    either (same_key g.key k)
    (λ here. let it : g ≡ f = grind arith in omega (arith, up.0, ap (λ (x : SnapshotFile). x.key.ino) it))
    (λ other. omega (arith, up.0, found_above (g.key.ino + 1) k f fs up.1 (grind arith)))

pulled_first : (ino : ℕ) (ts : List ℕ) (f g : SnapshotFile) (fs : List SnapshotFile) → Ascend (g.key.ino + 1) (names_in fs) → is_touched ts ino ≡ false → f.key.ino ≡ ino → g ≡ f → UseAlike (untouched ts (g ∷ fs)) (f ∷ untouched (ts ++ ino ∷ []) (g ∷ fs))
pulled_first ino ts f g fs up fresh is it =
    let low : g.key.ino ≡ ino = ap (λ (x : SnapshotFile). x.key.ino) it ∙ is in
    let out : is_touched ts g.key.ino ≡ false = ap (is_touched ts) low ∙ fresh in
    let within : is_touched (ts ++ ino ∷ []) g.key.ino ≡ true = grind (arith, nat_tests, touched_more ts ino g.key.ino, out, low) in
    let rest = none_more (g.key.ino + 1) ino ts fs up (omega (arith, low)) in
    same_alike (untouched ts (g ∷ fs)) (f ∷ untouched (ts ++ ino ∷ []) (g ∷ fs))
    (at_cons ts g fs false out ∙ ap (λ (l : List SnapshotFile). g ∷ l) (sym rest) ∙ ap (λ (x : SnapshotFile). x ∷ untouched (ts ++ ino ∷ []) fs) it ∙ ap (λ (l : List SnapshotFile). f ∷ l) (sym (at_cons (ts ++ ino ∷ []) g fs true within)))

pulled_later : (ino : ℕ) (ts : List ℕ) (f g : SnapshotFile) (fs : List SnapshotFile) → g.key.ino < ino → UseAlike (untouched ts fs) (f ∷ untouched (ts ++ ino ∷ []) fs) → UseAlike (untouched ts (g ∷ fs)) (f ∷ untouched (ts ++ ino ∷ []) (g ∷ fs))
pulled_later ino ts f g fs lt rest =
    let same : is_touched (ts ++ ino ∷ []) g.key.ino ≡ is_touched ts g.key.ino = grind (arith, nat_tests, touched_more ts ino g.key.ino) in
    either (is_touched ts g.key.ino)
    (λ yes. subst (λ (l : List SnapshotFile). UseAlike l (f ∷ untouched (ts ++ ino ∷ []) (g ∷ fs))) (sym (at_cons ts g fs true yes))
    (subst (λ (l : List SnapshotFile). UseAlike (untouched ts fs) (f ∷ l)) (sym (at_cons (ts ++ ino ∷ []) g fs true (same ∙ yes))) rest))
    (λ other. subst (λ (l : List SnapshotFile). UseAlike l (f ∷ untouched (ts ++ ino ∷ []) (g ∷ fs))) (sym (at_cons ts g fs false other))
    (subst (λ (l : List SnapshotFile). UseAlike (g ∷ untouched ts fs) (f ∷ l)) (sym (at_cons (ts ++ ino ∷ []) g fs false (same ∙ other))) (turned f g (untouched ts fs) (untouched (ts ++ ino ∷ []) fs) rest)))

-- the file that has it goes, and no other
pub pulled : (low ino : ℕ) (ts : List ℕ) (f : SnapshotFile) (fs : List SnapshotFile) → Ascend low (names_in fs) → is_touched ts ino ≡ false → f.key.ino ≡ ino → find_key (λ x. x.key) f.key fs ≡ Some f
    → UseAlike (untouched ts fs) (f ∷ untouched (ts ++ ino ∷ []) fs)
pulled low ino ts f [] up fresh is there = absurd cc
pulled low ino ts f (g ∷ fs) up fresh is there =
    either (same_key g.key f.key)
    (λ here. pulled_first ino ts f g fs up.1 fresh is (grind arith))
    (λ other.
    let behind : find_key (λ x. x.key) f.key fs ≡ Some f = grind arith in
    pulled_later ino ts f g fs (omega (arith, found_above (g.key.ino + 1) f.key f fs up.1 behind, is)) (pulled (g.key.ino + 1) ino ts f fs up.1 fresh is behind))

-- ---- what records change

put_untouched : (ts : List ℕ) (f : SnapshotFile) (fs : List SnapshotFile) → is_touched ts f.key.ino ≡ true → untouched ts (put_key (λ x. x.key) f fs) ≡ untouched ts fs
put_untouched ts f [] there = ap (λ (b : Bool). cond (not b) (f ∷ []) []) there
put_untouched ts f (g ∷ fs) there = grind (arith, put_untouched ts f fs there)

drop_untouched : (ts : List ℕ) (k : FileKey) (fs : List SnapshotFile) → is_touched ts k.ino ≡ true → untouched ts (drop_key (λ x. x.key) k fs) ≡ untouched ts fs
drop_untouched ts k [] there = refl
drop_untouched ts k (g ∷ fs) there = either (same_key g.key k) (λ here. let same : g.key.ino ≡ k.ino = grind arith in grind (arith, same)) (λ other. grind (arith, drop_untouched ts k fs there))

change_untouched : (ts : List ℕ) (k : FileKey) (to : SnapshotFile → SnapshotFile) (fs : List SnapshotFile) → ((f : SnapshotFile) → (to f).key ≡ f.key) → is_touched ts k.ino ≡ true → untouched ts (change_key (λ x. x.key) k to fs) ≡ untouched ts fs
change_untouched ts k to [] same there = refl
change_untouched ts k to (g ∷ fs) same there =
    either (same_key g.key k)
    (λ here. let low : g.key.ino ≡ k.ino = grind arith in let kept : (to g).key.ino ≡ g.key.ino = ap (λ (x : FileKey). x.ino) (same g) in grind (arith, low, kept))
    (λ other. grind (arith, change_untouched ts k to fs same there))

key_same : (r : Record) (f : SnapshotFile) → (file_changed r f).key ≡ f.key
key_same (Make key name) f = refl
key_same (Drop ino) f = refl
key_same (Size ino size) f = refl
key_same (Map ino block places) f = refl
key_same (Regions ino regions) f = refl
key_same (SetAttr ino name value) f = refl
key_same (DropAttr ino name) f = refl
key_same (Stub ino j None) f = refl
key_same (Stub ino j (Some stub)) f = refl

low_key : (ts : List ℕ) (ino : ℕ) (fs : List SnapshotFile) → is_touched ts ino ≡ true → is_touched ts (key_in ino fs).ino ≡ true
low_key ts ino fs there = ap (is_touched ts) (ino_on ino (names_in fs)) ∙ there

-- a record changes no file but the one that it is about
pub record_untouched : (ts : List ℕ) (r : Record) (s : Snapshot) → is_touched ts (inode_of r) ≡ true → untouched ts (changed r s).files ≡ untouched ts s.files
record_untouched ts (Make key name) s there = put_untouched ts _ s.files there
record_untouched ts (Drop ino) s there = drop_untouched ts (key_in ino s.files) s.files (low_key ts ino s.files there)
record_untouched ts (Size ino size) s there = change_untouched ts (key_in ino s.files) (file_changed (Size ino size)) s.files (key_same (Size ino size)) (low_key ts ino s.files there)
record_untouched ts (Map ino block places) s there = change_untouched ts (key_in ino s.files) (file_changed (Map ino block places)) s.files (key_same (Map ino block places)) (low_key ts ino s.files there)
record_untouched ts (Regions ino regions) s there = change_untouched ts (key_in ino s.files) (file_changed (Regions ino regions)) s.files (key_same (Regions ino regions)) (low_key ts ino s.files there)
record_untouched ts (SetAttr ino name value) s there = change_untouched ts (key_in ino s.files) (file_changed (SetAttr ino name value)) s.files (key_same (SetAttr ino name value)) (low_key ts ino s.files there)
record_untouched ts (DropAttr ino name) s there = change_untouched ts (key_in ino s.files) (file_changed (DropAttr ino name)) s.files (key_same (DropAttr ino name)) (low_key ts ino s.files there)
record_untouched ts (Stub ino j stub) s there = change_untouched ts (key_in ino s.files) (file_changed (Stub ino j stub)) s.files (key_same (Stub ino j stub)) (low_key ts ino s.files there)
