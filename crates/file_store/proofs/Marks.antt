-- The marks of the blocks that files use: places that may be taken, and what is left where a file frees blocks.
use Rattle.file_store.proofs.Names.{Stub, Rewrite, effect_of, size_after, places, ◌≡◌, ℕ, ◌+◌, ◌<◌, ◌≤◌, List, [], ◌∷◌, ◌++◌, length, take, drop}
use Rattle.file_store.proofs.Names.{set, get_or, Option, Some, None, Bool, true, false, eqb, ltb, refl, sym, ◌∙◌, ap, subst, arith, length-set}
use Rattle.file_store.proofs.Names.{get_or-set_other, replicate, AllByRecursion, list_any, sum_by, false≢true, false_from_ne_true, length-replicate}
use Rattle.file_store.proofs.Names.{All-from_recursion, All-weaker, recursion_from_All, FileKey, find_key, change_key, blocks_in, Space, free}
use Rattle.file_store.proofs.Names.{marked, unmarked, All-has, Ascend, Ascend-low, Record, Make, Drop, Size, Map, CatalogFile, Catalog, IsCatalog}
use Rattle.file_store.proofs.Names.{geometry_of, present, blocks_of, after, CanStand, places_fitted, places_set, with_changed, uses_of, uses-sum}
use Rattle.file_store.proofs.Names.{sum-put, sum-drop, sum-change, blocks-change, each-found, blocks-within, IsBodiless, mappings_of, remapped}
use Rattle.file_store.proofs.Names.{places_under, freed_by, marks_of, sum_by-cons, sum_by-set, Distinct, IsFree, length-marked, others_are_free}
use Rattle.file_store.proofs.Names.{taken_are_free, take_adds_others, marks_are_members, marks_join, releases-leave, uses, uses-append}
use Rattle.file_store.proofs.Names.{distinct-uses, empty_file, length-fitted, present-fitted}
use Rattle.std.specs.List.{All}
use Rattle.std.proofs.lemmas.Bool.Decides.{nat_tests}
use Rattle.file_store.specs.Effects.{IsFreed}
use Rattle.file_store.proofs.ByBlocks.{get_or-fitted}
use Rattle.file_store.proofs.EachOf.{each_member}
use Rattle.file_store.proofs.SealedFiles.{seal-places}

-- none of the places is among these blocks
abbrev pub NoneOf : List ℕ → List ℕ → Type 0
NoneOf places blocks = AllByRecursion (λ p. list_any (λ b. eqb b p) blocks ≡ false) places

pub length-marks : (c : Catalog) → length (marks_of c) ≡ (geometry_of c.geometry).blocks
length-marks c = grind (arith, length-marked, length-replicate)

-- ---- blocks that are taken

-- places for blocks: the disk has each, and no file uses it, as it is or as it was made durable
pub record ArePlaces (now durable : Catalog) (places : List ℕ) : Type 0 where
  pub within : AllByRecursion (λ p. p < (geometry_of now.geometry).blocks) places
  pub unused : NoneOf places (blocks_of now.files)
  pub free : NoneOf places (blocks_of durable.files)
  pub distinct : Distinct places
  pub once : (n : ℕ) → uses n (blocks_of now.files ++ places) ≤ 1

unmarked_at : (ds : List Bool) (b : ℕ) → get_or ds b true ≡ false → get_or ds b false ≡ false
unmarked_at ds b is = grind (arith, places)

module _ (c : Catalog) (is : IsCatalog c) where
  abbrev total : ℕ
  total = (geometry_of c.geometry).blocks

  pub all-within : All (λ b. b < total) (blocks_of c.files)
  all-within = grind (arith, All-from_recursion, blocks-within)

  pub used-within : (b : ℕ) → list_any (λ m. eqb m b) (blocks_of c.files) ≡ true → b < total
  used-within b used = All-has (λ m. m < total) (blocks_of c.files) b all-within used

  -- each block that is used has a mark
  pub marks_there : AllByRecursion (λ b. get_or (marks_of c) b false ≡ true) (blocks_of c.files)
  marks_there = grind (arith, each_member, marks_are_members, used-within)

  -- where both maps have just these, all others are free
  pub others_free : (space : Space) → space.current ≡ marks_of c → space.durable ≡ space.current → length (free space) + length (blocks_of c.files) ≡ total
  others_free space marks same = grind (arith, others_are_free, all-within)

  pub are_places : (d : Catalog) (space : Space) (n : ℕ) → space.current ≡ marks_of c → AllByRecursion (λ b. get_or space.durable b false ≡ true) (blocks_of d.files) → ArePlaces c d (take n (free space))
  are_places d space n marks marked =
      let taken = taken_are_free space n in
      let below : (b : ℕ) → IsFree space b → b < total = λ b f. grind (arith, length-marks) in
      let each : (P : ℕ → Type 0) → ((b : ℕ) → IsFree space b → P b) → AllByRecursion P (take n (free space)) = λ P h. grind (arith, recursion_from_All, All-weaker) in
      let apart : Distinct (blocks_of c.files ++ take n (free space)) =
      subst (λ (fs : List Bool). Distinct (blocks_of c.files ++ take n (free (record { current = fs; durable = space.durable })))) (sym marks) (take_adds_others total (blocks_of c.files) space.durable n is.distinct) in
      record {
        within = each _ below;
        unused = each _ (λ b f. sym (marks_are_members total (blocks_of c.files) b (below b f)) ∙ ap (λ (fs : List Bool). get_or fs b false) (sym marks) ∙ unmarked_at space.current b f.current);
        free = each _ (λ b f. false_from_ne_true _ (λ used.
            false≢true (sym (unmarked_at space.durable b f.durable) ∙ All-has (λ p. get_or space.durable p false ≡ true) (blocks_of d.files) b (All-from_recursion _ (blocks_of d.files) marked) used)));
        distinct = taken.once;
        once = grind (arith, distinct-uses);
      }

-- ---- blocks that are freed

pub has-uses : (b : ℕ) (ms : List ℕ) → list_any (λ m. eqb m b) ms ≡ ltb 0 (uses b ms)
has-uses b [] = refl
has-uses b (m ∷ ms) = let rest = has-uses b ms in grind (arith, nat_tests)

-- where blocks are some and others, each once, the marks without some are those of the others
pub marks-left : (total : ℕ) (all some others : List ℕ) → ((b : ℕ) → uses b all ≤ 1) → ((b : ℕ) → uses b all ≡ uses b some + uses b others) → unmarked some (marked all (replicate total false)) ≡ marked others (replicate total false)
marks-left total all some others once sum =
    releases-leave total all some others (λ b. let most = once b in let is = sum b in rw (has-uses b all, has-uses b some, has-uses b others) (grind (arith, nat_tests)))

pub geometry-after : (r : Record) (c : Catalog) → (after r c).geometry ≡ c.geometry
geometry-after (Make key name) c = refl
geometry-after (Drop ino) c = refl
geometry-after r c = refl

-- by a record that concerns no bytes of a file that stays
module _ (k : FileKey) (c : Catalog) (lawful : IsCatalog c) (freed : List ℕ) where
  uses-freed : (r : Record) → IsBodiless k r c → CanStand r c → IsFreed k r c freed → (n : ℕ) → uses n (blocks_of c.files) ≡ uses n freed + uses n (blocks_of (after r c).files)
  uses-freed (Make key name) is stands free n = grind (arith, empty_file, uses-sum, sum-put, uses_of)
  uses-freed (Drop ino) is stands free n = grind (arith, uses-sum, sum-drop, uses_of)
  uses-freed (Size ino size) is stands free n = absurd is
  uses-freed (Map ino block places) is stands free n = absurd is
  uses-freed (Stub ino j None) is stands free n = absurd is
  uses-freed (Stub ino j (Some stub)) is stands free n = grind (arith, blocks-change, seal-places)
  uses-freed r is stands free n = grind (arith, blocks-change)

  -- the marks that are left are those of the catalog after it
  pub marks-after : (r : Record) → IsBodiless k r c → CanStand r c → IsFreed k r c freed → unmarked freed (marks_of c) ≡ marks_of (after r c)
  marks-after r is stands free = grind (arith, geometry-after, marks-left, distinct-uses, uses-freed)

  -- they are blocks of the disk
  pub freed-within : (r : Record) → IsBodiless k r c → CanStand r c → IsFreed k r c freed → All (λ b. b < length (marks_of c)) freed
  freed-within (Drop ino) is stands free = grind (arith, length-marks, All-from_recursion, each-found)
  freed-within r is stands free = rw free (All-from_recursion (λ b. b < length (marks_of c)) [] tt)

-- ---- blocks of a file at new places: each number stands as often in the new blocks and the freed ones together as in the old ones and the new places

-- how often a number is the place
abbrev is_at : ℕ → Option ℕ → ℕ
is_at n p = uses n (present (p ∷ []))

present-sum : (n : ℕ) (ps : List (Option ℕ)) → uses n (present ps) ≡ sum_by (is_at n) ps
present-sum n [] = refl
present-sum n (None ∷ ps) = omega (arith, present-sum n ps, sum_by-cons (is_at n) None ps)
present-sum n (Some at ∷ ps) = omega (arith, present-sum n ps, sum_by-cons (is_at n) (Some at) ps)

under-set : (i : ℕ) (v : Option ℕ) (bs : List ℕ) (ps : List (Option ℕ)) → Ascend (i + 1) bs → places_under bs (set ps i v) ≡ places_under bs ps
under-set i v [] ps a = refl
under-set i v (b ∷ bs) ps a = grind (arith, get_or-set_other, Ascend-low, under-set i v bs ps (Ascend-low (i + 1) (b + 1) bs (omega arith) a.1))

moved : (n low m : ℕ) (bs places : List ℕ) (ps : List (Option ℕ)) → Ascend low bs → AllByRecursion (λ b. b < m) bs → m ≡ length ps → length places ≡ length bs
    → uses n (present (places_set (mappings_of bs places) ps)) + uses n (present (places_under bs ps)) ≡ uses n places + uses n (present ps)
moved n low m [] [] ps a below is long = omega arith
moved n low m [] (p ∷ places) ps a below is long = absurd (omega arith)
moved n low m (b ∷ bs) [] ps a below is long = absurd (omega arith)
moved n low m (b ∷ bs) (p ∷ places) ps a below is long =
    let next : List (Option ℕ) = set ps b (Some p) in
    let here = below.0 in
    let one = sum_by-set (is_at n) ps b (Some p) None (omega arith) in
    let rest = moved n (b + 1) m bs places next a.1 below.1 (omega (arith, length-set ps b (Some p))) (omega arith) in
    let same = ap (λ (qs : List (Option ℕ)). uses n (present qs)) (under-set b (Some p) bs ps a.1) in
    let under = places_under bs ps in
    omega (arith, present-sum n ps, present-sum n next, present-sum n under, present-sum n (get_or ps b None ∷ under), sum_by-cons (is_at n) (get_or ps b None) under)

under-fitted : (size : ℕ) (bs : List ℕ) (ps : List (Option ℕ)) → AllByRecursion (λ b. b < blocks_in size) bs → places_under bs (places_fitted size ps) ≡ places_under bs ps
under-fitted size [] ps below = refl
under-fitted size (b ∷ bs) ps below = rw (get_or-fitted size b ps below.0, under-fitted size bs ps below.1) refl

file-moved : (n size : ℕ) (bs places : List ℕ) (f : CatalogFile) → Ascend 0 bs → AllByRecursion (λ b. b < blocks_in size) bs → length places ≡ length bs
    → uses n (present (places_set (mappings_of bs places) (places_fitted size f.places))) + uses n (freed_by size bs f.places) ≡ uses n places + uses n (present f.places)
file-moved n size bs places f a below long =
    let fitted : List (Option ℕ) = places_fitted size f.places in
    let past : List ℕ = present (drop (blocks_in size) f.places) in
    let set_in = moved n 0 (blocks_in size) bs places fitted a below (sym (length-fitted size f.places)) long in
    let same = ap (λ (qs : List (Option ℕ)). uses n (present qs)) (under-fitted size bs f.places below) in
    omega (arith, ap (uses n) (present-fitted size f.places), uses-append n (present fitted) past, uses-append n past (present (places_under bs f.places)))

pub uses-changed : (n : ℕ) (k : FileKey) (to : CatalogFile → CatalogFile) (f : CatalogFile) (fs : List CatalogFile) → find_key (λ g. g.key) k fs ≡ Some f
    → uses n (blocks_of (change_key (λ g. g.key) k to fs)) + uses n (present f.places) ≡ uses n (blocks_of fs) + uses n (present (to f).places)
uses-changed n k to f fs found = grind (arith, uses-sum, sum-change, uses_of)

-- Once the new places are marked and those that the file leaves are released, the marks are those of the new catalog.
pub marks-moved : (c : Catalog) (change : Rewrite) (was : ℕ) (bs places : List ℕ) (k : FileKey) (f : CatalogFile) → find_key (λ g. g.key) k c.files ≡ Some f → Ascend 0 bs → AllByRecursion (λ b. b < blocks_in (size_after (effect_of change) was)) bs → length places ≡ length bs
    → ((n : ℕ) → uses n (blocks_of c.files ++ places) ≤ 1) → unmarked (freed_by (size_after (effect_of change) was) bs f.places) (marked places (marks_of c)) ≡ marks_of (with_changed k (remapped change was (mappings_of bs places)) c)
marks-moved c change was bs places k f found a below long once =
    let size : ℕ = size_after (effect_of change) was in
    let to : CatalogFile → CatalogFile = remapped change was (mappings_of bs places) in
    ap (unmarked (freed_by size bs f.places)) (marks_join (geometry_of c.geometry).blocks (blocks_of c.files) places)
    ∙ marks-left (geometry_of c.geometry).blocks (blocks_of c.files ++ places) (freed_by size bs f.places) (blocks_of (change_key (λ g. g.key) k to c.files)) once
    (λ n. omega (arith, uses-changed n k to f c.files found, file-moved n size bs places f a below long, uses-append n (blocks_of c.files) places))
