-- Names, inodes and places behind those before.
use Rattle.std.proofs.Common.{◌≡◌, ℕ, ◌<◌, List, [], ◌∷◌, ◌++◌, length, set, Bool, true, false, None, eqb, refl, sym, ◌∙◌, append_assoc, append-nil}
use Rattle.std.proofs.Common.{length-set, arith, ◌+◌, ◌≤◌}
use Rattle.std.specs.List.{AllByRecursion, list_any}
use Rattle.std.specs.Str.{bytes_eq}
use Rattle.std.proofs.lemmas.Bool.{false_from_ne_true}
use Rattle.std.proofs.lemmas.Slice.Eq.{bytes_eq-Decides}
use Rattle.std.proofs.lemmas.List.Folds.{list_any-append}
use Rattle.std.proofs.lemmas.Grind.{common_steps}
use Rattle.plain_model.specs.Plain.{Listed, named}
use Rattle.plain_model.specs.Blocks.{with_mapped}
use Rattle.plain_model.specs.Distinct.{Distinct}
use Rattle.inode_table.specs.Listing.{Differ, has_inode, Ascend}
use Rattle.meta_store.specs.Validity.{are_unused, Flags, last_inode}
use Rattle.snapshot_text.specs.FileValidity.{are_free}
use Rattle.snapshot_text.proofs.BlockUses.{uses, uses-append, uses-absent, absent-unused, distinct-uses, uses-distinct}
use Rattle.hsm_types.specs.Keyed.{put_key}
use Rattle.snapshot_text.specs.Files.{CatalogFile}
use Rattle.meta_store.specs.Catalogs.{names_of}

turned : (x y : List ℕ) → bytes_eq x y ≡ false → bytes_eq y x ≡ false
turned x y differs = false_from_ne_true (bytes_eq y x) (λ yes. let is = (bytes_eq-Decides x y).1 (sym ((bytes_eq-Decides y x).0 yes)) in cc)

unlike : (name : List ℕ) (ls : List Listed) (l : Listed) (rest : List Listed) → named name (ls ++ l ∷ rest) ≡ None → bytes_eq l.name name ≡ false
unlike name [] l rest none = grind arith
unlike name (k ∷ ls) l rest none = unlike name ls l rest (grind arith)

pub nameless : (ls : List Listed) (l : Listed) (rest : List Listed) → Differ (ls ++ l ∷ rest) → named l.name ls ≡ None
nameless [] l rest d = refl
nameless (k ∷ ls) l rest d = rw (turned l.name k.name (unlike k.name ls l rest d.0)) (nameless ls l rest d.1)

once : (used : List ℕ) (p : ℕ) (rest : List ℕ) → Distinct (used ++ p ∷ rest) → list_any (λ q. eqb q p) used ≡ false
once used p rest d = absent-unused p used (grind (arith, uses-append p used (p ∷ rest), distinct-uses (used ++ p ∷ rest) d p))

pub unused-from : (used ps rest : List ℕ) → Distinct (used ++ (ps ++ rest)) → are_unused used ps ≡ true
unused-from used [] rest d = refl
unused-from used (p ∷ ps) rest d = grind (arith, once used p (ps ++ rest) d, unused-from (used ++ p ∷ []) ps rest (rw append_assoc d))

joined-once : (n : ℕ) (used ps : List ℕ) → are_unused used ps ≡ true → uses n used ≤ 1 → uses n ps + uses n used ≤ 1
joined-once n used [] e few = omega arith
joined-once n used (p ∷ ps) e few = grind (arith, uses-absent p used, uses-append n used (p ∷ []), joined-once n (used ++ p ∷ []) ps)

-- with those that are used, no place stands twice
pub unused-joins : (used ps : List ℕ) → are_unused used ps ≡ true → Distinct used → Distinct (ps ++ used)
unused-joins used ps e d = uses-distinct (ps ++ used) (λ n. omega (arith, uses-append n ps used, joined-once n used ps e (distinct-uses used d n)))

flags-more : (flags : List Bool) (used : List ℕ) (p : ℕ) → p < length flags → Flags flags used → Flags (set flags p true) (used ++ p ∷ [])
flags-more flags used p within f = λ b below. grind (arith, common_steps, f b, list_any-append (λ q. eqb q b) used (p ∷ []))

-- the flags tell which places are unused, and then they are set
pub free-is : (ps : List ℕ) (flags : List Bool) (used : List ℕ) → AllByRecursion (λ p. p < length flags) ps → Flags flags used → (are_free ps flags ≡ are_unused used ps) × Flags (with_mapped ps flags) (used ++ ps)
free-is [] flags used within f = (refl, rw append-nil f)
free-is (p ∷ ps) flags used within f =
    let more = free-is ps (set flags p true) (used ++ p ∷ []) (rw length-set within.1) (flags-more flags used p within.0 f) in
    (rw (f p within.0, more.0) refl, rw append_assoc at more.1)

pub length-mapped : (ps : List ℕ) (flags : List Bool) → length (with_mapped ps flags) ≡ length flags
length-mapped [] flags = refl
length-mapped (p ∷ ps) flags = length-mapped ps (set flags p true) ∙ length-set flags p true

last_inode-ge : (n : ℕ) (ls : List Listed) → Ascend (n + 1) ls → n ≤ last_inode n ls
last_inode-ge n [] a = omega arith
last_inode-ge n (l ∷ ls) a = omega (arith, a.0, last_inode-ge l.key.ino ls a.1)

pub last_inode-push : (n : ℕ) (ls : List Listed) (l : Listed) → last_inode n (ls ++ l ∷ []) ≡ l.key.ino
last_inode-push n [] l = refl
last_inode-push n (k ∷ ls) l = last_inode-push k.key.ino ls l

-- an inode above the last one is above that of each file
pub absent : (n ino : ℕ) (ls : List Listed) → Ascend (n + 1) ls → last_inode n ls < ino → has_inode ino ls ≡ false
absent n ino [] a above = refl
absent n ino (l ∷ ls) a above = grind (arith, last_inode-ge l.key.ino ls a.1, absent l.key.ino ino ls a.1 above)

pub put-behind : (n : ℕ) (f : CatalogFile) (fs : List CatalogFile) → Ascend (n + 1) (names_of fs) → last_inode n (names_of fs) < f.key.ino → put_key (λ g. g.key) f fs ≡ fs ++ f ∷ []
put-behind n f [] a above = refl
put-behind n f (g ∷ fs) a above = grind (arith, last_inode-ge g.key.ino (names_of fs) a.1, put-behind g.key.ino f fs a.1 above)

-- so is that of a file behind a front of others
pub above-last : (n : ℕ) (ls : List Listed) (l : Listed) (rest : List Listed) → Ascend (n + 1) (ls ++ l ∷ rest) → last_inode n ls < l.key.ino
above-last n [] l rest a = omega (arith, a.0)
above-last n (k ∷ ls) l rest a = above-last k.key.ino ls l rest a.1
