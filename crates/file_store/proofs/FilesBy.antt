-- A catalog's files as they are held, however their bytes are found: what the catalog tells of them, their keys, one that is found, one more, one
-- less and one changed.
use Rattle.file_store.proofs.Names.{map-find, map-put, map-drop, ◌≡◌, ℕ, ◌<◌, ◌≤◌, ◌+◌, List, [], ◌∷◌, length, map, true, cond, Option, Some, None}
use Rattle.file_store.proofs.Names.{refl, sym, ◌∙◌, ap, arith, is_some, IsSome, option_map, unwrap_or, AllByRecursion, fold, sum, sum_by, last_generation}
use Rattle.file_store.proofs.Names.{length-map, FileKey, find_key, change_key, put_key, drop_key, Listed, greatest, named, free_inode, FileState}
use Rattle.file_store.proofs.Names.{Held, used, used_by, next_key, affected_held, CatalogFile, Catalog, IsCatalog, geometry_of, present, blocks_of}
use Rattle.file_store.proofs.Names.{names_in, kept_at, others_total, key_on, with_changed, IsNewFile, total-drop, used-sum, name_of, each-found}
use Rattle.file_store.proofs.Names.{files-few, blocks-few, file_by, told_of, told_held, Shows, IsLawful, Make, held_after, sum-map, Within, Makes}
use Rattle.file_store.proofs.Names.{entry_of, next_listed, free-ge, free-le, free-absent, Geometry}
use Rattle.std.proofs.lemmas.Simd.{map-map}
use Rattle.plain_model.specs.Services.{kept_of, other_attributes}
use Rattle.plain_model.specs.State.{names_of}
use Rattle.snapshot_text.specs.Files.{IsCatalogFile, HasLengths}
use Rattle.meta_store.specs.Catalogs.{AreLengths}
use Rattle.meta_store.specs.Records.{others_stubs}
use Rattle.plain_model.specs.Services.{other_stubs}
use Rattle.file_store.specs.Bodies.{held_by}
use Rattle.file_store.specs.Stores.{IsStubbed, row_of, row_held}
use Rattle.file_store.proofs.EachOf.{each-both}
use Rattle.meta_store.proofs.FileEdits.{sum-drop}
use Rattle.hsm_types.specs.Names.{is_name}
use Rattle.inode_table.proofs.KeysAt.{found-key_at}

abbrev held_of : List FileState → ℕ → Held
held_of files next = record { files = files; next = next }

pub same_held : (a b : List FileState) (m n : ℕ) → a ≡ b → m ≡ n → held_of a m ≡ held_of b n
same_held a b m n files next = rw (files, next) refl

present-flags : (n : ℕ) (ps : List (Option ℕ)) → fold (λ a x. a + cond x 1 0) n (map is_some ps) ≡ n + length (present ps)
present-flags n [] = omega arith
present-flags n (None ∷ ps) = let more = present-flags (n + 0) ps in omega arith
present-flags n (Some at ∷ ps) = let more = present-flags (n + 1) ps in omega arith

greatest-below : (limit next : ℕ) (ls : List Listed) → 1 ≤ next → Within limit next ls → greatest ls < next
greatest-below limit next [] some within = omega arith
greatest-below limit next (l ∷ ls) some within = omega (arith, within.1, greatest-below limit next ls some within.2)

module _ (B : CatalogFile → List ℕ) where
  pub names-held : (c : Catalog) → names_of (held_by B c).files ≡ names_in c.files
  unfolding held_by
  names-held c = map-map _ (file_by B) c.files

  pub next-held : (c : Catalog) → (held_by B c).next ≡ c.next
  unfolding held_by
  next-held c = refl

  pub length-held : (c : Catalog) → length (held_by B c).files ≡ length c.files
  unfolding held_by
  length-held c = length-map c.files (file_by B)

  sum-held : (m : FileState → ℕ) (c : Catalog) → sum_by m (held_by B c).files ≡ sum_by (λ f. m (file_by B f)) c.files
  unfolding held_by
  sum-held m c = sym (sum-map m (map (file_by B) c.files)) ∙ ap sum (map-map m (file_by B) c.files) ∙ sum-map (λ f. m (file_by B f)) c.files

  -- how many blocks one uses, and all of them
  mapped-by : (f : CatalogFile) → used_by (file_by B f) ≡ length (present f.places)
  mapped-by f = omega (arith, present-flags 0 f.places)

  pub used-held : (c : Catalog) → used (held_by B c).files ≡ length (blocks_of c.files)
  used-held c = grind (arith, sum-held, mapped-by, used-sum)

  -- ---- a file that is found

  pub find-held : (k : FileKey) (c : Catalog) → find_key (λ f. f.key) k (held_by B c).files ≡ option_map (file_by B) (find_key (λ f. f.key) k c.files)
  unfolding held_by
  find-held k c = map-find (λ (s : FileState). s.key) (file_by B) k c.files

  some_by : (o : Option CatalogFile) → IsSome (option_map (file_by B) o) → (f : CatalogFile) × (o ≡ Some f)
  some_by None live = cc
  some_by (Some f) live = (f, refl)

  pub live-by : (k : FileKey) (c : Catalog) → IsSome (find_key (λ f. f.key) k (held_by B c).files) → (f : CatalogFile) × (find_key (λ x. x.key) k c.files ≡ Some f)
  live-by k c live = grind (arith, some_by, find-held)

  -- ---- what is kept with a file

  pub kept-held : (c : Catalog) (k : FileKey) → kept_of k (held_by B c).files ≡ kept_at k c
  kept-held c k = grind (arith, find-held k c)

  pub kept-found : (c : Catalog) (k : FileKey) (f : CatalogFile) → find_key (λ x. x.key) k c.files ≡ Some f → kept_of k (held_by B c).files ≡ f.kept
  kept-found c k f found = kept-held c k ∙ rw found refl

  -- what the attributes of the other files count
  pub others-held : (c : Catalog) (k : FileKey) (f : CatalogFile) → find_key (λ x. x.key) k c.files ≡ Some f → other_attributes k (held_by B c).files ≡ others_total k c
  others-held c k f found = grind (arith, sum-held, kept-held, total-drop)

  -- how many stub entries they have
  pub stubs-others : (c : Catalog) (k : FileKey) (f : CatalogFile) → find_key (λ x. x.key) k c.files ≡ Some f → other_stubs k (held_by B c).files ≡ others_stubs k c
  stubs-others c k f found = grind (arith, sum-held, kept-found, sum-drop)

  -- ---- what is true of them all

  told-found : (o : Option CatalogFile) → ((f : CatalogFile) → o ≡ Some f → length (B f) ≡ f.size) → option_map told_of o ≡ option_map told_held (option_map (file_by B) o)
  told-found None sizes = refl
  told-found (Some f) sizes = rw (sizes f refl, mapped-by f) refl

  rows : (fs : List CatalogFile) → AllByRecursion (λ f. length (B f) ≡ f.size) fs → map row_of fs ≡ map row_held (map (file_by B) fs)
  rows [] sizes = refl
  rows (f ∷ fs) sizes = rw (sizes.0, rows fs sizes.1) refl

  rows-held : (c : Catalog) → AllByRecursion (λ f. length (B f) ≡ f.size) c.files → map row_of c.files ≡ map row_held (held_by B c).files
  unfolding held_by
  rows-held c sizes = rows c.files sizes

  pub shows : (c : Catalog) → AllByRecursion (λ f. length (B f) ≡ f.size) c.files → Shows c (held_by B c)
  shows c sizes = grind (arith, next-held, names-held, told-found, each-found, option_map, find-held, rows, rows-held, used-held)

  stubbed : (geometry : Geometry) (f : CatalogFile) → IsCatalogFile geometry f → HasLengths f → length (B f) ≡ f.size → IsStubbed (file_by B f)
  stubbed geometry f is has size = grind (arith, each-both)

  all-stubbed : (geometry : Geometry) (fs : List CatalogFile) → AllByRecursion (IsCatalogFile geometry) fs → AllByRecursion HasLengths fs → AllByRecursion (λ f. length (B f) ≡ f.size) fs → AllByRecursion IsStubbed (map (file_by B) fs)
  all-stubbed geometry [] are has sizes = tt
  all-stubbed geometry (f ∷ fs) are has sizes = (stubbed geometry f are.0 has.0 sizes.0, all-stubbed geometry fs are.1 has.1 sizes.1)

  stubs-held : (c : Catalog) → IsCatalog c → AreLengths c → AllByRecursion (λ f. length (B f) ≡ f.size) c.files → AllByRecursion IsStubbed (held_by B c).files
  unfolding held_by
  stubs-held c is has sizes = all-stubbed (geometry_of c.geometry) c.files is.each has sizes

  pub held_lawful : (c : Catalog) → IsCatalog c → AreLengths c → AllByRecursion (λ f. length (B f) ≡ f.size) c.files → IsLawful (geometry_of c.geometry).files (held_by B c)
  held_lawful c is has sizes = grind (arith, names-held, next-held, greatest-below, length-held, files-few, stubs-held)

  -- no more blocks are used than there are
  pub used_few : (c : Catalog) → IsCatalog c → used (held_by B c).files ≤ (geometry_of c.geometry).blocks
  used_few c is = rw (used-held c) (blocks-few c is)

-- a change of a file to itself
pub change-none : {F : Type 0} (key : F → FileKey) (k : FileKey) (fs : List F) → change_key key k (λ f. f) fs ≡ fs
change-none key k [] = refl
change-none key k (f ∷ fs) = grind (arith, change-none key k fs)

-- one that goes by what it makes of the file that is found
pub change-found : {F : Type 0} (key : F → FileKey) (k : FileKey) (a b : F → F) (f : F) (fs : List F) → find_key key k fs ≡ Some f → a f ≡ b f → change_key key k a fs ≡ change_key key k b fs
change-found key k a b f [] found same = refl
change-found key k a b f (x ∷ fs) found same = grind (arith, same, change-found key k a b f fs)

change-twice : (k : FileKey) (f g h : CatalogFile → CatalogFile) (fs : List CatalogFile) → ((x : CatalogFile) → (f x).key ≡ x.key) → ((x : CatalogFile) → g (f x) ≡ h x)
    → change_key (λ x. x.key) k g (change_key (λ x. x.key) k f fs) ≡ change_key (λ x. x.key) k h fs
change-twice k f g h [] key is = refl
change-twice k f g h (x ∷ fs) key is = grind (arith, key x, is x, change-twice k f g h fs key is)

-- the same of a catalog
module _ (k : FileKey) where
  pub changed-none : (c : Catalog) → with_changed k (λ f. f) c ≡ c
  changed-none c = grind (arith, change-none)

  pub changed-found : (a b : CatalogFile → CatalogFile) (f : CatalogFile) (c : Catalog) → find_key (λ x. x.key) k c.files ≡ Some f → a f ≡ b f → with_changed k a c ≡ with_changed k b c
  changed-found a b f c found same = grind (arith, change-found)

  pub changed-twice : (f g h : CatalogFile → CatalogFile) (c : Catalog) → ((x : CatalogFile) → (f x).key ≡ x.key) → ((x : CatalogFile) → g (f x) ≡ h x) → with_changed k g (with_changed k f c) ≡ with_changed k h c
  changed-twice f g h c key is = grind (arith, change-twice)

-- ---- edits, after which the bytes are found otherwise, but not those of the other files

module _ (B C : CatalogFile → List ℕ) where
  -- the file has the same bytes
  abbrev pub SameBytes : CatalogFile → Type 0
  SameBytes f = C f ≡ B f

  pub by-same : (fs : List CatalogFile) → AllByRecursion SameBytes fs → map (file_by C) fs ≡ map (file_by B) fs
  by-same [] same = refl
  by-same (f ∷ fs) same = rw (same.0, by-same fs same.1) refl

  pub by-put : (g : CatalogFile) (fs : List CatalogFile) → AllByRecursion SameBytes fs → map (file_by C) (put_key (λ f. f.key) g fs) ≡ put_key (λ f. f.key) (file_by C g) (map (file_by B) fs)
  by-put g fs same = map-put (λ (s : FileState). s.key) (file_by C) g fs ∙ ap (put_key (λ s. s.key) (file_by C g)) (by-same fs same)

  pub by-drop : (k : FileKey) (fs : List CatalogFile) → AllByRecursion SameBytes (drop_key (λ f. f.key) k fs) → map (file_by C) (drop_key (λ f. f.key) k fs) ≡ drop_key (λ f. f.key) k (map (file_by B) fs)
  by-drop k fs same = by-same (drop_key (λ f. f.key) k fs) same ∙ map-drop (λ (s : FileState). s.key) (file_by B) k fs

  -- where the change of the found file and of its bytes is that change of what is held of it
  pub by-change : (k : FileKey) (to : CatalogFile → CatalogFile) (into : FileState → FileState) (f : CatalogFile) (fs : List CatalogFile) → find_key (λ x. x.key) k fs ≡ Some f → file_by C (to f) ≡ into (file_by B f)
      → AllByRecursion SameBytes (drop_key (λ x. x.key) k fs) → map (file_by C) (change_key (λ x. x.key) k to fs) ≡ change_key (λ x. x.key) k into (map (file_by B) fs)
  by-change k to into f fs found is same = walk fs found (by-same (drop_key (λ x. x.key) k fs) same)
    where
      walk : (gs : List CatalogFile) → find_key (λ x. x.key) k gs ≡ Some f → map (file_by C) (drop_key (λ x. x.key) k gs) ≡ map (file_by B) (drop_key (λ x. x.key) k gs) → map (file_by C) (change_key (λ x. x.key) k to gs) ≡ change_key (λ x. x.key) k into (map (file_by B) gs)
      walk [] there others = cc
      walk (e ∷ gs) there others = grind (arith, is, walk gs)

  -- ---- the same of what is held

  pub held-same : (c : Catalog) → AllByRecursion SameBytes c.files → held_by C c ≡ held_by B c
  unfolding held_by
  held-same c same = rw (by-same c.files same) refl

-- ---- the key of a live file is the one at its inode

pub key_on-live : (c : Catalog) (k : FileKey) (f : CatalogFile) → IsCatalog c → find_key (λ x. x.key) k c.files ≡ Some f → key_on k.ino c ≡ k
key_on-live c k f is found =
    let listed = map-find (λ (l : Listed). l.key) name_of k c.files ∙ ap (option_map name_of) found in
    ap (λ (o : Option FileKey). unwrap_or o (record { ino = k.ino; igen = 0 })) (found-key_at 1 k (name_of f) (names_in c.files) is.table.ascend listed)

-- ---- the next file

-- the lowest free inode, with the next generation
abbrev pub key_next : Catalog → FileKey
key_next c = record { ino = free_inode 1 (names_in c.files); igen = c.next }

pub next-listed : (limit : ℕ) (c : Catalog) (k : FileKey) → k ≡ next_listed (record { limit = limit; next = c.next; files = map (λ f. entry_of f.key f.name f.size) c.files }) → k ≡ key_next c
next-listed limit c k is = grind (arith, map-map)

module _ (B : CatalogFile → List ℕ) (c : Catalog) where
  pub next-key_held : key_next c ≡ next_key (held_by B c)
  next-key_held = rw (names-held B c, next-held B c) refl

  pub new-file : (name : List ℕ) → IsCatalog c → is_name name ≡ true → named name (names_of (held_by B c).files) ≡ None → (length (held_by B c).files ≡ (geometry_of c.geometry).files → ⊥) → c.next < last_generation → IsNewFile (key_next c) name c
  new-file name is lawful free left early = grind (arith, files-few, length-map, free-le, names-held, free-ge, length-held, free-absent)

-- what is held after a new file
pub held-made : (h : Held) (k : FileKey) (name : List ℕ) → k ≡ next_key h → held_after k (Make k name) h ≡ record { files = affected_held (Makes name) (next_key h) h.files; next = h.next + 1 }
held-made h k name is = grind arith
