-- Lists of files after one more, one less and one changed: their names, sums over them, and what is true of each.
use Rattle.std.proofs.Common.{◌≡◌, ℕ, ◌+◌, List, [], ◌∷◌, length, map, Some, refl, arith}
use Rattle.std.specs.List.{AllByRecursion, sum_by}
use Rattle.std.specs.Option.{option_map}
use Rattle.std.proofs.lemmas.Bool.{cond_both}
use Rattle.std.proofs.lemmas.List.Concat.{length-flat_map}
use Rattle.std.proofs.lemmas.List.Sums.{sum_by-cons}
use Rattle.hsm_types.specs.Attributes.{bytes_of_attributes}
use Rattle.hsm_types.specs.declared.keys.FileKey.{FileKey}
use Rattle.hsm_types.specs.Keyed.{same_key, find_key, change_key, put_key, drop_key}
use Rattle.plain_model.specs.Plain.{Listed}
use Rattle.snapshot_text.specs.Files.{CatalogFile, present}
use Rattle.meta_store.specs.Catalogs.{names_of, blocks_of, attribute_total}
use Rattle.snapshot_text.proofs.BlockUses.{uses, uses-append}

module _ {F G : Type 0} (key : G → FileKey) (v : F → G) where
  pub map-put : (g : F) (fs : List F) → map v (put_key (λ f. key (v f)) g fs) ≡ put_key key (v g) (map v fs)
  map-put g [] = refl
  map-put g (f ∷ fs) = grind (arith, map-put g fs)

  pub map-drop : (k : FileKey) (fs : List F) → map v (drop_key (λ f. key (v f)) k fs) ≡ drop_key key k (map v fs)
  map-drop k [] = refl
  map-drop k (f ∷ fs) = grind (arith, map-drop k fs)

  pub map-find : (k : FileKey) (fs : List F) → find_key key k (map v fs) ≡ option_map v (find_key (λ f. key (v f)) k fs)
  map-find k [] = refl
  map-find k (f ∷ fs) = grind (arith, map-find k fs)

  pub map-change : (k : FileKey) (to : F → F) (fs : List F) → ((f : F) → v (to f) ≡ v f) → map v (change_key (λ f. key (v f)) k to fs) ≡ map v fs
  map-change k to [] same = refl
  map-change k to (f ∷ fs) same = grind (arith, same f, map-change k to fs same)

-- the key and the name of a file
abbrev pub name_of : CatalogFile → Listed
name_of f = record { key = f.key; name = f.name }

pub names_of-drop : (k : FileKey) (fs : List CatalogFile) → names_of (drop_key (λ f. f.key) k fs) ≡ drop_key (λ l. l.key) k (names_of fs)
names_of-drop k fs = map-drop (λ (l : Listed). l.key) name_of k fs

pub names_of-change : (k : FileKey) (to : CatalogFile → CatalogFile) (fs : List CatalogFile) → ((f : CatalogFile) → name_of (to f) ≡ name_of f) → names_of (change_key (λ f. f.key) k to fs) ≡ names_of fs
names_of-change k to fs same = map-change (λ (l : Listed). l.key) name_of k to fs same

module _ (m : CatalogFile → ℕ) where
  pub sum-put : (g : CatalogFile) (fs : List CatalogFile) → sum_by m (put_key (λ f. f.key) g fs) ≡ m g + sum_by m fs
  sum-put g [] = sum_by-cons m g []
  sum-put g (f ∷ fs) = grind (arith, sum_by-cons m f fs, sum_by-cons m g (f ∷ fs), sum_by-cons m f (put_key (λ x. x.key) g fs), sum-put g fs)

  pub sum-drop : (k : FileKey) (g : CatalogFile) (fs : List CatalogFile) → find_key (λ f. f.key) k fs ≡ Some g → sum_by m (drop_key (λ f. f.key) k fs) + m g ≡ sum_by m fs
  sum-drop k g [] found = cc
  sum-drop k g (f ∷ fs) found = grind (arith, sum_by-cons m f fs, sum_by-cons m f (drop_key (λ x. x.key) k fs), sum-drop k g fs)

  pub sum-change : (k : FileKey) (to : CatalogFile → CatalogFile) (g : CatalogFile) (fs : List CatalogFile) → find_key (λ f. f.key) k fs ≡ Some g → sum_by m (change_key (λ f. f.key) k to fs) + m g ≡ sum_by m fs + m (to g)
  sum-change k to g [] found = cc
  sum-change k to g (f ∷ fs) found = grind (arith, sum_by-cons m f fs, sum_by-cons m (to f) fs, sum_by-cons m f (change_key (λ x. x.key) k to fs), sum-change k to g fs)

abbrev pub count_of : CatalogFile → ℕ
count_of f = bytes_of_attributes f.kept.attributes

abbrev pub stubs_of : CatalogFile → ℕ
stubs_of f = length f.kept.stubs

abbrev pub mapped_of : CatalogFile → ℕ
mapped_of f = length (present f.places)

abbrev pub uses_of : ℕ → CatalogFile → ℕ
uses_of n f = uses n (present f.places)

pub used-sum : (fs : List CatalogFile) → length (blocks_of fs) ≡ sum_by mapped_of fs
used-sum fs = length-flat_map (λ (f : CatalogFile). present f.places) fs

pub uses-sum : (n : ℕ) (fs : List CatalogFile) → uses n (blocks_of fs) ≡ sum_by (uses_of n) fs
uses-sum n [] = refl
uses-sum n (f ∷ fs) = omega (arith, uses-append n (present f.places) (blocks_of fs), uses-sum n fs, sum_by-cons (uses_of n) f fs)

pub total-drop : (k : FileKey) (g : CatalogFile) (fs : List CatalogFile) → find_key (λ f. f.key) k fs ≡ Some g → attribute_total (drop_key (λ f. f.key) k fs) + count_of g ≡ attribute_total fs
total-drop k g fs found = sum-drop count_of k g fs found

-- where the file keeps its places
pub blocks-change : (k : FileKey) (to : CatalogFile → CatalogFile) (fs : List CatalogFile) → ((f : CatalogFile) → (to f).places ≡ f.places) → blocks_of (change_key (λ f. f.key) k to fs) ≡ blocks_of fs
blocks-change k to [] same = refl
blocks-change k to (f ∷ fs) same = grind (arith, same f, blocks-change k to fs same)

module _ (P : CatalogFile → Type 0) where
  pub each-put : (g : CatalogFile) (fs : List CatalogFile) → P g → AllByRecursion P fs → AllByRecursion P (put_key (λ f. f.key) g fs)
  each-put g [] p h = (p, tt)
  each-put g (f ∷ fs) p h = grind (arith, p, h.0, h.1, each-put g fs p h.1)

  pub each-drop : (k : FileKey) (fs : List CatalogFile) → AllByRecursion P fs → AllByRecursion P (drop_key (λ f. f.key) k fs)
  each-drop k [] h = tt
  each-drop k (f ∷ fs) h = grind (arith, h.0, h.1, each-drop k fs h.1)

  -- where it stays true of the file that is found
  pub each-changed : (k : FileKey) (to : CatalogFile → CatalogFile) (fs : List CatalogFile) → ((f : CatalogFile) → find_key (λ g. g.key) k fs ≡ Some f → P f → P (to f)) → AllByRecursion P fs → AllByRecursion P (change_key (λ f. f.key) k to fs)
  each-changed k to [] keeps h = tt
  each-changed k to (f ∷ fs) keeps h =
      cond_both (same_key f.key k) (to f ∷ fs) (f ∷ change_key (λ x. x.key) k to fs) (AllByRecursion P) (λ same. (keeps f (rw same refl) h.0, h.1)) (λ other. (h.0, each-changed k to fs (λ g is. keeps g (rw other is)) h.1))

  pub each-change : (k : FileKey) (to : CatalogFile → CatalogFile) (fs : List CatalogFile) → ((f : CatalogFile) → P f → P (to f)) → AllByRecursion P fs → AllByRecursion P (change_key (λ f. f.key) k to fs)
  each-change k to fs keeps h = each-changed k to fs (λ f is. keeps f) h

pub ruleset found_steps = (map-find)
