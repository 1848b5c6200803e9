-- Stub entries of a snapshot, one after the other.
use Rattle.std.proofs.Common.{◌≡◌, ℕ, ◌+◌, ◌-◌, ◌*◌, ◌<◌, List, [], ◌∷◌, ◌++◌, length, min, take, drop, length-drop, Option, Some, None, true, refl, arith}
use Rattle.std.specs.List.{AllByRecursion}
use Rattle.std.specs.List.Sorted.{IsStrictlySortedBy}
use Rattle.std.specs.Map.{keys_of}
use Rattle.std.specs.Ordering.{nat_cmp}
use Rattle.std.specs.declared.cmp.Ordering.TheVariants.{Less}
use Rattle.std.proofs.lemmas.List.{drop_min, take_min}
use Rattle.hsm_types.specs.Limits.{segment_blocks}
use Rattle.hsm_types.specs.declared.stubs.Stub.{Stub}
use Rattle.hsm_types.specs.declared.regions.Region.{Region}
use Rattle.hsm_types.specs.Segments.{segment_len}
use Rattle.hsm_types.specs.Stubs.{Stubs, stub_at, with_stub, punched, FitsFile, entry_print}
use Rattle.snapshot_text.specs.Files.{CatalogFile, NumbersFit, HasNoBlocks, IsCatalogStub, HasLengths, places_in_segment}
use Rattle.snapshot_text.specs.FileValidity.{is_above, AreLawfulStubs}
use Rattle.snapshot_text.proofs.EachOf.{all-both, all-parts, each-as, each-and}

abbrev pub AreBelow : ℕ → Stubs → Type 0
AreBelow j stubs = AllByRecursion (λ x. x.0 < j) stubs

-- the segments above that one are those above the entries'
abbrev pub IsEnd : Option ℕ → Stubs → Type 0
IsEnd before stubs = (j : ℕ) → (is_above before j ≡ true → AreBelow j stubs) × (AreBelow j stubs → is_above before j ≡ true)

pub below-none : (j : ℕ) (stubs : Stubs) → AreBelow j stubs → stub_at j stubs ≡ None
below-none j [] below = refl
below-none j (x ∷ stubs) below = grind (arith, below.0, below-none j stubs below.1)

pub goes-last : (j : ℕ) (stub : Stub) (stubs : Stubs) → AreBelow j stubs → with_stub j stub stubs ≡ stubs ++ (j, stub) ∷ []
goes-last j stub [] below = refl
goes-last j stub (x ∷ stubs) below = grind (arith, below.0, goes-last j stub stubs below.1)

pub last-at : (j : ℕ) (stub : Stub) (stubs : Stubs) → AreBelow j stubs → stub_at j (stubs ++ (j, stub) ∷ []) ≡ Some stub
last-at j stub [] below = grind arith
last-at j stub (x ∷ stubs) below = grind (arith, below.0, last-at j stub stubs below.1)

pub punched-last : (j : ℕ) (stub : Stub) (stubs : Stubs) → AreBelow j stubs → punched j (j + 1) (stubs ++ (j, stub) ∷ []) ≡ stubs ++ (j, record stub { offline = true }) ∷ []
punched-last j stub [] below = grind arith
punched-last j stub (x ∷ stubs) below = grind (arith, below.0, punched-last j stub stubs below.1)

pub ruleset last_steps = (below-none, goes-last, last-at, punched-last)

pub ends-more : (j : ℕ) (stub : Stub) (stubs : Stubs) → AreBelow j stubs → IsEnd (Some j) (stubs ++ (j, stub) ∷ [])
ends-more j stub stubs below k = (
  λ above. all-both (λ x. x.0 < k) stubs ((j, stub) ∷ []) (each-as (λ x. x.0 < j) (λ x. x.0 < k) stubs (λ x low. grind arith) below) (grind arith, tt),
  λ all. let last = (all-parts (λ x. x.0 < k) stubs ((j, stub) ∷ []) all).1.0 in grind arith,
)

-- the places of the segment, cut at the end of the places
pub segment-window : (j from to : ℕ) (places : List (Option ℕ)) → from ≡ min (length places) (segment_blocks * j) → to ≡ min (length places) (from + segment_blocks) → take (to - from) (drop from places) ≡ places_in_segment j places
segment-window j from to places first last =
    let front = drop_min (segment_blocks * j) places in
    let back = take_min segment_blocks (drop (segment_blocks * j) places) in
    let at : from ≡ min (segment_blocks * j) (length places) = omega arith in
    let size : to - from ≡ min segment_blocks (length (drop (segment_blocks * j) places)) = omega (arith, length-drop (segment_blocks * j) places) in
    rw (size, at, front) back

pub ruleset window = (segment-window)

key-at : (P : ℕ → Type 0) (front : Stubs) (x : ℕ × Stub) (rest : Stubs) → AllByRecursion P (keys_of (front ++ x ∷ rest)) → P x.0
key-at P [] x rest all = all.0
key-at P (y ∷ front) x rest all = key-at P front x rest all.1

front-below : (front : Stubs) (x : ℕ × Stub) (rest : Stubs) → IsStrictlySortedBy nat_cmp (keys_of (front ++ x ∷ rest)) → AreBelow x.0 front
unfolding IsStrictlySortedBy
front-below [] x rest ascend = tt
front-below (y ∷ front) x rest ascend = (let less = key-at (λ k. nat_cmp y.0 k ≡ Less) front x rest ascend.0 in grind arith, front-below front x rest ascend.1)

-- it is one that the file may have, and stands above them
pub lawful-at : (size : ℕ) (regions : List Region) (places : List (Option ℕ)) (front : Stubs) (x : ℕ × Stub) (rest : Stubs) (before : Option ℕ) → AreLawfulStubs size regions places (front ++ x ∷ rest) → IsEnd before front
    → (FitsFile size regions x × HasNoBlocks places x) × (is_above before x.0 ≡ true)
lawful-at size regions places front x rest before are ends =
    (((all-parts (FitsFile size regions) front (x ∷ rest) are.fit.each).1.0, (all-parts (HasNoBlocks places) front (x ∷ rest) are.away).1.0), (ends x.0).1 (front-below front x rest are.fit.ascend))

pub stubs-tell : (f : CatalogFile) (stubs : Stubs) → AllByRecursion (FitsFile f.size f.kept.regions) stubs → AllByRecursion (HasNoBlocks f.places) stubs → AllByRecursion NumbersFit stubs → AllByRecursion (IsCatalogStub f) stubs
stubs-tell f [] fit away numbers = tt
stubs-tell f (x ∷ stubs) fit away numbers = (record { fits = record { start = fit.0.start; len = refl; volume = fit.0.volume; covered = fit.0.covered }; away = away.0; numbers = numbers.0 }, stubs-tell f stubs fit.1 away.1 numbers.1)

pub stubs-pass : (f : CatalogFile) → IsStrictlySortedBy nat_cmp (keys_of f.kept.stubs) → AllByRecursion (IsCatalogStub f) f.kept.stubs → HasLengths f → AreLawfulStubs f.size f.kept.regions f.places f.kept.stubs
stubs-pass f ascend each long = record {
  fit = record {
    ascend = ascend;
    each = each-as _ (FitsFile f.size f.kept.regions) f.kept.stubs (λ x is.
        record { start = is.0.fits.start; len = is.1; volume = is.0.fits.volume; covered = is.0.fits.covered }) (each-and (IsCatalogStub f) (λ x. (entry_print x.1.entry).len ≡ segment_len f.size x.0) f.kept.stubs each long);
  };
  away = each-as (IsCatalogStub f) (HasNoBlocks f.places) f.kept.stubs (λ x is. is.away) each;
}
