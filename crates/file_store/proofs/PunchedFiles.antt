-- A file without some of its segments: its places, and its stub entries.
use Rattle.std.proofs.Common.{◌≡◌, ℕ, zero, suc, ◌+◌, ◌-◌, ◌*◌, ◌<◌, ◌≤◌, List, [], ◌∷◌, ◌++◌, length, take, drop, map, get_or, Bool, true, false}
use Rattle.std.proofs.Common.{Option, Some, None, refl, arith, append_assoc}
use Rattle.std.specs.Prelude.{replicate, min, is_some}
use Rattle.std.specs.List.{AllByRecursion}
use Rattle.std.specs.Map.{keys_of}
use Rattle.std.proofs.lemmas.List.{length-map}
use Rattle.hsm_types.specs.Limits.{segment_blocks}
use Rattle.hsm_types.specs.Stubs.{Stubs, moved, punched}
use Rattle.hsm_types.specs.declared.stubs.Stub.{Stub}
use Rattle.hsm_types.specs.declared.stubs.StubEntry.{StubEntry}
use Rattle.plain_model.specs.Blocks.{with_holes}
use Rattle.snapshot_text.specs.Files.{CatalogFile, present}
use Rattle.snapshot_text.proofs.BlockUses.{uses}
use Rattle.snapshot_text.proofs.ClearedPlaces.{cleared}

-- ---- places

-- blocks that are cleared one stretch after the other
pub cleared-on : (m a n k b : ℕ) (ps : List (Option ℕ)) → k ≡ m + a → b ≡ a + n → cleared k n (cleared m a ps) ≡ cleared m b ps
cleared-on m a n k b [] at all = refl
cleared-on zero zero n k b (p ∷ ps) at all = grind arith
cleared-on zero (suc a) n zero b (p ∷ ps) at all = absurd (omega arith)
cleared-on zero (suc a) n (suc k) zero (p ∷ ps) at all = absurd (omega arith)
cleared-on zero (suc a) n (suc k) (suc b) (p ∷ ps) at all = grind (arith, cleared-on zero a n k b ps (omega arith) (omega arith))
cleared-on (suc m) a n zero b (p ∷ ps) at all = absurd (omega arith)
cleared-on (suc m) a n (suc k) b (p ∷ ps) at all = grind (arith, cleared-on m a n k b ps (omega arith) all)

-- each place stays or is freed
pub uses-freed : (b m n : ℕ) (ps : List (Option ℕ)) → uses b (present ps) ≡ uses b (present (take n (drop m ps))) + uses b (present (cleared m n ps))
uses-freed b zero zero [] = refl
uses-freed b zero (suc n) [] = refl
uses-freed b (suc m) zero [] = refl
uses-freed b (suc m) (suc n) [] = refl
uses-freed b zero zero (p ∷ ps) = omega arith
uses-freed b zero (suc n) (None ∷ ps) = uses-freed b zero n ps
uses-freed b zero (suc n) (Some a ∷ ps) = omega (arith, uses-freed b zero n ps)
uses-freed b (suc m) n (None ∷ ps) = uses-freed b m n ps
uses-freed b (suc m) n (Some a ∷ ps) = omega (arith, uses-freed b m n ps)

pub each-freed : (P : ℕ → Type 0) (m n : ℕ) (ps : List (Option ℕ)) → AllByRecursion P (present ps) → AllByRecursion P (present (take n (drop m ps)))
each-freed P zero zero ps each = tt
each-freed P zero (suc n) [] each = tt
each-freed P zero (suc n) (None ∷ ps) each = each-freed P zero n ps each
each-freed P zero (suc n) (Some a ∷ ps) each = (each.0, each-freed P zero n ps each.1)
each-freed P (suc m) zero [] each = tt
each-freed P (suc m) (suc n) [] each = tt
each-freed P (suc m) n (None ∷ ps) each = each-freed P m n ps each
each-freed P (suc m) n (Some a ∷ ps) each = each-freed P m n ps each.1

pub get_or-cleared_in : (m n i : ℕ) (ps : List (Option ℕ)) → m ≤ i → i < m + n → get_or (cleared m n ps) i None ≡ None
get_or-cleared_in m n i [] from to = refl
get_or-cleared_in zero zero i (p ∷ ps) from to = absurd (omega arith)
get_or-cleared_in zero (suc n) zero (p ∷ ps) from to = refl
get_or-cleared_in zero (suc n) (suc i) (p ∷ ps) from to = get_or-cleared_in zero n i ps (omega arith) (omega arith)
get_or-cleared_in (suc m) n zero (p ∷ ps) from to = absurd (omega arith)
get_or-cleared_in (suc m) n (suc i) (p ∷ ps) from to = get_or-cleared_in m n i ps (omega arith) (omega arith)

pub get_or-cleared_low : (m n i : ℕ) (ps : List (Option ℕ)) → i < m → get_or (cleared m n ps) i None ≡ get_or ps i None
get_or-cleared_low m n i [] low = refl
get_or-cleared_low zero n i (p ∷ ps) low = absurd (omega arith)
get_or-cleared_low (suc m) n zero (p ∷ ps) low = refl
get_or-cleared_low (suc m) n (suc i) (p ∷ ps) low = get_or-cleared_low m n i ps (omega arith)

pub get_or-cleared_high : (m n i : ℕ) (ps : List (Option ℕ)) → m + n ≤ i → get_or (cleared m n ps) i None ≡ get_or ps i None
get_or-cleared_high m n i [] high = refl
get_or-cleared_high zero zero i (p ∷ ps) high = refl
get_or-cleared_high zero (suc n) zero (p ∷ ps) high = absurd (omega arith)
get_or-cleared_high zero (suc n) (suc i) (p ∷ ps) high = get_or-cleared_high zero n i ps (omega arith)
get_or-cleared_high (suc m) n zero (p ∷ ps) high = absurd (omega arith)
get_or-cleared_high (suc m) n (suc i) (p ∷ ps) high = get_or-cleared_high m n i ps (omega arith)

-- their flags, which go past the end as far as the blocks do
flags-cleared : (m n k holes : ℕ) (ps : List (Option ℕ)) → k ≡ m + n → holes ≡ min k (length ps) - m → map is_some (cleared m n ps) ≡ take m (map is_some ps) ++ (replicate holes false ++ drop k (map is_some ps))
flags-cleared zero n zero zero [] end is = refl
flags-cleared zero n (suc k) zero [] end is = refl
flags-cleared (suc m) n zero zero [] end is = refl
flags-cleared (suc m) n (suc k) zero [] end is = refl
flags-cleared m n k (suc holes) [] end is = absurd (omega arith)
flags-cleared zero zero k holes (p ∷ ps) end is = grind arith
flags-cleared zero (suc n) zero holes (p ∷ ps) end is = absurd (omega arith)
flags-cleared zero (suc n) (suc k) zero (p ∷ ps) end is = absurd (omega arith)
flags-cleared zero (suc n) (suc k) (suc holes) (p ∷ ps) end is = grind (arith, flags-cleared zero n k holes ps (omega arith) (omega arith))
flags-cleared (suc m) n zero holes (p ∷ ps) end is = absurd (omega arith)
flags-cleared (suc m) n (suc k) holes (p ∷ ps) end is = grind (arith, flags-cleared m n k holes ps (omega arith) (omega arith))

pub flags-punched : (from to n : ℕ) (ps : List (Option ℕ)) → to ≡ from + n → map is_some (cleared (segment_blocks * from) (segment_blocks * n) ps) ≡ with_holes from to (map is_some ps)
flags-punched from to n ps end = grind (arith, flags-cleared, length-map, append_assoc)

-- ---- entries

pub keys-moved : (offline : Bool) (from to : ℕ) (stubs : Stubs) → keys_of (moved offline from to stubs) ≡ keys_of stubs
keys-moved offline from to [] = refl
keys-moved offline from to (x ∷ rest) = grind (arith, keys-moved offline from to rest)

pub moved-nothing : (offline : Bool) (from to : ℕ) (stubs : Stubs) → to ≤ from → moved offline from to stubs ≡ stubs
moved-nothing offline from to [] none = refl
moved-nothing offline from to (x ∷ rest) none = grind (arith, moved-nothing offline from to rest none)

-- segments that are moved one after the other
pub moved-on : (offline : Bool) (from to : ℕ) (stubs : Stubs) → from + 1 ≤ to → moved offline (from + 1) to (moved offline from (from + 1) stubs) ≡ moved offline from to stubs
moved-on offline from to [] more = refl
moved-on offline from to (x ∷ rest) more = grind (arith, moved-on offline from to rest more)

-- what goes by the segment and its entry alone stays true
pub each-moved : (P : ℕ → StubEntry → Type 0) (offline : Bool) (from to : ℕ) (stubs : Stubs) → AllByRecursion (λ (x : ℕ × Stub). P x.0 x.1.entry) stubs → AllByRecursion (λ (x : ℕ × Stub). P x.0 x.1.entry) (moved offline from to stubs)
each-moved P offline from to [] each = tt
each-moved P offline from to (x ∷ rest) each = grind (arith, each-moved P offline from to rest each.1)

-- ---- the file

-- n segments from the first number on are away
abbrev pub without_segments : ℕ → ℕ → CatalogFile → CatalogFile
without_segments from n f = record f { places = cleared (segment_blocks * from) (segment_blocks * n) f.places; kept = record f.kept { stubs = punched from (from + n) f.kept.stubs } }
