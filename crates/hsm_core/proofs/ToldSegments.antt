-- What is told of the segments of a file, and of all files.
use Rattle.std.proofs.Common.{◌≡◌, ◌+◌, ◌*◌, ℕ, zero, suc, List, [], ◌∷◌, ◌++◌, length, take, drop, map, Bool, true, false, Option, Some, None}
use Rattle.std.proofs.Common.{cond, refl, sym, ◌∙◌, ap, subst, arith}
use Rattle.std.specs.List.{fold}
use Rattle.std.specs.Prelude.{count_by, is_some, if◌then◌else◌, slice_get}
use Rattle.std.specs.Option.{option_map}
use Rattle.hsm_types.specs.Limits.{segment_blocks}
use Rattle.hsm_types.specs.Segments.{from_on}
use Rattle.hsm_types.specs.Stubs.{Stubs, stub_at}
use Rattle.hsm_types.specs.declared.keys.FileKey.{FileKey}
use Rattle.hsm_types.specs.declared.stubs.Segment.{Segment}
use Rattle.hsm_types.specs.Keyed.{same_key, find_key}
use Rattle.hsm_types.specs.declared.stores.Superblock.{Superblock}
use Rattle.hsm_types.specs.declared.tables.FileRow.{FileRow}
use Rattle.plain_model.specs.Segments.{segment_as, segments_told}
use Rattle.plain_model.specs.Segments.{row_of as row_told}
use Rattle.plain_model.specs.State.{FileState, Held, file_or_new, file_at}
use Rattle.std.proofs.lemmas.List.{take-map, drop-map, map-append}
use Rattle.snapshot_text.specs.Files.{CatalogFile, present, places_in_segment}
use Rattle.snapshot_text.specs.declared.file_parts.FileParts.{FileParts}
use Rattle.snapshot_text.specs.Parts.{parts_of}
use Rattle.meta_store.specs.Catalogs.{Catalog}
use Rattle.file_store.specs.Stores.{Row, row_of, row_held, Shows}
use Rattle.hsm_core.specs.Services.{IsMadeOf}

-- ---- the segments of a file

-- what is told of a segment, by the places of the file's blocks and its entries
abbrev pub told_at : List (Option ℕ) → Stubs → ℕ → Segment
told_at places stubs j = segment_as (count_by (λ b. b) (take segment_blocks (drop (segment_blocks * j) (map is_some places)))) (stub_at j stubs)

one_more : {A : Type 0} (to : ℕ → A) (a n : ℕ) → map to (from_on a (n + 1)) ≡ map to (from_on a n) ++ to (a + n) ∷ []
one_more to a n = ap (λ m. map to (from_on a m)) (let is : n + 1 ≡ suc n = omega arith in is) ∙ by a n
  where
    by : (a n : ℕ) → map to (from_on a (suc n)) ≡ map to (from_on a n) ++ to (a + n) ∷ []
    by a zero = ap (λ m. to m ∷ []) (let is : a ≡ a + zero = omega arith in is)
    by a (suc n) = ap (λ rest. to a ∷ rest) (by (a + 1) n ∙ ap (λ m. map to (from_on (a + 1) n) ++ to m ∷ []) (let is : a + 1 + n ≡ a + suc n = omega arith in is))

-- the segments up to the next one
pub next_told : {A : Type 0} (to : ℕ → A) (n : ℕ) → map to (from_on 0 (n + 1)) ≡ map to (from_on 0 n) ++ to n ∷ []
next_told to n = one_more to 0 n ∙ ap (λ m. map to (from_on 0 n) ++ to m ∷ []) (let at : 0 + n ≡ n = omega arith in at)

-- ---- a file that the catalog lists

pub made_of_row : (c : CatalogFile) (f : FileState) → row_of c ≡ row_held f → IsMadeOf c.size c.places c.kept.stubs f
made_of_row c f same = record { size = sym (ap (λ (r : Row). r.size) same); mapped = sym (ap (λ (r : Row). r.mapped) same); stubs = sym (ap (λ (r : Row). r.kept.stubs) same) }

abbrev pub BothFound : Option CatalogFile → Option FileState → Type 0
BothFound None None = Unit {0}
BothFound (Some c) (Some f) = row_of c ≡ row_held f
BothFound c f = ⊥

found_first : (j k : FileKey) (c : CatalogFile) (f : FileState) (p : Option CatalogFile) (q : Option FileState) → j ≡ k → row_of c ≡ row_held f → BothFound p q → (w : FileKey) → BothFound (if same_key j w then Some c else p) (if same_key k w then Some f else q)
found_first j k c f p q keys same later w = subst (λ x. BothFound (if same_key j w then Some c else p) (if same_key x w then Some f else q)) keys (by (same_key j w))
  where
    by : (b : Bool) → BothFound (if b then Some c else p) (if b then Some f else q)
    by true = same
    by false = later

rows_found : (cs : List CatalogFile) (fs : List FileState) (k : FileKey) → map row_of cs ≡ map row_held fs → BothFound (find_key (λ c. c.key) k cs) (find_key (λ f. f.key) k fs)
rows_found [] [] k same = tt
rows_found [] (f ∷ fs) k same = absurd cc
rows_found (c ∷ cs) [] k same = absurd cc
rows_found (c ∷ cs) (f ∷ fs) k same =
    let first : row_of c ≡ row_held f = cc in
    let rest : map row_of cs ≡ map row_held fs = cc in
    found_first c.key f.key c f (find_key (λ c. c.key) k cs) (find_key (λ f. f.key) k fs) (ap (λ (r : Row). r.key) first) first (rows_found cs fs k rest) k

-- by what the catalog lends of the file
pub made_of_parts : (c : Catalog) (h : Held) (k : FileKey) (x : FileParts) → Shows c h → Some x ≡ option_map parts_of (find_key (λ f. f.key) k c.files)
    → IsMadeOf (length (file_at k h.files).body) x.places x.stubs (file_at k h.files)
made_of_parts c h k x shows lent = by (find_key (λ f. f.key) k c.files) (find_key (λ f. f.key) k h.files) (rows_found c.files h.files k shows.rows) lent
  where
    by : (o : Option CatalogFile) (p : Option FileState) → BothFound o p → Some x ≡ option_map parts_of o → IsMadeOf (length (file_or_new k p).body) x.places x.stubs (file_or_new k p)
    by None p both lent = absurd cc
    by (Some f) None both lent = absurd both
    by (Some f) (Some g) both lent =
        let at : x ≡ parts_of f = cc in
        let made = made_of_row f g both in
        record { size = refl; mapped = made.mapped ∙ ap (λ (p : FileParts). map is_some p.places) (sym at); stubs = made.stubs ∙ ap (λ (p : FileParts). p.stubs) (sym at) }

-- ---- the list of all files

-- the file of a place in the catalog is that of the same place among those held
pub row_at : (cs : List CatalogFile) (fs : List FileState) (i : ℕ) (c : CatalogFile) → map row_of cs ≡ map row_held fs → slice_get cs i ≡ Some c → (f : FileState) × (row_of c ≡ row_held f) × (take (i + 1) fs ≡ take i fs ++ f ∷ [])
row_at [] fs i c same is = absurd cc
row_at (x ∷ cs) [] i c same is = absurd cc
row_at (x ∷ cs) (f ∷ fs) zero c same is = (f, (let first : row_of x ≡ row_held f = cc in let at : x ≡ c = cc in ap row_of (sym at) ∙ first), refl)
row_at (x ∷ cs) (f ∷ fs) (suc i) c same is =
    let rest : map row_of cs ≡ map row_held fs = cc in
    let found = row_at cs fs i c rest is in
    (found.0, found.1, (ap (λ n. take n (f ∷ fs)) (let more : suc i + 1 ≡ suc (i + 1) = omega arith in more) ∙ ap (λ r. f ∷ r) found.2))

-- ---- the blocks of a segment

-- as many have a place as are mapped
length-present : (places : List (Option ℕ)) → length (present places) ≡ count_by (λ b. b) (map is_some places)
length-present places = omega (arith, from 0 places)
  where
    from : (n : ℕ) (places : List (Option ℕ)) → fold (λ a x. a + cond x 1 0) n (map is_some places) ≡ n + length (present places)
    from n [] = omega arith
    from n (None ∷ places) = let more = from (n + 0) places in omega arith
    from n (Some at ∷ places) = let more = from (n + 1) places in omega arith

pub mapped_places : (j : ℕ) (places : List (Option ℕ)) → length (present (places_in_segment j places)) ≡ count_by (λ b. b) (take segment_blocks (drop (segment_blocks * j) (map is_some places)))
mapped_places j places =
    length-present (places_in_segment j places)
    ∙ ap (λ bs. count_by (λ b. b) bs) (sym (take-map is_some segment_blocks (drop (segment_blocks * j) places)) ∙ ap (take segment_blocks) (sym (drop-map is_some (segment_blocks * j) places)))

-- with the row of that file after those of the files before it
pub row_more : {A : Type 0} (to : FileState → A) (fs : List FileState) (i : ℕ) (f : FileState) (rows more : List A) (row : A) → more ≡ rows ++ row ∷ [] → rows ≡ map to (take i fs) → row ≡ to f → take (i + 1) fs ≡ take i fs ++ f ∷ []
    → more ≡ map to (take (i + 1) fs)
row_more to fs i f rows more row put before same is = put ∙ (λ j. before j ++ same j ∷ []) ∙ sym (map-append to (take i fs) (f ∷ [])) ∙ ap (map to) (sym is)

pub row_same : (super : Superblock) (stamps : FileKey → ℕ) (c : CatalogFile) (f : FileState) (row : FileRow) → row_of c ≡ row_held f → row.handle ≡ record { fsid = super.fsid; key = c.key } → row.size ≡ c.size → row.stamp ≡ stamps c.key → row.segments ≡ segments_told f
    → row ≡ row_told super stamps f
row_same super stamps c f row same handle size stamp segments =
    let key : c.key ≡ f.key = ap (λ (r : Row). r.key) same in
    let handles : row.handle ≡ record { fsid = super.fsid; key = f.key } = handle ∙ (λ i. record { fsid = super.fsid; key = key i }) in
    let sizes : row.size ≡ length f.body = size ∙ ap (λ (r : Row). r.size) same in
    let stamped : row.stamp ≡ stamps f.key = stamp ∙ ap stamps key in
    λ i. record { handle = handles i; size = sizes i; stamp = stamped i; segments = segments i }
