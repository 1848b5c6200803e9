-- Bodies that are made segment by segment, read block by block, and put by inode, one after the other in the order of the files.
use Rattle.file_store.proofs.Names.{Bool, false, if◌then◌else◌, replicate, ◌/◌, refl, true, false≢true, ◌≡◌, ◌⊎◌, inl, inr, ⊎_elim, ℕ, ◌+◌, ◌-◌, ◌*◌}
use Rattle.file_store.proofs.Names.{◌<◌, ◌≤◌, List, [], length, get_or, take, Option, Some, None, sym, ◌∙◌, ap, subst, arith, zero, suc, ◌∷◌, ◌++◌}
use Rattle.file_store.proofs.Names.{map, set, get_or-set_same, get_or-set_other, AllByRecursion, cases_lt, cases_eq, places, length-replicate, min}
use Rattle.file_store.proofs.Names.{get_or-replicate, get_or-take, take_more, length-map, written, blocks_in, part, layout_of, geometry_of, present}
use Rattle.file_store.proofs.Names.{Geometry, CatalogFile, Catalog, IsCatalog, IsCatalogFile, names_of, blocks_in_image, OnlyReads, block_at, body_at}
use Rattle.file_store.proofs.Names.{body_with, HeldBody, is_away, slice_get_within, get_or_from_slice_get, Table, entry_of, Ghosts}
use Rattle.std.specs.List.{slice_get}
use Rattle.std.specs.Prelude.{◌==◌, ◌&&◌, nat_lt, IfSome}
use Rattle.std.proofs.lemmas.Bool.{lt-ltb}
use Rattle.std.proofs.lemmas.List.{replicate-append-replicate}
use Rattle.hsm_types.specs.Limits.{block_bytes, segment_bytes, segment_blocks}
use Rattle.hsm_types.specs.Stubs.{Stubs, stub_at, is_offline, offline_at}
use Rattle.hsm_types.specs.declared.stubs.Stub.{Stub as StubOf}
use Rattle.snapshot_text.specs.Files.{IsCatalogStub}
use Rattle.snapshot_text.proofs.ClearedPlaces.{away-at}
use Rattle.snapshot_text.proofs.StubLists.{each-at as stub-each}
use Rattle.file_store.proofs.Beside.{length-block}
use Rattle.file_store.proofs.ByBlocks.{HasBytes, Whole, full, at_place, same_body, written-beside, written-in}
use Rattle.file_store.proofs.EachOf.{each-weaker, each-both, each-join, each-there}
use Rattle.file_store.proofs.WithBodies.{each-above, each-within}
use Rattle.inode_table.specs.Listing.{Ascend}

-- one read after another
pub reads_on : {D : Type 0} (g : Ghosts D) (a b c : D) → OnlyReads g a b → OnlyReads g b c → OnlyReads g a c
reads_on g a b c first second = grind arith

pub present-at : (P : ℕ → Type 0) (ps : List (Option ℕ)) (i p : ℕ) → AllByRecursion P (present ps) → get_or ps i None ≡ Some p → P p
present-at P ps i p all at = at_place P (λ o. (q : ℕ) → o ≡ Some q → P q) (λ q none. absurd cc) (λ n here q is. let it : n ≡ q = cc in subst P it here) ps i all p at

pub no_bytes : (blocks : List ℕ) (size : ℕ) → HasBytes blocks size [] (replicate size 0)
no_bytes blocks size q r l h = let none : get_or (replicate size 0) (block_bytes * q + r) 0 ≡ 0 = grind (arith, places) in none ∙ sym (get_or-replicate block_bytes r 0 0 l)

-- a hole
pub hole-more : (blocks : List ℕ) (size : ℕ) (ps : List (Option ℕ)) (i : ℕ) (body : List ℕ) → i < length ps → get_or ps i None ≡ None → HasBytes blocks size (take i ps) body → HasBytes blocks size (take (i + 1) ps) body
hole-more blocks size ps i body within hole has q r l h =
    let same : get_or (take i ps) q None ≡ get_or (take (i + 1) ps) q None = grind (arith, places) in
    has q r l h ∙ ap (λ (p : Option ℕ). get_or (block_at blocks p) r 0) same

-- a block from the disk
pub block-more : (blocks : List ℕ) (size : ℕ) (ps : List (Option ℕ)) (i p start : ℕ) (old new : List ℕ) → i < length ps → get_or ps i None ≡ Some p → length (part blocks (block_bytes * p) block_bytes) ≡ block_bytes → start ≡ block_bytes * i → length old ≡ size → start < size
    → new ≡ written start (take (length old - start) (part blocks (block_bytes * p) block_bytes)) old → HasBytes blocks size (take i ps) old → HasBytes blocks size (take (i + 1) ps) new
block-more blocks size ps i p start old new within at whole begins long before is has q r l h =
    let k : ℕ = block_bytes * q + r in
    let block : List ℕ = part blocks (block_bytes * p) block_bytes in
    let piece : List ℕ = take (length old - start) block in
    ap (λ (b : List ℕ). get_or b k 0) is
    ∙ ⊎_elim
    (λ (same : q ≡ i).
    let next : get_or (take (i + 1) ps) q None ≡ Some p = grind (arith, places) in
    written-in start k r piece old (omega arith) (grind (arith, places)) ∙ get_or-take (length old - start) block r 0 (omega arith) ∙ sym (ap (λ (x : Option ℕ). get_or (block_at blocks x) r 0) next))
    (λ (other : q ≡ i → ⊥).
    let apart : (k < start) ⊎ (start + length piece ≤ k) = grind (arith, inl, inr, places, cases_lt) in
    let stays : get_or (take (i + 1) ps) q None ≡ get_or (take i ps) q None = grind (arith, places) in
    written-beside start k piece old apart ∙ has q r l h ∙ sym (ap (λ (x : Option ℕ). get_or (block_at blocks x) r 0) stays))
    (cases_eq q i)

-- all blocks
pub all-filled : (geometry size : ℕ) (c : List ℕ) (ps : List (Option ℕ)) (body : List ℕ) → length c ≡ (layout_of geometry).whole → AllByRecursion (λ p. p < (geometry_of geometry).blocks) (present ps) → length ps ≡ blocks_in size → length body ≡ size
    → HasBytes (blocks_in_image geometry c) size ps body → body ≡ body_at (blocks_in_image geometry c) size ps
all-filled geometry size c ps body whole within count long has =
    let blocks = blocks_in_image geometry c in
    let all : AllByRecursion (Whole blocks) (present ps) = grind (arith, each-weaker, Whole, length-block) in
    sym (same_body blocks size ps body count long (λ q h. full blocks ps all q) has)

-- ---- entries

-- the segments of a lawful file's entries begin within it
pub stub-starts : (geometry : Geometry) (f : CatalogFile) → IsCatalogFile geometry f → AllByRecursion (λ x. segment_bytes * x.0 < f.size) f.kept.stubs
stub-starts geometry f is = grind (arith, each-weaker)

pub offline-some : (o : Option StubOf) → is_offline o ≡ true → (stub : StubOf) × (o ≡ Some stub) × (stub.offline ≡ true)
offline-some None off = absurd (false≢true off)
offline-some (Some stub) off = (stub, refl, off)

-- the entry has what is true of each
pub entry-has : (P : ℕ × StubOf → Type 0) (j : ℕ) (stubs : Stubs) → AllByRecursion P stubs → IfSome (stub_at j stubs) (λ stub. P (j, stub))
entry-has P j stubs all = grind (arith, stub-each)

-- what is offline begins within the file
pub offline-start : (size j : ℕ) (stubs : Stubs) → AllByRecursion (λ x. segment_bytes * x.0 < size) stubs → offline_at stubs j ≡ true → segment_bytes * j < size
offline-start size j stubs starts off = grind (arith, offline-some, stub-each)

-- ---- segments that come one after the other, in memory or away

-- one more of them
pub shaped-more : (stubs : Stubs) (old new : HeldBody) (n i : ℕ) → n ≡ i → ((j : ℕ) → is_away old j ≡ (offline_at stubs j && nat_lt j i)) → ((j : ℕ) → is_away new j ≡ (if j == n then offline_at stubs i else is_away old j))
    → (j : ℕ) → is_away new j ≡ (offline_at stubs j && nat_lt j (i + 1))
shaped-more stubs old new n i at was is j = grind arith

-- of so many zeros
pub zeros-more : (size i end : ℕ) (old new : List ℕ) → segment_bytes * i < size → end ≡ min size (segment_bytes * (i + 1)) → old ≡ replicate (min size (segment_bytes * i)) 0 → new ≡ old ++ replicate (end - length old) 0 → new ≡ replicate (min size (segment_bytes * (i + 1))) 0
zeros-more size i end old new more at was is = grind (arith, length-replicate, replicate-append-replicate)

-- all of them
pub shaped-all : (stubs : Stubs) (size i j : ℕ) → AllByRecursion (λ x. segment_bytes * x.0 < size) stubs → size ≤ segment_bytes * i → (offline_at stubs j && nat_lt j i) ≡ offline_at stubs j
shaped-all stubs size i j starts end = grind (arith, lt-ltb, offline-start)

-- a segment that is resized with all before
pub within-all : (away : Bool) (j size : ℕ) → (away ≡ true → segment_bytes * j < size) → (away && nat_lt (segment_bytes * j) size) ≡ away
within-all true j size starts = lt-ltb (segment_bytes * j) size (starts refl)
within-all false j size starts = refl

-- and those that are offline have no blocks
pub offline-holes : (geometry : Geometry) (f : CatalogFile) → IsCatalogFile geometry f → (i : ℕ) → offline_at f.kept.stubs (i / segment_blocks) ≡ true → get_or f.places i None ≡ None
offline-holes geometry f is i off =
    let at = offline-some (stub_at (i / segment_blocks) f.kept.stubs) off in
    away-at segment_blocks (segment_blocks * (i / segment_blocks)) f.places ((stub-each (IsCatalogStub f) f.kept.stubs (i / segment_blocks) at.0 is.stubs at.1).away at.2) i (omega arith) (omega arith)

-- ---- by inode

-- the table of a catalog has as many names
pub listed-count : (n : ℕ) (limit : ℕ) (c : Catalog) (t : Table) → t ≡ record { limit = limit; next = c.next; files = map (λ f. entry_of f.key f.name f.size) c.files } → n ≡ length t.files → n ≡ length c.files
listed-count n limit c t is count = grind (arith, length-map)

-- the inodes of these files are from 1 on and below that one
abbrev pub AreBelow : ℕ → List CatalogFile → Type 0
AreBelow ino files = AllByRecursion (λ g. (1 ≤ g.key.ino) × (g.key.ino < ino)) files

before-at : (low i : ℕ) (f : CatalogFile) (fs : List CatalogFile) → 1 ≤ low → Ascend low (names_of fs) → slice_get fs i ≡ Some f → AreBelow f.key.ino (take i fs)
before-at low i f [] from a at = cc
before-at low zero f (g ∷ fs) from a at = tt
before-at low (suc i) f (g ∷ fs) from a at =
    let here = a.0 in
    let above = each-there (λ (x : CatalogFile). g.key.ino + 1 ≤ x.key.ino) fs i f (each-above (g.key.ino + 1) fs a.1) at in
    ((omega arith, omega arith), before-at (g.key.ino + 1) i f fs (omega arith) a.1 at)

-- what is true of the file that comes next
pub record IsNext (c : Catalog) (i : ℕ) (f : CatalogFile) : Type 0 where
  pub low : 1 ≤ f.key.ino
  pub high : f.key.ino ≤ (geometry_of c.geometry).files
  pub before : AreBelow f.key.ino (take i c.files)
  pub lawful : IsCatalogFile (geometry_of c.geometry) f
  pub more : take (i + 1) c.files ≡ take i c.files ++ f ∷ []

pub next-file : (c : Catalog) (i : ℕ) (f : CatalogFile) → IsCatalog c → slice_get c.files i ≡ Some f → IsNext c i f
next-file c i f is at = record {
  low = grind (arith, each-there, each-above);
  high = grind (arith, each-there, each-within);
  before = grind (arith, before-at);
  lawful = grind (arith, each-there);
  more = take_more c.files i f (slice_get_within c.files i f at) ∙ ap (λ (g : CatalogFile). take i c.files ++ g ∷ []) (get_or_from_slice_get c.files i f f at);
}

-- What is true of each file and its body stays so, since the bodies of lower inodes stay, and is true of one file more.
pub each-more : (P : CatalogFile → HeldBody → Type 0) (c : Catalog) (i : ℕ) (f : CatalogFile) (bodies : List HeldBody) (body : HeldBody) → IsNext c i f → length bodies ≡ (geometry_of c.geometry).files → P f body → AllByRecursion (λ g. P g (body_with bodies g)) (take i c.files)
    → AllByRecursion (λ g. P g (body_with (set bodies (f.key.ino - 1) body) g)) (take (i + 1) c.files)
each-more P c i f bodies body is count here are = grind (arith, get_or-set_same, get_or-set_other, each-join, each-both)
