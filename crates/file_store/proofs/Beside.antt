-- Blocks written to their places, one after the other, and what that leaves of what recovery finds, and of the other data blocks.
use Rattle.file_store.proofs.Names.{◌≡◌, ⊎_elim, ℕ, ◌+◌, ◌*◌, ◌<◌, ◌≤◌, ◌^◌, ◌==◌, true, false, List, length, sym, ◌∙◌, ap, subst, arith, zero, suc}
use Rattle.file_store.proofs.Names.{[], ◌∷◌, ◌++◌, map, get_or, take, refl, AllByRecursion, list_any, false≢true, false_from_ne_true}
use Rattle.file_store.proofs.Names.{All-from_recursion, part, IsFreed, IsWritten, Keeps, All-has, Layout, IsApart, Catalog, blocks_of, IsCatalog}
use Rattle.file_store.proofs.Names.{Holds, Meta, Backs, held_at, block_of, IsBesideBlocks, places_of, HasBlocks, length-map, map-append, Mapping}
use Rattle.file_store.proofs.Names.{mappings_of, Distinct, Ghosts}
use Rattle.disk_model.proofs.Parts.{part_part, length-part}
use Rattle.commit_slots.specs.Places.{layout_of}
use Rattle.snapshot_text.specs.Files.{geometry_of}
use Rattle.meta_store.specs.Images.{blocks_in_image}
use Rattle.meta_store.proofs.BesideBlocks.{IsSameBelow, image_beside}
use Rattle.file_store.proofs.DataBlocks.{Stays, held-stays}
use Rattle.file_store.proofs.EachOf.{each-all, each-weaker, each_other, each-at, each-both, each-join, each-mapped, each-parts}
use Rattle.file_store.proofs.Marks.{NoneOf, used-within}
use Rattle.hsm_types.specs.Limits.{block_bytes}

-- ---- where the data blocks lie, and how many there are

pub record IsRoom (l : Layout) (blocks : ℕ) : Type 0 where
  pub len : l.blocks_len ≡ block_bytes * blocks
  pub fits : l.blocks + l.blocks_len ≤ l.whole
  pub short : l.whole ≤ 287318016

pub room : (geometry : ℕ) → IsRoom (layout_of geometry) (geometry_of geometry).blocks
unfolding layout_of geometry_of
room geometry = grind arith

-- a data block lies on the disk
pub block_fits : (geometry place : ℕ) → place < (geometry_of geometry).blocks → ((layout_of geometry).blocks + block_bytes * place + block_bytes ≤ (layout_of geometry).whole) × ((layout_of geometry).whole ≤ 287318016)
block_fits geometry place within = let h = room geometry in (omega arith, omega arith)

pub blocks_low : (geometry : ℕ) → (layout_of geometry).blocks < 2 ^ 32
blocks_low geometry = let h = room geometry in omega arith

pub blocks_fit : (geometry len : ℕ) → len ≡ (layout_of geometry).whole → (ps : List ℕ) → AllByRecursion (λ p. p < (geometry_of geometry).blocks) ps → AllByRecursion (λ p. (layout_of geometry).blocks + block_bytes * p + block_bytes ≤ len) ps
blocks_fit geometry len whole = each-weaker (λ p. p < (geometry_of geometry).blocks) (λ p. (layout_of geometry).blocks + block_bytes * p + block_bytes ≤ len) (λ p within. let fits = (block_fits geometry p within).0 in omega (arith, whole))

-- different blocks are apart
pub blocks_apart : (base p q : ℕ) → (p ≡ q → ⊥) → IsApart (base + block_bytes * p) block_bytes (base + block_bytes * q) block_bytes
blocks_apart base p q other = grind arith

-- ---- a block among the data blocks

pub block_in : (geometry : ℕ) (c : List ℕ) (p : ℕ) → p < (geometry_of geometry).blocks → part (blocks_in_image geometry c) (block_bytes * p) block_bytes ≡ part c ((layout_of geometry).blocks + block_bytes * p) block_bytes
unfolding blocks_in_image
block_in geometry c p h = grind (arith, room, part_part)

pub length-block : (geometry : ℕ) (c : List ℕ) (p : ℕ) → p < (geometry_of geometry).blocks → length c ≡ (layout_of geometry).whole → length (part (blocks_in_image geometry c) (block_bytes * p) block_bytes) ≡ block_bytes
length-block geometry c p h whole = ap length (block_in geometry c p h) ∙ length-part c ((layout_of geometry).blocks + block_bytes * p) block_bytes (omega (arith, (block_fits geometry p h).0))

-- a block in use is none of the places that no file uses
apart_of : (places blocks : List ℕ) (p : ℕ) → NoneOf places blocks → list_any (λ q. q == p) blocks ≡ true → list_any (λ q. q == p) places ≡ false
apart_of places blocks p none used = false_from_ne_true _ (λ there. false≢true (sym (All-has (λ q. list_any (λ b. b == q) blocks ≡ false) places p (All-from_recursion _ places none) there) ∙ used))

-- ---- one image beside another

module _ (geometry : ℕ) (places : List ℕ) (d c : List ℕ) (beside : IsBesideBlocks (layout_of geometry).blocks places d c) where
  below : IsSameBelow (layout_of geometry).blocks d c
  below a k h = grind (arith, each-all)

  pub holds_beside : (m : Meta) → m.durable.geometry ≡ geometry → Holds m.fsid m.place m.number m.durable d → Holds m.fsid m.place m.number m.durable c
  holds_beside m same is = image_beside geometry m.fsid m.place m.number m.durable d c same beside.size below is

  -- the blocks that a catalog's files use stay
  pub used_stay : (x : Catalog) → x.geometry ≡ geometry → IsCatalog x → NoneOf places (blocks_of x.files) → (p : ℕ) → list_any (λ q. q == p) (blocks_of x.files) ≡ true → Stays (blocks_in_image geometry d) (blocks_in_image geometry c) p
  used_stay x same lawful none p used =
      let base = (layout_of geometry).blocks in
      let h : p < (geometry_of geometry).blocks = subst (λ (z : ℕ). p < (geometry_of z).blocks) same (used-within x lawful p used) in
      let others = each-weaker (λ q. p ≡ q → ⊥) (λ q. IsApart (base + block_bytes * p) block_bytes (base + block_bytes * q) block_bytes) (λ q other. blocks_apart base p q other) places (each_other p places (apart_of places (blocks_of x.files) p none used)) in
      block_in geometry c p h ∙ beside.same (base + block_bytes * p) block_bytes others ∙ sym (block_in geometry d p h)

  pub held_beside : (x : Catalog) → x.geometry ≡ geometry → IsCatalog x → NoneOf places (blocks_of x.files) → held_at (blocks_in_image geometry c) x ≡ held_at (blocks_in_image geometry d) x
  held_beside x same lawful none = held-stays (blocks_in_image geometry d) (blocks_in_image geometry c) x (used_stay x same lawful none)

pub backs_beside : {D : Type 0} (g : Ghosts D) (old new : D) (geometry : ℕ) (places : List ℕ) (m : Meta) → Keeps g old new (IsBesideBlocks (layout_of geometry).blocks places) → m.durable.geometry ≡ geometry → Backs g old m → Backs g new m
backs_beside g old new geometry places m keeps same backs = record {
  length = keeps.moments.length ∙ backs.length;
  image = λ c may. let p = keeps.now c may in holds_beside geometry places p.0 c p.2 m same (backs.image p.0 p.1);
}

-- ---- lists of mappings

-- their blocks, and their places
pub mapped : (bs ps : List ℕ) → length ps ≡ length bs → (map (λ m. m.block) (mappings_of bs ps) ≡ bs) × (places_of (mappings_of bs ps) ≡ ps)
mapped [] [] long = (refl, refl)
mapped [] (p ∷ ps) long = absurd (omega arith)
mapped (b ∷ bs) [] long = absurd (omega arith)
mapped (b ∷ bs) (p ∷ ps) long = grind (arith, mapped bs ps (omega arith))

pub length-mapped : (bs ps : List ℕ) → length ps ≡ length bs → length (mappings_of bs ps) ≡ length bs
length-mapped bs ps long = sym (length-map (mappings_of bs ps) (λ m. m.block)) ∙ ap length (mapped bs ps long).0

-- the block and the place that stand there
pub mapping_at : (bs ps : List ℕ) (k : ℕ) (d : Mapping) → length ps ≡ length bs → k < length bs → get_or (mappings_of bs ps) k d ≡ record { block = get_or bs k 0; place = get_or ps k 0 }
mapping_at [] ps k d long h = absurd (omega arith)
mapping_at (b ∷ bs) [] k d long h = absurd (omega arith)
mapping_at (b ∷ bs) (p ∷ ps) zero d long h = refl
mapping_at (b ∷ bs) (p ∷ ps) (suc k) d long h = mapping_at bs ps k d (omega arith) (omega arith)

-- where places are distinct, those before the k-th aren't that one
pub before : (ms : List Mapping) (k : ℕ) (d : Mapping) → Distinct (places_of ms) → k < length ms → AllByRecursion (λ m. m.place ≡ (get_or ms k d).place → ⊥) (take k ms)
before [] k d apart h = absurd (omega arith)
before (m ∷ ms) zero d apart h = tt
before (m ∷ ms) (suc k) d apart h = (
  each-at (λ (n : Mapping). m.place ≡ n.place → ⊥) ms k d (omega arith) (each-mapped (λ p. m.place ≡ p → ⊥) (λ (n : Mapping). n.place) ms (each_other m.place (places_of ms) apart.0)),
  before ms k d apart.1 (omega arith),
)

-- ---- images

-- what a write to one of the places keeps
pub beside_freed : (base : ℕ) (places : List ℕ) (k : ℕ) → k < length places → (old new : List ℕ) → IsFreed (base + block_bytes * get_or places k 0) block_bytes old new → IsBesideBlocks base places old new
beside_freed base places k h old new f = grind (arith, each-at)

-- a block of the body lies there
abbrev IsThere : ℕ → List ℕ → List ℕ → Mapping → Type 0
IsThere base body c m = part c (base + block_bytes * m.place) block_bytes ≡ block_of body m.block

-- one block more
pub has_more : (base : ℕ) (body : List ℕ) (ms : List Mapping) (m : Mapping) → AllByRecursion (λ n. n.place ≡ m.place → ⊥) ms → length (block_of body m.block) ≡ block_bytes
    → (old mid new : List ℕ) → HasBlocks base body ms old mid → IsWritten (base + block_bytes * m.place) (block_of body m.block) mid new → HasBlocks base body (ms ++ m ∷ []) old new
has_more base body ms m others long old mid new has w =
    let freed : IsFreed (base + block_bytes * m.place) block_bytes mid new = grind arith in
    let kept : (n : Mapping) → (n.place ≡ m.place → ⊥) → IsThere base body mid n → IsThere base body new n =
    λ n other there. grind (arith, blocks_apart) in
    let here : IsThere base body new m = grind arith in
    record {
      beside = record {
        size = freed.size ∙ has.beside.size;
        same = λ a n all.
            let sides = each-parts (λ p. IsApart a n (base + block_bytes * p) block_bytes) (places_of ms) (m.place ∷ []) (subst (AllByRecursion (λ p. IsApart a n (base + block_bytes * p) block_bytes)) (map-append (λ (x : Mapping). x.place) ms (m ∷ [])) all) in
            ⊎_elim (freed.below a n) (freed.above a n) sides.1.0 ∙ has.beside.same a n sides.0;
      };
      there = grind (arith, each-join, each-both);
    }
