-- What is held of a file once some of its segments are away.
use Rattle.file_store.proofs.Names.{◌≡◌, inl, inr, ⊎_elim, ℕ, ◌+◌, ◌-◌, ◌*◌, ◌<◌, ◌≤◌, min, List, length, get_or, replicate, Option, Some, None}
use Rattle.file_store.proofs.Names.{refl, sym, ◌∙◌, ap, subst, arith, AllByRecursion, cases_lt, length-replicate, get_or-replicate, written}
use Rattle.file_store.proofs.Names.{length-written, blocks_in, FileKey, find_key, drop_key, affected_held, CatalogFile, Catalog, IsCatalog}
use Rattle.file_store.proofs.Names.{IsCatalogFile, geometry_of, present, with_changed, each-found, bytes_at, block_at, body_at, held_at}
use Rattle.plain_model.specs.Effects.{Punches}
use Rattle.snapshot_text.proofs.ClearedPlaces.{cleared, length-cleared}
use Rattle.file_store.specs.Bodies.{held_by}
use Rattle.file_store.proofs.ByBlocks.{Whole, full, has_bytes, same_body, length-body, written-beside, written-in}
use Rattle.file_store.proofs.EachOf.{each-all, each-weaker}
use Rattle.file_store.proofs.FilesBy.{SameBytes, same_held, by-change}
use Rattle.file_store.proofs.PunchedFiles.{get_or-cleared_in, get_or-cleared_low, get_or-cleared_high, flags-punched, without_segments}
use Rattle.hsm_types.specs.Limits.{block_bytes, segment_bytes, segment_blocks}

-- ---- its bytes, among data blocks

-- zeros stand where the segments were
abbrev pub zeroed : ℕ → ℕ → List ℕ → List ℕ
zeroed from to body = written (segment_bytes * from) (replicate (min (segment_bytes * to) (length body) - segment_bytes * from) 0) body

pub length-zeroed : (from to : ℕ) (body : List ℕ) → segment_bytes * from ≤ length body → length (zeroed from to body) ≡ length body
length-zeroed from to body start = grind (arith, length-written, length-replicate)

module _ (blocks : List ℕ) (from to n : ℕ) (ps : List (Option ℕ)) (body : List ℕ) (end : to ≡ from + n) (start : segment_bytes * from ≤ length body) (whole : AllByRecursion (Whole blocks) (present ps)) (count : length ps ≡ blocks_in (length body)) (was : body_at blocks (length body) ps ≡ body) where
  abbrev zeros : List ℕ
  zeros = replicate (min (segment_bytes * to) (length body) - segment_bytes * from) 0

  many : length zeros ≡ min (segment_bytes * to) (length body) - segment_bytes * from
  many = grind (arith, length-replicate)

  -- the block lies there, as far as the body goes
  abbrev Lies : ℕ → Option ℕ → Type 0
  Lies q p = (length (block_at blocks p) ≡ block_bytes) × ((r : ℕ) → r < block_bytes → block_bytes * q + r < length body → get_or (zeroed from to body) (block_bytes * q + r) 0 ≡ get_or (block_at blocks p) r 0)

  low : (q : ℕ) → q < segment_blocks * from → Lies q (get_or ps q None)
  low q before = (full blocks ps whole q, λ r l h. written-beside (segment_bytes * from) (block_bytes * q + r) zeros body (inl (omega arith)) ∙ has_bytes blocks (length body) ps body whole count was q r l h)

  high : (q : ℕ) → segment_blocks * from + segment_blocks * n ≤ q → Lies q (get_or ps q None)
  high q behind = (full blocks ps whole q, λ r l h. written-beside (segment_bytes * from) (block_bytes * q + r) zeros body (inr (omega (arith, many))) ∙ has_bytes blocks (length body) ps body whole count was q r l h)

  inside : (q : ℕ) → segment_blocks * from ≤ q → q < segment_blocks * from + segment_blocks * n → Lies q None
  inside q above below = (
    length-replicate {A = ℕ} block_bytes 0,
    λ r l h.
        let i : ℕ = block_bytes * q + r - segment_bytes * from in
        written-in (segment_bytes * from) (block_bytes * q + r) i zeros body (omega arith) (omega (arith, many)) ∙ get_or-replicate (min (segment_bytes * to) (length body) - segment_bytes * from) i 0 0 (omega arith) ∙ sym (get_or-replicate block_bytes r 0 0 l),
  )

  lies : (q : ℕ) → Lies q (get_or (cleared (segment_blocks * from) (segment_blocks * n) ps) q None)
  lies q =
      ⊎_elim
      (λ (before : q < segment_blocks * from). subst (Lies q) (sym (get_or-cleared_low (segment_blocks * from) (segment_blocks * n) q ps before)) (low q before))
      (λ (above : segment_blocks * from ≤ q).
      ⊎_elim
      (λ (below : q < segment_blocks * from + segment_blocks * n). subst (Lies q) (sym (get_or-cleared_in (segment_blocks * from) (segment_blocks * n) q ps above below)) (inside q above below))
      (λ (behind : segment_blocks * from + segment_blocks * n ≤ q). subst (Lies q) (sym (get_or-cleared_high (segment_blocks * from) (segment_blocks * n) q ps behind)) (high q behind))
      (cases_lt q (segment_blocks * from + segment_blocks * n)))
      (cases_lt q (segment_blocks * from))

  pub zeroed_at : body_at blocks (length body) (cleared (segment_blocks * from) (segment_blocks * n) ps) ≡ zeroed from to body
  zeroed_at =
      same_body blocks (length body) (cleared (segment_blocks * from) (segment_blocks * n) ps) (zeroed from to body) (length-cleared (segment_blocks * from) (segment_blocks * n) ps ∙ count) (length-zeroed from to body start) (λ q h. (lies q).0) (λ q r l h. (lies q).1 r l h)

-- ---- the file, however bytes are found

pub held-punched : (B C : CatalogFile → List ℕ) (k : FileKey) (from to n : ℕ) (c : Catalog) (f : CatalogFile) → find_key (λ g. g.key) k c.files ≡ Some f → to ≡ from + n → C (without_segments from n f) ≡ zeroed from to (B f)
    → AllByRecursion (SameBytes B C) (drop_key (λ g. g.key) k c.files) → held_by C (with_changed k (without_segments from n) c) ≡ record (held_by B c) { files = affected_held (Punches from to) k (held_by B c).files }
unfolding held_by
held-punched B C k from to n c f found end becomes others = grind (arith, without_segments, flags-punched, same_held, by-change)

-- ---- among data blocks

pub held_at-punched : (blocks : List ℕ) (k : FileKey) (from to n : ℕ) (c : Catalog) (f : CatalogFile) → IsCatalog c → ((p : ℕ) → p < (geometry_of c.geometry).blocks → Whole blocks p) → find_key (λ g. g.key) k c.files ≡ Some f → to ≡ from + n → segment_bytes * from ≤ f.size
    → held_at blocks (with_changed k (without_segments from n) c) ≡ record (held_at blocks c) { files = affected_held (Punches from to) k (held_at blocks c).files }
held_at-punched blocks k from to n c f lawful whole found end start =
    let is : IsCatalogFile (geometry_of c.geometry) f = grind (arith, each-found) in
    let each : AllByRecursion (Whole blocks) (present f.places) = grind (arith, each-weaker, Whole) in
    let body : List ℕ = bytes_at blocks f in
    let long : length body ≡ f.size = length-body blocks f.size f.places each is.places in
    let lay : body_at blocks (length body) f.places ≡ body = ap (λ m. body_at blocks m f.places) long in
    let zeroed_is = zeroed_at blocks from to n f.places body end (omega arith) each (is.places ∙ ap blocks_in (sym long)) lay in
    held-punched (bytes_at blocks) (bytes_at blocks) k from to n c f found end (ap (λ m. body_at blocks m (cleared (segment_blocks * from) (segment_blocks * n) f.places)) (sym long) ∙ zeroed_is) (each-all (SameBytes (bytes_at blocks) (bytes_at blocks)) (λ g. refl) (drop_key (λ g. g.key) k c.files))
