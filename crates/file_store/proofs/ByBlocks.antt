-- A body by its blocks: where each byte stands, and which body the blocks at other places give.
use Rattle.file_store.proofs.Names.{rules, ◌≡◌, ◌⊎◌, inl, inr, ⊎_elim, ℕ, zero, suc, ◌+◌, ◌-◌, ◌*◌, ◌/◌, ◌%◌, ◌<◌, ◌≤◌, List, [], ◌∷◌, ◌++◌, length}
use Rattle.file_store.proofs.Names.{map, get_or, take, drop, set, Option, Some, None, refl, sym, ◌∙◌, ap, subst, arith, length-append, length-take}
use Rattle.file_store.proofs.Names.{length-set, get_or-set_same, get_or-set_other, replicate, flat_map, AllByRecursion, cases_eq, ext_get_or}
use Rattle.file_store.proofs.Names.{length-replicate, get_or-take, get_or_append_left, get_or-append_right, places, part, written, blocks_in}
use Rattle.file_store.proofs.Names.{Mapping, present, places_fitted, places_set, block_at}
use Rattle.file_store.specs.Bodies.{body_at}
use Rattle.hsm_types.specs.Limits.{block_bytes}

-- ---- places

-- what is true of the block of a hole, and of each block that is present
pub at_place : (P : ℕ → Type 0) (Q : Option ℕ → Type 0) → Q None → ((p : ℕ) → P p → Q (Some p)) → (ps : List (Option ℕ)) (q : ℕ) → AllByRecursion P (present ps) → Q (get_or ps q None)
at_place P Q none some [] q all = none
at_place P Q none some (None ∷ ps) zero all = none
at_place P Q none some (None ∷ ps) (suc q) all = at_place P Q none some ps q all
at_place P Q none some (Some p ∷ ps) zero all = some p all.0
at_place P Q none some (Some p ∷ ps) (suc q) all = at_place P Q none some ps q all.1

-- the place of a block after mappings: that of a mapping, or the one before
pub after_set : (Q : Option ℕ → Type 0) (q : ℕ) (ms : List Mapping) (ps : List (Option ℕ)) → q < length ps → AllByRecursion (λ m. m.block ≡ q → Q (Some m.place)) ms
    → (AllByRecursion (λ b. b ≡ q → ⊥) (map (λ m. m.block) ms) → Q (get_or ps q None)) → Q (get_or (places_set ms ps) q None)
after_set Q q [] ps h there before = before tt
after_set Q q (m ∷ ms) ps h there before =
    let long : length (set ps m.block (Some m.place)) ≡ length ps = length-set ps m.block (Some m.place) in
    after_set Q q ms (set ps m.block (Some m.place)) (omega arith) there.1 (λ others.
    ⊎_elim
    (λ (e : m.block ≡ q). subst Q (sym (ap (λ (i : ℕ). get_or (set ps i (Some m.place)) q None) e ∙ get_or-set_same ps q (Some m.place) None h)) (there.0 e))
    (λ (n : m.block ≡ q → ⊥). subst Q (sym (get_or-set_other ps m.block q (Some m.place) None (λ e. n (sym e)))) (before (n, others)))
    (cases_eq m.block q))

-- a new size leaves the places of the blocks that stay
pub get_or-fitted : (size q : ℕ) (ps : List (Option ℕ)) → q < blocks_in size → get_or (places_fitted size ps) q None ≡ get_or ps q None
get_or-fitted size q ps h = grind (arith, places)

-- ---- blocks one after the other

module _ (blocks : List ℕ) where
  -- as far as the body goes, its bytes are those of the blocks at these places, and zeros where there is none
  abbrev pub HasBytes : ℕ → List (Option ℕ) → List ℕ → Type 0
  HasBytes size ps body = (q r : ℕ) → r < block_bytes → block_bytes * q + r < size → get_or body (block_bytes * q + r) 0 ≡ get_or (block_at blocks (get_or ps q None)) r 0

  -- the block has its bytes
  abbrev pub Whole : ℕ → Type 0
  Whole p = length (part blocks (block_bytes * p) block_bytes) ≡ block_bytes

  abbrev Full : List (Option ℕ) → Type 0
  Full ps = (q : ℕ) → q < length ps → length (block_at blocks (get_or ps q None)) ≡ block_bytes

  pub full : (ps : List (Option ℕ)) → AllByRecursion Whole (present ps) → (q : ℕ) → length (block_at blocks (get_or ps q None)) ≡ block_bytes
  full ps whole q = at_place Whole (λ p. length (block_at blocks p) ≡ block_bytes) (length-replicate {A = ℕ} block_bytes 0) (λ p is. is) ps q whole

  length-blocks : (ps : List (Option ℕ)) → Full ps → length (flat_map (block_at blocks) ps) ≡ block_bytes * length ps
  length-blocks [] all = refl
  length-blocks (p ∷ ps) all =
      let first = all zero (omega arith) in
      let rest = length-blocks ps (λ i h. all (suc i) (omega arith)) in
      omega (arith, length-append (block_at blocks p) (flat_map (block_at blocks) ps))

  -- byte r of block q
  byte-blocks : (ps : List (Option ℕ)) → Full ps → (q r : ℕ) → q < length ps → r < block_bytes → get_or (flat_map (block_at blocks) ps) (block_bytes * q + r) 0 ≡ get_or (block_at blocks (get_or ps q None)) r 0
  byte-blocks [] all q r h l = absurd (omega arith)
  byte-blocks (p ∷ ps) all zero r h l =
      let first = all zero (omega arith) in
      let here : block_bytes * zero + r ≡ r = omega arith in
      ap (λ i. get_or (block_at blocks p ++ flat_map (block_at blocks) ps) i 0) here ∙ get_or_append_left (block_at blocks p) (flat_map (block_at blocks) ps) 0 r (omega arith)
  byte-blocks (p ∷ ps) all (suc q) r h l =
      let there : block_bytes * suc q + r - block_bytes ≡ block_bytes * q + r = omega arith in
      get_or-append_right (block_at blocks p) (flat_map (block_at blocks) ps) block_bytes (block_bytes * suc q + r) 0 (all zero (omega arith)) (omega arith)
      ∙ ap (λ i. get_or (flat_map (block_at blocks) ps) i 0) there
      ∙ byte-blocks ps (λ i g. all (suc i) (omega arith)) q r (omega arith) l

  -- where each has its bytes, they are a body
  pub same_body : (size : ℕ) (ps : List (Option ℕ)) (body : List ℕ) → length ps ≡ blocks_in size → length body ≡ size → Full ps
      → ((q r : ℕ) → r < block_bytes → block_bytes * q + r < size → get_or body (block_bytes * q + r) 0 ≡ get_or (block_at blocks (get_or ps q None)) r 0) → body_at blocks size ps ≡ body
  unfolding body_at
  same_body size ps body count long all has =
      let bytes : List ℕ = flat_map (block_at blocks) ps in
      let whole : length bytes ≡ block_bytes * length ps = length-blocks ps all in
      let same : length (take size bytes) ≡ size = omega (arith, length-take size bytes) in
      ext_get_or 0 (take size bytes) body (same ∙ sym long) (λ k h.
      let is : k ≡ block_bytes * (k / block_bytes) + k % block_bytes = omega arith in
      get_or-take size bytes k 0 (omega arith)
      ∙ ap (λ i. get_or bytes i 0) is
      ∙ byte-blocks ps all (k / block_bytes) (k % block_bytes) (omega arith) (omega arith)
      ∙ sym (ap (λ i. get_or body i 0) is ∙ has (k / block_bytes) (k % block_bytes) (omega arith) (omega arith)))

  -- and so is a body that they are
  pub has_bytes : (size : ℕ) (ps : List (Option ℕ)) (body : List ℕ) → AllByRecursion Whole (present ps) → length ps ≡ blocks_in size → body_at blocks size ps ≡ body → HasBytes size ps body
  unfolding body_at
  has_bytes size ps body whole count was q r l h = grind (arith, byte-blocks, full, get_or-take)

  pub length-body : (size : ℕ) (ps : List (Option ℕ)) → AllByRecursion Whole (present ps) → length ps ≡ blocks_in size → length (body_at blocks size ps) ≡ size
  unfolding body_at
  length-body size ps whole count = grind (arith, length-blocks, full, length-take)

-- ---- one block of a body

pub length-block : (w : ℕ) (xs : List ℕ) → length (take w (xs ++ replicate w 0)) ≡ w
length-block w xs = search (rules, places)

pub byte-block : (w a r : ℕ) (xs : List ℕ) → r < w → get_or (take w (drop a xs ++ replicate w 0)) r 0 ≡ get_or xs (a + r) 0
byte-block w a r xs h = grind (arith, places)

-- ---- bytes of a body that is written

pub written-beside : (offset k : ℕ) (bytes body : List ℕ) → (k < offset) ⊎ (offset + length bytes ≤ k) → get_or (written offset bytes body) k 0 ≡ get_or body k 0
written-beside offset k bytes body (inl before) = grind (arith, places)
written-beside offset k bytes body (inr behind) = grind (arith, places)

pub written-in : (offset k r : ℕ) (bytes body : List ℕ) → k ≡ offset + r → r < length bytes → get_or (written offset bytes body) k 0 ≡ get_or bytes r 0
written-in offset k r bytes body is within = grind (arith, places)
