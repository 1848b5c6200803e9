-- What data blocks hold of files: those whose blocks stay, and one whose touched blocks are written to new places.
use Rattle.file_store.proofs.Names.{◌≡◌, ⊎_elim, inl, inr, ℕ, zero, suc, ◌+◌, ◌-◌, ◌*◌, ◌/◌, ◌<◌, ◌≤◌, List, [], ◌∷◌, ◌++◌, length, map, get_or}
use Rattle.file_store.proofs.Names.{take, drop, Option, Some, None, Bool, true, eqb, ltb, refl, sym, ◌∙◌, ap, subst, arith, if◌then◌else◌, flat_map}
use Rattle.file_store.proofs.Names.{list_any, AllByRecursion, cases_lt, cond_both, and_from, lt-ltb, get_or-replicate, get_or_past, places, FileKey}
use Rattle.file_store.proofs.Names.{part, find_key, rebody, from_on, blocks_in, met, old_end, touched, size_after, affected_held, Mapping}
use Rattle.file_store.proofs.Names.{CatalogFile, Catalog, IsCatalogFile, IsCatalog, geometry_of, present, blocks_of, with_changed, places_fitted}
use Rattle.file_store.proofs.Names.{places_set, each-drop, each-found, Rewrite, Write, Resize, Restore, IsWithin, block_at, bytes_at, held_at}
use Rattle.file_store.proofs.Names.{effect_of, IsRewrite, remapped, length-fitted, length-places_set}
use Rattle.file_store.specs.Bodies.{block_of, body_at}
use Rattle.file_store.proofs.ByBlocks.{Whole, full, has_bytes, same_body, length-body, length-block, byte-block, at_place, after_set, get_or-fitted}
use Rattle.file_store.proofs.ByBlocks.{written-beside}
use Rattle.file_store.proofs.EachOf.{each-weaker, each-parts, each_member}
use Rattle.file_store.proofs.FilesBy.{SameBytes, held-same}
use Rattle.file_store.proofs.ByteChanges.{length-changed}
use Rattle.file_store.proofs.WithBodies.{held-rewritten}
use Rattle.hsm_types.specs.Limits.{block_bytes, segment_bytes}

-- ---- blocks that aren't touched

-- none of these blocks is q
abbrev Others : ℕ → List ℕ → Type 0
Others q blocks = AllByRecursion (λ b. b ≡ q → ⊥) blocks

others_run : (q a n : ℕ) → a ≤ q → Others q (from_on a n) → a + n ≤ q
others_run q a zero from all = omega arith
others_run q a (suc n) from all = grind (arith, others_run q (a + 1) n (omega arith) all.1)

others_end : (q size : ℕ) → size / block_bytes ≤ q → Others q (old_end size) → blocks_in size ≤ q
others_end q size from = grind arith

-- a byte that lies in no touched block is as it was, and in an old block or a new one
beside_touched : (change : Rewrite) (body : List ℕ) (q r : ℕ) → IsRewrite change → r < block_bytes → block_bytes * q + r < size_after (effect_of change) (length body) → Others q (touched (effect_of change) (length body))
    → (get_or (rebody (effect_of change) body) (block_bytes * q + r) 0 ≡ get_or body (block_bytes * q + r) 0) × (length body ≤ block_bytes * q + r → blocks_in (length body) ≤ q)
beside_touched (Write offset bytes) body q r lawful l h others =
    let size : ℕ = length body in
    let end : ℕ = offset + length bytes.now in
    let first : ℕ = offset / block_bytes in
    let some = lawful.0 in
    let run : Others q (met offset end) =
    grind (arith, cond_both, ltb, each-parts) in
    let behind : first ≤ q → first + (blocks_in end - first) ≤ q = λ from. others_run q first (blocks_in end - first) from run in
    ⊎_elim
    (λ (low : q < first). (
      written-beside offset (block_bytes * q + r) bytes.now body (inl (omega arith)),
      λ past.
          let far = and_from (ltb size end) (ltb (size / block_bytes) first) (lt-ltb size end (omega arith)) (lt-ltb (size / block_bytes) first (omega arith)) in
          let all = subst (λ (t : Bool). Others q (if t then old_end size ++ met offset end else met offset end)) far others in
          others_end q size (omega arith) (each-parts (λ b. b ≡ q → ⊥) (old_end size) (met offset end) all).0,
    ))
    (λ (from : first ≤ q). let high = behind from in (written-beside offset (block_bytes * q + r) bytes.now body (inr (omega arith)), λ past. absurd (omega arith)))
    (cases_lt q first)
beside_touched (Resize to) body q r lawful l h others =
    let size : ℕ = length body in
    (grind (arith, places), λ past. others_end q size (omega arith) (subst (λ (t : Bool). Others q (if t then old_end size else [])) (lt-ltb size to (omega arith)) others))
beside_touched (Restore segment bytes) body q r lawful l h others =
    let first : ℕ = segment_bytes * segment / block_bytes in
    let end : ℕ = segment_bytes * segment + length bytes.now in
    let some = lawful.0 in
    ⊎_elim
    (λ (low : q < first). (written-beside (segment_bytes * segment) (block_bytes * q + r) bytes.now body (inl (omega arith)), λ past. absurd (omega arith)))
    (λ (from : first ≤ q). let high = others_run q first (blocks_in end - first) from others in (written-beside (segment_bytes * segment) (block_bytes * q + r) bytes.now body (inr (omega arith)), λ past. absurd (omega arith)))
    (cases_lt q first)

-- ---- a body with its touched blocks at new places

-- The block is the same.
abbrev pub Stays : List ℕ → List ℕ → ℕ → Type 0
Stays old new p = part new (block_bytes * p) block_bytes ≡ part old (block_bytes * p) block_bytes

module _ (change : Rewrite) (old new : List ℕ) (ps : List (Option ℕ)) (body : List ℕ) (ms : List Mapping) (lawful : IsRewrite change) (within : IsWithin change (length body)) (count : length ps ≡ blocks_in (length body)) (was : body_at old (length body) ps ≡ body) (whole : AllByRecursion (Whole old) (present ps))
    (blocks : map (λ m. m.block) ms ≡ touched (effect_of change) (length body)) (there : AllByRecursion (λ m. part new (block_bytes * m.place) block_bytes ≡ block_of (rebody (effect_of change) body) m.block) ms) (same : AllByRecursion (Stays old new) (present ps)) where
  abbrev to : ℕ
  to = size_after (effect_of change) (length body)

  abbrev after : List ℕ
  after = rebody (effect_of change) body

  -- a block that lies there is the new body's block q, as far as that goes
  abbrev Lies : ℕ → Option ℕ → Type 0
  Lies q p = (length (block_at new p) ≡ block_bytes) × ((r : ℕ) → r < block_bytes → block_bytes * q + r < to → get_or after (block_bytes * q + r) 0 ≡ get_or (block_at new p) r 0)

  written_there : (q : ℕ) (m : Mapping) → part new (block_bytes * m.place) block_bytes ≡ block_of after m.block → m.block ≡ q → Lies q (Some m.place)
  unfolding block_of
  written_there q m e is = (
    ap length e ∙ length-block block_bytes (drop (block_bytes * m.block) after),
    λ r l h. sym (ap (λ b. get_or b r 0) e ∙ byte-block block_bytes (block_bytes * m.block) r after l ∙ ap (λ i. get_or after (block_bytes * i + r) 0) is),
  )

  stays : (q : ℕ) → Others q (map (λ m. m.block) ms) → Lies q (get_or ps q None)
  stays q others =
      let kept : block_at new (get_or ps q None) ≡ block_at old (get_or ps q None) = at_place (Stays old new) (λ p. block_at new p ≡ block_at old p) refl (λ p h. h) ps q same in (
        ap length kept ∙ full old ps whole q,
        λ r l h.
            let k = block_bytes * q + r in
            let beside = beside_touched change body q r lawful l h (subst (Others q) blocks others) in
            let byte : get_or body k 0 ≡ get_or (block_at old (get_or ps q None)) r 0 =
            ⊎_elim
            (λ (low : k < length body). has_bytes old (length body) ps body whole count was q r l low)
            (λ (past : length body ≤ k). get_or_past body k 0 past ∙ sym (ap (λ p. get_or (block_at old p) r 0) (get_or_past ps q None (rw count (beside.1 past))) ∙ get_or-replicate block_bytes r 0 0 l))
            (cases_lt k (length body)) in
            beside.0 ∙ byte ∙ sym (ap (λ b. get_or b r 0) kept),
      )

  lies : (q : ℕ) → q < blocks_in to → Lies q (get_or (places_set ms (places_fitted to ps)) q None)
  lies q h =
      after_set (Lies q) q ms (places_fitted to ps) (omega (arith, length-fitted to ps)) (each-weaker (λ (m : Mapping). part new (block_bytes * m.place) block_bytes ≡ block_of after m.block) (λ (m : Mapping). m.block ≡ q → Lies q (Some m.place)) (written_there q) ms there)
      (λ others. subst (Lies q) (sym (get_or-fitted to q ps h)) (stays q others))

  changed_at : body_at new to (places_set ms (places_fitted to ps)) ≡ after
  changed_at =
      let long : length (places_set ms (places_fitted to ps)) ≡ blocks_in to = grind (arith, length-places_set, length-fitted) in
      same_body new to (places_set ms (places_fitted to ps)) after long (length-changed change body within) (λ q h. (lies q (omega arith)).0) (λ q r l h. (lies q (omega arith)).1 r l h)

-- ---- where the blocks in use stay

same_blocks : (old new : List ℕ) (ps : List (Option ℕ)) → AllByRecursion (Stays old new) (present ps) → flat_map (block_at new) ps ≡ flat_map (block_at old) ps
same_blocks old new [] stays = refl
same_blocks old new (None ∷ ps) stays = ap (λ bs. block_at old None ++ bs) (same_blocks old new ps stays)
same_blocks old new (Some p ∷ ps) stays = rw (stays.0, same_blocks old new ps stays.1) refl

each_file : (P : ℕ → Type 0) (fs : List CatalogFile) → AllByRecursion P (blocks_of fs) → AllByRecursion (λ f. AllByRecursion P (present f.places)) fs
each_file P [] all = tt
each_file P (f ∷ fs) all = let sides = each-parts P (present f.places) (blocks_of fs) all in (sides.0, each_file P fs sides.1)

module _ (old new : List ℕ) (c : Catalog) (stays : (p : ℕ) → list_any (λ q. eqb q p) (blocks_of c.files) ≡ true → Stays old new p) where
  each-stays : AllByRecursion (λ f. AllByRecursion (Stays old new) (present f.places)) c.files
  each-stays = grind (arith, each_file, each_member, stays)

  same_bytes : (f : CatalogFile) → AllByRecursion (Stays old new) (present f.places) → SameBytes (bytes_at old) (bytes_at new) f
  unfolding body_at
  same_bytes f there = ap (take f.size) (same_blocks old new f.places there)

  all-same : AllByRecursion (SameBytes (bytes_at old) (bytes_at new)) c.files
  all-same = grind (arith, each-weaker, same_bytes, each-stays)

  -- so does what is held
  pub held-stays : held_at new c ≡ held_at old c
  held-stays = held-same (bytes_at old) (bytes_at new) c all-same

  -- and where new ones hold a file as it is after a change, so does that
  pub held-changed : (change : Rewrite) (k : FileKey) (ms : List Mapping) (f : CatalogFile) (body : List ℕ) → IsCatalog c → ((p : ℕ) → p < (geometry_of c.geometry).blocks → Whole old p) → IsRewrite change → IsWithin change (length body)
      → find_key (λ g. g.key) k c.files ≡ Some f → bytes_at old f ≡ body → map (λ m. m.block) ms ≡ touched (effect_of change) (length body)
      → AllByRecursion (λ m. part new (block_bytes * m.place) block_bytes ≡ block_of (rebody (effect_of change) body) m.block) ms
      → held_at new (with_changed k (remapped change (length body) ms) c) ≡ record (held_at old c) { files = affected_held (effect_of change) k (held_at old c).files }
  held-changed change k ms f body lawful whole may within found was blocks there =
      let is : IsCatalogFile (geometry_of c.geometry) f = grind (arith, each-found) in
      let each : AllByRecursion (Whole old) (present f.places) = grind (arith, each-weaker, Whole) in
      let kept : AllByRecursion (Stays old new) (present f.places) = grind (arith, each-found, each-stays) in
      let long : f.size ≡ length body = grind (arith, length-body) in
      let lay : body_at old (length body) f.places ≡ body = ap (λ n. body_at old n f.places) (sym long) ∙ was in
      let becomes = changed_at change old new f.places body ms may within (is.places ∙ ap blocks_in long) lay each blocks there kept in
      held-rewritten (bytes_at old) (bytes_at new) k change (length body) ms c f found (ap length (sym was)) blocks
      (rw was becomes) (each-drop (SameBytes (bytes_at old) (bytes_at new)) k c.files all-same)
