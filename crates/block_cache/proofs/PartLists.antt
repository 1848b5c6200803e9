-- The parts that are lent are the bytes of their blocks.
use Rattle.std.proofs.Common.{◌≡◌, ℕ, zero, suc, ◌+◌, ◌-◌, ◌*◌, ◌<◌, ◌≤◌, ◌==◌, min, true, false, List, [], ◌∷◌, ◌++◌, length, get_or, take, drop, replicate, Option, Some, None, is_some, nat_eq, append_assoc, append-nil, refl, sym, ◌∙◌, ap, subst, arith}
use Rattle.std.specs.List.{concat, flat_map, AllByRecursion}
use Rattle.std.specs.Map.{lookup}
use Rattle.std.specs.Option.{option_map_or}
use Rattle.std.proofs.lemmas.Bool.{eqb-true}
use Rattle.std.proofs.lemmas.List.{drop-replicate, take-replicate, length-replicate, length-append, length-drop, length-take, take_min}
use Rattle.std.proofs.lemmas.List.Elements.{Contains-append_right}
use Rattle.disk_model.specs.Images.{part}
use Rattle.lru.proofs.CallerLemmas.{Contains-lookup}
use Rattle.block_cache.specs.Cached.{Cache, AreBlocks, AreShown}
use Rattle.block_cache.specs.Lent.{cached_block, block_on_disk, bytes_on_disk, IsCached, AreCached, lent_parts}
use Rattle.block_cache.proofs.Used.{lookup_has}

pub zeros_cut : (start len : ℕ) → start + len ≤ 4096 → replicate {A = ℕ} len 0 ≡ take len (drop start (replicate 4096 0))
zeros_cut start len fits = sym (ap (λ (l : List ℕ). take len l) (drop-replicate {X = ℕ} start 4096 0) ∙ take-replicate {X = ℕ} len (4096 - start) 0 (omega (arith, fits)))

pub parts_none : (cache : Cache) (ps : List (Option ℕ)) (start count : ℕ) → count ≡ 0 → lent_parts cache ps start count ≡ []
unfolding lent_parts
parts_none cache [] start count is = refl
parts_none cache (p ∷ ps) start count is = rw is refl

pub parts_empty : (cache : Cache) (start count : ℕ) → lent_parts cache [] start count ≡ []
unfolding lent_parts
parts_empty cache start count = refl

pub parts_next : (cache : Cache) (p : Option ℕ) (ps : List (Option ℕ)) (start count : ℕ) → (count ≡ 0 → ⊥)
    → lent_parts cache (p ∷ ps) start count ≡ take (min count (4096 - start)) (drop start (cached_block cache p)) ∷ lent_parts cache ps 0 (count - min count (4096 - start))
unfolding lent_parts
parts_next cache p ps start count some = (elim (count == 0) as (λ y. (count == 0) ≡ y → lent_parts cache (p ∷ ps) start count ≡ take (min count (4096 - start)) (drop start (cached_block cache p)) ∷ lent_parts cache ps 0 (count - min count (4096 - start))) [
  | true ↦ λ t. absurd (some (eqb-true count 0 t))
  | false ↦ λ t. rw t refl
]) refl

-- ---- the places that are left

pub left_next : (n e : ℕ) (ps : List (Option ℕ)) → n < e → e ≤ length ps → take (e - n) (drop n ps) ≡ get_or ps n None ∷ take (e - (n + 1)) (drop (n + 1) ps)
left_next n zero ps lt le = absurd (omega (arith, lt))
left_next n (suc e) [] lt le = absurd (omega (arith, le))
left_next zero (suc e) (p ∷ ps) lt le =
    let all : suc e - 0 ≡ suc e = omega arith in
    let rest : suc e - (0 + 1) ≡ e = omega arith in
    ap (λ (k : ℕ). take k (p ∷ ps)) all ∙ ap (λ (k : ℕ). p ∷ take k ps) (sym rest)
left_next (suc n) (suc e) (p ∷ ps) lt le =
    let all : suc e - suc n ≡ e - n = omega arith in
    let rest : suc e - (suc n + 1) ≡ e - (n + 1) = omega arith in
    let next : suc n + 1 ≡ suc (n + 1) = omega arith in
    ap (λ (k : ℕ). take k (drop n ps)) all ∙ left_next n e ps (omega (arith, lt)) (omega (arith, le))
    ∙ ap (λ (k : ℕ). get_or ps n None ∷ take k (drop (n + 1) ps)) (sym rest)
    ∙ ap (λ (m : ℕ). get_or ps n None ∷ take (suc e - (suc n + 1)) (drop m (p ∷ ps))) (sym next)

pub left_none : (n e : ℕ) (ps : List (Option ℕ)) → e ≤ n → take (e - n) (drop n ps) ≡ []
left_none n e ps le = let none : e - n ≡ 0 = omega (arith, le) in ap (λ (k : ℕ). take k (drop n ps)) none

-- ---- the parts together

drop-nil : (n : ℕ) → drop {A = ℕ} n [] ≡ []
drop-nil zero = refl
drop-nil (suc n) = refl

take-nil : (n : ℕ) → take {A = ℕ} n [] ≡ []
take-nil zero = refl
take-nil (suc n) = refl

take_over : (n : ℕ) (xs ys : List ℕ) → take n (xs ++ ys) ≡ take n xs ++ take (n - length xs) ys
take_over zero xs ys = let z : 0 - length xs ≡ 0 = omega arith in rw z refl
take_over (suc n) [] ys = let z : suc n - 0 ≡ suc n = omega arith in rw z refl
take_over (suc n) (x ∷ xs) ys = let z : suc n - suc (length xs) ≡ n - length xs = omega arith in rw z (ap (λ (l : List ℕ). x ∷ l) (take_over n xs ys))

drop_within : (n : ℕ) (xs ys : List ℕ) → n ≤ length xs → drop n (xs ++ ys) ≡ drop n xs ++ ys
drop_within zero xs ys le = refl
drop_within (suc n) [] ys le = absurd (omega (arith, le))
drop_within (suc n) (x ∷ xs) ys le = drop_within n xs ys (omega (arith, le))

-- the first of two runs is cut within it
cut_first : (start count : ℕ) (xs ys : List ℕ) → length xs ≡ 4096 → start < 4096 → take count (drop start (xs ++ ys)) ≡ take (min count (4096 - start)) (drop start xs) ++ take (count - min count (4096 - start)) ys
cut_first start count xs ys size low =
    let left : length (drop start xs) ≡ 4096 - start = length-drop start xs ∙ ap (λ (n : ℕ). n - start) size in
    let first : take (min count (length (drop start xs))) (drop start xs) ≡ take count (drop start xs) = take_min count (drop start xs) in
    let over : count - length (drop start xs) ≡ count - min count (4096 - start) = omega (arith, left) in
    ap (λ (l : List ℕ). take count l) (drop_within start xs ys (omega (arith, size, low))) ∙ take_over count (drop start xs) ys
    ∙ ap (λ (l : List ℕ). l ++ take (count - length (drop start xs)) ys) (sym (subst (λ (n : ℕ). take (min count n) (drop start xs) ≡ take count (drop start xs)) left first))
    ∙ ap (λ (n : ℕ). take (min count (4096 - start)) (drop start xs) ++ take n ys) over

pub block_size : (cache : Cache) → AreBlocks cache.entries → (p : Option ℕ) → length (cached_block cache p) ≡ 4096
block_size cache are None = length-replicate {A = ℕ} 4096 0
block_size cache are (Some b) = by_look (lookup (nat_eq b) cache.entries) refl
  where
    by_look : (o : Option (List ℕ)) → lookup (nat_eq b) cache.entries ≡ o → length (option_map_or (λ bytes. bytes) o (replicate 4096 0)) ≡ 4096
    by_look None is = length-replicate {A = ℕ} 4096 0
    by_look (Some bytes) is = let e = Contains-lookup (nat_eq b) cache.entries bytes is in are (e.0, bytes) e.1

pub parts_joined : (cache : Cache) → AreBlocks cache.entries → (ps : List (Option ℕ)) (start count : ℕ) → start < 4096 → concat (lent_parts cache ps start count) ≡ take count (drop start (flat_map (cached_block cache) ps))
unfolding lent_parts
parts_joined cache are [] start count low = sym (ap (λ (l : List ℕ). take count l) (drop-nil start) ∙ take-nil count)
parts_joined cache are (p ∷ ps) start count low = (elim (count == 0) as (λ y. (count == 0) ≡ y → concat (lent_parts cache (p ∷ ps) start count) ≡ take count (drop start (cached_block cache p ++ flat_map (cached_block cache) ps))) [
  | true ↦ λ t. let zero_is : count ≡ 0 = eqb-true count 0 t in rw (t, zero_is) refl
  | false ↦ λ t. rw (t, parts_joined cache are ps 0 (count - min count (4096 - start)) (omega arith)) (sym (cut_first start count (cached_block cache p) (flat_map (cached_block cache) ps) (block_size cache are p) low))
]) refl

-- the first place, and the others
pub head_there : (cache : Cache) (p : Option ℕ) (ps : List (Option ℕ)) → AreCached cache (p ∷ ps) → IsCached cache p
head_there cache p ps are b is = are b (0, omega arith, is)

pub tail_there : (cache : Cache) (p : Option ℕ) (ps : List (Option ℕ)) → AreCached cache (p ∷ ps) → AreCached cache ps
tail_there cache p ps are b in' = are b (Contains-append_right (p ∷ []) ps (Some b) in')

-- what is there is what the content has
module _ (cache : Cache) (content : List ℕ) (shown : AreShown cache.at content cache.entries) where
  there_block : (p : Option ℕ) → IsCached cache p → cached_block cache p ≡ block_on_disk cache.at content p
  there_block None there = refl
  there_block (Some b) there = by_look (lookup (nat_eq b) cache.entries) refl
    where
      by_look : (o : Option (List ℕ)) → lookup (nat_eq b) cache.entries ≡ o → option_map_or (λ bytes. bytes) o (replicate 4096 0) ≡ part content (cache.at + 4096 * b) 4096
      by_look None is = let found : is_some (lookup (nat_eq b) cache.entries) ≡ true = lookup_has b cache.entries ∙ there b refl in let bad : false ≡ true = sym (ap is_some is) ∙ found in absurd cc
      by_look (Some bytes) is =
          let e = Contains-lookup (nat_eq b) cache.entries bytes is in
          shown (e.0, bytes) e.1 ∙ ap (λ (k : ℕ). part content (cache.at + 4096 * k) 4096) (sym (eqb-true b e.0 e.2))

  there_blocks : (ps : List (Option ℕ)) → AreCached cache ps → flat_map (cached_block cache) ps ≡ bytes_on_disk cache.at content ps
  there_blocks [] are = refl
  there_blocks (p ∷ ps) are = rw (there_block p (head_there cache p ps are), there_blocks ps (tail_there cache p ps are)) refl

  -- so the parts are the bytes of the content
  pub parts_shown : AreBlocks cache.entries → (ps : List (Option ℕ)) → AreCached cache ps → (start count : ℕ) → start < 4096 → concat (lent_parts cache ps start count) ≡ take count (drop start (bytes_on_disk cache.at content ps))
  parts_shown sizes ps are start count low = parts_joined cache sizes ps start count low ∙ ap (λ (l : List ℕ). take count (drop start l)) (there_blocks ps are)

-- no part has more bytes than a block
pub parts_few : (cache : Cache) (ps : List (Option ℕ)) (start count : ℕ) → AllByRecursion (λ b. length b ≤ 4096) (lent_parts cache ps start count)
unfolding lent_parts
parts_few cache [] start count = tt
parts_few cache (p ∷ ps) start count = (elim (count == 0) as (λ y. (count == 0) ≡ y → AllByRecursion (λ b. length b ≤ 4096) (lent_parts cache (p ∷ ps) start count)) [
  | true ↦ λ t. rw t tt
  | false ↦ λ t. rw t (omega (arith, length-take (min count (4096 - start)) (drop start (cached_block cache p))), parts_few cache ps 0 (count - min count (4096 - start)))
]) refl

-- what was fed, and the next part
pub fed_on : (m whole : List ℕ) (old new : List (List ℕ)) (piece : List ℕ) → m ++ concat old ≡ whole → old ≡ piece ∷ new → (m ++ piece) ++ concat new ≡ whole
fed_on m whole old new piece was step = append_assoc m piece (concat new) ∙ ap (λ (l : List (List ℕ)). m ++ concat l) (sym step) ∙ was

pub zeros_front : (count : ℕ) → count ≤ 4096 → take {A = ℕ} count (replicate 4096 0) ≡ replicate count 0
zeros_front count few = take-replicate {X = ℕ} count 4096 0 few

pub zeros_few : (count : ℕ) → length (replicate {A = ℕ} count 0) ≤ 4096 → count ≤ 4096
zeros_few count few = omega (arith, few, length-replicate {A = ℕ} count 0)

-- ---- the first parts, put behind other bytes

next_of : (n : ℕ) (all new : List (List ℕ)) (piece : List ℕ) → drop n all ≡ piece ∷ new → (concat (take (n + 1) all) ≡ concat (take n all) ++ piece) × (drop (n + 1) all ≡ new)
next_of zero [] new piece is = cc
next_of (suc n) [] new piece is = cc
next_of zero (p ∷ ps) new piece is = let first : p ≡ piece = cc in let rest : ps ≡ new = cc in (append-nil p ∙ first, rest)
next_of (suc n) (p ∷ ps) new piece is =
    let next : suc n + 1 ≡ suc (n + 1) = omega arith in
    let on = next_of n ps new piece is in (
      ap (λ (k : ℕ). concat (take k (p ∷ ps))) next ∙ ap (λ (l : List ℕ). p ++ l) on.0 ∙ sym (append_assoc p (concat (take n ps)) piece),
      ap (λ (k : ℕ). drop k (p ∷ ps)) next ∙ on.1,
    )

-- some are put behind the first bytes, and the others are left
abbrev pub HasBegun : List ℕ → List ℕ → List (List ℕ) → List (List ℕ) → Type 0
HasBegun first items all left = (n : ℕ) × (items ≡ first ++ concat (take n all)) × (drop n all ≡ left)

pub begun_on : (first items piece : List ℕ) (all old new : List (List ℕ)) → HasBegun first items all old → old ≡ piece ∷ new → HasBegun first (items ++ piece) all new
begun_on first items piece all old new (n, is, left) step =
    let on = next_of n all new piece (left ∙ step) in
    (n + 1, ap (λ (l : List ℕ). l ++ piece) is ∙ append_assoc first (concat (take n all)) piece ∙ ap (λ (l : List ℕ). first ++ l) (sym on.0), on.1)

-- where there is no room for a part, there is none for all
pub full_at : (cap old_cap len : ℕ) (first items piece : List ℕ) (all old new : List (List ℕ)) → cap ≤ old_cap → old_cap < len + length piece → len ≡ length items → items ++ concat old ≡ first ++ concat all → old ≡ piece ∷ new
    → cap < length first + length (concat all)
full_at cap old_cap len first items piece all old new room short size was step =
    omega (arith, room, short, size, ap length was, length-append items (concat old), length-append first (concat all), ap (λ (l : List (List ℕ)). length (concat l)) step, length-append piece (concat new))
