-- What holds of one more block, or of one more place.
use Rattle.std.proofs.Common.{◌≡◌, ⊎_elim, Bool, true, false, ℕ, zero, suc, ◌+◌, ◌<◌, List, [], ◌∷◌, length, get_or, take, Contains, Option, Some, None, refl, sym, ◌∙◌, subst, arith}
use Rattle.std.specs.Prelude.{◌↔◌}
use Rattle.std.specs.List.{AllByRecursion}
use Rattle.std.proofs.lemmas.Bool.{false≢true}
use Rattle.std.proofs.lemmas.List.{get_or_default, take_more}
use Rattle.std.proofs.lemmas.List.Elements.{Contains-push_cases}
use Rattle.block_cache.specs.Cached.{Cache, LiesOn, cached_blocks, has}
use Rattle.block_cache.specs.Lent.{IsCached, AreCached}
use Rattle.block_cache.proofs.Runs.{lies_at}

pub one_more_lies : (at len i : ℕ) (bs : List ℕ) → i < length bs → AllByRecursion (LiesOn at len) (take i bs) → LiesOn at len (get_or bs i 0) → AllByRecursion (LiesOn at len) (take (i + 1) bs)
one_more_lies at len i [] lt all one = absurd (omega (arith, lt))
one_more_lies at len zero (b ∷ bs) lt all one = (one, tt)
one_more_lies at len (suc i) (b ∷ bs) lt all one =
    let next : suc i + 1 ≡ suc (i + 1) = omega arith in
    subst (λ (n : ℕ). AllByRecursion (LiesOn at len) (take n (b ∷ bs))) (sym next) (all.0, one_more_lies at len i bs (omega (arith, lt)) all.1 one)

pub one_more_there : (cache : Cache) (i : ℕ) (ps : List (Option ℕ)) → i < length ps → AreCached cache (take i ps) → IsCached cache (get_or ps i None) → AreCached cache (take (i + 1) ps)
one_more_there cache i ps lt all one b in' =
    ⊎_elim (λ was. all b was) (λ is. one b is) (Contains-push_cases (take i ps) (get_or ps i None) (Some b) (subst (λ (l : List (Option ℕ)). Contains l (Some b)) (take_more ps i None lt) in'))

-- where one doesn't, not all do
pub not_all_lie : (at len i : ℕ) (bs : List ℕ) → i < length bs → (LiesOn at len (get_or bs i 0) → ⊥) → AllByRecursion (LiesOn at len) bs → ⊥
not_all_lie at len i bs lt un all = un (lies_at at len i bs lt all)

pub not_all_there : (cache : Cache) (i : ℕ) (ps : List (Option ℕ)) → i < length ps → (IsCached cache (get_or ps i None) → ⊥) → AreCached cache ps → ⊥
not_all_there cache i ps lt un all = un (λ b is. all b (i, lt, get_or_default ps i (Some b) None lt ∙ is))

-- an answer that tells just whether something holds
pub told_not : {B : Type 0} → (B → ⊥) → (false ≡ true) ↔ B
told_not un = (λ bad. absurd (false≢true bad), λ b. absurd (un b))

pub told_so : {B : Type 0} → B → (true ≡ true) ↔ B
told_so b = (λ t. b, λ t. refl)

-- where the block at a place is looked up
some_same : (x y : ℕ) → Some x ≡ Some y → x ≡ y
some_same x y is = cc

pub there_told : (cache : Cache) (place : Option ℕ) (block : ℕ) (r : Bool) → place ≡ Some block → r ≡ has block (cached_blocks cache) → (r ≡ true) ↔ IsCached cache place
there_told cache place block r is same =
    (λ t b is'. subst (λ (k : ℕ). has k (cached_blocks cache) ≡ true) (some_same block b (sym is ∙ is')) (sym same ∙ t), λ all. same ∙ all block is)

pub hole_there : (cache : Cache) (place : Option ℕ) → place ≡ None → IsCached cache place
hole_there cache place none b is = let bad : None ≡ Some b = sym none ∙ is in absurd cc
