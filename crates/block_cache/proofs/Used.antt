-- What a use of a block does to the list of those that were used last.
use Rattle.std.proofs.Common.{◌≡◌, ◌⊎◌, inl, inr, ⊎_elim, ℕ, zero, suc, ◌+◌, ◌*◌, ◌<◌, ◌≤◌, nat_eq, Bool, true, false, ◌||◌, List, [], ◌∷◌, length, take, get_or, Contains, Option, Some, None, is_some, refl, sym, ◌∙◌, ap, subst, arith}
use Rattle.std.specs.Cmp.{nat_eq_equiv}
use Rattle.std.specs.List.{IsDistinct}
use Rattle.std.specs.Map.{keys_of, lookup, lookup_entry, remove_entry}
use Rattle.std.proofs.lemmas.Bool.{eqb-true, eq-eqb, ne_eqb, or_from, or_parts}
use Rattle.std.proofs.lemmas.Map.{lookup-remove_entry}
use Rattle.std.proofs.lemmas.List.{take_all, length-map, length-take-le, get_or-take}
use Rattle.std.proofs.lemmas.List.Folds.{list_any_kept}
use Rattle.disk_model.specs.Images.{part}
use Rattle.lru.specs.LruCache.{LruCache, lru_cache, promoted, put_entries}
use Rattle.lru.proofs.Splits.{Contains-nil, Contains-cons}
use Rattle.lru.proofs.CallerLemmas.{Contains-promoted, Contains-put_entries}
use Rattle.block_cache.specs.Cached.{AreBlocks, AreShown, AreNeighbours, without, used_last, all_used_last, has, AreIn, AreAbsent, HasStopped}

abbrev Entries : Type 0
Entries = List (ℕ × List ℕ)

module _ (b : ℕ) where
  -- a look-up finds a block just where the list has it
  pub lookup_has : (es : Entries) → is_some (lookup (nat_eq b) es) ≡ has b (keys_of es)
  lookup_has [] = refl
  lookup_has (e ∷ es) = (elim (nat_eq b e.0) as (λ y. nat_eq b e.0 ≡ y → is_some (lookup (nat_eq b) (e ∷ es)) ≡ has b (e.0 ∷ keys_of es)) [
    | true ↦ λ t. rw t refl
    | false ↦ λ t. rw (t, lookup_has es) refl
  ]) refl

  entry_has : (es : Entries) → is_some (lookup_entry (nat_eq b) es) ≡ has b (keys_of es)
  entry_has [] = refl
  entry_has (e ∷ es) = (elim (nat_eq b e.0) as (λ y. nat_eq b e.0 ≡ y → is_some (lookup_entry (nat_eq b) (e ∷ es)) ≡ has b (e.0 ∷ keys_of es)) [
    | true ↦ λ t. rw t refl
    | false ↦ λ t. rw (t, entry_has es) refl
  ]) refl

  pub keys_removed : (es : Entries) → keys_of (remove_entry (nat_eq b) es) ≡ without b (keys_of es)
  keys_removed [] = refl
  keys_removed (e ∷ es) = (elim (nat_eq b e.0) as (λ y. nat_eq b e.0 ≡ y → keys_of (remove_entry (nat_eq b) (e ∷ es)) ≡ without b (e.0 ∷ keys_of es)) [
    | true ↦ λ t. rw t refl
    | false ↦ λ t. rw (t, keys_removed es) refl
  ]) refl

  without_absent : (ks : List ℕ) → has b ks ≡ false → without b ks ≡ ks
  without_absent [] gone = refl
  without_absent (k ∷ ks) gone = (elim (nat_eq b k) as (λ y. nat_eq b k ≡ y → without b (k ∷ ks) ≡ k ∷ ks) [
    | true ↦ λ t. let bad : true ≡ false = sym (rw t refl) ∙ gone in absurd cc
    | false ↦ λ t. let rest : has b ks ≡ false = sym (rw t refl) ∙ gone in rw (t, without_absent ks rest) refl
  ]) refl

  length_without : (ks : List ℕ) → has b ks ≡ true → length (without b ks) + 1 ≡ length ks
  length_without [] here = cc
  length_without (k ∷ ks) here = (elim (nat_eq b k) as (λ y. nat_eq b k ≡ y → length (without b (k ∷ ks)) + 1 ≡ length (k ∷ ks)) [
    | true ↦ λ t. rw t (omega arith)
    | false ↦ λ t. let rest : has b ks ≡ true = sym (rw t refl) ∙ here in let on = length_without ks rest in rw t (omega (arith, on))
  ]) refl

  -- ---- a block that is there

  first_key : (es : Entries) (e : ℕ × List ℕ) → lookup_entry (nat_eq b) es ≡ Some e → b ≡ e.0
  first_key [] e h = cc
  first_key (f ∷ es) e h = (elim (nat_eq b f.0) as (λ y. nat_eq b f.0 ≡ y → b ≡ e.0) [
    | true ↦ λ t. let h' = rw t at h in let same : f ≡ e = cc in eqb-true b f.0 t ∙ ap (λ (x : ℕ × List ℕ). x.0) same
    | false ↦ λ t. first_key es e (rw t at h)
  ]) refl

  promoted_by : (es : Entries) (o : Option (ℕ × List ℕ)) → lookup_entry (nat_eq b) es ≡ o → is_some o ≡ true → keys_of (promoted (nat_eq b) es) ≡ b ∷ without b (keys_of es)
  promoted_by es None is here = cc
  promoted_by es (Some e) is here =
      let key : b ≡ e.0 = first_key es e is in
      rw is (rw (sym key, keys_removed es) refl)

  pub keys_promoted : (es : Entries) → has b (keys_of es) ≡ true → length es ≤ 256 → keys_of (promoted (nat_eq b) es) ≡ used_last b (keys_of es)
  keys_promoted es here few =
      let short : length (without b (keys_of es)) ≤ 255 = omega (arith, length_without (keys_of es) here, keys_length es, few) in
      promoted_by es (lookup_entry (nat_eq b) es) refl (entry_has es ∙ here) ∙ ap (λ (l : List ℕ). b ∷ l) (sym (take_all 255 (without b (keys_of es)) short))
    where
      keys_length : (es : Entries) → length (keys_of es) ≡ length es
      keys_length es = length-map es (λ e. e.0)

  -- ---- a block that is new

  none_of : (o : Option (ℕ × List ℕ)) → is_some o ≡ false → o ≡ None
  none_of None gone = refl
  none_of (Some e) gone = cc

  absent_entry : (es : Entries) → has b (keys_of es) ≡ false → lookup_entry (nat_eq b) es ≡ None
  absent_entry es gone = none_of (lookup_entry (nat_eq b) es) (entry_has es ∙ gone)

  pub absent_promoted : (es : Entries) → has b (keys_of es) ≡ false → promoted (nat_eq b) es ≡ es
  absent_promoted es gone = rw (absent_entry es gone) refl

  keys_take : (n : ℕ) (es : Entries) → keys_of (take n es) ≡ take n (keys_of es)
  keys_take zero es = refl
  keys_take (suc n) [] = refl
  keys_take (suc n) (e ∷ es) = ap (λ (l : List ℕ). e.0 ∷ l) (keys_take n es)

  pub keys_put : (c : LruCache ℕ (List ℕ)) (v : List ℕ) → has b (keys_of c.entries) ≡ false → c.cap ≡ 256 → keys_of (put_entries nat_eq c b v) ≡ used_last b (keys_of c.entries)
  keys_put c v gone cap = rw (absent_entry c.entries gone, cap, keys_take 255 c.entries, without_absent (keys_of c.entries) gone) refl

  -- ---- a block that is put, whether it was there or not

  put_by : (c : LruCache ℕ (List ℕ)) (v : List ℕ) (o : Option (ℕ × List ℕ)) → lookup_entry (nat_eq b) c.entries ≡ o → is_some o ≡ true → keys_of (put_entries nat_eq c b v) ≡ b ∷ without b (keys_of c.entries)
  put_by c v None is here = cc
  put_by c v (Some e) is here =
      let key : b ≡ e.0 = first_key c.entries e is in
      rw is (rw (sym key, keys_removed c.entries) refl)

  keys_put_there : (c : LruCache ℕ (List ℕ)) (v : List ℕ) → has b (keys_of c.entries) ≡ true → length c.entries ≤ 256 → keys_of (put_entries nat_eq c b v) ≡ used_last b (keys_of c.entries)
  keys_put_there c v here few =
      let short : length (without b (keys_of c.entries)) ≤ 255 = omega (arith, length_without (keys_of c.entries) here, length-map c.entries (λ (e : ℕ × List ℕ). e.0), few) in
      put_by c v (lookup_entry (nat_eq b) c.entries) refl (entry_has c.entries ∙ here) ∙ ap (λ (l : List ℕ). b ∷ l) (sym (take_all 255 (without b (keys_of c.entries)) short))

  pub keys_put_any : (c : LruCache ℕ (List ℕ)) (v : List ℕ) → c.cap ≡ 256 → length c.entries ≤ 256 → keys_of (put_entries nat_eq c b v) ≡ used_last b (keys_of c.entries)
  keys_put_any c v cap few = (elim (has b (keys_of c.entries)) as (λ y. has b (keys_of c.entries) ≡ y → keys_of (put_entries nat_eq c b v) ≡ used_last b (keys_of c.entries)) [
    | true ↦ λ t. keys_put_there c v t few
    | false ↦ λ t. keys_put c v t cap
  ]) refl

  -- ---- what is shown of the disk

  pub shown_promoted : (at : ℕ) (content : List ℕ) (es : Entries) → AreShown at content es → AreShown at content (promoted (nat_eq b) es)
  shown_promoted at content es shown e c = shown e (Contains-promoted (nat_eq b) es e c)

  pub lengths_promoted : (es : Entries) → AreBlocks es → AreBlocks (promoted (nat_eq b) es)
  lengths_promoted es are e c = are e (Contains-promoted (nat_eq b) es e c)

  pub lengths_put : (c : LruCache ℕ (List ℕ)) (v : List ℕ) → length v ≡ 4096 → AreBlocks c.entries → AreBlocks (put_entries nat_eq c b v)
  lengths_put c v size are e d = ⊎_elim (λ was. are e was) (λ is. ap length is.0 ∙ size) (Contains-put_entries nat_eq c b v e d)

  pub shown_put : (at : ℕ) (content : List ℕ) (c : LruCache ℕ (List ℕ)) (v : List ℕ) → v ≡ part content (at + 4096 * b) 4096 → AreShown at content c.entries → AreShown at content (put_entries nat_eq c b v)
  shown_put at content c v is shown e d = ⊎_elim (λ was. shown e was) (λ put.
      let key : e.0 ≡ b = ⊎_elim (λ same. same) (λ there. sym (eqb-true b e.0 there.2)) put.1 in
      put.0 ∙ is ∙ ap (λ (k : ℕ). part content (at + 4096 * k) 4096) (sym key)) (Contains-put_entries nat_eq c b v e d)

-- ---- which blocks are there after uses

or_left : (x y : Bool) → x ≡ true → (x || y) ≡ true
or_left x y h = rw h refl

or_right : (x y : Bool) → y ≡ true → (x || y) ≡ true
or_right true y h = refl
or_right false y h = h

-- the first one, or another
or_cases : (x y : Bool) → (x || y) ≡ true → (x ≡ true) ⊎ (y ≡ true)
or_cases true y h = inl refl
or_cases false y h = inr h

next : (n : ℕ) → n + 1 ≡ suc n
next n = omega arith

-- a block among the first n is the one that is taken out, or is among the first n after it
moved : (b x n : ℕ) (ks : List ℕ) → has b (take n ks) ≡ true → (nat_eq b x || has b (take n (without x ks))) ≡ true
moved b x zero ks here = cc
moved b x (suc n) [] here = cc
moved b x (suc n) (k ∷ ks) here = (elim (nat_eq x k) as (λ y. nat_eq x k ≡ y → (nat_eq b x || has b (take (suc n) (without x (k ∷ ks)))) ≡ true) [
  | true ↦ λ t. rw t (⊎_elim
      (λ is. or_left (nat_eq b x) (has b (take (suc n) ks)) (eq-eqb b x (eqb-true b k is ∙ sym (eqb-true x k t))))
      (λ on. or_right (nat_eq b x) (has b (take (suc n) ks)) (subst (λ (m : ℕ). has b (take m ks) ≡ true) (next n) (list_any_kept (nat_eq b) ks n on)))
      (or_cases (nat_eq b k) (has b (take n ks)) here))
  | false ↦ λ t. rw t (⊎_elim
      (λ is. or_right (nat_eq b x) (nat_eq b k || has b (take n (without x ks))) (or_left (nat_eq b k) (has b (take n (without x ks))) is))
      (λ on. ⊎_elim (λ same. or_left (nat_eq b x) (nat_eq b k || has b (take n (without x ks))) same) (λ rest. or_right (nat_eq b x) (nat_eq b k || has b (take n (without x ks))) (or_right (nat_eq b k) (has b (take n (without x ks))) rest))
      (or_cases (nat_eq b x) (has b (take n (without x ks))) (moved b x n ks on)))
      (or_cases (nat_eq b k) (has b (take n ks)) here))
]) refl

take_take : (m n : ℕ) (ks : List ℕ) → m ≤ n → take m (take n ks) ≡ take m ks
take_take zero n ks le = refl
take_take (suc m) zero ks le = let bad : 1 ≤ 0 = omega (arith, le) in absurd (omega (arith, bad))
take_take (suc m) (suc n) [] le = refl
take_take (suc m) (suc n) (k ∷ ks) le = ap (λ (l : List ℕ). k ∷ l) (take_take m n ks (omega (arith, le)))

has_take : (b n : ℕ) (ks : List ℕ) → has b (take n ks) ≡ true → has b ks ≡ true
has_take b zero ks here = cc
has_take b (suc n) [] here = cc
has_take b (suc n) (k ∷ ks) here = ⊎_elim (λ is. or_left (nat_eq b k) (has b ks) is) (λ on. or_right (nat_eq b k) (has b ks) (has_take b n ks on)) (or_cases (nat_eq b k) (has b (take n ks)) here)

-- a block among the first n, which are fewer than 256, is among the first n + 1 after a use
among : (b x n : ℕ) (ks : List ℕ) → n ≤ 255 → has b (take n ks) ≡ true → has b (take (suc n) (used_last x ks)) ≡ true
among b x n ks few here = subst (λ (l : List ℕ). (nat_eq b x || has b l) ≡ true) (sym (take_take n 255 (without x ks) few)) (moved b x n ks here)

among_all : (b n : ℕ) (bs ks : List ℕ) → n + length bs ≤ 256 → has b (take n ks) ≡ true → has b (all_used_last bs ks) ≡ true
among_all b n [] ks few here = has_take b n ks here
among_all b n (x ∷ bs) ks few here = among_all b (suc n) bs (used_last x ks) (omega (arith, few)) (among b x n ks (omega (arith, few)) here)

pub used_all_in : (bs ks : List ℕ) → length bs ≤ 256 → AreIn bs (all_used_last bs ks)
used_all_in [] ks few = tt
used_all_in (b ∷ bs) ks few = (among_all b 1 bs (used_last b ks) (omega (arith, few)) (or_left (nat_eq b b) false (eq-eqb b b refl)), used_all_in bs (used_last b ks) (omega (arith, few)))

-- where a block is there, the others stay
pub stays : (b x : ℕ) (ks : List ℕ) → length ks ≤ 256 → has b ks ≡ true → has x ks ≡ true → has x (used_last b ks) ≡ true
stays b x ks few there here =
    let short : length (without b ks) ≤ 255 = omega (arith, length_without b ks there, few) in
    let all : has x (take (length ks) ks) ≡ true = subst (λ (l : List ℕ). has x l ≡ true) (sym (take_all (length ks) ks (omega arith))) here in
    let kept : take (length ks) (without b ks) ≡ without b ks = take_all (length ks) (without b ks) (omega (arith, length_without b ks there)) in
    subst (λ (l : List ℕ). (nat_eq x b || has x l) ≡ true) (kept ∙ sym (take_all 255 (without b ks) short)) (moved x b (length ks) ks all)

pub all_stay : (b : ℕ) (bs ks : List ℕ) → length ks ≤ 256 → has b ks ≡ true → AreIn bs ks → AreIn bs (used_last b ks)
all_stay b [] ks few here are = tt
all_stay b (x ∷ bs) ks few here are = (stays b x ks few here are.0, all_stay b bs ks few here are.1)

-- ---- a block that is brought to the front, if it is there

module _ (b : ℕ) (old new : LruCache ℕ (List ℕ)) (turned : new ≡ lru_cache (promoted (nat_eq b) old.entries) old.cap) where
  turned_entries : new.entries ≡ promoted (nat_eq b) old.entries
  turned_entries = ap (λ (c : LruCache ℕ (List ℕ)). c.entries) turned

  pub turned_same : has b (keys_of old.entries) ≡ false → new ≡ old
  turned_same absent = turned ∙ ap (λ (es : Entries). lru_cache es old.cap) (absent_promoted b old.entries absent)

  pub turned_lengths : AreBlocks old.entries → AreBlocks new.entries
  turned_lengths are = subst AreBlocks (sym turned_entries) (lengths_promoted b old.entries are)

  pub turned_shown : (at : ℕ) (content : List ℕ) → AreShown at content old.entries → AreShown at content new.entries
  turned_shown at content are = subst (AreShown at content) (sym turned_entries) (shown_promoted b at content old.entries are)

  pub turned_keys : has b (keys_of old.entries) ≡ true → length old.entries ≤ 256 → keys_of new.entries ≡ used_last b (keys_of old.entries)
  turned_keys there few = ap keys_of turned_entries ∙ keys_promoted b old.entries there few

  pub turned_stay : has b (keys_of old.entries) ≡ true → length old.entries ≤ 256 → (bs : List ℕ) → AreIn bs (keys_of old.entries) → AreIn bs (keys_of new.entries)
  turned_stay there few bs are = subst (AreIn bs) (sym (turned_keys there few)) (all_stay b bs (keys_of old.entries) (omega (arith, few, length-map old.entries (λ (e : ℕ × List ℕ). e.0))) there are)

-- ---- a block that is put

module _ (b : ℕ) (old put : LruCache ℕ (List ℕ)) (v : List ℕ) (stored : put ≡ lru_cache (put_entries nat_eq old b v) old.cap) where
  put_are : put.entries ≡ put_entries nat_eq old b v
  put_are = ap (λ (c : LruCache ℕ (List ℕ)). c.entries) stored

  pub put_lengths : length v ≡ 4096 → AreBlocks old.entries → AreBlocks put.entries
  put_lengths size are = subst AreBlocks (sym put_are) (lengths_put b old v size are)

  pub put_shown : (at : ℕ) (content : List ℕ) → v ≡ part content (at + 4096 * b) 4096 → AreShown at content old.entries → AreShown at content put.entries
  put_shown at content same are = subst (AreShown at content) (sym put_are) (shown_put b at content old v same are)

  pub put_keys : old.cap ≡ 256 → length old.entries ≤ 256 → keys_of put.entries ≡ used_last b (keys_of old.entries)
  put_keys cap few = ap keys_of put_are ∙ keys_put_any b old v cap few

-- ---- a run of uses

pub used_all_next : (bs ks : List ℕ) (i : ℕ) → i < length bs → all_used_last (take (i + 1) bs) ks ≡ used_last (get_or bs i 0) (all_used_last (take i bs) ks)
used_all_next [] ks i lt = absurd (omega (arith, lt))
used_all_next (b ∷ bs) ks zero lt = refl
used_all_next (b ∷ bs) ks (suc i) lt =
    let shift : suc (i + 1) ≡ suc i + 1 = omega arith in
    subst (λ (n : ℕ). all_used_last (take n (b ∷ bs)) ks ≡ used_last (get_or bs i 0) (all_used_last (take i bs) (used_last b ks))) shift (used_all_next bs (used_last b ks) i (omega (arith, lt)))

pub are_at : (bs ks : List ℕ) (i : ℕ) → i < length bs → AreIn bs ks → has (get_or bs i 0) ks ≡ true
are_at [] ks i lt are = absurd (omega (arith, lt))
are_at (b ∷ bs) ks zero lt are = are.0
are_at (b ∷ bs) ks (suc i) lt are = are_at bs ks i (omega (arith, lt)) are.1

-- ---- a block that is taken out

pub gone_after : (b : ℕ) (es : Entries) → IsDistinct nat_eq (keys_of es) → has b (keys_of (remove_entry (nat_eq b) es)) ≡ false
gone_after b es once =
    let one : (x y : ℕ) → nat_eq b x ≡ true → nat_eq b y ≡ nat_eq x y = λ x y t. ap (λ (z : ℕ). nat_eq z y) (eqb-true b x t) in
    let none : lookup (nat_eq b) (remove_entry (nat_eq b) es) ≡ None = lookup-remove_entry nat_eq_equiv (nat_eq b) one b es once ∙ (let same : nat_eq b b ≡ true = eq-eqb b b refl in rw same refl) in
    sym (lookup_has b (remove_entry (nat_eq b) es)) ∙ ap is_some none

pub member_other : (b : ℕ) (es : Entries) (e : ℕ × List ℕ) → Contains es e → has b (keys_of es) ≡ false → nat_eq b e.0 ≡ false
member_other b [] e c none = absurd (Contains-nil e c)
member_other b (f ∷ es) e c none =
    let parts = or_parts (nat_eq b f.0) (has b (keys_of es)) none in
    elim (Contains-cons f es e c) [
      | inl same ↦ subst (λ (x : ℕ × List ℕ). nat_eq b x.0 ≡ false) same parts.0
      | inr rest ↦ member_other b es e rest parts.1
    ]

-- ---- a block that isn't there, and isn't used either

absent_without : (b x : ℕ) (ks : List ℕ) → has b ks ≡ false → has b (without x ks) ≡ false
absent_without b x [] gone = refl
absent_without b x (k ∷ ks) gone =
    let parts = or_parts (nat_eq b k) (has b ks) gone in
    (elim (nat_eq x k) as (λ y. nat_eq x k ≡ y → has b (without x (k ∷ ks)) ≡ false) [
      | true ↦ λ t. rw t parts.1
      | false ↦ λ t. rw t (or_from (nat_eq b k) (has b (without x ks)) parts.0 (absent_without b x ks parts.1))
    ]) refl

absent_take : (b n : ℕ) (ks : List ℕ) → has b ks ≡ false → has b (take n ks) ≡ false
absent_take b zero ks gone = refl
absent_take b (suc n) [] gone = refl
absent_take b (suc n) (k ∷ ks) gone = let parts = or_parts (nat_eq b k) (has b ks) gone in or_from (nat_eq b k) (has b (take n ks)) parts.0 (absent_take b n ks parts.1)

absent_after : (b : ℕ) (bs ks : List ℕ) → has b bs ≡ false → has b ks ≡ false → has b (all_used_last bs ks) ≡ false
absent_after b [] ks other gone = gone
absent_after b (x ∷ bs) ks other gone =
    let parts = or_parts (nat_eq b x) (has b bs) other in
    let next : has b (x ∷ without x ks) ≡ false = or_from (nat_eq b x) (has b (without x ks)) parts.0 (absent_without b x ks gone) in
    absent_after b bs (used_last x ks) parts.1 (absent_take b 256 (x ∷ without x ks) next)

-- blocks below a number
lower_others : (b : ℕ) (bs : List ℕ) → ((i : ℕ) → i < length bs → get_or bs i 0 < b) → has b bs ≡ false
lower_others b [] low = refl
lower_others b (k ∷ bs) low =
    let first : k < b = low 0 (omega arith) in
    or_from (nat_eq b k) (has b bs) (ne_eqb b k (λ is. omega (arith, is, first))) (lower_others b bs (λ i lt. low (suc i) (omega (arith, lt))))

-- of neighbours that aren't there the next one isn't there either when those before it are used
pub next_absent : (first n : ℕ) (run ks : List ℕ) → AreNeighbours first run → AreAbsent run ks → n < length run → has (get_or run n 0) (all_used_last (take n run) ks) ≡ false
next_absent first n run ks next gone lt =
    let size : length (take n run) ≡ n = length-take-le n run (omega (arith, lt)) in
    let low : (i : ℕ) → i < length (take n run) → get_or (take n run) i 0 < get_or run n 0 = λ i lt'.
    let short : i < n = omega (arith, lt', size) in
    omega (arith, get_or-take n run i 0 short, next i (omega (arith, short, lt)), next n lt, short) in
    absent_after (get_or run n 0) (take n run) ks (lower_others (get_or run n 0) (take n run) low) (gone n lt)

pub stopped_at : (first : ℕ) (run old new : List ℕ) → AreNeighbours first run → AreAbsent run old → (n : ℕ) × (n < length run) × (new ≡ all_used_last (take n run) old) → HasStopped run old new
stopped_at first run old new next gone (n, lt, is) = (n, lt, is, subst (λ (l : List ℕ). has (get_or run n 0) l ≡ false) (sym is) (next_absent first n run old next gone lt))

-- one more block that isn't there, and is a neighbour
below_or_at : (j i : ℕ) → j < i + 1 → (j < i) ⊎ (j ≡ i)
below_or_at zero zero lt = inr refl
below_or_at zero (suc i) lt = inl (omega arith)
below_or_at (suc j) zero lt = absurd (omega (arith, lt))
below_or_at (suc j) (suc i) lt = ⊎_elim (λ low. inl (omega (arith, low))) (λ same. inr (ap suc same)) (below_or_at j i (omega (arith, lt)))

pub one_more_absent : (i : ℕ) (bs ks : List ℕ) → i < length bs → AreAbsent (take i bs) ks → has (get_or bs i 0) ks ≡ false → AreAbsent (take (i + 1) bs) ks
one_more_absent i bs ks lt all one j lt' = ⊎_elim
    (λ (below : j < i). subst (λ (b : ℕ). has b ks ≡ false) (get_or-take i bs j 0 below ∙ sym (get_or-take (i + 1) bs j 0 (omega (arith, below)))) (all j (omega (arith, below, length-take-le i bs (omega (arith, lt))))))
    (λ (same : j ≡ i). subst (λ (k : ℕ). has (get_or (take (i + 1) bs) k 0) ks ≡ false) (sym same) (subst (λ (b : ℕ). has b ks ≡ false) (sym (get_or-take (i + 1) bs i 0 (omega arith))) one))
    (below_or_at j i (omega (arith, lt', length-take-le (i + 1) bs (omega (arith, lt)))))

pub one_more_neighbour : (first i : ℕ) (bs : List ℕ) → i < length bs → AreNeighbours first (take i bs) → get_or bs i 0 ≡ first + i → AreNeighbours first (take (i + 1) bs)
one_more_neighbour first i bs lt all one j lt' = ⊎_elim
    (λ (below : j < i). get_or-take (i + 1) bs j 0 (omega (arith, below)) ∙ sym (get_or-take i bs j 0 below) ∙ all j (omega (arith, below, length-take-le i bs (omega (arith, lt)))))
    (λ (same : j ≡ i). subst (λ (k : ℕ). get_or (take (i + 1) bs) k 0 ≡ first + k) (sym same) (get_or-take (i + 1) bs i 0 (omega arith) ∙ one))
    (below_or_at j i (omega (arith, lt', length-take-le (i + 1) bs (omega (arith, lt)))))

-- the first block alone
pub first_absent : (bs ks : List ℕ) → 0 < length bs → has (get_or bs 0 0) ks ≡ false → AreAbsent (take 1 bs) ks
first_absent [] ks some gone = absurd (omega (arith, some))
first_absent (b ∷ bs) ks some gone = λ i lt. let low : i < 1 = lt in let is : i ≡ 0 = omega (arith, low) in subst (λ (k : ℕ). has (get_or (take 1 (b ∷ bs)) k 0) ks ≡ false) (sym is) gone

pub first_neighbour : (bs : List ℕ) → 0 < length bs → AreNeighbours (get_or bs 0 0) (take 1 bs)
first_neighbour [] some = absurd (omega (arith, some))
first_neighbour (b ∷ bs) some = λ i lt. let low : i < 1 = lt in let is : i ≡ 0 = omega (arith, low) in subst (λ (k : ℕ). get_or (take 1 (b ∷ bs)) k 0 ≡ b + k) (sym is) (omega arith)
