-- Rights after each call: in order, each more than nothing, and an exclusive one alone on its file.
use Rattle.std.proofs.Common.{◌≡◌, ◌≢◌, ℕ, ◌<◌, arith, map, [], ◌∷◌, Bool, true, false, not, cond, Option, Some, None, Ordering, Less, Equal, Greater}
use Rattle.std.proofs.Common.{inl, inr, refl, sym, ap, subst, ◌∙◌, ⊎_elim, nat_cmp, is_eq}
use Rattle.std.specs.Prelude.{◌⊎◌, ◌&&◌, ◌==◌, if◌then◌else◌, filter, nat_lt}
use Rattle.std.specs.BTreeMap.{insert_entry}
use Rattle.std.specs.Cmp.{IsTotalOrder, IsEquivalence}
use Rattle.std.specs.List.{All, AllByRecursion, find, IsDistinct}
use Rattle.std.specs.List.Sorted.{IsStrictlySortedBy}
use Rattle.std.specs.Map.{keys_of, lookup, remove_entry}
use Rattle.std.specs.Option.{option_map}
use Rattle.std.specs.Ordering.{match_ordering, ordering_then, ordering_reverse}
use Rattle.std.proofs.lemmas.Bool.{eqb-true, ltb-true, eqb-false, eq-eqb, false≢true, true≢false, and_parts, cond_both, not-true}
use Rattle.std.proofs.lemmas.Cmp.{nat_cmp_total, on_total, then_total, eq_by_cmp_equiv}
use Rattle.std.proofs.lemmas.List.Elements.{All-nil, All-cons, All-head, All-tail, All-from_recursion, recursion_from_All}
use Rattle.std.proofs.lemmas.Map.{lookup-remove_entry}
use Rattle.std.proofs.lemmas.Map.Entries.{lookup-filter-keys}
use Rattle.std.proofs.lemmas.Map.Keys.{IsDistinct-from_sorted}
use Rattle.std.proofs.lemmas.Map.Views.{All-keys-insert_entry, All-values-insert_entry, All-map-remove_entry}
use Rattle.hsm_types.specs.Handles.{same_key}
use Rattle.hsm_types.specs.Rights.{reaches, excludes, same_token, same_holding, key_cmp, holding_cmp, Rights, holding, right_or_null, right_of}
use Rattle.hsm_types.specs.Rights.{hinders, conflict, with_right, requested, without_right, released, AreRights}
use Rattle.hsm_types.specs.declared.dm.Right.{Right}
use Rattle.hsm_types.specs.declared.dm.Right.TheVariants.{Null, Shared, Excl}
use Rattle.hsm_types.specs.declared.keys.FileKey.{FileKey}
use Rattle.hsm_types.specs.declared.keys.Holding.{Holding}
use Rattle.hsm_types.specs.declared.keys.Token.{Token}

-- ---- a holding is found by its order, and known by its numbers

pub token-same : (t u : Token) → same_token t u ≡ true → t ≡ u
token-same t u same = let n : t.0 ≡ u.0 = eqb-true t.0 u.0 same in λ i. record { 0 = n i }

key-same : (j k : FileKey) → same_key j k ≡ true → j ≡ k
key-same j k same =
    let parts = and_parts (j.ino == k.ino) (j.igen == k.igen) same in
    let ino : j.ino ≡ k.ino = eqb-true j.ino k.ino parts.0 in
    let igen : j.igen ≡ k.igen = eqb-true j.igen k.igen parts.1 in
    λ i. record { ino = ino i; igen = igen i }

pub holding-same : (a b : Holding) → same_holding a b ≡ true → a ≡ b
holding-same a b same =
    let parts = and_parts (same_key a.key b.key) (same_token a.token b.token) same in
    let key : a.key ≡ b.key = key-same a.key b.key parts.0 in
    let token : a.token ≡ b.token = token-same a.token b.token parts.1 in
    λ i. record { key = key i; token = token i }

key-refl : (k : FileKey) → same_key k k ≡ true
key-refl k = rw (eq-eqb k.ino k.ino refl, eq-eqb k.igen k.igen refl) refl

holding-refl : (a : Holding) → same_holding a a ≡ true
holding-refl a = rw (key-refl a.key, eq-eqb a.token.0 a.token.0 refl) refl

pub eq-nat_cmp : (x y : ℕ) → is_eq (nat_cmp x y) ≡ (x == y)
eq-nat_cmp x y = by (nat_lt x y) (x == y) refl refl
  where
    by : (b c : Bool) → nat_lt x y ≡ b → (x == y) ≡ c → is_eq (cond b Less (cond c Equal Greater)) ≡ c
    by true true lt eq = absurd (let below : x < y = ltb-true x y lt in let same : x ≡ y = eqb-true x y eq in omega arith)
    by true false lt eq = refl
    by false true lt eq = refl
    by false false lt eq = refl

pub eq-then : (a b : Ordering) → is_eq (ordering_then a b) ≡ (is_eq a && is_eq b)
eq-then Less b = refl
eq-then Equal b = refl
eq-then Greater b = refl

pub holding-cmp : (a b : Holding) → is_eq (holding_cmp a b) ≡ same_holding a b
holding-cmp a b =
    rw (eq-then (key_cmp a.key b.key) (nat_cmp a.token.0 b.token.0), eq-then (nat_cmp a.key.ino b.key.ino) (nat_cmp a.key.igen b.key.igen), eq-nat_cmp a.key.ino b.key.ino, eq-nat_cmp a.key.igen b.key.igen, eq-nat_cmp a.token.0 b.token.0)
    refl

pub holding_cmp-total : IsTotalOrder holding_cmp
holding_cmp-total = then_total (on_total (λ (h : Holding). h.key) (then_total (on_total (λ (k : FileKey). k.ino) nat_cmp_total) (on_total (λ (k : FileKey). k.igen) nat_cmp_total))) (on_total (λ (h : Holding). h.token.0) nat_cmp_total)

-- ---- what is held after a change

at_same : (a b : Holding) (r : Ordering) → holding_cmp a b ≡ r → same_holding a b ≡ is_eq r
at_same a b r is = sym (holding-cmp a b) ∙ ap is_eq is

-- two holdings that aren't the same, where one of them is another
other_same : (q h e : Holding) (b c : Bool) → same_holding q h ≡ b → same_holding q e ≡ c → same_holding h e ≡ false → b ≡ true → c ≡ false
other_same q h e b true mine is off same = absurd (false≢true (sym off ∙ subst (λ p. same_holding p e ≡ true) (holding-same q h (mine ∙ same)) is))
other_same q h e b false mine is off same = refl

pub lookup-with : (q h : Holding) (right : Right) (rights : Rights) → lookup (same_holding q) (insert_entry holding_cmp rights h right) ≡ cond (same_holding q h) (Some right) (lookup (same_holding q) rights)
lookup-with q h right [] = refl
lookup-with q h right (e ∷ rest) = by (holding_cmp h e.0) refl (lookup-with q h right rest)
  where
    swapped : (b c : Bool) → same_holding q h ≡ b → same_holding q e.0 ≡ c → (b ≡ true → c ≡ false) → cond c (Some e.1) (cond b (Some right) (lookup (same_holding q) rest)) ≡ cond b (Some right) (cond c (Some e.1) (lookup (same_holding q) rest))
    swapped true true mine is apart = absurd (true≢false (apart refl))
    swapped true false mine is apart = refl
    swapped false c mine is apart = refl

    by : (r : Ordering) → holding_cmp h e.0 ≡ r → lookup (same_holding q) (insert_entry holding_cmp rest h right) ≡ cond (same_holding q h) (Some right) (lookup (same_holding q) rest)
        → lookup (same_holding q) (match_ordering r ((h, right) ∷ e ∷ rest) ((e.0, right) ∷ rest) (e ∷ insert_entry holding_cmp rest h right)) ≡ cond (same_holding q h) (Some right) (lookup (same_holding q) (e ∷ rest))
    by Less is later = refl
    by Equal is later =
        let same : h ≡ e.0 = holding-same h e.0 (at_same h e.0 Equal is) in
        subst (λ p. cond (same_holding q p) (Some right) (lookup (same_holding q) rest) ≡ cond (same_holding q h) (Some right) (cond (same_holding q p) (Some e.1) (lookup (same_holding q) rest))) same (twice (same_holding q h))
      where
        twice : (b : Bool) → cond b (Some right) (lookup (same_holding q) rest) ≡ cond b (Some right) (cond b (Some e.1) (lookup (same_holding q) rest))
        twice true = refl
        twice false = refl
    by Greater is later = ap (cond (same_holding q e.0) (Some e.1)) later ∙ swapped (same_holding q h) (same_holding q e.0) refl refl (other_same q h e.0 (same_holding q h) (same_holding q e.0) refl refl (at_same h e.0 Greater is))

pub holding-equiv : IsEquivalence same_holding
holding-equiv = record {
  refl = holding-refl;
  symm = λ a b. sym (holding-cmp a b) ∙ (eq_by_cmp_equiv holding_cmp-total).symm a b ∙ holding-cmp b a;
  congr = λ a b c same. ap (λ h. same_holding h c) (holding-same a b same);
}

distinct : (rights : Rights) → AreRights rights → IsDistinct same_holding (keys_of rights)
distinct rights are = subst (λ (same : Holding → Holding → Bool). IsDistinct same (keys_of rights)) (λ i a b. holding-cmp a b i) (IsDistinct-from_sorted holding_cmp (keys_of rights) are.ascend)

pub lookup-without : (q h : Holding) (rights : Rights) → AreRights rights → lookup (same_holding q) (remove_entry (same_holding h) rights) ≡ cond (same_holding h q) None (lookup (same_holding q) rights)
lookup-without q h rights are = lookup-remove_entry holding-equiv (same_holding h) (λ a b same. ap (λ (o : Holding). same_holding o b) (holding-same h a same)) q rights (distinct rights are)

-- what the token has on the file then
right_of-with : (u t : Token) (j k : FileKey) (right : Right) (rights : Rights) → right_of u j (with_right t k right rights) ≡ if same_holding (holding u j) (holding t k) then right else right_of u j rights
right_of-with u t j k right rights = ap right_or_null (lookup-with (holding u j) (holding t k) right rights) ∙ by (same_holding (holding u j) (holding t k))
  where
    by : (b : Bool) → right_or_null (cond b (Some right) (lookup (same_holding (holding u j)) rights)) ≡ if b then right else right_of u j rights
    by true = refl
    by false = refl

fewer_if : (b : Bool) (o : Option Right) → (right_or_null (cond b None o) ≡ right_or_null o) ⊎ (right_or_null (cond b None o) ≡ Null)
fewer_if true o = inr refl
fewer_if false o = inl refl

fewer_unless : (b : Bool) (o : Option Right) → (right_or_null (cond b o None) ≡ right_or_null o) ⊎ (right_or_null (cond b o None) ≡ Null)
fewer_unless true o = inl refl
fewer_unless false o = inr refl

-- what a token has on a file in ys is what it has in xs, or nothing
abbrev Fewer : Rights → Rights → Type 0
Fewer xs ys = (u : Token) (j : FileKey) → (right_of u j ys ≡ right_of u j xs) ⊎ (right_of u j ys ≡ Null)

fewer-without : (t : Token) (k : FileKey) (rights : Rights) → AreRights rights → Fewer rights (without_right t k rights)
fewer-without t k rights are u j =
    rw (lookup-without (holding u j) (holding t k) rights are)
    (fewer_if (same_holding (holding t k) (holding u j)) (lookup (same_holding (holding u j)) rights))

fewer-released : (t : Token) (rights : Rights) → Fewer rights (released t rights)
fewer-released t rights u j =
    rw (lookup-filter-keys (same_holding (holding u j)) (λ (h : Holding). not (same_token h.token t)) (not (same_token u t)) (λ h same. ap (λ (o : Holding). not (same_token o.token t)) (sym (holding-same (holding u j) h same))) rights)
    (fewer_unless (not (same_token u t)) (lookup (same_holding (holding u j)) rights))

-- ---- in order after a change

abbrev Below : Holding → Rights → Type 0
Below h rights = AllByRecursion (λ other. holding_cmp h other ≡ Less) (keys_of rights)

abbrev InOrder : Rights → Type 0
InOrder rights = IsStrictlySortedBy holding_cmp (keys_of rights)

below-all : (h : Holding) (xs ys : Rights) → (All (λ other. holding_cmp h other ≡ Less) (keys_of xs) → All (λ other. holding_cmp h other ≡ Less) (keys_of ys)) → Below h xs → Below h ys
below-all h xs ys kept low = recursion_from_All (λ other. holding_cmp h other ≡ Less) (keys_of ys) (kept (All-from_recursion (λ other. holding_cmp h other ≡ Less) (keys_of xs) low))

below-lower : (low h : Holding) (rights : Rights) → holding_cmp low h ≡ Less → Below h rights → Below low rights
below-lower low h [] less above = tt
below-lower low h (e ∷ rest) less above = (holding_cmp-total.trans low h e.0 less above.0, below-lower low h rest less above.1)

ordered-with : (h : Holding) (right : Right) (rights : Rights) → InOrder rights → InOrder (insert_entry holding_cmp rights h right)
unfolding IsStrictlySortedBy
ordered-with h right [] order = (tt, tt)
ordered-with h right (e ∷ rest) order = by (holding_cmp h e.0) refl (ordered-with h right rest order.1)
  where
    by : (r : Ordering) → holding_cmp h e.0 ≡ r → InOrder (insert_entry holding_cmp rest h right) → InOrder (match_ordering r ((h, right) ∷ e ∷ rest) ((e.0, right) ∷ rest) (e ∷ insert_entry holding_cmp rest h right))
    by Less is later = ((is, below-lower h e.0 rest is order.0), order)
    by Equal is later = order
    by Greater is later =
        let low : holding_cmp e.0 h ≡ Less = holding_cmp-total.antisymm e.0 h ∙ ap ordering_reverse is in
        (below-all e.0 rest (insert_entry holding_cmp rest h right) (λ all. All-keys-insert_entry holding_cmp h right (λ other. holding_cmp e.0 other ≡ Less) rest all low) order.0, later)

ordered-without : (test : Holding → Bool) (rights : Rights) → InOrder rights → InOrder (remove_entry test rights)
unfolding IsStrictlySortedBy
ordered-without test [] order = tt
ordered-without test (e ∷ rest) order = by (test e.0) (ordered-without test rest order.1)
  where
    by : (b : Bool) → InOrder (remove_entry test rest) → InOrder (cond b rest (e ∷ remove_entry test rest))
    by true later = order.1
    by false later = (below-all e.0 rest (remove_entry test rest) (All-map-remove_entry test (λ (a : Holding × Right). a.0) (λ other. holding_cmp e.0 other ≡ Less) rest) order.0, later)

-- ---- where entries are kept or not

all-filtered : {Y : Type 0} (f : Holding × Right → Y) (P Q : Y → Type 0) (keep : Holding × Right → Bool) (rights : Rights) → All P (map f rights) → ((held : Holding × Right) → P (f held) → keep held ≡ true → Q (f held)) → All Q (map f (filter keep rights))
all-filtered f P Q keep [] all kept = All-nil Q
all-filtered f P Q keep (e ∷ rest) all kept = by (keep e) refl (all-filtered f P Q keep rest (All-tail P (f e) (map f rest) all) kept)
  where
    by : (b : Bool) → keep e ≡ b → All Q (map f (filter keep rest)) → All Q (map f (cond b (e ∷ filter keep rest) (filter keep rest)))
    by true is later = All-cons Q (f e) (map f (filter keep rest)) (kept e (All-head P (f e) (map f rest) all) is) later
    by false is later = later

ordered-filtered : (keep : Holding × Right → Bool) (rights : Rights) → InOrder rights → InOrder (filter keep rights)
unfolding IsStrictlySortedBy
ordered-filtered keep [] order = tt
ordered-filtered keep (e ∷ rest) order = by (keep e) (ordered-filtered keep rest order.1)
  where
    by : (b : Bool) → InOrder (filter keep rest) → InOrder (cond b (e ∷ filter keep rest) (filter keep rest))
    by true later = (below-all e.0 rest (filter keep rest) (λ all. all-filtered (λ (a : Holding × Right). a.0) (λ other. holding_cmp e.0 other ≡ Less) (λ other. holding_cmp e.0 other ≡ Less) keep rest all (λ held less is. less)) order.0, later)
    by false later = later

-- ---- what excludes a right

some_isnt_none : (t : Token) → Some t ≡ None → ⊥
some_isnt_none t same = cc

null_excludes : (need : Right) → excludes need Null ≡ false
null_excludes Null = refl
null_excludes Shared = refl
null_excludes Excl = refl

-- where nothing conflicts, no other token's right excludes this one
unconflicted : (k : FileKey) (need : Right) (own u : Token) (rights : Rights) → conflict k need own rights ≡ None → same_token u own ≡ false → excludes need (right_of u k rights) ≡ false
unconflicted k need own u [] none other = null_excludes need
unconflicted k need own u (e ∷ rest) none other = by (hinders k need own e) (same_holding (holding u k) e.0) refl refl none (λ free. unconflicted k need own u rest free other)
  where
    by : (b c : Bool) → hinders k need own e ≡ b → same_holding (holding u k) e.0 ≡ c → option_map (λ (held : Holding × Right). held.0.token) (cond b (Some e) (find (hinders k need own) rest)) ≡ None
        → (conflict k need own rest ≡ None → excludes need (right_of u k rest) ≡ false) → excludes need (right_or_null (cond c (Some e.1) (lookup (same_holding (holding u k)) rest))) ≡ false
    by true c hinder is free later = absurd (some_isnt_none e.0.token free)
    by false false hinder is free later = later free
    by false true hinder is free later = rw (key-refl k, other) at (subst (λ h. hinders k need own (h, e.1) ≡ false) (sym (holding-same (holding u k) e.0 is)) hinder)

beside_excl : (right : Right) → excludes Excl right ≡ false → right ≡ Null
beside_excl Null free = refl
beside_excl Shared free = absurd (true≢false free)
beside_excl Excl free = absurd (true≢false free)

excl_excludes : (need right : Right) → excludes need right ≡ false → right ≡ Excl → need ≡ Null
excl_excludes Null right free is = refl
excl_excludes Shared right free is = absurd (true≢false (rw is at free))
excl_excludes Excl right free is = absurd (true≢false (rw is at free))

reaches_null : (right : Right) → reaches right Null ≡ true
reaches_null Null = refl
reaches_null Shared = refl
reaches_null Excl = refl

reaches_excl : (right : Right) → reaches right Excl ≡ true → right ≡ Excl
reaches_excl Null high = absurd (false≢true high)
reaches_excl Shared high = absurd (false≢true high)
reaches_excl Excl high = refl

excl_some : Excl ≡ Null → ⊥
excl_some same = cc

-- ---- an exclusive right is alone

abbrev Alone : Rights → Type 0
Alone rights = (t u : Token) (k : FileKey) → right_of t k rights ≡ Excl → right_of u k rights ≢ Null → t ≡ u

alone-fewer : (xs ys : Rights) → Alone xs → Fewer xs ys → Alone ys
alone-fewer xs ys alone fewer t u k excl some =
    ⊎_elim
    (λ (same : right_of t k ys ≡ right_of t k xs).
    ⊎_elim (λ (too : right_of u k ys ≡ right_of u k xs). alone t u k (sym same ∙ excl) (λ null. some (too ∙ null))) (λ (null : right_of u k ys ≡ Null). absurd (some null)) (fewer u k))
    (λ (null : right_of t k ys ≡ Null). absurd (excl_some (sym excl ∙ null))) (fewer t k)

-- this right in the place of another, where every other token's right allows it
module _ (t : Token) (k : FileKey) (right : Right) (rights : Rights) (alone : Alone rights) (high : (u : Token) → same_token u t ≡ false → right ≡ Excl → right_of u k rights ≡ Null)
    (free : (u : Token) → same_token u t ≡ false → right_of u k rights ≡ Excl → right ≡ Null) where
  has : (u : Token) (j : FileKey) (b : Bool) → same_holding (holding u j) (holding t k) ≡ b → right_of u j (with_right t k right rights) ≡ if b then right else right_of u j rights
  has u j b is = right_of-with u t j k right rights ∙ ap (λ (c : Bool). if c then right else right_of u j rights) is

  -- on this file another holding is another token's
  apart : (u : Token) (j : FileKey) → k ≡ j → same_holding (holding u j) (holding t k) ≡ false → same_token u t ≡ false
  apart u j key off = rw (key-refl k) at (subst (λ i. same_holding (holding u i) (holding t k) ≡ false) (sym key) off)

  alone-with : Alone (with_right t k right rights)
  alone-with a b j excl some = by (same_holding (holding a j) (holding t k)) (same_holding (holding b j) (holding t k)) refl refl
    where
      by : (mine his : Bool) → same_holding (holding a j) (holding t k) ≡ mine → same_holding (holding b j) (holding t k) ≡ his → a ≡ b
      by true true is too = ap (λ (h : Holding). h.token) (holding-same (holding a j) (holding t k) is ∙ sym (holding-same (holding b j) (holding t k) too))
      by true false is too =
          let key : k ≡ j = ap (λ (h : Holding). h.key) (sym (holding-same (holding a j) (holding t k) is)) in
          let now : right ≡ Excl = sym (has a j true is) ∙ excl in
          absurd (some (has b j false too ∙ subst (λ i. right_of b i rights ≡ Null) key (high b (apart b j key too) now)))
      by false true is too =
          let key : k ≡ j = ap (λ (h : Holding). h.key) (sym (holding-same (holding b j) (holding t k) too)) in
          let before : right_of a j rights ≡ Excl = sym (has a j false is) ∙ excl in
          absurd (some (has b j true too ∙ free a (apart a j key is) (subst (λ i. right_of a i rights ≡ Excl) (sym key) before)))
      by false false is too = alone a b j (sym (has a j false is) ∙ excl) (λ null. some (has b j false too ∙ null))

-- ---- what the calls leave

pub no-rights : AreRights []
unfolding IsStrictlySortedBy
no-rights = record { ascend = tt; some = All-nil (λ (right : Right). right ≢ Null); alone = λ t u k excl some. absurd (some refl) }

with-rights : (t : Token) (k : FileKey) (right : Right) (rights : Rights) → AreRights rights → right ≢ Null → Alone (with_right t k right rights) → AreRights (with_right t k right rights)
with-rights t k right rights are some alone = record {
  ascend = ordered-with (holding t k) right rights are.ascend;
  some = All-values-insert_entry holding_cmp (holding t k) right (λ (r : Right). r ≢ Null) rights are.some some;
  alone = alone;
}

given-rights : (t : Token) (k : FileKey) (right : Right) (rights : Rights) → AreRights rights → right ≢ Null → conflict k right t rights ≡ None → AreRights (with_right t k right rights)
given-rights t k right rights are some none =
    with-rights t k right rights are some
    (alone-with t k right rights are.alone (λ u off is. beside_excl (right_of u k rights) (subst (λ r. excludes r (right_of u k rights) ≡ false) is (unconflicted k right t u rights none off)))
    (λ u off is. excl_excludes right (right_of u k rights) (unconflicted k right t u rights none off) is))

pub requested-rights : (t : Token) (k : FileKey) (right : Right) (rights : Rights) → AreRights rights → conflict k right t rights ≡ None → AreRights (requested t k right rights)
requested-rights t k right rights are none =
    cond_both (reaches (right_of t k rights) right) rights (with_right t k right rights) AreRights (λ enough. are)
    (λ low. given-rights t k right rights are (λ null. false≢true (sym low ∙ ap (reaches (right_of t k rights)) null ∙ reaches_null (right_of t k rights))) none)

pub upgraded-rights : (t : Token) (k : FileKey) (rights : Rights) → AreRights rights → conflict k Excl t rights ≡ None → AreRights (with_right t k Excl rights)
upgraded-rights t k rights are none = given-rights t k Excl rights are excl_some none

pub downgraded-rights : (t : Token) (k : FileKey) (rights : Rights) → AreRights rights → reaches (right_of t k rights) Excl ≡ true → AreRights (with_right t k Shared rights)
downgraded-rights t k rights are high =
    with-rights t k Shared rights are (λ null. cc)
    (alone-with t k Shared rights are.alone (λ u off is. absurd cc)
    (λ u off is. absurd (eqb-false u.0 t.0 off (ap (λ (v : Token). v.0) (are.alone u t k is (λ null. excl_some (sym (reaches_excl (right_of t k rights) high) ∙ null)))))))

pub without-rights : (t : Token) (k : FileKey) (rights : Rights) → AreRights rights → AreRights (without_right t k rights)
without-rights t k rights are = record {
  ascend = ordered-without (same_holding (holding t k)) rights are.ascend;
  some = All-map-remove_entry (same_holding (holding t k)) (λ (a : Holding × Right). a.1) (λ (r : Right). r ≢ Null) rights are.some;
  alone = alone-fewer rights (without_right t k rights) are.alone (fewer-without t k rights are);
}

pub released-rights : (t : Token) (rights : Rights) → AreRights rights → AreRights (released t rights)
released-rights t rights are = record {
  ascend = ordered-filtered (λ held. not (same_token held.0.token t)) rights are.ascend;
  some = all-filtered (λ (a : Holding × Right). a.1) (λ (r : Right). r ≢ Null) (λ (r : Right). r ≢ Null) (λ held. not (same_token held.0.token t)) rights are.some (λ held some kept. some);
  alone = alone-fewer rights (released t rights) are.alone (fewer-released t rights);
}

-- ---- what is true of all that holds

pub keys-with_right : (P : Holding → Type 0) (t : Token) (k : FileKey) (right : Right) (rights : Rights) → All P (keys_of rights) → P (holding t k) → All P (keys_of (with_right t k right rights))
keys-with_right P t k right rights all this = All-keys-insert_entry holding_cmp (holding t k) right P rights all this

pub keys-requested : (P : Holding → Type 0) (t : Token) (k : FileKey) (right : Right) (rights : Rights) → All P (keys_of rights) → P (holding t k) → All P (keys_of (requested t k right rights))
keys-requested P t k right rights all this =
    cond_both (reaches (right_of t k rights) right) rights (with_right t k right rights) (λ (left : Rights). All P (keys_of left)) (λ enough. all) (λ low. keys-with_right P t k right rights all this)

pub keys-without_right : (P : Holding → Type 0) (t : Token) (k : FileKey) (rights : Rights) → All P (keys_of rights) → All P (keys_of (without_right t k rights))
keys-without_right P t k rights all = All-map-remove_entry (same_holding (holding t k)) (λ (a : Holding × Right). a.0) P rights all

pub keys-released : (P Q : Holding → Type 0) (t : Token) (rights : Rights) → All P (keys_of rights) → ((h : Holding) → P h → same_token h.token t ≡ false → Q h) → All Q (keys_of (released t rights))
keys-released P Q t rights all kept =
    all-filtered (λ (a : Holding × Right). a.0) P Q (λ held. not (same_token held.0.token t)) rights all (λ held holds is. kept held.0 holds (not-true (same_token held.0.token t) is))

-- who is told of a conflict holds the file
pub conflict-held : (P : Holding → Type 0) (k : FileKey) (need : Right) (own t : Token) (rights : Rights) → All P (keys_of rights) → conflict k need own rights ≡ Some t → P (holding t k)
conflict-held P k need own t [] all is = absurd (some_isnt_none t (sym is))
conflict-held P k need own t (e ∷ rest) all is = by (hinders k need own e) refl is (conflict-held P k need own t rest (All-tail P e.0 (keys_of rest) all))
  where
    by : (b : Bool) → hinders k need own e ≡ b → option_map (λ (held : Holding × Right). held.0.token) (cond b (Some e) (find (hinders k need own) rest)) ≡ Some t → (conflict k need own rest ≡ Some t → P (holding t k)) → P (holding t k)
    by true hinder told later =
        let key : e.0.key ≡ k = key-same e.0.key k (and_parts (same_key e.0.key k) (not (same_token e.0.token own)) (and_parts (same_key e.0.key k && not (same_token e.0.token own)) (excludes need e.1) hinder).0).0 in
        let token : e.0.token ≡ t = cc in
        subst P (λ i. record { key = key i; token = token i }) (All-head P e.0 (keys_of rest) all)
    by false hinder told later = later told

-- whoever has a right on a file is among those who hold
pub right-held : (P : Holding → Type 0) (t : Token) (k : FileKey) (rights : Rights) → All P (keys_of rights) → right_of t k rights ≢ Null → P (holding t k)
right-held P t k [] all some = absurd (some refl)
right-held P t k (e ∷ rest) all some = by (same_holding (holding t k) e.0) refl (right-held P t k rest (All-tail P e.0 (keys_of rest) all))
  where
    by : (b : Bool) → same_holding (holding t k) e.0 ≡ b → (right_of t k rest ≢ Null → P (holding t k)) → P (holding t k)
    by true is later = subst P (sym (holding-same (holding t k) e.0 is)) (All-head P e.0 (keys_of rest) all)
    by false is later = later (λ none. some (rw is none))
