-- What the walks over a part of the rights find.
use Rattle.std.proofs.Common.{◌≡◌, ℕ, ◌<◌, ◌≤◌, ◌-◌, ◌^◌, List, [], ◌∷◌, length, Bool, true, false, not, cond, ◌&&◌, None, Some, is_some, Ordering}
use Rattle.std.proofs.Common.{Less, Equal, Greater, nat_cmp, is_eq, is_lt, is_le, is_gt, refl, sym, ap, subst, ◌∙◌, arith}
use Rattle.std.specs.Prelude.{filter, nat_lt, ◌==◌}
use Rattle.std.specs.BTreeMap.Range.{range_contains}
use Rattle.std.specs.List.{All, find}
use Rattle.std.specs.Map.{keys_of, lookup}
use Rattle.std.specs.Option.{IsSome, option_map}
use Rattle.std.specs.Ordering.{ordering_then}
use Rattle.std.specs.declared.ops.Bound.TheVariants.{Included}
use Rattle.std.proofs.lemmas.Bool.{false≢true, true≢false, ltb-true, ltb-false, eqb-false, eq-eqb, false_from_ne_true}
use Rattle.std.proofs.lemmas.Cmp.{ranked, nat_cmp_total, nat_eq_equiv, tied_itself}
use Rattle.std.proofs.lemmas.List.Elements.{All-head, All-tail}
use Rattle.std.proofs.lemmas.Map.Views.{All-keys_from_lookup}
use Rattle.hsm_types.specs.Handles.{same_key}
use Rattle.hsm_types.specs.Rights.{Rights, holding_cmp, key_cmp, same_holding, same_token, holding, excludes, hinders, conflict, released, without_right}
use Rattle.hsm_types.specs.declared.dm.Right.{Right}
use Rattle.hsm_types.specs.declared.keys.FileKey.{FileKey}
use Rattle.hsm_types.specs.declared.keys.Holding.{Holding}
use Rattle.hsm_types.specs.declared.keys.Token.{Token}
use Rattle.hsm_types.proofs.Righted.{eq-then, eq-nat_cmp, token-same, holding-same, holding-equiv}
use Rattle.token_rights.specs.Indices.{held, held_cmp, stands, AreIndexed}
use Rattle.token_rights.specs.declared.held.Held.{Held}

-- ---- the rights on one file

-- it is another token's right, and excludes this one
abbrev pub blocks : Right → Token → Holding × Right → Bool
blocks need own other = not (same_token other.0.token own) && excludes need other.1

abbrev pub from : FileKey → Holding
from k = record { key = k; token = record { 0 = 0 } }

abbrev pub up_to : FileKey → Holding
up_to k = record { key = k; token = record { 0 = 2 ^ 64 - 1 } }

-- whether a holding is among those of the file
abbrev pub on_file : FileKey → Holding → Bool
on_file k h = range_contains holding_cmp (Included (from k)) (Included (up_to k)) h

zero_le : (n : ℕ) → is_gt (nat_cmp 0 n) ≡ false
zero_le n = by (nat_lt 0 n) (0 == n) refl refl
  where
    by : (b c : Bool) → nat_lt 0 n ≡ b → (0 == n) ≡ c → is_gt (cond b Less (cond c Equal Greater)) ≡ false
    by true c above same = refl
    by false true above same = refl
    by false false above same = absurd (let low : n ≤ 0 = ltb-false 0 n above in let other : 0 ≡ n → ⊥ = eqb-false 0 n same in omega arith)

is_le-upto : (r : Ordering) → is_gt r ≡ false → is_le r ≡ true
is_le-upto Less upto = refl
is_le-upto Equal upto = refl
is_le-upto Greater upto = absurd (true≢false upto)

within_64 : (n : ℕ) → n < 2 ^ 64 → is_lt (nat_cmp (2 ^ 64 - 1) n) ≡ false
within_64 n small = by (nat_lt (2 ^ 64 - 1) n) ((2 ^ 64 - 1) == n) refl
  where
    by : (b c : Bool) → nat_lt (2 ^ 64 - 1) n ≡ b → is_lt (cond b Less (cond c Equal Greater)) ≡ false
    by true c above = absurd (let high : 2 ^ 64 - 1 < n = ltb-true (2 ^ 64 - 1) n above in omega arith)
    by false true above = refl
    by false false above = refl

key-cmp : (j k : FileKey) → is_eq (key_cmp j k) ≡ same_key k j
key-cmp j k =
    rw (eq-then (nat_cmp j.ino k.ino) (nat_cmp j.igen k.igen), eq-nat_cmp j.ino k.ino, eq-nat_cmp j.igen k.igen)
    (λ i. nat_eq_equiv.symm j.ino k.ino i && nat_eq_equiv.symm j.igen k.igen i)

on_file-same : (k : FileKey) (h : Holding) → h.token.0 < 2 ^ 64 → on_file k h ≡ same_key h.key k
on_file-same k h small = by (key_cmp k h.key) ∙ key-cmp k h.key
  where
    by : (r : Ordering) → (is_le (ordering_then r (nat_cmp 0 h.token.0)) && not (is_lt (ordering_then r (nat_cmp (2 ^ 64 - 1) h.token.0)))) ≡ is_eq r
    by Less = refl
    by Equal = rw (is_le-upto (nat_cmp 0 h.token.0) (zero_le h.token.0), within_64 h.token.0 small) refl
    by Greater = refl

hinders-blocks : (k : FileKey) (need : Right) (own : Token) (e : Holding × Right) → hinders k need own e ≡ (same_key e.0.key k && blocks need own e)
hinders-blocks k need own e = by (same_key e.0.key k)
  where
    by : (b : Bool) → ((b && not (same_token e.0.token own)) && excludes need e.1) ≡ (b && blocks need own e)
    by true = refl
    by false = refl

pub find-on_file : (k : FileKey) (need : Right) (own : Token) (rights : Rights) → All (λ h. h.token.0 < 2 ^ 64) (keys_of rights) → find (hinders k need own) rights ≡ find (blocks need own) (filter (λ e. on_file k e.0) rights)
find-on_file k need own [] small = refl
find-on_file k need own (e ∷ rest) small =
    rw (hinders-blocks k need own e) (by (same_key e.0.key k) (on_file k e.0) (on_file-same k e.0 (All-head (λ h. h.token.0 < 2 ^ 64) e.0 (keys_of rest) small)) (find-on_file k need own rest (All-tail (λ h. h.token.0 < 2 ^ 64) e.0 (keys_of rest) small)))
  where
    by : (b c : Bool) → c ≡ b → find (hinders k need own) rest ≡ find (blocks need own) (filter (λ e. on_file k e.0) rest)
        → cond (b && blocks need own e) (Some e) (find (hinders k need own) rest) ≡ find (blocks need own) (cond c (e ∷ filter (λ e. on_file k e.0) rest) (filter (λ e. on_file k e.0) rest))
    by true true is later = ap (cond (blocks need own e) (Some e)) later
    by false false is later = later
    by true false is later = absurd (false≢true is)
    by false true is later = absurd (true≢false is)

-- what is left of the walk after an entry, and at its end
module _ (k : FileKey) (need : Right) (own : Token) (rights left : Rights) (same : find (hinders k need own) rights ≡ find (blocks need own) left) where
  pub found : (e : Holding × Right) (rest : Rights) → left ≡ e ∷ rest → blocks need own e ≡ true → Some e.0.token ≡ conflict k need own rights
  found e rest is blocked = sym (ap (option_map (λ (held : Holding × Right). held.0.token)) (same ∙ ap (find (blocks need own)) is ∙ ap (λ b. cond b (Some e) (find (blocks need own) rest)) blocked))

  pub passed : (e : Holding × Right) (rest : Rights) → left ≡ e ∷ rest → blocks need own e ≡ false → find (hinders k need own) rights ≡ find (blocks need own) rest
  passed e rest is free = same ∙ ap (find (blocks need own)) is ∙ ap (λ b. cond b (Some e) (find (blocks need own) rest)) free

  pub none-found : left ≡ [] → None ≡ conflict k need own rights
  none-found is = sym (ap (option_map (λ (held : Holding × Right). held.0.token)) (same ∙ ap (find (blocks need own)) is))

-- ---- the rights of one token

abbrev pub lowest : Token → Held
lowest t = held t (record { ino = 0; igen = 0 })

then_upto : (r s : Ordering) → is_gt r ≡ false → is_gt s ≡ false → is_gt (ordering_then r s) ≡ false
then_upto Less s upto too = refl
then_upto Equal s upto too = too
then_upto Greater s upto too = upto

pub lowest-upto : (t : Token) (k : FileKey) → is_gt (held_cmp (lowest t) (held t k)) ≡ false
lowest-upto t k = then_upto (nat_cmp t.0 t.0) (key_cmp (record { ino = 0; igen = 0 }) k) (ap is_gt (tied_itself nat_cmp_total t.0)) (then_upto (nat_cmp 0 k.ino) (nat_cmp 0 k.igen) (zero_le k.ino) (zero_le k.igen))

tokens-upto : (a b : Held) → is_gt (held_cmp a b) ≡ false → a.token.0 ≤ b.token.0
tokens-upto a b upto = by (nat_cmp a.token.0 b.token.0) refl upto
  where
    by : (r : Ordering) → nat_cmp a.token.0 b.token.0 ≡ r → is_gt (ordering_then r (key_cmp a.key b.key)) ≡ false → a.token.0 ≤ b.token.0
    by Less is below = let lower : a.token.0 < b.token.0 = ranked a.token.0 b.token.0 Less (sym is) in omega arith
    by Equal is below = let same : a.token.0 ≡ b.token.0 = ranked a.token.0 b.token.0 Equal (sym is) in omega arith
    by Greater is below = absurd (true≢false below)

-- where the first from the token's lowest on is another token's, the token has none
pub other-first : (t : Token) (first : Held) (all : List Held) → same_token first.token t ≡ false → is_gt (held_cmp (lowest t) first) ≡ false → ((q : Held) → is_gt (held_cmp (lowest t) q) ≡ false → stands q all ≡ true → is_gt (held_cmp first q) ≡ false)
    → (k : FileKey) → stands (held t k) all ≡ false
other-first t first all other above least k = false_from_ne_true (stands (held t k) all) (λ there.
    let low : t.0 ≤ first.token.0 = tokens-upto (lowest t) first above in
    let high : first.token.0 ≤ t.0 = tokens-upto first (held t k) (least (held t k) (lowest-upto t k) there) in
    let apart : first.token.0 ≡ t.0 → ⊥ = eqb-false first.token.0 t.0 other in
    omega arith)

kept_all : (t : Token) (rights : Rights) → All (λ h. same_token h.token t ≡ false) (keys_of rights) → released t rights ≡ rights
kept_all t [] all = refl
kept_all t (e ∷ rest) all =
    ap (λ b. cond (not b) (e ∷ released t rest) (released t rest)) (All-head (λ h. same_token h.token t ≡ false) e.0 (keys_of rest) all)
    ∙ ap (λ (l : Rights). e ∷ l) (kept_all t rest (All-tail (λ h. same_token h.token t ≡ false) e.0 (keys_of rest) all))

pub nothing-held : (t : Token) (rights : Rights) (all : List Held) → AreIndexed rights all → ((k : FileKey) → stands (held t k) all ≡ false) → released t rights ≡ rights
nothing-held t rights all is none =
    kept_all t rights (All-keys_from_lookup holding-equiv (λ h. same_token h.token t ≡ false) rights (λ h there. false_from_ne_true (same_token h.token t) (λ his.
    let whole : h ≡ holding t h.key = ap (λ u. holding u h.key) (token-same h.token t his) in
    let found : is_some (lookup (same_holding (holding t h.key)) rights) ≡ true = subst (λ q. is_some (lookup (same_holding q) rights) ≡ true) whole there in
    false≢true (sym (none h.key) ∙ is.same t h.key ∙ found))))

-- ---- one of them after another is taken away

pub released-without : (t : Token) (k : FileKey) (rights : Rights) → released t (without_right t k rights) ≡ released t rights
released-without t k [] = refl
released-without t k (e ∷ rest) = by (same_holding (holding t k) e.0) refl (released-without t k rest)
  where
    by : (b : Bool) → same_holding (holding t k) e.0 ≡ b → released t (without_right t k rest) ≡ released t rest → released t (cond b rest (e ∷ without_right t k rest)) ≡ released t (e ∷ rest)
    by true mine later = sym (ap (λ b. cond (not b) (e ∷ released t rest) (released t rest)) (ap (λ (h : Holding). same_token h.token t) (sym (holding-same (holding t k) e.0 mine)) ∙ eq-eqb t.0 t.0 refl))
    by false other later = ap (λ (l : Rights). cond (not (same_token e.0.token t)) (e ∷ l) l) later

pub length-without : (t : Token) (k : FileKey) (rights : Rights) → IsSome (lookup (same_holding (holding t k)) rights) → length (without_right t k rights) < length rights
length-without t k [] there = absurd (false≢true there)
length-without t k (e ∷ rest) there = by (same_holding (holding t k) e.0) there (length-without t k rest)
  where
    by : (b : Bool) → IsSome (cond b (Some e.1) (lookup (same_holding (holding t k)) rest)) → (IsSome (lookup (same_holding (holding t k)) rest) → length (without_right t k rest) < length rest)
        → length (cond b rest (e ∷ without_right t k rest)) < length (e ∷ rest)
    by true found later = omega arith
    by false found later = let fewer = later found in omega arith
