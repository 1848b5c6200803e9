-- The two orders have the same holdings after each change.
use Rattle.std.specs.Prelude.{◌==◌, if◌then◌else◌}
use Rattle.std.proofs.Common.{◌≡◌, ◌≢◌, ◌<◌, ◌^◌, List, [], ◌∷◌, Bool, true, false, cond, ◌&&◌, Option, None, Some, is_some, Ordering, Less, Equal}
use Rattle.std.proofs.Common.{Greater, nat_cmp, is_eq, refl, sym, ap, subst, ◌∙◌}
use Rattle.std.specs.BTreeMap.{insert_entry, is_at}
use Rattle.std.specs.List.Sorted.{IsStrictlySortedBy}
use Rattle.std.specs.Map.{keys_of, lookup, remove_entry, set_value}
use Rattle.std.specs.Ordering.{match_ordering}
use Rattle.std.proofs.lemmas.Bool.{false≢true}
use Rattle.std.proofs.lemmas.Map.{lookup-none}
use Rattle.std.proofs.lemmas.Map.Entries.{none_below_head}
use Rattle.std.proofs.lemmas.Map.Keys.{sorted_tail}
use Rattle.hsm_types.specs.Rights.{Rights, AreRights, holding_cmp, key_cmp, same_holding, holding, right_of, right_or_null, reaches, too_low, busy}
use Rattle.hsm_types.specs.Rights.{conflict, with_right, without_right}
use Rattle.hsm_types.specs.declared.dm.DmRefusal.TheVariants.{NeedRight}
use Rattle.hsm_types.specs.declared.dm.Right.{Right}
use Rattle.hsm_types.specs.declared.dm.Right.TheVariants.{Null, Shared, Excl}
use Rattle.hsm_types.specs.declared.keys.FileKey.{FileKey}
use Rattle.hsm_types.specs.declared.keys.Holding.{Holding}
use Rattle.hsm_types.specs.declared.keys.Token.{Token}
use Rattle.hsm_types.proofs.Righted.{eq-then, eq-nat_cmp, holding-cmp, holding-same, holding-equiv, holding_cmp-total, lookup-with, lookup-without}
use Rattle.hsm_types.proofs.Righted.{requested-rights, without-rights, keys-with_right, keys-without_right}
use Rattle.token_rights.specs.Indices.{held, held_cmp, stands, AreIndexed}
use Rattle.token_rights.specs.declared.held.Held.{Held}

-- ---- a holding is found by its order, and known by its numbers

tests : (h : Holding) → is_at (holding_cmp h) ≡ same_holding h
tests h = λ i other. holding-cmp h other i

pub lookup-is_at : (h : Holding) (rights : Rights) → lookup (is_at (holding_cmp h)) rights ≡ lookup (same_holding h) rights
lookup-is_at h rights = ap (λ (test : Holding → Bool). lookup test rights) (tests h)

pub without-is_at : (t : Token) (k : FileKey) (rights : Rights) → remove_entry (is_at (holding_cmp (holding t k))) rights ≡ without_right t k rights
without-is_at t k rights = ap (λ (test : Holding → Bool). remove_entry test rights) (tests (holding t k))

both_ways : (a b : Bool) → (a && b) ≡ (b && a)
both_ways true true = refl
both_ways true false = refl
both_ways false true = refl
both_ways false false = refl

held-cmp : (t u : Token) (k j : FileKey) → is_eq (held_cmp (held t k) (held u j)) ≡ same_holding (holding t k) (holding u j)
held-cmp t u k j =
    rw (eq-then (nat_cmp t.0 u.0) (key_cmp k j), eq-then (nat_cmp k.ino j.ino) (nat_cmp k.igen j.igen), eq-nat_cmp k.ino j.ino, eq-nat_cmp k.igen j.igen, eq-nat_cmp t.0 u.0) (both_ways (t.0 == u.0) ((k.ino == j.ino) && (k.igen == j.igen)))

-- ---- where a right is put in the place of another

module _ (h : Holding) (right : Right) where
  nowhere : (e : Holding × Right) (rest : Rights) → IsStrictlySortedBy holding_cmp (keys_of (e ∷ rest)) → holding_cmp h e.0 ≡ Less → lookup (is_at (holding_cmp h)) (e ∷ rest) ≡ None
  nowhere e rest order less = lookup-none (is_at (holding_cmp h)) (e ∷ rest) (none_below_head holding_cmp-total h e rest order less)

  set-is-insert : (rights : Rights) → IsStrictlySortedBy holding_cmp (keys_of rights) → lookup (is_at (holding_cmp h)) rights ≢ None → set_value (is_at (holding_cmp h)) rights right ≡ insert_entry holding_cmp rights h right
  set-is-insert [] order there = absurd (there refl)
  set-is-insert (e ∷ rest) order there = by (holding_cmp h e.0) refl there (set-is-insert rest (sorted_tail holding_cmp e.0 (keys_of rest) order))
    where
      by : (r : Ordering) → holding_cmp h e.0 ≡ r → cond (is_eq r) (Some e.1) (lookup (is_at (holding_cmp h)) rest) ≢ None
          → (lookup (is_at (holding_cmp h)) rest ≢ None → set_value (is_at (holding_cmp h)) rest right ≡ insert_entry holding_cmp rest h right)
          → cond (is_eq r) ((e.0, right) ∷ rest) (e ∷ set_value (is_at (holding_cmp h)) rest right) ≡ match_ordering r ((h, right) ∷ e ∷ rest) ((e.0, right) ∷ rest) (e ∷ insert_entry holding_cmp rest h right)
      by Less is found later = absurd (found (sym (ap (λ r. cond (is_eq r) (Some e.1) (lookup (is_at (holding_cmp h)) rest)) is) ∙ nowhere e rest order is))
      by Equal is found later = refl
      by Greater is found later = ap (λ (l : Rights). e ∷ l) (later found)

some_right : (o : Option Right) → right_or_null o ≢ Null → o ≢ None
some_right None some none = some refl
some_right (Some right) some none = cc

pub set-is-with : (t : Token) (k : FileKey) (right : Right) (rights : Rights) → IsStrictlySortedBy holding_cmp (keys_of rights) → right_of t k rights ≢ Null → set_value (is_at (holding_cmp (holding t k))) rights right ≡ with_right t k right rights
set-is-with t k right rights order some =
    set-is-insert (holding t k) right rights order (λ none. some_right (lookup (same_holding (holding t k)) rights) some (sym (lookup-is_at (holding t k) rights) ∙ none))

-- ---- rights that are high enough

pub high_enough : (need have : Right) → too_low need have ≡ None → reaches have need ≡ true
high_enough need have judged = by (reaches have need) judged
  where
    by : (b : Bool) → (if b then None else Some (NeedRight have)) ≡ None → b ≡ true
    by true enough = refl
    by false low = cc

-- what is as high as more than nothing is more than nothing
pub some_right-held : (need have : Right) → need ≢ Null → too_low need have ≡ None → have ≢ Null
some_right-held need have some judged null = by need some (sym (ap (λ r. reaches r need) null) ∙ high_enough need have judged)
  where
    by : (r : Right) → r ≢ Null → reaches Null r ≡ true → ⊥
    by Null more high = more refl
    by Shared more high = false≢true high
    by Excl more high = false≢true high

pub none-busy : (other : Option Token) → busy other ≡ None → other ≡ None
none-busy None free = refl
none-busy (Some t) free = cc

-- a right that is higher than the one before, and that nothing excludes
pub given-rights : (t : Token) (k : FileKey) (right : Right) (rights : Rights) → AreRights rights → reaches (right_of t k rights) right ≡ false → conflict k right t rights ≡ None → AreRights (with_right t k right rights)
given-rights t k right rights are low none = subst (λ (b : Bool). AreRights (if b then rights else with_right t k right rights)) low (requested-rights t k right rights are none)

-- ---- both orders after a change

is_some-if : (b : Bool) (right : Right) (o : Option Right) → is_some (cond b (Some right) o) ≡ cond b true (is_some o)
is_some-if true right o = refl
is_some-if false right o = refl

is_some-unless : (b : Bool) (o : Option Right) → is_some (cond b None o) ≡ cond b false (is_some o)
is_some-unless true o = refl
is_some-unless false o = refl

module _ (t : Token) (k : FileKey) (rights : Rights) (all : List Held) (is : AreIndexed rights all) where
  found-with : (u : Token) (j : FileKey) (right : Right) → is_some (lookup (same_holding (holding u j)) (with_right t k right rights)) ≡ cond (same_holding (holding t k) (holding u j)) true (is_some (lookup (same_holding (holding u j)) rights))
  found-with u j right =
      ap is_some (lookup-with (holding u j) (holding t k) right rights) ∙ is_some-if (same_holding (holding u j) (holding t k)) right (lookup (same_holding (holding u j)) rights)
      ∙ ap (λ b. cond b true (is_some (lookup (same_holding (holding u j)) rights))) (holding-equiv.symm (holding u j) (holding t k))

  pub indexed-with : (right : Right) (after : List Held) → AreRights (with_right t k right rights) → t.0 < 2 ^ 64 → ((h : Held) → stands h after ≡ cond (is_at (held_cmp (held t k)) h) true (stands h all)) → AreIndexed (with_right t k right rights) after
  indexed-with right after are small updates = record {
    are = are;
    tokens = keys-with_right (λ (h : Holding). h.token.0 < 2 ^ 64) t k right rights is.tokens small;
    same = λ u j. updates (held u j) ∙ (λ i. cond (held-cmp t u k j i) true (is.same u j i)) ∙ sym (found-with u j right);
  }

  pub indexed-without : (after : List Held) → ((h : Held) → stands h after ≡ cond (is_at (held_cmp (held t k)) h) false (stands h all)) → AreIndexed (without_right t k rights) after
  indexed-without after updates = record {
    are = without-rights t k rights is.are;
    tokens = keys-without_right (λ (h : Holding). h.token.0 < 2 ^ 64) t k rights is.tokens;
    same = λ u j. updates (held u j) ∙ (λ i. cond (held-cmp t u k j i) false (is.same u j i))
        ∙ sym (ap is_some (lookup-without (holding u j) (holding t k) rights is.are) ∙ is_some-unless (same_holding (holding t k) (holding u j)) (lookup (same_holding (holding u j)) rights));
  }

  -- where the token has a right there already
  pub indexed-replaced : (right : Right) → AreRights (with_right t k right rights) → t.0 < 2 ^ 64 → right_of t k rights ≢ Null → AreIndexed (with_right t k right rights) all
  indexed-replaced right are small some = indexed-with right all are small stays
    where
      there : (o : Option Right) → right_or_null o ≢ Null → is_some o ≡ true
      there None none = absurd (none refl)
      there (Some r) held = refl

      by : (b : Bool) (u : Token) (j : FileKey) → same_holding (holding t k) (holding u j) ≡ b → stands (held u j) all ≡ cond b true (stands (held u j) all)
      by true u j mine = is.same u j ∙ ap (λ (h : Holding). is_some (lookup (same_holding h) rights)) (sym (holding-same (holding t k) (holding u j) mine)) ∙ there (lookup (same_holding (holding t k)) rights) some
      by false u j other = refl

      stays : (h : Held) → stands h all ≡ cond (is_at (held_cmp (held t k)) h) true (stands h all)
      stays h = by (is_eq (held_cmp (held t k) h)) h.token h.key (sym (held-cmp t h.token k h.key))

  -- what is put into the second and taken out of it again
  pub indexed-back : (between after : List Held) → lookup (same_holding (holding t k)) rights ≡ None → ((h : Held) → stands h between ≡ cond (is_at (held_cmp (held t k)) h) true (stands h all))
      → ((h : Held) → stands h after ≡ cond (is_at (held_cmp (held t k)) h) false (stands h between)) → AreIndexed rights after
  indexed-back between after none put taken = record { are = is.are; tokens = is.tokens; same = λ u j. taken (held u j) ∙ by (is_eq (held_cmp (held t k) (held u j))) u j (sym (held-cmp t u k j)) }
    where
      by : (b : Bool) (u : Token) (j : FileKey) → same_holding (holding t k) (holding u j) ≡ b → cond b false (stands (held u j) between) ≡ is_some (lookup (same_holding (holding u j)) rights)
      by true u j mine = sym (ap is_some (ap (λ (h : Holding). lookup (same_holding h) rights) (sym (holding-same (holding t k) (holding u j) mine)) ∙ none))
      by false u j other = put (held u j) ∙ ap (λ b. cond b true (stands (held u j) all)) (held-cmp t u k j ∙ other) ∙ is.same u j
