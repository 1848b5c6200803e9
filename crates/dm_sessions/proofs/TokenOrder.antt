-- The tokens of a table, sorted, are those of its messages in their order.
use Rattle.std.proofs.Common.{◌≡◌, ℕ, zero, suc, ◌<◌, ◌≤◌, Bool, true, false, cond, ◌||◌, List, [], ◌∷◌, None, Some, is_some, refl, sym, ap, ◌∙◌, eqb, arith}
use Rattle.std.proofs.lemmas.Bool.{false≢true, ne_eqb, eq-eqb, eqb-true}
use Rattle.std.proofs.lemmas.List.Elements.{All-head, All-tail}
use Rattle.std.proofs.lemmas.List.Sums.{sum_by-cons}
use Rattle.std.proofs.lemmas.List.Sorted.{All-permutation, sum_by-IsPermutation, list_any-IsPermutation}
use Rattle.std.specs.Prelude.{count_by}
use Rattle.std.specs.List.{All, find, list_any}
use Rattle.std.specs.List.Sorted.{IsPermutation, IsNonDecreasingBy}
use Rattle.std.specs.Map.{keys_of, values_of, lookup}
use Rattle.hsm_types.specs.Messages.{has_token}
use Rattle.hsm_types.specs.Sessions.{tokens_of}
use Rattle.hsm_types.specs.declared.keys.Token.{Token}
use Rattle.hsm_types.specs.declared.messages.Message.{Message}
use Rattle.dm_sessions.specs.Moves.{same_token}
use Rattle.dm_sessions.specs.Tables.{in_order, IsKept}
use Rattle.dm_sessions.proofs.Climbing.{Climbs, at, climbs-same, climbs-sorted}
use Rattle.dm_sessions.proofs.InOrder.{number, message_in-in_order, any-found, climbs-in_order}

abbrev Entries : Type 0
Entries = List (Token × Message)

abbrev value : Token → ℕ
value t = t.0

abbrev Apart : Entries → Type 0
Apart entries = (u : Token) → count_by (has_token u) (values_of entries) ≤ 1

abbrev one_if : Bool → ℕ
one_if b = cond b 1 0

-- one that is found under a number is the token of that number
find-token : (n : ℕ) (ts : List Token) → find (at value n) ts ≡ cond (list_any (at value n) ts) (Some (record { 0 = n })) None
find-token n [] = refl
find-token n (t ∷ ts) = by (eqb t.0 n) refl (find-token n ts)
  where
    by : (b : Bool) → eqb t.0 n ≡ b → find (at value n) ts ≡ cond (list_any (at value n) ts) (Some (record { 0 = n })) None → cond b (Some t) (find (at value n) ts) ≡ cond (b || list_any (at value n) ts) (Some (record { 0 = n })) None
    by true own rest = let same = eqb-true t.0 n own in λ i. Some (record { 0 = same i })
    by false other rest = rest

any-tokens : (n : ℕ) (messages : List Message) → list_any (at value n) (tokens_of messages) ≡ list_any (has_token (record { 0 = n })) messages
any-tokens n [] = refl
any-tokens n (m ∷ more) = ap (λ b. eqb m.token.0 n || b) (any-tokens n more)

any-keys : (n : ℕ) (entries : Entries) → list_any (at value n) (keys_of entries) ≡ is_some (lookup (same_token (record { 0 = n })) entries)
any-keys n [] = refl
any-keys n (e ∷ rest) = by (eqb e.0.0 n) refl (any-keys n rest)
  where
    by : (b : Bool) → eqb e.0.0 n ≡ b → list_any (at value n) (keys_of rest) ≡ is_some (lookup (same_token (record { 0 = n })) rest) → (b || list_any (at value n) (keys_of rest)) ≡ is_some (cond (eqb n e.0.0) (Some e.1) (lookup (same_token (record { 0 = n })) rest))
    by true own rest_is = let same : eqb n e.0.0 ≡ true = eq-eqb n e.0.0 (sym (eqb-true e.0.0 n own)) in rw same refl
    by false other rest_is = let differs : eqb n e.0.0 ≡ false = ne_eqb n e.0.0 (λ same. false≢true (sym other ∙ eq-eqb e.0.0 n (sym same))) in rw differs rest_is

climbs-tokens : (low : ℕ) (messages : List Message) → Climbs number low messages → Climbs value low (tokens_of messages)
climbs-tokens low [] h = tt
climbs-tokens low (m ∷ more) h = (h.0, climbs-tokens m.token.0 more h.1)

count-keys : (n : ℕ) (entries : Entries) → All IsKept entries → count_by (at value n) (keys_of entries) ≡ count_by (has_token (record { 0 = n })) (values_of entries)
count-keys n [] kept = refl
count-keys n (e ∷ rest) kept =
    let own : one_if (at value n e.0) ≡ one_if (has_token (record { 0 = n }) e.1) = ap (λ (t : Token). one_if (eqb t.0 n)) (All-head IsKept e rest kept).0 in
    omega (arith, own, count-keys n rest (All-tail IsKept e rest kept), sum_by-cons (λ (t : Token). one_if (at value n t)) e.0 (keys_of rest), sum_by-cons (λ m. one_if (has_token (record { 0 = n }) m)) e.1 (values_of rest))

real-keys : (entries : Entries) → All IsKept entries → All (λ (t : Token). 0 < t.0) (keys_of entries)
real-keys [] kept k d within = absurd (omega arith)
real-keys (e ∷ rest) kept zero d within = (All-head IsKept e rest kept).1
real-keys (e ∷ rest) kept (suc k) d within = real-keys rest (All-tail IsKept e rest kept) k d (omega arith)

module _ (entries : Entries) (ts : List Token) (kept : All IsKept entries) (apart : Apart entries) (same : IsPermutation (keys_of entries) ts) (up : IsNonDecreasingBy value ts) where
  pub climbs-ordered : Climbs value 0 ts
  climbs-ordered =
      let real = All-permutation (λ (t : Token). 0 < t.0) (keys_of entries) ts same (real-keys entries kept) in
      climbs-sorted value 0 ts up (λ n. let few = apart (record { 0 = n }) in omega (arith, sum_by-IsPermutation (λ (t : Token). one_if (at value n t)) (keys_of entries) ts same, count-keys n entries kept)) (λ d some. real 0 d some)

  found : (n : ℕ) → find (at value n) ts ≡ find (at value n) (tokens_of (in_order entries))
  found n =
      let listed : list_any (at value n) ts ≡ list_any (at value n) (tokens_of (in_order entries)) =
      sym (list_any-IsPermutation (at value n) (keys_of entries) ts same) ∙ any-keys n entries ∙ ap is_some (sym (message_in-in_order (record { 0 = n }) entries kept apart)) ∙ sym (any-found (record { 0 = n }) (in_order entries)) ∙ sym (any-tokens n (in_order entries)) in
      find-token n ts ∙ ap (λ (b : Bool). cond b (Some (record { 0 = n })) None) listed ∙ sym (find-token n (tokens_of (in_order entries)))

  pub tokens-ordered : ts ≡ tokens_of (in_order entries)
  tokens-ordered = climbs-same value 0 ts (tokens_of (in_order entries)) climbs-ordered (climbs-tokens 0 (in_order entries) (climbs-in_order entries kept apart)) found
