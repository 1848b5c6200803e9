-- A document with names alone, entry by entry.
use Rattle.std.proofs.Common.{◌≡◌, ◌↔◌, ℕ, List, Option, Some, IsSome, true, Contains, rules, Ordering, Less, Equal, Greater, nat_cmp, refl, sym}
use Rattle.std.proofs.Common.{subst, ap, ◌∙◌, ◌⊎◌, inl, inr}
use Rattle.std.proofs.lemmas.Cmp.{nat_list_cmp_total, nat_list_eq_equiv}
use Rattle.std.specs.Cmp.{tied_itself}
use Rattle.std.specs.Cmp.Lexicographic.{slice_cmp}
use Rattle.std.specs.Ordering.{match_ordering, is_eq}
use Rattle.std.proofs.lemmas.Map.Text.{is_eq-slice_cmp}
use Rattle.std.proofs.lemmas.Map.Views.{Contains-from_any, list_any-from_Contains}
use Rattle.std.proofs.lemmas.Slice.Eq.{bytes_eq-Decides}
use Rattle.std.specs.Str.{bytes_eq}
use Rattle.std.specs.List.{list_any}
use Rattle.toml.specs.Data.{Data, Members, no_members, member, get_member}
use Rattle.hsm_policy.specs.Documents.{names, HasNamesAlone}

at_later : (o : Ordering) (d : Data) (rest : Option Data) → IsSome rest → IsSome (match_ordering o rest (Some d) rest)
at_later Less d rest h = h
at_later Equal d rest h = refl
at_later Greater d rest h = h

at_either : (o : Ordering) (d : Data) (rest : Option Data) → IsSome (match_ordering o rest (Some d) rest) → (o ≡ Equal) ⊎ IsSome rest
at_either Less d rest h = inr h
at_either Equal d rest h = inl refl
at_either Greater d rest h = inr h

-- each key finds a member
here : (k : List ℕ) (d : Data) (ms : Members) → IsSome (get_member k (member k d ms))
here k d ms = rw (tied_itself nat_list_cmp_total k) refl

-- the rest has names alone exactly where all has, if the first key is a name
pub named_more : (k : List ℕ) (d : Data) (ms : Members) → Contains names k → HasNamesAlone (member k d ms) ↔ HasNamesAlone ms
named_more k d ms named = (
  λ all key found. all key (at_later (slice_cmp nat_cmp key k) d _ found),
  λ rest key found.
      elim (at_either (slice_cmp nat_cmp key k) d _ found) [
        | inl same ↦ subst (λ (x : List ℕ). Contains names x) (sym ((bytes_eq-Decides key k).0 (sym (is_eq-slice_cmp key k) ∙ ap is_eq same))) named
        | inr later ↦ rest key later
      ],
)

pub unnamed : (k : List ℕ) (d : Data) (ms : Members) → ¬ Contains names k → ¬ HasNamesAlone (member k d ms)
unnamed k d ms other = λ all. other (all k (here k d ms))

pub named_none : HasNamesAlone no_members
named_none = λ key found. search rules

-- what the test of a list of texts says
pub among : (k : List ℕ) (ks : List (List ℕ)) → list_any (bytes_eq k) ks ≡ true → Contains ks k
among k ks found = Contains-from_any (λ x y. (bytes_eq-Decides x y).0) k ks found

pub is_among : (k : List ℕ) (ks : List (List ℕ)) → Contains ks k → list_any (bytes_eq k) ks ≡ true
is_among k ks has = list_any-from_Contains nat_list_eq_equiv k ks has
