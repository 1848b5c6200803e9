-- What a text says, and what is picked from a table, is one thing: nothing else meets the definitions.
use Rattle.std.proofs.Common.{◌≡◌, ℕ, ℤ, pos, ◌<◌, List, Option, Some, nat_cmp, sym, ◌∙◌, subst, arith, rules}
use Rattle.std.proofs.lemmas.Cmp.{nat_list_cmp_total}
use Rattle.std.proofs.lemmas.List.Sorted.{ranks_by, sorted_far}
use Rattle.std.proofs.lemmas.Option.{same_Some}
use Rattle.std.specs.Cmp.Lexicographic.{slice_cmp}
use Rattle.std.specs.Ordering.{is_lt}
use Rattle.toml.specs.Data.{Members}
use Rattle.hsm_types.specs.declared.tables.Table.{Table}
use Rattle.hsm_policy.specs.declared.candidates.Candidate.{Candidate}
use Rattle.hsm_policy.specs.declared.picking.Picked.{Picked}
use Rattle.hsm_policy.specs.Settings.{Numbers}
use Rattle.hsm_policy.specs.Documents.{SaysSettings, IsTextOf}
use Rattle.hsm_policy.specs.Candidates.{rank, InOrder}
use Rattle.hsm_policy.specs.Picking.{IsShortest, IsPick}
use Rattle.hsm_policy.proofs.OneOrder.{one_order, ascends_from}

one_number : (said : Option ℤ) (m n : ℕ) → said ≡ Some (pos m) → said ≡ Some (pos n) → m ≡ n
one_number said m n a b = search (rules, same_Some _ _ (sym a ∙ b))

same_numbers : (document : Members) (s t : Numbers) → SaysSettings document s → SaysSettings document t → s ≡ t
same_numbers document s t a b = λ i. record {
  drives = one_number _ _ _ a.drives b.drives i;
  volumes = one_number _ _ _ a.volumes b.volumes i;
  capacity = one_number _ _ _ a.capacity b.capacity i;
  high = one_number _ _ _ a.high b.high i;
  low = one_number _ _ _ a.low b.low i;
  workers = one_number _ _ _ a.workers b.workers i;
}

pub one_settings : (text : List ℕ) (s t : Numbers) → IsTextOf text s → IsTextOf text t → s ≡ t
one_settings text s t a b =
    let same : b.1.0 ≡ a.1.0 = same_Some _ _ (sym b.1.1 ∙ a.1.1) in
    same_numbers a.1.0 s t a.1.2 (subst (λ (d : Members). SaysSettings d t) same b.1.2)

pub one_sorted : (given a b : List Candidate) → InOrder given a → InOrder given b → a ≡ b
one_sorted given a b p q =
    let o = ranks_by nat_list_cmp_total rank in
    one_order (λ x y. is_lt (slice_cmp nat_cmp (rank x) (rank y))) o a b (ascends_from _ o a (sorted_far _ o a p.ascending)) (ascends_from _ o b (sorted_far _ o b q.ascending)) (λ x. p.stable x ∙ sym (q.stable x))

one_count : (used low : ℕ) (sorted : List Candidate) (m n : ℕ) → IsShortest used low sorted m → IsShortest used low sorted n → m ≡ n
one_count used low sorted m n a b =
    let ge : m < n → ⊥ = λ less. b.no_fewer m less a.enough in
    let le : n < m → ⊥ = λ less. a.no_fewer n less b.enough in
    omega (arith, ge, le)

pub one_pick : (table : Table) (low : ℕ) (a b : List Picked) → IsPick table low a → IsPick table low b → a ≡ b
one_pick table low a b p q =
    let same : q.sorted ≡ p.sorted = one_sorted _ q.sorted p.sorted q.ordered p.ordered in
    let count = one_count table.used low p.sorted p.count q.count p.shortest (subst (λ (s : List Candidate). IsShortest table.used low s q.count) same q.shortest) in
    p.is ∙ rw (count, ← same) (sym q.is)
