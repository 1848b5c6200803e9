-- Bytes that were lengthened by zeros, and then written over.
use Rattle.std.proofs.Common.{rules, ◌≡◌, ℕ, ◌+◌, ◌-◌, List, ◌++◌, take, drop, length, arith}
use Rattle.std.specs.Prelude.{replicate}
use Rattle.std.proofs.lemmas.List.{same_lists, places}
use Rattle.plain_model.specs.Plain.{written}

pub written-grown : (offset : ℕ) (bytes old grown : List ℕ) → grown ≡ old ++ replicate (offset + length bytes - length old) 0
    → take offset grown ++ bytes ++ drop (offset + length bytes) grown ≡ written offset bytes old
written-grown offset bytes old grown is = same_lists _ _ (rw is (search (rules, places))) (λ i d h. rw is (grind (arith, places)))
