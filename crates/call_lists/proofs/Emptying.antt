-- Lists with no calls.
use Rattle.std.proofs.Common.{◌≡◌, ℕ, zero, suc, List, [], ◌∷◌, ◌++◌, refl}
use Rattle.call_lists.specs.Lines.{left_of}
use Rattle.call_lists.specs.declared.lists.CallList.{CallList}

-- one more that is empty
pub none_more : (lists : List CallList) (l : CallList) (c : ℕ) → l.calls.items ≡ [] → ((k : ℕ) → left_of lists k ≡ []) → left_of (lists ++ l ∷ []) c ≡ []
none_more [] l zero none each = none
none_more [] l (suc c) none each = refl
none_more (x ∷ lists) l zero none each = each zero
none_more (x ∷ lists) l (suc c) none each = none_more lists l c none (λ k. each (suc k))
