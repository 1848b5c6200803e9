-- Words with a space between each two.
use Rattle.std.proofs.Common.{◌≡◌, ℕ, List, [], ◌∷◌, ◌++◌, map, ap, append_assoc, append-nil, rules}
use Rattle.std.specs.Fmt.{decimal}
use Rattle.std.specs.List.{flat_map}
use Rattle.hsm_types.specs.Words.{spaced}

-- a word, and numbers behind it with a space in front of each
pub numbers_joined : (word : List ℕ) (ns : List ℕ) → word ++ flat_map (λ n. 32 ∷ decimal n) ns ≡ spaced (word ∷ map decimal ns)
numbers_joined word [] = search rules
numbers_joined word (n ∷ ns) = ap (λ l. word ++ 32 ∷ l) (numbers_joined (decimal n) ns)

-- words written one behind the other, with a space or a newline between
pub file_joined : (space end old name size key a b c : List ℕ) →
    (((((old ++ name) ++ (space ++ (size ++ []))) ++ space) ++ key) ++ (space ++ (a ++ (space ++ (b ++ (space ++ (c ++ []))))))) ++ end
    ≡ old ++ ((name ++ (space ++ (size ++ (space ++ (key ++ (space ++ (a ++ (space ++ (b ++ (space ++ c)))))))))) ++ end)
file_joined space end old name size key a b c = simp (append_assoc, append-nil)
