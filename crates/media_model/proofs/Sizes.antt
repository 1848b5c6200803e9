-- Objects that are short and few have so many bytes together that one more still can be counted.
use Rattle.std.proofs.Common.{ℕ, ◌+◌, ◌*◌, ◌^◌, ◌<◌, ◌≤◌, List, [], ◌∷◌, length, All, arith}
use Rattle.std.proofs.Math.Nat.{mul-le-mul_right}
use Rattle.std.proofs.lemmas.List.Elements.{All-nil, All-cons, All-head, All-tail}
use Rattle.std.proofs.lemmas.List.Sums.{sum_by-le}
use Rattle.media_model.specs.Objects.{Objects, size_of}

bounded : (objects : Objects) → All (λ bytes. length bytes < 2 ^ 32) objects → All (λ bytes. length bytes ≤ 4294967295) objects
bounded [] short = All-nil (λ (bytes : List ℕ). length bytes ≤ 4294967295)
bounded (x ∷ more) short =
    let first : length x < 2 ^ 32 = All-head (λ (bytes : List ℕ). length bytes < 2 ^ 32) x more short in
    All-cons (λ (bytes : List ℕ). length bytes ≤ 4294967295) x more (omega arith) (bounded more (All-tail (λ (bytes : List ℕ). length bytes < 2 ^ 32) x more short))

pub size-below : (objects : Objects) → All (λ bytes. length bytes < 2 ^ 32) objects → length objects < 2 ^ 32 → size_of objects + 4294967296 ≤ 18446744073709551616
size-below objects short few =
    let most : size_of objects ≤ length objects * 4294967295 = sum_by-le length 4294967295 objects (bounded objects short) in
    let all : length objects * 4294967295 ≤ 4294967295 * 4294967295 = mul-le-mul_right {m = length objects} {n = 4294967295} 4294967295 (omega arith) in
    omega arith
