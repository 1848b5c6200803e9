-- The bytes of handles, and what is read from them.
use Rattle.std.proofs.Common.{◌≡◌, ℕ, ◌+◌, ◌<◌, ◌≤◌, List, ◌++◌, length, get_or, take, drop, sym, ap, ◌∙◌, append_assoc, arith, inl, inr}
use Rattle.std.proofs.lemmas.Bool.{cases_lt}
use Rattle.std.proofs.lemmas.List.{take-append-drop, take_all, length-take, length-drop, get_or-drop, get_or-take, get_or_past, drop-drop}
use Rattle.std.proofs.lemmas.Nat.{be_bytes_8}
use Rattle.byteorder.specs.Endian.{big_bytes, big_number}
use Rattle.byteorder.specs.Numbers.{big_from-take}
use Rattle.hsm_types.specs.declared.keys.Handle.{Handle}
use Rattle.hsm_types.specs.Handles.{handle_bytes}

-- the number that eight bytes are has them as its bytes
number_spelled : (k m x : ℕ) (bytes : List ℕ) → k + 8 ≤ length bytes → 8 ≤ m → ((i : ℕ) → get_or bytes i 0 < 256) → x ≡ big_number 8 (take m (drop k bytes)) → big_bytes 8 x ≡ take 8 (drop k bytes)
number_spelled k m x bytes long wide small is =
    let part = take 8 (drop k bytes) in
    let reads : x ≡ big_number 8 part = is ∙ big_from-take 0 8 m (drop k bytes) wide ∙ sym (big_from-take 0 8 8 (drop k bytes) (omega arith)) in
    let bytes_small : (i : ℕ) → get_or part i 0 < 256 =
    λ i. elim (cases_lt i 8) [
      | inl below ↦ rw (get_or-take 8 (drop k bytes) i 0 below, get_or-drop k bytes i 0) (small (k + i))
      | inr past ↦ rw (get_or_past part i 0 (omega (arith, length-take 8 (drop k bytes)))) (omega arith)
    ] in
    be_bytes_8 part x (omega (arith, length-take 8 (drop k bytes), length-drop k bytes)) bytes_small (omega (arith, reads))

pieces : (bytes : List ℕ) → length bytes ≡ 24 → (take 8 bytes ++ take 8 (drop 8 bytes)) ++ take 8 (drop 16 bytes) ≡ bytes
pieces bytes long =
    let last : take 8 (drop 16 bytes) ≡ drop 8 (drop 8 bytes) = take_all 8 (drop 16 bytes) (omega (arith, length-drop 16 bytes)) ∙ sym (drop-drop 8 8 bytes) in
    append_assoc (take 8 bytes) (take 8 (drop 8 bytes)) (take 8 (drop 16 bytes))
    ∙ ap (λ (l : List ℕ). take 8 bytes ++ (take 8 (drop 8 bytes) ++ l)) last
    ∙ ap (λ (l : List ℕ). take 8 bytes ++ l) (take-append-drop 8 (drop 8 bytes))
    ∙ take-append-drop 8 bytes

-- the handle whose numbers are read from these bytes has them as its bytes
pub handle_bytes-read : (bytes : List ℕ) (m n : ℕ) (h : Handle) → length bytes ≡ 24 → ((i : ℕ) → get_or bytes i 0 < 256) → 8 ≤ m → 8 ≤ n
    → h.fsid ≡ big_number 8 bytes → h.key.ino ≡ big_number 8 (take m (drop 8 bytes)) → h.key.igen ≡ big_number 8 (take n (drop 16 bytes)) → handle_bytes h ≡ bytes
unfolding handle_bytes
handle_bytes-read bytes m n h long small wide_m wide_n fsid ino igen =
    let first = number_spelled 0 8 h.fsid bytes (omega arith) (omega arith) small (fsid ∙ sym (big_from-take 0 8 8 bytes (omega arith))) in
    let second = number_spelled 8 m h.key.ino bytes (omega arith) wide_m small ino in
    let third = number_spelled 16 n h.key.igen bytes (omega arith) wide_n small igen in
    (λ i. (first i ++ second i) ++ third i) ∙ pieces bytes long
