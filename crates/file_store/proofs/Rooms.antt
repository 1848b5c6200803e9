-- The memory that a body takes for a change, and gives back.
use Rattle.file_store.proofs.Names.{◌≡◌, ℕ, ◌+◌, ◌-◌, ◌*◌, ◌<◌, ◌≤◌, ◌==◌, ◌&&◌, ◌||◌, min, max, List, length, take, drop, replicate, Bool, true}
use Rattle.file_store.proofs.Names.{false, refl, sym, ◌∙◌, ap, false≢true, arith, rules, same_lists, places, length-take, lt-ltb, and_from, written}
use Rattle.file_store.proofs.Names.{resized, Rewrite, Write, Resize, Restore, new_size, grown, brings, HasRoom, HeldBody, is_away, AreZeros, IsAlike}
use Rattle.std.specs.Prelude.{nat_le, nat_lt, Result, Ok, Err, OnOk, IsOk}
use Rattle.std.proofs.Math.Bool.{and-true, and-false, or-false}
use Rattle.std.proofs.lemmas.Bool.{cases_eq, eqb-true, eq-eqb, ne_eqb, le-leb, or_right}
use Rattle.std.proofs.lemmas.Bool.Decides.{nat_tests}
use Rattle.std.proofs.lemmas.List.{length-drop}
use Rattle.hsm_types.specs.Limits.{segment_bytes}
use Rattle.plain_model.specs.Plain.{segment as segment_of}
use Rattle.file_store.proofs.ByteChanges.{grown-none, grown-back}
use Rattle.file_store.proofs.Loaded.{within-all}

-- ---- outcomes of calls

module _ {T E P Q R : Type 0} where
  pub both_ok : (r : Result T E) → (P → Q → R) → OnOk r P → OnOk r Q → OnOk r R
  both_ok (Ok x) f p q = f p q
  both_ok (Err e) f p q = tt

pub of_ok : {T E P : Type 0} (r : Result T E) → IsOk r → OnOk r P → P
of_ok (Ok x) ok p = p
of_ok (Err e) ok p = absurd (false≢true ok)

-- ---- it is taken

-- but for a restore nothing comes back
pub brings-none : (change : Rewrite) → ((segment : _) (bytes : _) → change ≡ Restore segment bytes → ⊥) → (j : ℕ) → brings change j ≡ false
brings-none (Write offset bytes) other j = refl
brings-none (Resize size) other j = refl
brings-none (Restore segment bytes) other j = absurd (other segment bytes refl)

module _ (old new : HeldBody) (starts : (j : ℕ) → is_away old j ≡ true → segment_bytes * j < length old.bytes) where
  resized-grown : (size : ℕ) (body : List ℕ) → resized (max (length body) size) body ≡ grown size body
  resized-grown size body = same_lists _ _ (search (rules, places)) (λ i d h. grind (arith, places))

  -- zeros up to the new size
  pub grown-room : (change : Rewrite) (size : ℕ) → ((j : ℕ) → brings change j ≡ false) → size ≡ max (length old.bytes) (new_size change old.bytes) → new.bytes ≡ resized size old.bytes
      → ((j : ℕ) → is_away new j ≡ (is_away old j && nat_lt (segment_bytes * j) size)) → HasRoom change old new
  grown-room change size none is bytes away = grind (arith, resized-grown, within-all, and-true)

  -- the segment that comes back
  pub brought-room : (segment : ℕ) (change : Rewrite) → ((j : ℕ) → brings change j ≡ (j == segment)) → new_size change old.bytes ≡ length old.bytes → (new.bytes ≡ old.bytes) × (is_away new segment ≡ false)
      → ((j : ℕ) → (j ≡ segment → ⊥) → is_away new j ≡ is_away old j) → (is_away old segment ≡ true → AreZeros (segment_of segment old.bytes)) → HasRoom change old new
  brought-room segment change one size it others zeros = grind (arith, grown-none, eq-eqb, and-false, ne_eqb, and-true, cases_eq, eqb-true)

-- ---- it is given back

-- bytes that are written over themselves
written-own : (at k : ℕ) (body : List ℕ) → at ≤ length body → written at (take k (drop at body)) body ≡ body
written-own at k body within = same_lists _ _ (search (rules, places)) (λ i d h. grind (arith, places))

zeros-again : (j : ℕ) (body : List ℕ) → segment_bytes * j < length body → AreZeros (segment_of j body) → written (segment_bytes * j) (replicate (min (segment_bytes * (j + 1)) (length body) - segment_bytes * j) 0) body ≡ body
zeros-again j body start zeros =
    let count : min (segment_bytes * (j + 1)) (length body) - segment_bytes * j ≡ length (segment_of j body) = omega (arith, length-take segment_bytes (drop (segment_bytes * j) body), length-drop (segment_bytes * j) body) in
    ap (λ (n : ℕ). written (segment_bytes * j) (replicate n 0) body) count
    ∙ (ap (λ (bytes : List ℕ). written (segment_bytes * j) bytes body) (sym zeros)
    ∙ written-own (segment_bytes * j) segment_bytes body (omega arith))

-- the segment goes, and no other one
apart : (s j : ℕ) (low : Bool) → (j ≡ s → ⊥) → (nat_le s j && nat_lt j (s + 1) && low) ≡ false
apart s j low other = grind (arith, nat_tests)

module _ (change : Rewrite) (old room new : HeldBody) (has : HasRoom change old room) where
  -- a cut takes the zeros away
  pub cut-alike : (size : ℕ) → ((j : ℕ) → brings change j ≡ false) → length old.bytes ≡ size → new.bytes ≡ resized size room.bytes → ((j : ℕ) → is_away new j ≡ (is_away room j && nat_lt (segment_bytes * j) size)) → IsAlike old new
  cut-alike size none long bytes away = grind (arith, grown-back, and-true, within-all)

  -- the segment that came leaves again
  pub left-alike : (segment : ℕ) → ((j : ℕ) → brings change j ≡ (j == segment)) → new_size change old.bytes ≡ length old.bytes → is_away old segment ≡ true
      → new.bytes ≡ written (segment_bytes * segment) (replicate (min (segment_bytes * (segment + 1)) (length room.bytes) - segment_bytes * segment) 0) room.bytes
      → ((j : ℕ) → is_away new j ≡ (is_away room j || (nat_le segment j && nat_lt j (segment + 1) && nat_lt (segment_bytes * j) (length room.bytes)))) → IsAlike old new
  left-alike segment one size gone bytes away = grind (arith, zeros-again, eq-eqb, or_right, apart, or-false, ne_eqb, and-true, cases_eq, grown-none, and_from, le-leb, lt-ltb)
