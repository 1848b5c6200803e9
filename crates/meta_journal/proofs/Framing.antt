-- What stands in the buffer of a journal.
use Rattle.std.proofs.Common.{◌≡◌, ℕ, zero, suc, ◌+◌, ◌-◌, ◌≤◌, List, ◌++◌, length, take, sym, ◌∙◌, ap, subst, arith}
use Rattle.disk_model.specs.Images.{part, overlay, IsWritten}
use Rattle.disk_model.proofs.Parts.{is_written, part_split, length-part}
use Rattle.meta_journal.specs.Texts.{closed_gate}
use Rattle.meta_journal.specs.Steps.{Journal, HasRoom}
use Rattle.meta_journal.proofs.Pieces.{part_none, front_part}

module _ (bytes b1 b2 head text : List ℕ) (at n : ℕ) (long : length head ≡ 16) (at_is : at ≡ 16 + n) (fits : 18 + n ≤ length bytes) (head_is : head ≡ text) (first : b1 ≡ overlay bytes 0 head) (second : b2 ≡ overlay b1 at closed_gate) where
  w1 : IsWritten 0 head bytes b1
  w1 = subst (λ (b : List ℕ). IsWritten 0 head bytes b) (sym first) (is_written bytes 0 head (omega arith))

  w2 : IsWritten at closed_gate b1 b2
  w2 = subst (λ (b : List ℕ). IsWritten at closed_gate b1 b) (sym second) (is_written b1 at closed_gate (omega (arith, w1.freed.size)))

  pub frame-kept : part b2 16 n ≡ part bytes 16 n
  frame-kept = w2.freed.below 16 n (omega arith) ∙ w1.freed.above 16 n (omega arith)

  head_there : part b2 0 16 ≡ text
  head_there = w2.freed.below 0 16 (omega arith) ∙ ap (λ (k : ℕ). part b1 0 k) (sym long) ∙ w1.there ∙ head_is

  rest_there : part b2 16 (1 + n) ≡ part bytes 16 n ++ closed_gate
  rest_there =
      let one_is : 1 + n - n ≡ 1 = omega arith in
      part_split b2 16 n (1 + n) (omega arith) ∙ ap (λ (l : List ℕ). l ++ part b2 (16 + n) (1 + n - n)) frame-kept
      ∙ ap (λ (k : ℕ). part bytes 16 n ++ part b2 (16 + n) k) one_is ∙ ap (λ (p : ℕ). part bytes 16 n ++ part b2 p 1) (sym at_is) ∙ ap (λ (l : List ℕ). part bytes 16 n ++ l) w2.there

  pub frame-framed : take (17 + n) b2 ≡ text ++ (part bytes 16 n ++ closed_gate)
  frame-framed =
      let rest : 17 + n - 16 ≡ 1 + n = omega arith in
      front_part (17 + n) b2 ∙ part_split b2 0 16 (17 + n) (omega arith) ∙ ap (λ (l : List ℕ). l ++ part b2 16 (17 + n - 16)) head_there
      ∙ ap (λ (k : ℕ). text ++ part b2 16 k) rest ∙ ap (λ (l : List ℕ). text ++ l) rest_there

  pub frame-len : length b2 ≡ length bytes
  frame-len = w2.freed.size ∙ w1.freed.size

-- the staged bytes lie within the buffer
pub staged_long : (bytes : List ℕ) (used count size : ℕ) → HasRoom (length bytes) used count size → length (part bytes 16 size) ≡ size
staged_long bytes used count zero k = ap length (part_none bytes 16)
staged_long bytes used count (suc size) k = length-part bytes 16 (suc size) (omega (arith, k.fits (omega arith)))

-- more bytes are staged
pub staged_more : (bytes from b2 more : List ℕ) (size at : ℕ) → from ≡ bytes → at ≡ 16 + size → 16 + (size + length more) ≤ length bytes → b2 ≡ overlay from at more → (length b2 ≡ length bytes) × (part b2 16 (size + length more) ≡ part bytes 16 size ++ more)
staged_more bytes from b2 more size at from_is at_is fits is =
    let rest : size + length more - size ≡ length more = omega arith in
    let is_now : b2 ≡ overlay bytes at more = is ∙ ap (λ (l : List ℕ). overlay l at more) from_is in
    let w : IsWritten at more bytes b2 = subst (λ (b : List ℕ). IsWritten at more bytes b) (sym is_now) (is_written bytes at more (omega arith)) in (
      w.freed.size,
      part_split b2 16 size (size + length more) (omega arith)
          ∙ ap (λ (l : List ℕ). l ++ part b2 (16 + size) (size + length more - size)) (w.freed.below 16 size (omega arith))
          ∙ ap (λ (k : ℕ). part bytes 16 size ++ part b2 (16 + size) k) rest
          ∙ ap (λ (p : ℕ). part bytes 16 size ++ part b2 p (length more)) (sym at_is)
          ∙ ap (λ (l : List ℕ). part bytes 16 size ++ l) w.there,
    )

abbrev pub journal : ℕ → ℕ → ℕ → ℕ → List ℕ → Journal
journal at len used count staged = record { at = at; len = len; used = used; count = count; staged = staged }
