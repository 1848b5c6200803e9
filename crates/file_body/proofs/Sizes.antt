-- How long a body is after a change.
use Rattle.std.proofs.Common.{◌≡◌, ℕ, ◌+◌, max, List, length, arith, length-append, length-take}
use Rattle.std.proofs.lemmas.List.{length-drop, length-replicate}
use Rattle.plain_model.specs.Plain.{written, resized}

pub length-written : (offset : ℕ) (bytes body : List ℕ) → length (written offset bytes body) ≡ max (length body) (offset + length bytes)
length-written offset bytes body = omega (arith, length-append {A = ℕ}, length-take {A = ℕ}, length-drop {A = ℕ}, length-replicate {A = ℕ})

pub length-resized : (size : ℕ) (body : List ℕ) → length (resized size body) ≡ size
length-resized size body = omega (arith, length-append {A = ℕ}, length-take {A = ℕ}, length-replicate {A = ℕ})
