-- A gate that opens behind its batch, and what the journal has then.
use Rattle.std.proofs.Common.{◌≡◌, ◌⊎◌, inl, inr, ℕ, ◌+◌, ◌-◌, ◌<◌, ◌≤◌, ◌^◌, ◌==◌, Bool, true, false, eqb-true, List, [], ◌∷◌, ◌++◌, length, take, drop}
use Rattle.std.proofs.Common.{refl, sym, ◌∙◌, ap, subst, arith, length-append}
use Rattle.std.specs.Prelude.{None, slice_index}
use Rattle.disk_model.specs.Images.{part, IsFreed, IsWritten}
use Rattle.disk_model.specs.Moments.{MayBe, Keeps, Turns}
use Rattle.disk_model.specs.declared.device.Disk as disk
use Rattle.disk_model.proofs.Parts.{part_split, part_part, freed_again, freed_wider}
use Rattle.disk_model.proofs.Steps.{turns_on, turned_where}
use Rattle.meta_journal.specs.declared.lists.Batch.{Batch}
use Rattle.meta_journal.specs.Texts.{IsOpen, IsClosed, closed_gate, batch_text, IsBatchAt, number_after, IsReading}
use Rattle.meta_journal.specs.Steps.{Journal, next_gate, next_batch, FitsBatch, StaysShut, KeepsBatches, AddsBatch}
use Rattle.meta_journal.proofs.Pieces.{part_byte, same_length, within, long_part, front_there, back_there}
use Rattle.meta_journal.proofs.Fields.{text_long}
use Rattle.meta_journal.proofs.Readings.{lead_more, lead_same}

-- ---- the gate

abbrev open_gate : List ℕ
open_gate = 1 ∷ []

open_or_closed : (c : List ℕ) (place : ℕ) → IsOpen c place ⊎ IsClosed c place
open_or_closed c place = by_test (slice_index c place == 1) refl
  where
    by_test : (b : Bool) → (slice_index c place == 1) ≡ b → IsOpen c place ⊎ IsClosed c place
    by_test true is = inl (eqb-true (slice_index c place) 1 is)
    by_test false is = inr (λ one. absurd (two is (ap (λ (k : ℕ). k == 1) one)))
      where
        two : (slice_index c place == 1) ≡ false → (slice_index c place == 1) ≡ true → ⊥
        two e f = absurd cc

byte_of : (c : List ℕ) (place : ℕ) → slice_index (part c place 1) 0 ≡ slice_index c place
byte_of c place = let zero_is : place + 0 ≡ place = omega arith in part_byte c place 1 0 (omega arith) ∙ ap (λ (p : ℕ). slice_index c p) zero_is

-- the gate is the same where its part is
same_gate : (c d : List ℕ) (place : ℕ) → part c place 1 ≡ part d place 1 → slice_index c place ≡ slice_index d place
same_gate c d place is = sym (byte_of c place) ∙ ap (λ (l : List ℕ). slice_index l 0) is ∙ byte_of d place

-- bytes behind the gate
pub behind_shut : (at n behind : ℕ) → behind ≡ at + 1 → (d c : List ℕ) → IsFreed behind n d c → StaysShut at n d c
behind_shut at n behind is d c f = record {
  freed = freed_wider behind n at (1 + n) d c (omega arith) (omega arith) f;
  gate = λ closed one. closed (sym (same_gate c d at (f.below at 1 (omega arith))) ∙ one);
}

front_is_one : (l : List ℕ) → slice_index (take 1 l) 0 ≡ 1 → take 1 l ≡ open_gate
front_is_one [] e = absurd cc
front_is_one (x ∷ l) e = ap (λ (y : ℕ). y ∷ []) e

gate_is_one : (at : ℕ) (c : List ℕ) → slice_index (part c at 1) 0 ≡ 1 → part c at 1 ≡ open_gate
unfolding part
gate_is_one at c e = front_is_one (drop at c) e

module _ (at behind : ℕ) (body : List ℕ) (is : behind ≡ at + 1) (d m c : List ℕ) (w : IsWritten behind body d m) (f : IsFreed at 1 m c) where
  both : IsFreed at (1 + length body) d c
  both = freed_again at (1 + length body) d m c (freed_wider behind (length body) at (1 + length body) d m (omega arith) (omega arith) w.freed) (freed_wider at 1 at (1 + length body) m c (omega arith) (omega arith) f)

  body_there : part c (at + 1) (length body) ≡ body
  body_there = f.above (at + 1) (length body) (omega arith) ∙ ap (λ (p : ℕ). part m p (length body)) (sym is) ∙ w.there

  -- the whole batch, with its gate
  pub gate_opened : part c at 1 ≡ open_gate → IsWritten at (1 ∷ body) d c
  gate_opened gate =
      let long : 1 + length body - 1 ≡ length body = omega arith in
      record {
        freed = subst (λ (k : ℕ). IsFreed at k d c) (omega arith) both;
        there = ap (λ (k : ℕ). part c at k) (omega arith) ∙ part_split c at 1 (1 + length body) (omega arith) ∙ rw (gate, long, body_there) refl;
      }

  -- the gate may be any byte now
  pub gate_torn : StaysShut at (length body) d c ⊎ IsWritten at (1 ∷ body) d c
  gate_torn = elim (open_or_closed c at) [
    | inl opened ↦ inr (gate_opened (gate_is_one at c (byte_of c at ∙ opened)))
    | inr closed ↦ inl (record { freed = both; gate = λ was. closed })
  ]

pub opening_turns : {D : Type 0} (g : disk.Ghosts D) (old mid new : D) (at behind : ℕ) (body : List ℕ) → behind ≡ at + 1 → Keeps g old mid (IsFreed behind (length body)) → ((c : List ℕ) → MayBe g mid c → (d : List ℕ) × g.gives old d × IsWritten behind body d c)
    → Keeps g mid new (IsFreed at 1) → Turns g old new (StaysShut at (length body)) (IsWritten at (1 ∷ body))
opening_turns g old mid new at behind body is first stands next = turns_on g old mid new (IsFreed behind (length body)) (IsWritten behind body) (IsFreed at 1) (StaysShut at (length body)) (IsWritten at (1 ∷ body))
    first stands next (λ d c f. behind_shut at (length body) behind is d c f) (λ d m c given w f. gate_torn at behind body is d m c w f)

-- ---- what the journal has

module _ (j : Journal) (room : j.used + 1 ≤ j.len) (d c : List ℕ) where
  abbrev bytes : List ℕ → List ℕ
  bytes image = part image j.at j.len

  -- what is the same in front of the gate
  front_same : (n : ℕ) → IsFreed (next_gate j) n d c → (a k : ℕ) → a + k ≤ j.used → part (bytes c) a k ≡ part (bytes d) a k
  front_same n f a k le = part_part c j.at j.len a k (omega (arith, le, room)) ∙ f.below (j.at + a) k (omega (arith, le)) ∙ sym (part_part d j.at j.len a k (omega (arith, le, room)))

  same_long : (n : ℕ) → IsFreed (next_gate j) n d c → length (bytes d) ≤ length (bytes c)
  same_long n f = omega (arith, same_length c d j.at j.len f.size)

  pub shut_keeps : StaysShut (next_gate j) (17 + length j.staged) d c → KeepsBatches j d c
  shut_keeps s = record {
    shut = s;
    holds = λ number bs h. record {
      lead = lead_same (bytes d) (bytes c) (same_long _ s.freed) j.at 0 number bs j.used (front_same _ s.freed) h.lead;
      ends = λ one. s.gate (λ was. h.ends (part_byte d j.at j.len j.used (omega (arith, room)) ∙ was)) (sym (part_byte c j.at j.len j.used (omega (arith, room))) ∙ one);
    };
  }

  pub written_adds : (n : ℕ) → FitsBatch j 0 → j.count < 2 ^ 32 → IsWritten (next_gate j) (batch_text (next_batch j n) ++ closed_gate) d c → AddsBatch j n d c
  written_adds n fits few w = record {
    written = w;
    holds = λ number bs h rises bound. record {
      lead = lead_more (bytes c) j.at 0 number bs j.used (next_batch j n) (lead_same (bytes d) (bytes c) (same_long _ w.freed) j.at 0 number bs j.used (front_same _ w.freed) h.lead) refl (stands number bs rises bound);
      ends = λ one. not_both _ gate one;
    };
  }
    where
      text : List ℕ
      text = batch_text (next_batch j n)

      long : length (batch_text (next_batch j n) ++ closed_gate) ≡ 18 + length j.staged
      long = length-append (batch_text (next_batch j n)) closed_gate ∙ omega arith

      there : part c (next_gate j) (17 + length j.staged) ≡ batch_text (next_batch j n)
      there = ap (λ (k : ℕ). part c (next_gate j) k) (text_long (next_batch j n)) ∙ front_there c (next_gate j) (batch_text (next_batch j n)) closed_gate w.there

      lies : next_gate j + (18 + length j.staged) ≤ length c
      lies = within c (next_gate j) (length (batch_text (next_batch j n) ++ closed_gate)) (18 + length j.staged) (ap length w.there) (omega (arith, long)) (omega (arith, long))

      stands : (number : ℕ) (bs : List Batch) → number_after number bs ≤ n → n ≤ 2 ^ 62 → IsBatchAt (bytes c) j.used (number_after number bs) (next_batch j n)
      stands number bs rises bound = record {
        spelled = part_part c j.at j.len j.used (17 + length j.staged) (omega (arith, fits)) ∙ there;
        room = omega (arith, long_part c j.at j.len (j.used + (18 + length j.staged)) (omega (arith, lies)) (omega (arith, fits)));
        rises = rises;
        bound = bound;
        few = few;
      }

      gate : slice_index (bytes c) (j.used + (17 + length j.staged)) ≡ 0
      gate =
          let place : j.at + (j.used + (17 + length j.staged)) ≡ next_gate j + length (batch_text (next_batch j n)) = omega (arith, text_long (next_batch j n)) in
          part_byte c j.at j.len (j.used + (17 + length j.staged)) (omega (arith, fits)) ∙ ap (λ (p : ℕ). slice_index c p) place
          ∙ sym (byte_of c (next_gate j + length (batch_text (next_batch j n)))) ∙ ap (λ (l : List ℕ). slice_index l 0) (back_there c (next_gate j) (batch_text (next_batch j n)) closed_gate w.there)

      not_both : (x : ℕ) → x ≡ 0 → x ≡ 1 → ⊥
      not_both x zero one = omega arith

-- what a commit makes of images, in the words of batches
pub commit_turns : {D : Type 0} (g : disk.Ghosts D) (old new : D) (j : Journal) (n : ℕ) → FitsBatch j 0 → j.count < 2 ^ 32
    → Turns g old new (StaysShut (next_gate j) (17 + length j.staged)) (IsWritten (next_gate j) (batch_text (next_batch j n) ++ closed_gate)) → Turns g old new (KeepsBatches j) (AddsBatch j n)
commit_turns g old new j n fits few t = turned_where g old new (λ d. Unit {0}) _ _ _ _ (λ d may. tt)
    (λ d c any s. shut_keeps j (omega (arith, fits)) d c s)
    (λ d c any w. written_adds j (omega (arith, fits)) d c n fits few w)
    t

-- the gate is closed where that was written
pub written_closed : (at : ℕ) (d c : List ℕ) → IsWritten at closed_gate d c → IsClosed c at
written_closed at d c w = λ one. absurd (zero_is_one _ (sym (byte_of c at) ∙ ap (λ (l : List ℕ). slice_index l 0) w.there) one)
  where
    zero_is_one : (x : ℕ) → x ≡ 0 → x ≡ 1 → ⊥
    zero_is_one x zero one = omega arith

-- a journal with no batch
pub empty_holds : (at len : ℕ) → 1 ≤ len → (number : ℕ) (c : List ℕ) → IsClosed c at → IsReading (part c at len) at number [] 0 None
empty_holds at len some number c closed =
    let zero_is : at + 0 ≡ at = omega arith in
    record { lead = refl; ends = λ one. closed (ap (λ (p : ℕ). slice_index c p) (sym zero_is) ∙ sym (part_byte c at len 0 (omega (arith, some))) ∙ one) }
