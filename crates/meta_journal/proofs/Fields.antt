-- What the fields of a batch say of it, and it of them.
use Rattle.std.proofs.Common.{◌≡◌, ◌⊎◌, inl, inr, ℕ, ◌+◌, ◌-◌, ◌<◌, ◌≤◌, ◌^◌, List, [], ◌∷◌, ◌++◌, length, take, drop, refl, sym, ◌∙◌, ap, subst, arith}
use Rattle.std.specs.Prelude.{slice_index}
use Rattle.std.proofs.lemmas.List.{take_all}
use Rattle.std.proofs.lemmas.Nat.{be_bytes_4, be_bytes_8}
use Rattle.byteorder.specs.Endian.{big_bytes, big_number}
use Rattle.byteorder.specs.Numbers.{big_number-reads_back}
use Rattle.disk_model.specs.Images.{part}
use Rattle.disk_model.proofs.Parts.{part_part, length-part}
use Rattle.meta_journal.specs.declared.lists.Batch.{Batch}
use Rattle.meta_journal.specs.Texts.{IsOpen, IsBad, batch_text, batch_len, IsBatchAt}
use Rattle.meta_journal.proofs.Pieces.{IsBytes, part_bytes, part_byte, range_part, both_there}

-- ---- fields in the text of a batch

pub text_long : (b : Batch) → batch_len b ≡ length (batch_text b)
text_long b = omega arith

text_size : (b : Batch) → part (batch_text b) 1 4 ≡ big_bytes 4 (length b.records)
unfolding part
text_size b = refl

text_number : (b : Batch) → part (batch_text b) 5 8 ≡ big_bytes 8 b.number
unfolding part
text_number b = refl

text_count : (b : Batch) → part (batch_text b) 13 4 ≡ big_bytes 4 b.count
unfolding part
text_count b = refl

text_records : (b : Batch) → part (batch_text b) 17 (length b.records) ≡ b.records
unfolding part
text_records b = take_all (length b.records) b.records (omega arith)

module _ (journal : List ℕ) (short : length journal < 2 ^ 32) (place last : ℕ) (b : Batch) (s : IsBatchAt journal place last b) where
  field : (i n : ℕ) → i + n ≤ batch_len b → part journal (place + i) n ≡ part (batch_text b) i n
  field i n fits = sym (part_part journal place (batch_len b) i n fits) ∙ ap (λ (l : List ℕ). part l i n) s.spelled

  pub gate_says : IsOpen journal place
  gate_says =
      let zero_is : place ≡ place + 0 = omega arith in
      ap (λ (p : ℕ). slice_index journal p) zero_is ∙ sym (part_byte journal place (batch_len b) 0 (omega arith)) ∙ ap (λ (l : List ℕ). slice_index l 0) s.spelled

  pub size_says : big_number 4 (part journal (place + 1) 4) ≡ length b.records
  size_says = ap (λ (l : List ℕ). big_number 4 l) (field 1 4 (omega arith) ∙ text_size b) ∙ big_number-reads_back 4 (length b.records) [] (omega (arith, s.room, short))

  pub number_says : big_number 8 (part journal (place + 5) 8) ≡ b.number
  number_says = ap (λ (l : List ℕ). big_number 8 l) (field 5 8 (omega arith) ∙ text_number b) ∙ big_number-reads_back 8 b.number [] (omega (arith, s.bound))

  pub count_says : big_number 4 (part journal (place + 13) 4) ≡ b.count
  count_says = ap (λ (l : List ℕ). big_number 4 l) (field 13 4 (omega arith) ∙ text_count b) ∙ big_number-reads_back 4 b.count [] (omega (arith, s.few))

  pub records_say : part journal (place + 17) (length b.records) ≡ b.records
  records_say = field 17 (length b.records) (omega arith) ∙ text_records b

-- ---- one batch stands at a place

abbrev batch : ℕ → ℕ → ℕ → List ℕ → Batch
batch place number count records = record { place = place; number = number; count = count; records = records }

same_fields : (p q n m k l : ℕ) (r t : List ℕ) → p ≡ q → n ≡ m → k ≡ l → r ≡ t → batch p n k r ≡ batch q m l t
same_fields p q n m k l r t e f g h = rw (e, f, g, h) refl

pub same_batch : (journal : List ℕ) → length journal < 2 ^ 32 → (place last : ℕ) (a b : Batch) → a.place ≡ b.place → IsBatchAt journal place last a → IsBatchAt journal place last b → a ≡ b
same_batch journal short place last a b at s t =
    let size : length a.records ≡ length b.records = sym (size_says journal short place last a s) ∙ size_says journal short place last b t in
    same_fields a.place b.place a.number b.number a.count b.count a.records b.records at
    (sym (number_says journal short place last a s) ∙ number_says journal short place last b t)
    (sym (count_says journal short place last a s) ∙ count_says journal short place last b t)
    (sym (records_say journal short place last a s) ∙ ap (λ (k : ℕ). part journal (place + 17) k) size ∙ records_say journal short place last b t)

-- ---- from the fields

abbrev open_gate : List ℕ
open_gate = 1 ∷ []

gate_there : (journal : List ℕ) (place : ℕ) → place < length journal → IsOpen journal place → part journal place 1 ≡ open_gate
gate_there journal place lt is =
    let zero_is : place + 0 ≡ place = omega arith in
    one_byte (part journal place 1) (length-part journal place 1 (omega arith)) (part_byte journal place 1 0 (omega arith) ∙ ap (λ (p : ℕ). slice_index journal p) zero_is ∙ is)
  where
    one_byte : (l : List ℕ) → length l ≡ 1 → slice_index l 0 ≡ 1 → l ≡ open_gate
    one_byte [] long is = absurd (omega arith)
    one_byte (x ∷ []) long is = ap (λ (y : ℕ). y ∷ []) is
    one_byte (x ∷ y ∷ l) long is = absurd (omega arith)

wide4 : (bytes : List ℕ) → length bytes ≡ 4 → IsBytes bytes → big_bytes 4 (big_number 4 bytes) ≡ bytes
wide4 bytes len fits = be_bytes_4 bytes _ len fits (omega arith)

wide8 : (bytes : List ℕ) → length bytes ≡ 8 → IsBytes bytes → big_bytes 8 (big_number 8 bytes) ≡ bytes
wide8 bytes len fits = be_bytes_8 bytes _ len fits (omega arith)

module _ (journal : List ℕ) (fits : IsBytes journal) (place last size number count : ℕ) (a b c : List ℕ) (lt : place < length journal) (gate : IsOpen journal place)
    (a_is : a ≡ part journal (place + 1) 4) (b_is : b ≡ part journal (place + 5) 8) (c_is : c ≡ part journal (place + 13) 4) (size_is : size ≡ big_number 4 a) (number_is : number ≡ big_number 8 b) (count_is : count ≡ big_number 4 c) where
  abbrev records : List ℕ
  records = part journal (place + 17) size

  four : (n at : ℕ) (l : List ℕ) → l ≡ part journal at 4 → n ≡ big_number 4 l → at + 4 ≤ length journal → big_bytes 4 n ≡ part journal at 4
  four n at l l_is n_is le = ap (λ (k : ℕ). big_bytes 4 k) (n_is ∙ ap (λ (m : List ℕ). big_number 4 m) l_is) ∙ wide4 (part journal at 4) (length-part journal at 4 le) (part_bytes journal fits at 4)

  eight : (n at : ℕ) (l : List ℕ) → l ≡ part journal at 8 → n ≡ big_number 8 l → at + 8 ≤ length journal → big_bytes 8 n ≡ part journal at 8
  eight n at l l_is n_is le = ap (λ (k : ℕ). big_bytes 8 k) (n_is ∙ ap (λ (m : List ℕ). big_number 8 m) l_is) ∙ wide8 (part journal at 8) (length-part journal at 8 le) (part_bytes journal fits at 8)

  pub stands_read : place + (18 + size) ≤ length journal → last ≤ number → number ≤ 2 ^ 62 → count < 2 ^ 32 → IsBatchAt journal place last (batch 0 number count records)
  stands_read room rises bound few =
      let long : length records ≡ size = length-part journal (place + 17) size (omega arith) in
      let p : List ℕ = open_gate in
      let q : List ℕ = big_bytes 4 size in
      let r : List ℕ = big_bytes 8 number in
      let s : List ℕ = big_bytes 4 count in
      let zero : part journal place (length p) ≡ p = gate_there journal place lt gate in
      let one : part journal place (length (p ++ q)) ≡ p ++ q = both_there journal place p q zero (sym (four size (place + 1) a a_is size_is (omega arith))) in
      let two : part journal place (length ((p ++ q) ++ r)) ≡ (p ++ q) ++ r = both_there journal place (p ++ q) r one (sym (eight number (place + 5) b b_is number_is (omega arith))) in
      let three : part journal place (length (((p ++ q) ++ r) ++ s)) ≡ ((p ++ q) ++ r) ++ s = both_there journal place ((p ++ q) ++ r) s two (sym (four count (place + 13) c c_is count_is (omega arith))) in
      let last_there : part journal (place + 17) (length records) ≡ records = ap (λ (k : ℕ). part journal (place + 17) k) long in
      let all : part journal place (length ((((p ++ q) ++ r) ++ s) ++ records)) ≡ (((p ++ q) ++ r) ++ s) ++ records = both_there journal place (((p ++ q) ++ r) ++ s) records three last_there in
      record {
        spelled = subst (λ (k : ℕ). part journal place (17 + length records) ≡ 1 ∷ (big_bytes 4 k ++ big_bytes 8 number ++ big_bytes 4 count ++ records)) (sym long) (ap (λ (k : ℕ). part journal place k) (text_long (batch 0 number count records)) ∙ all);
        room = omega (arith, long, room);
        rises = rises;
        bound = bound;
        few = few;
      }

  pub bad_read : length journal < 2 ^ 32 → (length journal < place + (18 + size)) ⊎ (number < last) ⊎ (2 ^ 62 < number) → IsBad journal place last
  bad_read short why = record { gate = gate; none = λ other s. no other s why }
    where
      no : (other : Batch) → IsBatchAt journal place last other → (length journal < place + (18 + size)) ⊎ (number < last) ⊎ (2 ^ 62 < number) → ⊥
      no other s (inl long) = omega (arith, s.room, long, size_is ∙ ap (λ (l : List ℕ). big_number 4 l) a_is ∙ size_says journal short place last other s)
      no other s (inr (inl falls)) = omega (arith, s.rises, falls, number_is ∙ ap (λ (l : List ℕ). big_number 8 l) b_is ∙ number_says journal short place last other s)
      no other s (inr (inr great)) = omega (arith, s.bound, great, number_is ∙ ap (λ (l : List ℕ). big_number 8 l) b_is ∙ number_says journal short place last other s)

-- a batch that was read, with its place and its records by another name
pub stands_at : (journal : List ℕ) (place last q number count size from end : ℕ) (r bytes : List ℕ) → IsBatchAt journal place last (batch 0 number count (part journal (place + 17) size)) → place + (18 + size) ≤ length journal → from ≡ place + 17 → end ≡ from + size
    → bytes ≡ take (end - from) (drop from journal) → r ≡ bytes → IsBatchAt journal place last (batch q number count r) × (length r ≡ size)
stands_at journal place last q number count size from end r bytes s room from_is end_is bytes_is r_is =
    let is : r ≡ part journal (place + 17) size = r_is ∙ bytes_is ∙ range_part journal from end size end_is ∙ ap (λ (p : ℕ). part journal p size) from_is in
    let long : length r ≡ size = ap (λ (l : List ℕ). length l) is ∙ length-part journal (place + 17) size (omega arith) in
    (subst (λ (l : List ℕ). IsBatchAt journal place last (batch q number count l)) (sym is) (record { spelled = s.spelled; room = s.room; rises = s.rises; bound = s.bound; few = s.few }), long)

-- where not even a frame fits
pub bad_short : (journal : List ℕ) (place last : ℕ) → IsOpen journal place → length journal ≤ place + 17 → IsBad journal place last
bad_short journal place last gate short = record { gate = gate; none = λ other s. omega (arith, s.room, short) }
