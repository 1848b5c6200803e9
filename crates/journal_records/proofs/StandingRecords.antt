-- Records that stand in the bytes of a batch.
use Rattle.std.proofs.Common.{◌≡◌, Result, inl, inr, ℕ, ◌+◌, ◌-◌, ◌≤◌, List, [], ◌∷◌, ◌++◌, length, take, drop, Option, Some, None, Err, refl, sym, ◌∙◌, ap}
use Rattle.std.proofs.Common.{subst, arith, append-nil, length-append, length-drop}
use Rattle.std.proofs.lemmas.List.{take_all, drop_at, drop-drop}
use Rattle.journal_records.specs.declared.records.Record.{Record}
use Rattle.journal_records.specs.Texts.{record_text}
use Rattle.journal_records.specs.declared.refusals.Unread.{Unread}
use Rattle.journal_records.specs.declared.refusals.Unread.TheVariants.{Memory, Bad}
use Rattle.journal_records.specs.Reading.{record_at, Fails}
use Rattle.journal_records.specs.Places.{StandsAt, NoneStandsAt, Stand, AreRecords, IsBadAt}
use Rattle.journal_records.proofs.Readers.{IsBytes, IsBytes-drop}
use Rattle.journal_records.proofs.RecordReaders.{record_reads, one_record, some_text}

-- all bytes from a place on
pub rest_is : (bytes : List ℕ) (place : ℕ) → take (length bytes - place) (drop place bytes) ≡ drop place bytes
rest_is bytes place = take_all (length bytes - place) (drop place bytes) (omega (arith, length-drop place bytes))

-- what was read behind that place
pub stands : (bytes : List ℕ) (place : ℕ) (x : Record × List ℕ) → IsBytes bytes → place ≤ length bytes → record_at (drop place bytes) ≡ Some x → StandsAt bytes place x.0 (length bytes - length x.1)
stands bytes place x ok within read =
    let t = rw read at (record_reads.takes (drop place bytes) (IsBytes-drop place bytes ok)) in
    let text : List ℕ = record_text x.0 in
    let long : length bytes - place ≡ length text + length x.1 = sym (length-drop place bytes) ∙ ap (λ (l : List ℕ). length l) t.parts ∙ length-append text x.1 in
    let next : ℕ = length bytes - length x.1 in
    let rest : drop next bytes ≡ x.1 =
    ap (λ (n : ℕ). drop n bytes) (omega (arith, long, within)) ∙ sym (drop-drop (length text) place bytes) ∙ ap (λ (l : List ℕ). drop (length text) l) t.parts ∙ drop_at text x.1 (length text) refl in
    record { fits = t.fit; end = omega (arith, long, within); within = omega arith; text = t.parts ∙ ap (λ (l : List ℕ). text ++ l) (sym rest) }

pub behind : (bytes : List ℕ) (place : ℕ) (x : Record × List ℕ) → IsBytes bytes → record_at (drop place bytes) ≡ Some x → length x.1 ≤ length bytes
behind bytes place x ok read =
    let t = rw read at (record_reads.takes (drop place bytes) (IsBytes-drop place bytes ok)) in
    omega (arith, ap (λ (l : List ℕ). length l) t.parts, length-append (record_text x.0) x.1, length-drop place bytes)

-- what stands there is read
again : (bytes : List ℕ) (place : ℕ) (r : Record) (next : ℕ) → StandsAt bytes place r next → record_at (drop place bytes) ≡ Some (r, drop next bytes)
again bytes place r next s = ap record_at s.text ∙ record_reads.again r (drop next bytes) s.fits

pub none_stands : (bytes : List ℕ) (place : ℕ) → record_at (drop place bytes) ≡ None → NoneStandsAt bytes place
none_stands bytes place none = λ r next s. absurd (cc (none, again bytes place r next s))

-- one record stands there at most
pub one_stands : (bytes : List ℕ) (place : ℕ) (r s : Record) (next end : ℕ) → StandsAt bytes place r next → StandsAt bytes place s end → (s ≡ r) × (end ≡ next)
one_stands bytes place r s next end a b =
    let same = one_record s r (drop end bytes) (drop next bytes) b.fits a.fits (sym b.text ∙ a.text) in
    (same.0, omega (arith, ap (λ (l : List ℕ). length l) same.1, length-drop end bytes, length-drop next bytes, a.within, b.within))

-- ---- several

-- one more behind them
pub one_more : (bytes : List ℕ) (from : ℕ) (rs : List Record) (to : ℕ) (r : Record) (next : ℕ) → Stand bytes from rs to → StandsAt bytes to r next → Stand bytes from (rs ++ r ∷ []) next
one_more bytes from [] to r next there s = (next, subst (λ (p : ℕ). StandsAt bytes p r next) there s, refl)
one_more bytes from (x ∷ xs) to r next there s = (there.0, there.1, one_more bytes there.0 xs to r next there.2 s)

-- of two lists that stand from one place on, the shorter one is the front of the other
abbrev pub Begins : (bytes : List ℕ) (to : ℕ) (rs ss : List Record) (end : ℕ) → Type 0
Begins bytes to rs ss end = (more : List Record) × (ss ≡ rs ++ more) × Stand bytes to more end

pub begins : (bytes : List ℕ) (from : ℕ) (rs ss : List Record) (to end : ℕ) → length rs ≤ length ss → Stand bytes from rs to → Stand bytes from ss end → Begins bytes to rs ss end
begins bytes from [] ss to end le a b = (ss, refl, subst (λ (p : ℕ). Stand bytes p ss end) (sym a) b)
begins bytes from (r ∷ rs) [] to end le a b = absurd (omega (arith, le))
begins bytes from (r ∷ rs) (s ∷ ss) to end le a b =
    let first = one_stands bytes from r s a.0 b.0 a.1 b.1 in
    let more = begins bytes a.0 rs ss to end (omega (arith, le)) a.2 (subst (λ (p : ℕ). Stand bytes p ss end) first.1 b.2) in
    (more.0, ap (λ (x : Record). x ∷ ss) first.0 ∙ ap (λ (l : List Record). r ∷ l) more.1, more.2)

-- Behind the end no record stands.
ends : (bytes : List ℕ) (place : ℕ) (r : Record) (next : ℕ) → StandsAt bytes place r next → place + 1 ≤ length bytes
ends bytes place r next s = omega (arith, s.end, s.within, some_text r)

-- as many records as were wanted, to the end
pub all_read : (bytes : List ℕ) (count : ℕ) (rs : List Record) (place : ℕ) → Stand bytes 0 rs place → length rs ≡ count → place ≡ length bytes → AreRecords bytes count rs
all_read bytes count rs place there counted end = record { count_is = counted; stand = subst (λ (p : ℕ). Stand bytes 0 rs p) end there }

pub no_other : (bytes : List ℕ) (count : ℕ) (rs ss : List Record) → AreRecords bytes count rs → AreRecords bytes count ss → ss ≡ rs
no_other bytes count rs ss a b =
    let more = begins bytes 0 rs ss (length bytes) (length bytes) (omega (arith, a.count_is, b.count_is)) a.stand b.stand in
    more.1 ∙ none_left more.0 (omega (arith, a.count_is, b.count_is, ap (λ (l : List Record). length l) more.1, length-append rs more.0))
  where
    none_left : (l : List Record) → length l ≡ 0 → rs ++ l ≡ rs
    none_left [] none = append-nil rs
    none_left (x ∷ xs) none = absurd (omega (arith, none))

-- where fewer records stand in front of a place, and none there
pub bad_one : (bytes : List ℕ) (count : ℕ) (rs : List Record) (place : ℕ) → Stand bytes 0 rs place → length rs + 1 ≤ count → NoneStandsAt bytes place → IsBadAt bytes count place
bad_one bytes count rs place there few none = record { before = rs; stand = there; bad = inl (few, none) }

-- where they don't end with the bytes
pub bad_end : (bytes : List ℕ) (count : ℕ) (rs : List Record) (place : ℕ) → Stand bytes 0 rs place → length rs ≡ count → place + 1 ≤ length bytes → IsBadAt bytes count place
bad_end bytes count rs place there counted left = record { before = rs; stand = there; bad = inr (counted, left) }

-- The bytes with a bad place are those of no records.
pub no_records : (bytes : List ℕ) (count place : ℕ) → IsBadAt bytes count place → (ss : List Record) → AreRecords bytes count ss → ⊥
no_records bytes count place b ss are = elim (b.bad) [
  | inl few ↦
      let more = begins bytes 0 b.before ss place (length bytes) (omega (arith, few.0, are.count_is)) b.stand are.stand in
      no_more more.0 (omega (arith, few.0, are.count_is, ap (λ (l : List Record). length l) more.1, length-append b.before more.0)) few.1 more.2
  | inr end ↦
      let more = begins bytes 0 b.before ss place (length bytes) (omega (arith, end.0, are.count_is)) b.stand are.stand in
      too_few more.0 (omega (arith, end.0, are.count_is, ap (λ (l : List Record). length l) more.1, length-append b.before more.0)) end.1 more.2
]
  where
    no_more : (l : List Record) → 1 ≤ length l → NoneStandsAt bytes place → Stand bytes place l (length bytes) → ⊥
    no_more [] some none there = omega (arith, some)
    no_more (x ∷ xs) some none there = none x there.0 there.1

    too_few : (l : List Record) → length l ≡ 0 → place + 1 ≤ length bytes → Stand bytes place l (length bytes) → ⊥
    too_few [] none left there = omega (arith, there, left)
    too_few (x ∷ xs) none left there = absurd (omega (arith, none))

pub both_bad : (bytes : List ℕ) (count place at : ℕ) → at ≡ place → IsBadAt bytes count place → IsBadAt bytes count at × ((ss : List Record) → AreRecords bytes count ss → ⊥)
both_bad bytes count place at is b = let there = subst (λ (p : ℕ). IsBadAt bytes count p) (sym is) b in (there, no_records bytes count at there)

-- only what is none isn't read
pub fails_bad : {Y : Type 0} (e : Unread) (o : Option Y) → e ≡ Bad → Fails e o → o ≡ None
fails_bad Memory o is fails = absurd cc
fails_bad Bad o is fails = fails

-- the same error, of another call
pub same_error : {T U E : Type 0} (e v : E) → ◌≡◌ {A = Result T E} (Err e) (Err v) → ◌≡◌ {A = Result U E} (Err e) (Err v)
same_error {T} {U} e v is = let same : e ≡ v = cc in ap (λ x. Err x) same
