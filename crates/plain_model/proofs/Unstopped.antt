-- An access that no rule stops needs no segment whose bytes are away, so its effect is sound.
use Rattle.std.proofs.Common.{◌≡◌, ◌≤◌, ◌<◌, ◌+◌, ◌-◌, ◌*◌, ℕ, zero, suc, min, max, List, [], ◌∷◌, length, Bool, true, false, not, Some, None, refl}
use Rattle.std.proofs.Common.{sym, ◌∙◌, subst, ⊎_elim, arith}
use Rattle.std.proofs.lemmas.Bool.{eqb-true, ne_eqb, false≢true, cases_lt, lt-ltb, leb-true, and_parts, or_cases, or_parts, false_from_ne_true}
use Rattle.std.specs.Prelude.{◌/◌, ◌%◌, ◌≢◌, ◌&&◌, ◌||◌, ◌==◌, nat_lt, nat_le, if◌then◌else◌}
use Rattle.std.specs.List.{list_any}
use Rattle.hsm_types.specs.Limits.{segment_bytes, all_flags}
use Rattle.hsm_types.specs.Regions.{meets, is_flagged, touches, contains, covers}
use Rattle.hsm_types.specs.Segments.{from_on, segments_in, meets_segment, segments_met, segment_around}
use Rattle.hsm_types.specs.Stubs.{Stubs, offline_at}
use Rattle.hsm_types.specs.declared.calls.Call.{Call}
use Rattle.hsm_types.specs.declared.calls.Call.TheVariants.{Create, Read, Write, Truncate, Remove, Stat, Sync}
use Rattle.hsm_types.specs.declared.dm.Kind.{Kind}
use Rattle.hsm_types.specs.declared.dm.Kind.TheVariants as kind
use Rattle.hsm_types.specs.declared.regions.Range.{Range}
use Rattle.hsm_types.specs.declared.regions.Region.{Region}
use Rattle.plain_model.specs.declared.facts.Facts.{Facts}
use Rattle.plain_model.specs.Accesses.{kind_of, needs}
use Rattle.plain_model.specs.Effects.{effect_of}
use Rattle.plain_model.specs.Sound.{IsFree, IsFreeAround, IsSound}
use Rattle.plain_model.specs.State.{FileState, Flags}
use Rattle.plain_model.specs.Verdict.{touches_as, posts, touching, needing}
use Rattle.plain_model.proofs.Meeting.{meets_true, meets_parts}

-- ---- a region that covers a segment is touched by each access that meets the segment

or_right : (b c : Bool) → c ≡ true → (b || c) ≡ true
or_right true c is = refl
or_right false c is = is

-- all that passes one test passes the other
any_more : {A : Type 0} (p q : A → Bool) (xs : List A) → ((x : A) → p x ≡ true → q x ≡ true) → list_any p xs ≡ true → list_any q xs ≡ true
any_more p q [] each is = is
any_more p q (x ∷ xs) each is = ⊎_elim (λ (here : p x ≡ true). rw (each x here) refl) (λ (there : list_any p xs ≡ true). or_right (q x) (list_any q xs) (any_more p q xs each there)) (or_cases (p x) (list_any p xs) is)

-- reads, writes and truncates have flags
abbrev HasFlag : Kind → Type 0
HasFlag kind.Read = Unit {0}
HasFlag kind.Write = Unit {0}
HasFlag kind.Truncate = Unit {0}
HasFlag kind = ⊥

flagged : (kind : Kind) (r : Region) → HasFlag kind → r.flags ≡ all_flags → is_flagged kind r ≡ true
flagged kind.Read r has is = rw is refl
flagged kind.Write r has is = rw is refl
flagged kind.Truncate r has is = rw is refl
flagged kind r has is = absurd has

abbrev range : ℕ → ℕ → Range
range from to = record { offset = from; len = to - from }

contained : (kind : Kind) (j from to : ℕ) (r : Region) → HasFlag kind → from < to → from < segment_bytes * j + segment_bytes → segment_bytes * j < to → contains j r ≡ true → (is_flagged kind r && meets from (to - from) r) ≡ true
contained kind j from to r has some low high is =
    let first_two = and_parts ((r.flags == all_flags) && nat_le r.offset (segment_bytes * j)) (r.size == 0 || nat_le (segment_bytes * j + segment_bytes) (r.offset + r.size)) is in
    let parts = and_parts (r.flags == all_flags) (nat_le r.offset (segment_bytes * j)) first_two.0 in
    let before : r.offset ≤ segment_bytes * j = leb-true r.offset (segment_bytes * j) parts.1 in
    rw (flagged kind r has (eqb-true r.flags all_flags parts.0), lt-ltb 0 (to - from) (omega arith), lt-ltb r.offset (from + (to - from)) (omega arith))
    (⊎_elim (λ (endless : (r.size == 0) ≡ true). rw endless refl)
    (λ (ends : nat_le (segment_bytes * j + segment_bytes) (r.offset + r.size) ≡ true).
    let end : segment_bytes * j + segment_bytes ≤ r.offset + r.size = leb-true (segment_bytes * j + segment_bytes) (r.offset + r.size) ends in
    or_right (r.size == 0) (nat_lt from (r.offset + r.size)) (lt-ltb from (r.offset + r.size) (omega arith))) (or_cases (r.size == 0) (nat_le (segment_bytes * j + segment_bytes) (r.offset + r.size)) first_two.1))

-- ---- the lists of segments that an access needs

pub none_from : (p : ℕ → Bool) (x n j : ℕ) → list_any p (from_on x n) ≡ false → x ≤ j → j < x + n → p j ≡ false
none_from p x zero j none low high = absurd (omega arith)
none_from p x (suc n) j none low high =
    let parts = or_parts (p x) (list_any p (from_on (x + 1) n)) none in
    ⊎_elim (λ (there : x < j). none_from p (x + 1) n j parts.1 (omega arith) (omega arith)) (λ (here : j ≤ x). let same : x ≡ j = omega arith in subst (λ i. p i ≡ false) same parts.0) (cases_lt x j)

none_met_if : (stubs : Stubs) (b : Bool) (x n : ℕ) → b ≡ true → list_any (offline_at stubs) (if b then from_on x n else []) ≡ false → list_any (offline_at stubs) (from_on x n) ≡ false
none_met_if stubs true x n is none = none
none_met_if stubs false x n is none = cc

-- those that the range meets are all here
pub unmet : (stubs : Stubs) (from to : ℕ) → list_any (offline_at stubs) (segments_met from to) ≡ false → IsFree stubs from to
unmet stubs from to none j is =
    let parts = meets_parts from to j is in
    let some : from < to = parts.0 in
    let low : from < segment_bytes * j + segment_bytes = parts.1 in
    let high : segment_bytes * j < to = parts.2 in
    none_from (offline_at stubs) (from / segment_bytes) (segments_in to - from / segment_bytes) j (none_met_if stubs (nat_lt from to) (from / segment_bytes) (segments_in to - from / segment_bytes) (lt-ltb from to some) none) (omega arith) (omega arith)

none_around_if : (stubs : Stubs) (b : Bool) (j : ℕ) → b ≡ false → list_any (offline_at stubs) (if b then [] else j ∷ []) ≡ false → offline_at stubs j ≡ false
none_around_if stubs true j is none = cc
none_around_if stubs false j is none = (or_parts (offline_at stubs j) false none).0

not_around : (stubs : Stubs) (n : ℕ) → list_any (offline_at stubs) (segment_around n) ≡ false → IsFreeAround stubs n
not_around stubs n none j low high =
    let at : n / segment_bytes ≡ j = omega arith in
    subst (λ i. offline_at stubs i ≡ false) at (none_around_if stubs (n % segment_bytes == 0) (n / segment_bytes) (ne_eqb (n % segment_bytes) 0 (λ whole. absurd (omega arith))) none)

-- ---- rule 4 is for one that was not cleared, rule 5 for one that was

unposted : (b : Bool) (kind : Kind) → posts b (Some kind) ≡ None → b ≡ false
unposted true kind is = cc
unposted false kind is = refl

free_if : (cleared touched : Bool) (stubs : Stubs) (from to : ℕ) → (not cleared && touched) ≡ false → (cleared && list_any (offline_at stubs) (segments_met from to)) ≡ false → (touched ≡ false → IsFree stubs from to) → IsFree stubs from to
free_if true touched stubs from to four five untouched = unmet stubs from to five
free_if false touched stubs from to four five untouched = untouched four

around_if : (cleared touched : Bool) (stubs : Stubs) (to size : ℕ) → (not cleared && touched) ≡ false → (cleared && list_any (offline_at stubs) (if to == size then [] else segment_around (min to size))) ≡ false → to ≢ size
    → (touched ≡ false → IsFreeAround stubs (min to size)) → IsFreeAround stubs (min to size)
around_if true touched stubs to size four five other untouched = not_around stubs (min to size) (let here : list_any (offline_at stubs) (segment_around (min to size)) ≡ false = rw (ne_eqb to size other) at five in here)
around_if false touched stubs to size four five other untouched = untouched four

-- a truncate to another size meets the segment that has the lower end inside
reached : (to size j : ℕ) → to ≢ size → segment_bytes * j < min to size → min to size < segment_bytes * j + segment_bytes → meets_segment (min to size) (max to size) j ≡ true
reached to size j other low high = meets_true (min to size) (max to size) j (omega arith) high (omega arith)

-- ---- accesses that no rule stops

-- each segment of the file that is away is covered
abbrev pub IsCovered : FileState → Type 0
IsCovered f = (j : ℕ) → offline_at f.kept.stubs j ≡ true → covers f.kept.regions j ≡ true

-- the facts are those of the call on this file
abbrev pub AreFactsOf : FileState → Call → Facts → Type 0
AreFactsOf f call facts = (facts.touches ≡ touches_as (kind_of call) f call) × (facts.needs ≡ needs f.kept.stubs (length f.body) call)

module _ (f : FileState) (covered : IsCovered f) (fl : Flags) (facts : Facts) where
  untouched : (kind : Kind) (from to : ℕ) → HasFlag kind → touches f.kept.regions (range from to) kind ≡ false → IsFree f.kept.stubs from to
  untouched kind from to has none j is =
      let parts = meets_parts from to j is in
      false_from_ne_true (offline_at f.kept.stubs j)
      (λ away. false≢true (sym none ∙ any_more (contains j) (λ r. is_flagged kind r && meets from (to - from) r) f.kept.regions (λ r. contained kind j from to r has parts.0 parts.1 parts.2) (covered j away)))

  pub read_free : (name : List ℕ) (o n : ℕ) → AreFactsOf f (Read name o n) facts → touching fl facts (Read name o n) ≡ None → needing fl facts (Read name o n) ≡ None → IsFree f.kept.stubs o (min (o + n) (length f.body))
  read_free name o n are four five =
      free_if fl.cleared (touches f.kept.regions (range o (min (o + n) (length f.body))) kind.Read) f.kept.stubs o (min (o + n) (length f.body))
      (rw are.0 at (unposted (not fl.cleared && facts.touches) kind.Read four)) (rw are.1 at (unposted (fl.cleared && facts.needs) kind.Read five)) (untouched kind.Read o (min (o + n) (length f.body)) tt)

  pub call_sound : (call : Call) → AreFactsOf f call facts → touching fl facts call ≡ None → needing fl facts call ≡ None → IsSound (effect_of call) f
  call_sound (Create name) are four five = tt
  call_sound (Read name o n) are four five = tt
  call_sound (Write name o bytes) are four five =
      let from : ℕ = min o (length f.body) in
      let to : ℕ = o + length bytes in
      free_if fl.cleared (touches f.kept.regions (range from to) kind.Write) f.kept.stubs from to (rw are.0 at (unposted (not fl.cleared && facts.touches) kind.Write four))
      (rw are.1 at (unposted (fl.cleared && facts.needs) kind.Write five)) (untouched kind.Write from to tt)
  call_sound (Truncate name to) are four five = λ other.
      let low : ℕ = min to (length f.body) in
      let high : ℕ = max to (length f.body) in
      around_if fl.cleared (touches f.kept.regions (range low high) kind.Truncate) f.kept.stubs to (length f.body) (rw are.0 at (unposted (not fl.cleared && facts.touches) kind.Truncate four))
      (rw are.1 at (unposted (fl.cleared && facts.needs) kind.Truncate five)) other
      (λ none j inside short. untouched kind.Truncate low high tt none j (reached to (length f.body) j other inside short))
  call_sound (Remove name) are four five = tt
  call_sound (Stat name) are four five = tt
  call_sound Sync are four five = tt
