-- What is held of a file stands for its bytes after each effect that is sound.
use Rattle.std.proofs.Common.{◌≡◌, ◌≤◌, ◌<◌, ◌+◌, ◌-◌, ◌*◌, ℕ, min, max, List, [], length, get_or, replicate, Bool, true, false, Option, Some, None}
use Rattle.std.proofs.Common.{refl, sym, ◌∙◌, ap, subst, ⊎_elim, arith}
use Rattle.std.proofs.lemmas.List.{length-replicate, get_or_past}
use Rattle.std.proofs.lemmas.Bool.{eqb-true, eqb-false, false≢true, cases_Bool, cases_lt, lt-ltb, ltb-true, and_parts, le-leb, leb-true}
use Rattle.std.specs.Prelude.{◌/◌, ◌&&◌, ◌==◌, nat_lt, nat_le, if◌then◌else◌, IfSome}
use Rattle.hsm_types.specs.Limits.{segment_bytes}
use Rattle.hsm_types.specs.Regions.{covers}
use Rattle.hsm_types.specs.Segments.{meets_segment}
use Rattle.hsm_types.specs.Stubs.{print_of, stub_at, is_offline, offline_at, entry_print}
use Rattle.hsm_types.specs.declared.keys.FileKey.{FileKey}
use Rattle.hsm_types.specs.declared.regions.Region.{Region}
use Rattle.hsm_types.specs.declared.stubs.Fingerprint.{Fingerprint}
use Rattle.hsm_types.specs.declared.stubs.Stub.{Stub}
use Rattle.hsm_types.specs.declared.stubs.StubEntry.{StubEntry}
use Rattle.hsm_types.proofs.Stubbing.{set_away, seal_of, stub_at-unsealed, stub_at-sealed, stub_at-punched, stub_at-restored}
use Rattle.plain_model.specs.Effects.{Effect, Writes, Resizes, Manages, Seals, Punches, Restores}
use Rattle.plain_model.specs.Plain.{written, resized, segment, rebody}
use Rattle.plain_model.specs.Sound.{IsFree, IsSound}
use Rattle.plain_model.specs.State.{FileState, new_file, remade}
use Rattle.plain_model.specs.Stands.{HasBody}
use Rattle.plain_model.proofs.Bodies.{length-resized, length-written, written_low, written_in, written_high, written_agree, resized_agree}
use Rattle.plain_model.proofs.Bodies.{length-read, read_same}
use Rattle.plain_model.proofs.Meeting.{meets_true, meets_parts, written_apart, resized_apart, restored_segment, restored_apart}

-- the entry has the fingerprint of that segment
abbrev HasPrint : List ℕ → ℕ → Option Stub → Type 0
HasPrint body j stub = IfSome stub (λ (x : Stub). (entry_print x.entry) ≡ print_of (segment j body))

-- by the entry that each segment has
has_body : (f : FileState) (body : List ℕ) (now : ℕ → Option Stub) → ((j : ℕ) → stub_at j f.kept.stubs ≡ now j) → length f.body ≡ length body
    → ((i : ℕ) → is_offline (now (i / segment_bytes)) ≡ false → get_or f.body i 0 ≡ get_or body i 0) → ((j : ℕ) → HasPrint body j (now j)) → ((j : ℕ) → length body ≤ segment_bytes * j → now j ≡ None)
    → ((j : ℕ) → is_offline (now j) ≡ true → covers f.kept.regions j ≡ true) → HasBody f body
has_body f body now is size bytes prints within covered = record {
  size = size;
  bytes = λ i here. bytes i (sym (ap is_offline (is (i / segment_bytes))) ∙ here);
  prints = λ j. subst (HasPrint body j) (sym (is j)) (prints j);
  within = λ j past. is j ∙ within j past;
  covered = λ j away. covered j (sym (ap is_offline (is j)) ∙ away);
}

either : {A : Type 0} (P : A → Type 0) (b : Bool) (x y : A) → (b ≡ true → P x) → (b ≡ false → P y) → P (if b then x else y)
either P true x y on off = on refl
either P false x y on off = off refl

-- ---- what is true of an entry that may have been dropped

here_then : (b : Bool) (stub : Option Stub) → b ≡ false → is_offline (if b then None else stub) ≡ is_offline stub
here_then true stub is = cc
here_then false stub is = refl

away_then : (b : Bool) (stub : Option Stub) → is_offline (if b then None else stub) ≡ true → is_offline stub ≡ true
away_then true stub is = absurd (false≢true is)
away_then false stub is = is

none_then : (b : Bool) (stub : Option Stub) → stub ≡ None → (if b then None else stub) ≡ None
none_then true stub is = refl
none_then false stub is = is

never_away : (stub : Option Stub) → is_offline (set_away false stub) ≡ false
never_away None = refl
never_away (Some x) = refl

module _ (f : FileState) (body : List ℕ) (h : HasBody f body) where
  -- ---- a write

  -- the entries where those of segments that the range meets are dropped
  abbrev left : ℕ → ℕ → ℕ → Option Stub
  left from to j = if meets_segment from to j then None else stub_at j f.kept.stubs

  prints_left : (b : Bool) (j : ℕ) (now : List ℕ) → (b ≡ false → segment j now ≡ segment j body) → HasPrint now j (if b then None else stub_at j f.kept.stubs)
  prints_left true j now same = tt
  prints_left false j now same = rw (same refl) (h.prints j)

  was_here : (from to i : ℕ) → IsFree f.kept.stubs from to → is_offline (left from to (i / segment_bytes)) ≡ false → offline_at f.kept.stubs (i / segment_bytes) ≡ false
  was_here from to i free is =
      ⊎_elim (λ (met : meets_segment from to (i / segment_bytes) ≡ true). free (i / segment_bytes) met)
      (λ (none : meets_segment from to (i / segment_bytes) ≡ false). sym (here_then (meets_segment from to (i / segment_bytes)) (stub_at (i / segment_bytes) f.kept.stubs) none) ∙ is) (cases_Bool (meets_segment from to (i / segment_bytes)))

  pub writes_body : (o : ℕ) (bytes : List ℕ) → IsSound (Writes o bytes) f → HasBody (remade (Writes o bytes) f) (written o bytes body)
  writes_body o bytes free =
      let from : ℕ = min o (length f.body) in
      let to : ℕ = o + length bytes in
      has_body (remade (Writes o bytes) f) (written o bytes body) (left from to) (stub_at-unsealed from to f.kept.stubs)
      (length-written o bytes f.body ∙ ap (λ n. max n (o + length bytes)) h.size ∙ sym (length-written o bytes body))
      (λ i here. written_agree o bytes f.body body i (h.bytes i (was_here from to i free here)))
      (λ j. prints_left (meets_segment from to j) j (written o bytes body) (λ none. written_apart o bytes body j (rw h.size at none)))
      (λ j past. none_then (meets_segment from to j) (stub_at j f.kept.stubs) (h.within j (omega (arith, length-written o bytes body))))
      (λ j away. h.covered j (away_then (meets_segment from to j) (stub_at j f.kept.stubs) away))

  -- ---- a truncate

  -- a byte below the new end is here, if it is here then
  was_here_below : (n i : ℕ) → IsSound (Resizes n) f → i < n → is_offline (left (min n (length f.body)) (max n (length f.body)) (i / segment_bytes)) ≡ false → offline_at f.kept.stubs (i / segment_bytes) ≡ false
  was_here_below n i sound low is =
      ⊎_elim
      (λ (met : meets_segment (min n (length f.body)) (max n (length f.body)) (i / segment_bytes) ≡ true).
      let parts = meets_parts (min n (length f.body)) (max n (length f.body)) (i / segment_bytes) met in
      let some : min n (length f.body) < max n (length f.body) = parts.0 in
      let low_end : min n (length f.body) < segment_bytes * (i / segment_bytes) + segment_bytes = parts.1 in
      ⊎_elim (λ (inside : segment_bytes * (i / segment_bytes) < min n (length f.body)). sound (λ same. absurd (omega arith)) (i / segment_bytes) inside low_end)
      (λ (from : min n (length f.body) ≤ segment_bytes * (i / segment_bytes)). ap is_offline (h.within (i / segment_bytes) (omega (arith, h.size)))) (cases_lt (segment_bytes * (i / segment_bytes)) (min n (length f.body))))
      (λ (none : meets_segment (min n (length f.body)) (max n (length f.body)) (i / segment_bytes) ≡ false).
      sym (here_then (meets_segment (min n (length f.body)) (max n (length f.body)) (i / segment_bytes)) (stub_at (i / segment_bytes) f.kept.stubs) none) ∙ is)
      (cases_Bool (meets_segment (min n (length f.body)) (max n (length f.body)) (i / segment_bytes)))

  gone_past : (n j : ℕ) → n ≤ segment_bytes * j → left (min n (length f.body)) (max n (length f.body)) j ≡ None
  gone_past n j past =
      ⊎_elim (λ (inner : segment_bytes * j < length f.body). let met = meets_true (min n (length f.body)) (max n (length f.body)) j (omega arith) (omega arith) (omega arith) in rw met refl)
      (λ (outer : length f.body ≤ segment_bytes * j). none_then (meets_segment (min n (length f.body)) (max n (length f.body)) j) (stub_at j f.kept.stubs) (h.within j (omega (arith, h.size)))) (cases_lt (segment_bytes * j) (length f.body))

  pub resizes_body : (n : ℕ) → IsSound (Resizes n) f → HasBody (remade (Resizes n) f) (resized n body)
  resizes_body n sound =
      let from : ℕ = min n (length f.body) in
      let to : ℕ = max n (length f.body) in
      has_body (remade (Resizes n) f) (resized n body) (left from to) (stub_at-unsealed from to f.kept.stubs) (length-resized n f.body ∙ sym (length-resized n body))
      (λ i here. resized_agree n f.body body i (λ low. h.bytes i (was_here_below n i sound low here)))
      (λ j. prints_left (meets_segment from to j) j (resized n body) (λ none. resized_apart n body j (rw h.size at none)))
      (λ j past. gone_past n j (omega (arith, length-resized n body))) (λ j away. h.covered j (away_then (meets_segment from to j) (stub_at j f.kept.stubs) away))

  -- ---- a restore

  pub print_length : (j : ℕ) (bytes : List ℕ) (x : Stub) → stub_at j f.kept.stubs ≡ Some x → entry_print x.entry ≡ print_of bytes → print_of bytes ≡ print_of (segment j body)
  print_length j bytes x is same = let print : entry_print x.entry ≡ print_of (segment j body) = rw is at (h.prints j) in sym same ∙ print

  abbrev back : ℕ → ℕ → Option Stub
  back j q = if q == j then set_away false (stub_at q f.kept.stubs) else stub_at q f.kept.stubs

  restored_bytes : (j : ℕ) (bytes : List ℕ) (i : ℕ) → length bytes ≡ min segment_bytes (length body - segment_bytes * j) → is_offline (back j (i / segment_bytes)) ≡ false
      → get_or (written (segment_bytes * j) bytes f.body) i 0 ≡ get_or (written (segment_bytes * j) bytes body) i 0
  restored_bytes j bytes i len =
      either (λ o. is_offline o ≡ false → get_or (written (segment_bytes * j) bytes f.body) i 0 ≡ get_or (written (segment_bytes * j) bytes body) i 0) (i / segment_bytes == j) (set_away false (stub_at (i / segment_bytes) f.kept.stubs)) (stub_at (i / segment_bytes) f.kept.stubs)
      (λ it here.
      let same : i / segment_bytes ≡ j = eqb-true (i / segment_bytes) j it in
      ⊎_elim (λ (inside : i < segment_bytes * j + length bytes). written_in (segment_bytes * j) bytes f.body i (omega arith) inside ∙ sym (written_in (segment_bytes * j) bytes body i (omega arith) inside))
      (λ (past : segment_bytes * j + length bytes ≤ i). written_agree (segment_bytes * j) bytes f.body body i (get_or_past f.body i 0 (omega (arith, h.size)) ∙ sym (get_or_past body i 0 (omega arith)))) (cases_lt i (segment_bytes * j + length bytes)))
      (λ other here. written_agree (segment_bytes * j) bytes f.body body i (h.bytes i here))

  pub restores_body : (j : ℕ) (bytes : List ℕ) → IsSound (Restores j bytes) f → HasBody (remade (Restores j bytes) f) (written (segment_bytes * j) bytes body)
  restores_body j bytes sound =
      let print = print_length j bytes sound.1.0 sound.1.1 sound.1.2 in
      let len : length bytes ≡ min segment_bytes (length body - segment_bytes * j) = ap (λ (p : Fingerprint). p.len) print ∙ length-read (segment_bytes * j) segment_bytes body in
      let full : length (written (segment_bytes * j) bytes body) ≡ length body = omega (arith, length-written (segment_bytes * j) bytes body, h.size, sound.0) in
      has_body (remade (Restores j bytes) f) (written (segment_bytes * j) bytes body) (back j) (stub_at-restored j f.kept.stubs)
      (length-written (segment_bytes * j) bytes f.body ∙ ap (λ n. max n (segment_bytes * j + length bytes)) h.size ∙ sym (length-written (segment_bytes * j) bytes body)) (λ i here. restored_bytes j bytes i len here)
      (λ q. either (HasPrint (written (segment_bytes * j) bytes body) q) (q == j) (set_away false (stub_at q f.kept.stubs)) (stub_at q f.kept.stubs)
      (λ it. subst (λ n. HasPrint (written (segment_bytes * j) bytes body) n (set_away false (stub_at n f.kept.stubs))) (sym (eqb-true q j it)) (rw sound.1.1 (sound.1.2 ∙ ap print_of (sym (restored_segment j bytes body len)))))
      (λ other. rw (restored_apart j q bytes body (omega arith) full (eqb-false q j other)) (h.prints q)))
      (λ q past. either (λ o. o ≡ None) (q == j) (set_away false (stub_at q f.kept.stubs)) (stub_at q f.kept.stubs) (λ it. absurd (let same : q ≡ j = eqb-true q j it in omega (arith, sound.0, h.size))) (λ other. h.within q (omega arith)))
      (λ q. either (λ o. is_offline o ≡ true → covers f.kept.regions q ≡ true) (q == j) (set_away false (stub_at q f.kept.stubs)) (stub_at q f.kept.stubs)
      (λ it away. absurd (false≢true (sym (never_away (stub_at q f.kept.stubs)) ∙ away))) (λ other. h.covered q))

  -- ---- a seal

  -- a segment that is here has the bytes of the map's
  pub held_segment : (j : ℕ) → offline_at f.kept.stubs j ≡ false → segment j f.body ≡ segment j body
  held_segment j here =
      read_same (segment_bytes * j) segment_bytes f.body body (ap (λ n. min segment_bytes (n - segment_bytes * j)) h.size) (λ i from to within. h.bytes i (subst (λ q. offline_at f.kept.stubs q ≡ false) (let at : j ≡ i / segment_bytes = omega arith in at) here))

  pub seals_body : (j : ℕ) (entry : StubEntry) → IsSound (Seals j entry) f → HasBody (remade (Seals j entry) f) body
  seals_body j entry sound =
      let new : Option Stub = Some (seal_of entry) in
      has_body (remade (Seals j entry) f) body (λ q. if q == j then new else stub_at q f.kept.stubs) (stub_at-sealed j entry f.kept.stubs) h.size
      (λ i. either (λ o. is_offline o ≡ false → get_or f.body i 0 ≡ get_or body i 0) (i / segment_bytes == j) new (stub_at (i / segment_bytes) f.kept.stubs)
      (λ it here. h.bytes i (subst (λ q. offline_at f.kept.stubs q ≡ false) (sym (eqb-true (i / segment_bytes) j it)) sound.1)) (λ other here. h.bytes i here))
      (λ q. either (HasPrint body q) (q == j) new (stub_at q f.kept.stubs) (λ it. subst (λ n. entry_print entry ≡ print_of (segment n body)) (sym (eqb-true q j it)) (sound.2 ∙ ap print_of (held_segment j sound.1))) (λ other. h.prints q))
      (λ q past. either (λ o. o ≡ None) (q == j) new (stub_at q f.kept.stubs) (λ it. absurd (let same : q ≡ j = eqb-true q j it in omega (arith, sound.0, h.size))) (λ other. h.within q past))
      (λ q. either (λ o. is_offline o ≡ true → covers f.kept.regions q ≡ true) (q == j) new (stub_at q f.kept.stubs) (λ it away. absurd (false≢true away)) (λ other. h.covered q))

  -- ---- a punch

  abbrev gone : ℕ → ℕ → ℕ → Option Stub
  gone from to q = if nat_le from q && nat_lt q to then set_away true (stub_at q f.kept.stubs) else stub_at q f.kept.stubs

  still_here : (from to i : ℕ) → IsSound (Punches from to) f → i < length f.body → is_offline (gone from to (i / segment_bytes)) ≡ false → ((nat_le from (i / segment_bytes) && nat_lt (i / segment_bytes) to) ≡ false) × (offline_at f.kept.stubs (i / segment_bytes) ≡ false)
  still_here from to i sound low =
      let q : ℕ = i / segment_bytes in
      either (λ o. is_offline o ≡ false → ((nat_le from q && nat_lt q to) ≡ false) × (offline_at f.kept.stubs q ≡ false)) (nat_le from q && nat_lt q to) (set_away true (stub_at q f.kept.stubs)) (stub_at q f.kept.stubs)
      (λ inside here.
      let parts = and_parts (nat_le from q) (nat_lt q to) inside in
      let x = sound.1 q (leb-true from q parts.0) (ltb-true q to parts.1) (omega (arith, low)) in
      absurd (false≢true (sym here ∙ ap (λ o. is_offline (set_away true o)) x.1)))
      (λ out here. (out, here))

  zeroed : (from to i : ℕ) (zeros : List ℕ) → length zeros ≡ min (segment_bytes * to) (length f.body) - segment_bytes * from → (nat_le from (i / segment_bytes) && nat_lt (i / segment_bytes) to) ≡ false → get_or (written (segment_bytes * from) zeros f.body) i 0 ≡ get_or f.body i 0
  zeroed from to i zeros len out =
      ⊎_elim (λ (low : i / segment_bytes < from). written_low (segment_bytes * from) zeros f.body i (omega arith))
      (λ (at : from ≤ i / segment_bytes).
      ⊎_elim (λ (here : i / segment_bytes < to). absurd (false≢true (let inside : (nat_le from (i / segment_bytes) && nat_lt (i / segment_bytes) to) ≡ true = rw (le-leb from (i / segment_bytes) at, lt-ltb (i / segment_bytes) to here) refl in sym out ∙ inside)))
      (λ (past : to ≤ i / segment_bytes). written_high (segment_bytes * from) zeros f.body i (omega (arith, len))) (cases_lt (i / segment_bytes) to)) (cases_lt (i / segment_bytes) from)

  -- a byte that is here after the punch is the map's, and there are none past the end
  punched_bytes : (from to i : ℕ) (zeros : List ℕ) → length zeros ≡ min (segment_bytes * to) (length f.body) - segment_bytes * from → IsSound (Punches from to) f → is_offline (gone from to (i / segment_bytes)) ≡ false
      → get_or (written (segment_bytes * from) zeros f.body) i 0 ≡ get_or body i 0
  punched_bytes from to i zeros len sound here =
      ⊎_elim (λ (low : i < length f.body). let was = still_here from to i sound low here in zeroed from to i zeros len was.0 ∙ h.bytes i was.1)
      (λ (past : length f.body ≤ i).
      get_or_past (written (segment_bytes * from) zeros f.body) i 0 (omega (arith, length-written (segment_bytes * from) zeros f.body, len, sound.0)) ∙ sym (get_or_past body i 0 (omega (arith, h.size)))) (cases_lt i (length f.body))

  -- a segment that is away then is covered: one past the end has no entry
  punched_covered : (from to q : ℕ) → IsSound (Punches from to) f → (nat_le from q && nat_lt q to) ≡ true → is_offline (set_away true (stub_at q f.kept.stubs)) ≡ true → covers f.kept.regions q ≡ true
  punched_covered from to q sound inside away =
      let parts = and_parts (nat_le from q) (nat_lt q to) inside in
      ⊎_elim (λ (inner : segment_bytes * q < length f.body). (sound.1 q (leb-true from q parts.0) (ltb-true q to parts.1) inner).2)
      (λ (outer : length f.body ≤ segment_bytes * q). absurd (false≢true (sym (ap (λ o. is_offline (set_away true o)) (h.within q (omega (arith, h.size)))) ∙ away))) (cases_lt (segment_bytes * q) (length f.body))

  prints_away : (b : Bool) (stub : Option Stub) (q : ℕ) → HasPrint body q stub → HasPrint body q (if b then set_away true stub else stub)
  prints_away true None q is = tt
  prints_away true (Some x) q is = is
  prints_away false stub q is = is

  none_away : (b : Bool) (stub : Option Stub) → stub ≡ None → (if b then set_away true stub else stub) ≡ None
  none_away true stub is = rw is refl
  none_away false stub is = is

  pub punches_body : (from to : ℕ) → IsSound (Punches from to) f → HasBody (remade (Punches from to) f) body
  punches_body from to sound =
      let zeros : List ℕ = replicate (min (segment_bytes * to) (length f.body) - segment_bytes * from) 0 in
      let len : length zeros ≡ min (segment_bytes * to) (length f.body) - segment_bytes * from = length-replicate {A = ℕ} (min (segment_bytes * to) (length f.body) - segment_bytes * from) 0 in
      has_body (remade (Punches from to) f) body (gone from to) (stub_at-punched from to f.kept.stubs) (omega (arith, length-written (segment_bytes * from) zeros f.body, len, h.size, sound.0))
      (λ i here. punched_bytes from to i zeros len sound here)
      (λ q. prints_away (nat_le from q && nat_lt q to) (stub_at q f.kept.stubs) q (h.prints q)) (λ q past. none_away (nat_le from q && nat_lt q to) (stub_at q f.kept.stubs) (h.within q past))
      (λ q. either (λ o. is_offline o ≡ true → covers f.kept.regions q ≡ true) (nat_le from q && nat_lt q to) (set_away true (stub_at q f.kept.stubs)) (stub_at q f.kept.stubs) (λ inside. punched_covered from to q sound inside)
      (λ out. h.covered q))

  -- ---- other regions

  pub manages_body : (regions : List Region) → IsSound (Manages regions) f → HasBody (remade (Manages regions) f) body
  manages_body regions sound = record { size = h.size; bytes = h.bytes; prints = h.prints; within = h.within; covered = sound }

-- ---- any effect

pub sound_body : (e : Effect) (f : FileState) (body : List ℕ) → IsSound e f → HasBody f body → HasBody (remade e f) (rebody e body)
sound_body (Writes o bytes) f body sound h = writes_body f body h o bytes sound
sound_body (Resizes n) f body sound h = resizes_body f body h n sound
sound_body (Restores j bytes) f body sound h = restores_body f body h j bytes sound
sound_body (Seals j entry) f body sound h = seals_body f body h j entry sound
sound_body (Punches from to) f body sound h = punches_body f body h from to sound
sound_body (Manages regions) f body sound h = manages_body f body h regions sound
sound_body e f body sound h = record { size = h.size; bytes = h.bytes; prints = h.prints; within = h.within; covered = h.covered }

-- a new file has no bytes
pub new_body : (k : FileKey) (name : List ℕ) → HasBody (new_file k name) []
new_body k name = record { size = refl; bytes = λ i here. refl; prints = λ j. tt; within = λ j past. refl; covered = λ j away. absurd (false≢true away) }
