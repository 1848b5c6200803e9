-- What is written is read, and what is read was written.
use Rattle.std.proofs.Common.{◌≡◌, ℕ, ◌+◌, ◌-◌, ◌<◌, ◌≤◌, ◌^◌, List, ◌++◌, length, get_or, take, drop, Bool, true, false, not, ◌&&◌, nat_eq, nat_le}
use Rattle.std.proofs.Common.{if◌then◌else◌, Option, Some, None, refl, sym, ap, subst, ◌∙◌, append_assoc, arith, inl, inr}
use Rattle.std.specs.List.{All, starts_with}
use Rattle.std.specs.Str.{bytes_eq}
use Rattle.std.proofs.lemmas.Bool.{cases_lt, le-leb, leb-true}
use Rattle.std.proofs.lemmas.Bool.Decides.{Decides-eqb}
use Rattle.std.proofs.lemmas.List.{take-append-drop, take_at, drop_at, length-append, length-take, length-drop, get_or-drop, get_or-take}
use Rattle.std.proofs.lemmas.List.{get_or_past, drop-drop, take_all}
use Rattle.std.proofs.lemmas.List.Elements.{All-get_or}
use Rattle.std.proofs.lemmas.Nat.{be_bytes_4}
use Rattle.std.proofs.lemmas.Slice.Eq.{bytes_eq-Decides, starts_is}
use Rattle.byteorder.specs.Endian.{big_bytes, big_number}
use Rattle.byteorder.specs.Numbers.{big_from-take, big_from-lt, big_number-reads_back}
use Rattle.sha2.specs.Sha256.{sha256}
use Rattle.sha2.proofs.Facts256.{length-sha256}
use Rattle.hsm_types.specs.Handles.{handle_bytes, IsHandle}
use Rattle.hsm_types.specs.Limits.{segment_bytes}
use Rattle.hsm_types.specs.declared.keys.Handle.{Handle}
use Rattle.hsm_types.proofs.HandleBytes.{handle_bytes-read}
use Rattle.volume_format.specs.Objects.{magic, object_bytes, IsObject, begins_well, says_length, says_digest, bad_place}
use Rattle.volume_format.specs.Laws.{IsSomeObject, IsSame, IsFramed}

-- ---- the frame of an object, and what follows it

abbrev frame : Handle → ℕ → List ℕ → List ℕ
frame h j p = magic ++ handle_bytes h ++ big_bytes 4 j ++ big_bytes 4 (length p) ++ sha256 p

frame_size : (h : Handle) (j : ℕ) (p : List ℕ) → length (frame h j p) ≡ 72
unfolding handle_bytes
frame_size h j p = omega (arith, length-append (magic ++ handle_bytes h ++ big_bytes 4 j ++ big_bytes 4 (length p)) (sha256 p), length-sha256 p)

framed : (h : Handle) (j : ℕ) (p : List ℕ) → object_bytes h j p ≡ frame h j p ++ p
unfolding object_bytes
framed h j p = refl

pub size : (h : Handle) (j : ℕ) (p : List ℕ) → length (object_bytes h j p) ≡ 72 + length p
size h j p = ap length (framed h j p) ∙ length-append (frame h j p) p ∙ ap (λ (n : ℕ). n + length p) (frame_size h j p)

pub payload : (h : Handle) (j : ℕ) (p : List ℕ) → drop 72 (object_bytes h j p) ≡ p
payload h j p = ap (drop 72) (framed h j p) ∙ drop_at (frame h j p) p 72 (frame_size h j p)

-- ---- the fields of an object, at their places

magic_first : (h : Handle) (j : ℕ) (p : List ℕ) → starts_with nat_eq (object_bytes h j p) magic ≡ true
unfolding object_bytes
magic_first h j p = refl

fsid_there : (h : Handle) (j : ℕ) (p : List ℕ) → IsHandle h → big_number 8 (drop 8 (object_bytes h j p)) ≡ h.fsid
unfolding object_bytes handle_bytes
fsid_there h j p is = big_number-reads_back 8 h.fsid (big_bytes 8 h.key.ino ++ (big_bytes 8 h.key.igen ++ (big_bytes 4 j ++ (big_bytes 4 (length p) ++ (sha256 p ++ p))))) is.fsid

ino_there : (h : Handle) (j : ℕ) (p : List ℕ) → IsHandle h → big_number 8 (drop 16 (object_bytes h j p)) ≡ h.key.ino
unfolding object_bytes handle_bytes
ino_there h j p is = big_number-reads_back 8 h.key.ino (big_bytes 8 h.key.igen ++ (big_bytes 4 j ++ (big_bytes 4 (length p) ++ (sha256 p ++ p)))) is.ino

igen_there : (h : Handle) (j : ℕ) (p : List ℕ) → IsHandle h → big_number 8 (drop 24 (object_bytes h j p)) ≡ h.key.igen
unfolding object_bytes handle_bytes
igen_there h j p is = big_number-reads_back 8 h.key.igen (big_bytes 4 j ++ (big_bytes 4 (length p) ++ (sha256 p ++ p))) is.igen

segment_there : (h : Handle) (j : ℕ) (p : List ℕ) → j < 2 ^ 32 → big_number 4 (drop 32 (object_bytes h j p)) ≡ j
unfolding object_bytes handle_bytes
segment_there h j p fits = big_number-reads_back 4 j (big_bytes 4 (length p) ++ (sha256 p ++ p)) (omega (arith, fits))

length_there : (h : Handle) (j : ℕ) (p : List ℕ) → length p ≤ segment_bytes → big_number 4 (drop 36 (object_bytes h j p)) ≡ length p
unfolding object_bytes handle_bytes
length_there h j p most = big_number-reads_back 4 (length p) (sha256 p ++ p) (omega (arith, most))

digest_there : (h : Handle) (j : ℕ) (p : List ℕ) → take 32 (drop 40 (object_bytes h j p)) ≡ sha256 p
unfolding object_bytes handle_bytes
digest_there h j p = take_at (sha256 p) p 32 (length-sha256 p)

-- ---- the place, by the three tests

abbrev place_of : Bool → Bool → Bool → Option ℕ
place_of begins len digest = if not begins then Some 0 else if not len then Some 36 else if not digest then Some 40 else None

place_is : (bytes : List ℕ) → bad_place bytes ≡ place_of (begins_well bytes) (says_length bytes) (says_digest bytes)
unfolding bad_place
place_is bytes = refl

all_pass : (a b c : Bool) → place_of a b c ≡ None → (a ≡ true) × (b ≡ true) × (c ≡ true)
all_pass true true true none = (refl, refl, refl)
all_pass true true false none = absurd cc
all_pass true false c none = absurd cc
all_pass false b c none = absurd cc

both_pass : (a b : Bool) → a && b ≡ true → (a ≡ true) × (b ≡ true)
both_pass true true pass = (refl, refl)
both_pass true false pass = absurd cc
both_pass false b pass = absurd cc

three_pass : (a b c : Bool) → a && b && c ≡ true → (a ≡ true) × (b ≡ true) × (c ≡ true)
three_pass true true true pass = (refl, refl, refl)
three_pass true true false pass = absurd cc
three_pass true false c pass = absurd cc
three_pass false b c pass = absurd cc

and_both : (a b : Bool) → a ≡ true → b ≡ true → a && b ≡ true
and_both a b x y = λ i. x i && y i

three : (a b c : Bool) → a ≡ true → b ≡ true → c ≡ a && b && c
three a b c x y = sym (λ i. x i && y i && c)

-- ---- what is written is read

begins : (h : Handle) (j : ℕ) (p : List ℕ) → begins_well (object_bytes h j p) ≡ true
begins h j p = and_both _ _ (le-leb 72 (length (object_bytes h j p)) (omega (arith, size h j p))) (magic_first h j p)

tells_length : (h : Handle) (j : ℕ) (p : List ℕ) → 1 ≤ length p → length p ≤ segment_bytes → says_length (object_bytes h j p) ≡ true
tells_length h j p some most =
    let there = length_there h j p most in
    let behind = payload h j p in
    (λ i. nat_le 1 (there i) && nat_le (there i) segment_bytes && nat_eq (there i) (length (behind i)))
    ∙ sym (three (nat_le 1 (length p)) (nat_le (length p) segment_bytes) (nat_eq (length p) (length p)) (le-leb 1 (length p) some) (le-leb (length p) segment_bytes most))
    ∙ (Decides-eqb (length p) (length p)).1 refl

tells_digest : (h : Handle) (j : ℕ) (p : List ℕ) → says_digest (object_bytes h j p) ≡ true
tells_digest h j p = (λ i. bytes_eq (digest_there h j p i) (sha256 (payload h j p i))) ∙ (bytes_eq-Decides (sha256 p) (sha256 p)).1 refl

pub reads_back : (h : Handle) (j : ℕ) (p object : List ℕ) → IsObject h j p object → bad_place object ≡ None
reads_back h j p object is =
    ap bad_place is.bytes ∙ place_is (object_bytes h j p)
    ∙ (λ i. place_of (begins h j p i) (tells_length h j p is.some is.most i) (tells_digest h j p i))

pub payload_follows : (h : Handle) (j : ℕ) (p object : List ℕ) → IsObject h j p object → IsFramed p object
payload_follows h j p object is = record { size = ap length is.bytes ∙ size h j p; payload = ap (drop 72) is.bytes ∙ payload h j p }

pub one_reading : (object : List ℕ) (h g : Handle) (i j : ℕ) (p q : List ℕ) → IsObject h i p object → IsObject g j q object → IsSame h g i j p q
one_reading object h g i j p q a b =
    let same : object_bytes h i p ≡ object_bytes g j q = sym a.bytes ∙ b.bytes in
    let fsid : h.fsid ≡ g.fsid = sym (fsid_there h i p a.handle) ∙ ap (λ (l : List ℕ). big_number 8 (drop 8 l)) same ∙ fsid_there g j q b.handle in
    let ino : h.key.ino ≡ g.key.ino = sym (ino_there h i p a.handle) ∙ ap (λ (l : List ℕ). big_number 8 (drop 16 l)) same ∙ ino_there g j q b.handle in
    let igen : h.key.igen ≡ g.key.igen = sym (igen_there h i p a.handle) ∙ ap (λ (l : List ℕ). big_number 8 (drop 24 l)) same ∙ igen_there g j q b.handle in
    record {
      handle = λ k. record { fsid = fsid k; key = record { ino = ino k; igen = igen k } };
      segment = sym (segment_there h i p a.segment) ∙ ap (λ (l : List ℕ). big_number 4 (drop 32 l)) same ∙ segment_there g j q b.segment;
      payload = sym (payload h i p) ∙ ap (drop 72) same ∙ payload g j q;
    }

-- ---- what is read was written

abbrev pub AreBytes : List ℕ → Type 0
AreBytes bytes = (i : ℕ) → get_or bytes i 0 < 256

AreBytes-drop : (n : ℕ) (bytes : List ℕ) → AreBytes bytes → AreBytes (drop n bytes)
AreBytes-drop n bytes are i = rw get_or-drop (are (n + i))

AreBytes-take : (n : ℕ) (bytes : List ℕ) → AreBytes bytes → AreBytes (take n bytes)
AreBytes-take n bytes are i =
    elim (cases_lt i n) [
      | inl lt ↦ rw (get_or-take n bytes i 0 lt) (are i)
      | inr le ↦ rw (get_or_past (take n bytes) i 0 (omega (arith, length-take n bytes))) (omega arith)
    ]

bytes_at : (bytes : List ℕ) → All (λ byte. byte < 256) bytes → AreBytes bytes
bytes_at bytes each i =
    elim (cases_lt i (length bytes)) [
      | inl lt ↦ All-get_or (λ byte. byte < 256) bytes i 0 lt each
      | inr le ↦ rw (get_or_past bytes i 0 le) (omega arith)
    ]

-- the number of four bytes has them as its bytes
number_at : (k : ℕ) (bytes : List ℕ) → AreBytes bytes → k + 4 ≤ length bytes → big_bytes 4 (big_number 4 (drop k bytes)) ≡ take 4 (drop k bytes)
number_at k bytes are long =
    let part = drop k bytes in
    ap (big_bytes 4) (sym (big_from-take 0 4 4 part (omega arith)))
    ∙ be_bytes_4 (take 4 part) _ (omega (arith, length-take 4 part, length-drop k bytes)) (AreBytes-take 4 part (AreBytes-drop k bytes are)) (omega arith)

-- a field and the bytes behind it
field : (k n : ℕ) (bytes : List ℕ) → take n (drop k bytes) ++ drop (k + n) bytes ≡ drop k bytes
field k n bytes = ap (λ (l : List ℕ). take n (drop k bytes) ++ l) (sym (drop-drop n k bytes)) ∙ take-append-drop n (drop k bytes)

assoc5 : (a b c d e r : List ℕ) → ((((a ++ b) ++ c) ++ d) ++ e) ++ r ≡ a ++ (b ++ (c ++ (d ++ (e ++ r))))
assoc5 a b c d e r = simp append_assoc

-- the fields behind the magic
fields : (front bytes : List ℕ) → bytes ≡ front ++ drop 8 bytes
    → ((((front ++ take 24 (drop 8 bytes)) ++ take 4 (drop 32 bytes)) ++ take 4 (drop 36 bytes)) ++ take 32 (drop 40 bytes)) ++ drop 72 bytes ≡ bytes
fields front bytes first =
    let b = take 24 (drop 8 bytes) in
    let c = take 4 (drop 32 bytes) in
    let d = take 4 (drop 36 bytes) in
    assoc5 front b c d (take 32 (drop 40 bytes)) (drop 72 bytes)
    ∙ ap (λ (l : List ℕ). front ++ (b ++ (c ++ (d ++ l)))) (field 40 32 bytes)
    ∙ ap (λ (l : List ℕ). front ++ (b ++ (c ++ l))) (field 36 4 bytes)
    ∙ ap (λ (l : List ℕ). front ++ (b ++ l)) (field 32 4 bytes)
    ∙ ap (λ (l : List ℕ). front ++ l) (field 8 24 bytes)
    ∙ sym first

pub long_enough : (bytes : List ℕ) → begins_well bytes ≡ true → 72 ≤ length bytes
long_enough bytes begins = leb-true 72 (length bytes) (both_pass (nat_le 72 (length bytes)) (starts_with nat_eq bytes magic) begins).0

-- bytes in which no place is wrong are the object that their fields say
pub object_read : (bytes : List ℕ) → AreBytes bytes → bad_place bytes ≡ None → (h : Handle) → IsHandle h → handle_bytes h ≡ take 24 (drop 8 bytes)
    → (j : ℕ) → j ≡ big_number 4 (drop 32 bytes) → IsObject h j (drop 72 bytes) bytes
unfolding object_bytes
object_read bytes are none h is_h handle j segment =
    let pass = all_pass _ _ _ (sym (place_is bytes) ∙ none) in
    let front = both_pass (nat_le 72 (length bytes)) (starts_with nat_eq bytes magic) pass.0 in
    let long = long_enough bytes pass.0 in
    let len = big_number 4 (drop 36 bytes) in
    let sized = three_pass (nat_le 1 len) (nat_le len segment_bytes) (nat_eq len (length (drop 72 bytes))) pass.1 in
    let counts : len ≡ length (drop 72 bytes) = (Decides-eqb len (length (drop 72 bytes))).0 sized.2 in
    let magic_there : bytes ≡ magic ++ drop 8 bytes = (starts_is Decides-eqb bytes magic _ refl).0 front.1 in
    let digest : take 32 (drop 40 bytes) ≡ sha256 (drop 72 bytes) = (bytes_eq-Decides (take 32 (drop 40 bytes)) (sha256 (drop 72 bytes))).0 pass.2 in
    let segment_is : big_bytes 4 j ≡ take 4 (drop 32 bytes) = ap (big_bytes 4) segment ∙ number_at 32 bytes are (omega (arith, long)) in
    let length_is : big_bytes 4 (length (drop 72 bytes)) ≡ take 4 (drop 36 bytes) = ap (big_bytes 4) (sym counts) ∙ number_at 36 bytes are (omega (arith, long)) in
    record {
      handle = is_h;
      segment = omega (arith, segment, big_from-lt 0 4 (drop 32 bytes) (AreBytes-drop 32 bytes are));
      some = omega (arith, counts, leb-true 1 len sized.0);
      most = omega (arith, counts, leb-true len segment_bytes sized.1);
      bytes = sym (fields magic bytes magic_there) ∙ sym (λ i. ((((magic ++ handle i) ++ segment_is i) ++ length_is i) ++ sym digest i) ++ drop 72 bytes);
    }

-- the handle of 24 bytes
abbrev handle_of : List ℕ → Handle
handle_of bytes = record { fsid = big_number 8 bytes; key = record { ino = big_number 8 (drop 8 bytes); igen = big_number 8 (drop 16 bytes) } }

pub object_or_bad : (bytes : List ℕ) → All (λ byte. byte < 256) bytes → bad_place bytes ≡ None → IsSomeObject bytes
object_or_bad bytes small none =
    let are : AreBytes bytes = bytes_at bytes small in
    let part = take 24 (drop 8 bytes) in
    let pass = all_pass _ _ _ (sym (place_is bytes) ∙ none) in
    let long = long_enough bytes pass.0 in
    let there : AreBytes part = AreBytes-take 24 (drop 8 bytes) (AreBytes-drop 8 bytes are) in
    let h = handle_of part in
    let is_h : IsHandle h = record {
      fsid = omega (arith, big_from-lt 0 8 part there);
      ino = omega (arith, big_from-lt 0 8 (drop 8 part) (AreBytes-drop 8 part there));
      igen = omega (arith, big_from-lt 0 8 (drop 16 part) (AreBytes-drop 16 part there));
    } in
    let spelled = handle_bytes-read part 8 8 h (omega (arith, length-take 24 (drop 8 bytes), length-drop 8 bytes, long)) there (omega arith) (omega arith) refl
    (sym (big_from-take 0 8 8 (drop 8 part) (omega arith))) (sym (big_from-take 0 8 8 (drop 16 part) (omega arith))) in
    (h, big_number 4 (drop 32 bytes), drop 72 bytes, object_read bytes are none h is_h spelled (big_number 4 (drop 32 bytes)) refl)

-- ---- for the code, which takes what follows the frame as so many bytes

pub behind_frame : (bytes : List ℕ) (n : ℕ) → n ≡ length bytes - 72 → take n (drop 72 bytes) ≡ drop 72 bytes
behind_frame bytes n all = take_all n (drop 72 bytes) (omega (arith, all, length-drop 72 bytes))

pub length_judged : (bytes : List ℕ) (len m n : ℕ) → len ≡ big_number 4 (take m (drop 36 bytes)) → 4 ≤ m → n ≡ length bytes - 72 → 1 ≤ len → len ≤ segment_bytes
    → nat_eq len (length (take n (drop 72 bytes))) ≡ says_length bytes
length_judged bytes len m n is wide all some most =
    let same : len ≡ big_number 4 (drop 36 bytes) = is ∙ big_from-take 0 4 m (drop 36 bytes) wide in
    (λ i. nat_eq len (length (behind_frame bytes n all i)))
    ∙ three (nat_le 1 len) (nat_le len segment_bytes) (nat_eq len (length (drop 72 bytes))) (le-leb 1 len some) (le-leb len segment_bytes most)
    ∙ (λ i. nat_le 1 (same i) && nat_le (same i) segment_bytes && nat_eq (same i) (length (drop 72 bytes)))

pub all_well : (bytes : List ℕ) → begins_well bytes ≡ true → says_length bytes ≡ true → says_digest bytes ≡ true → bad_place bytes ≡ None
all_well bytes begins len digest = place_is bytes ∙ (λ i. place_of (begins i) (len i) (digest i))

pub object_taken : (bytes : List ℕ) → AreBytes bytes → bad_place bytes ≡ None → (h : Handle) → IsHandle h → handle_bytes h ≡ take 24 (drop 8 bytes)
    → (j m n : ℕ) → j ≡ big_number 4 (take m (drop 32 bytes)) → 4 ≤ m → n ≡ length bytes - 72 → IsObject h j (take n (drop 72 bytes)) bytes
object_taken bytes are none h is_h handle j m n segment wide all =
    subst (λ (p : List ℕ). IsObject h j p bytes) (sym (behind_frame bytes n all))
    (object_read bytes are none h is_h handle j (segment ∙ big_from-take 0 4 m (drop 32 bytes) wide))
