-- The bytes of handles: whose they are, and in what order.
use Rattle.std.proofs.Common.{◌≡◌, ℕ, zero, suc, ◌+◌, ◌*◌, ◌^◌, ◌%◌, ◌<◌, ◌≤◌, List, [], ◌++◌, drop, Ordering, refl, sym, ap, ◌∙◌, arith}
use Rattle.std.proofs.Math.Nat.{add-mul, mul-le-mul_right, mod-lt, mod-eq_of_lt, one-le-pow}
use Rattle.std.proofs.lemmas.Bool.Decides.{nat_tests}
use Rattle.std.proofs.lemmas.Cmp.{ranked, by_ranked}
use Rattle.std.proofs.lemmas.Map.Text.{is_eq-slice_cmp}
use Rattle.std.specs.declared.cmp.Ordering.TheVariants.{Less, Equal, Greater}
use Rattle.std.specs.Ordering.{nat_cmp, ordering_then, is_eq}
use Rattle.std.specs.Cmp.Lexicographic.{slice_cmp, bytes_decides}
use Rattle.std.specs.Int.{byte_at}
use Rattle.byteorder.specs.Endian.{big_bytes, big_number}
use Rattle.byteorder.specs.Numbers.{big_from-bytes, big_from-cons, big_number-reads_back}
use Rattle.hsm_types.specs.declared.keys.Handle.{Handle}
use Rattle.hsm_types.specs.Handles.{handle_bytes, IsHandle}
use Rattle.dm_handles.specs.Laws.{ReadsBack, OneHandle, OrdersAsNumbers}

-- ---- two numbers

less : (x y : ℕ) → x < y → nat_cmp x y ≡ Less
less x y h = grind (arith, nat_tests)

equal : (x y : ℕ) → x ≡ y → nat_cmp x y ≡ Equal
equal x y h = grind (arith, nat_tests)

greater : (x y : ℕ) → y < x → nat_cmp x y ≡ Greater
greater x y h = grind (arith, nat_tests)

-- one number in front leaves the order
nat_cmp-add : (n b d : ℕ) → nat_cmp (n + b) (n + d) ≡ nat_cmp b d
nat_cmp-add n b d =
    by_ranked (b < d) (b ≡ d) (d < b) (nat_cmp b d) (ranked b d (nat_cmp b d) refl)
    (λ is lt. less (n + b) (n + d) (omega arith) ∙ sym is)
    (λ is eq. equal (n + b) (n + d) (omega arith) ∙ sym is)
    (λ is gt. greater (n + b) (n + d) (omega arith) ∙ sym is)

-- the order of two numbers of two digits is that of the first ones, and then that of the second ones
two_digits : (p a b c d : ℕ) → b < p → d < p → nat_cmp (a * p + b) (c * p + d) ≡ ordering_then (nat_cmp a c) (nat_cmp b d)
two_digits p a b c d b_low d_low =
    by_ranked (a < c) (a ≡ c) (c < a) (nat_cmp a c) (ranked a c (nat_cmp a c) refl)
    (λ is lt. let far : (a + 1) * p ≤ c * p = mul-le-mul_right p (omega arith) in
    less (a * p + b) (c * p + d) (omega (arith, far, add-mul a 1 p)) ∙ ap (λ (o : Ordering). ordering_then o (nat_cmp b d)) (sym is))
    (λ is eq. ap (λ (n : ℕ). nat_cmp (a * p + b) (n * p + d)) (sym eq) ∙ nat_cmp-add (a * p) b d ∙ ap (λ (o : Ordering). ordering_then o (nat_cmp b d)) (sym is))
    (λ is gt. let far : (c + 1) * p ≤ a * p = mul-le-mul_right p (omega arith) in
    greater (a * p + b) (c * p + d) (omega (arith, far, add-mul c 1 p)) ∙ ap (λ (o : Ordering). ordering_then o (nat_cmp b d)) (sym is))

then-assoc : (o r s : Ordering) → ordering_then o (ordering_then r s) ≡ ordering_then (ordering_then o r) s
then-assoc Less r s = refl
then-assoc Equal r s = refl
then-assoc Greater r s = refl

then-equal : (o : Ordering) → ordering_then o Equal ≡ o
then-equal Less = refl
then-equal Equal = refl
then-equal Greater = refl

-- ---- their bytes

-- the lowest digits of a number: the byte there, and the digits below
digits : (k x : ℕ) → x % 256 ^ suc k ≡ byte_at k x * 256 ^ k + x % 256 ^ k
digits k x =
    sym (big_from-bytes (suc k) x [])
    ∙ ap (λ (r : ℕ). byte_at k x * 256 ^ k + r) (big_from-cons 0 k (byte_at k x) (big_bytes k x ++ []) ∙ big_from-bytes k x [])

-- bytes in front are in the order of the digits that they spell
bytes_order : (k x y : ℕ) (xs ys : List ℕ) → slice_cmp nat_cmp (big_bytes k x ++ xs) (big_bytes k y ++ ys) ≡ ordering_then (nat_cmp (x % 256 ^ k) (y % 256 ^ k)) (slice_cmp nat_cmp xs ys)
bytes_order zero x y xs ys = ap (λ (o : Ordering). ordering_then o (slice_cmp nat_cmp xs ys)) (sym (equal (x % 1) (y % 1) (omega arith)))
bytes_order (suc k) x y xs ys =
    let above : 1 ≤ 256 ^ k = one-le-pow k 256 (omega arith) in
    let whole : ordering_then (nat_cmp (byte_at k x) (byte_at k y)) (nat_cmp (x % 256 ^ k) (y % 256 ^ k)) ≡ nat_cmp (x % 256 ^ suc k) (y % 256 ^ suc k) =
    sym (two_digits (256 ^ k) (byte_at k x) (x % 256 ^ k) (byte_at k y) (y % 256 ^ k) (mod-lt x (omega arith)) (mod-lt y (omega arith)))
    ∙ (λ i. nat_cmp (sym (digits k x) i) (sym (digits k y) i)) in
    ap (ordering_then (nat_cmp (byte_at k x) (byte_at k y))) (bytes_order k x y xs ys)
    ∙ then-assoc (nat_cmp (byte_at k x) (byte_at k y)) (nat_cmp (x % 256 ^ k) (y % 256 ^ k)) (slice_cmp nat_cmp xs ys)
    ∙ ap (λ (o : Ordering). ordering_then o (slice_cmp nat_cmp xs ys)) whole

number_order : (x y : ℕ) (xs ys : List ℕ) → x < 2 ^ 64 → y < 2 ^ 64 → slice_cmp nat_cmp (big_bytes 8 x ++ xs) (big_bytes 8 y ++ ys) ≡ ordering_then (nat_cmp x y) (slice_cmp nat_cmp xs ys)
number_order x y xs ys fits_x fits_y =
    let is_x : x % 256 ^ 8 ≡ x = mod-eq_of_lt (omega arith) in
    let is_y : y % 256 ^ 8 ≡ y = mod-eq_of_lt (omega arith) in
    bytes_order 8 x y xs ys ∙ (λ i. ordering_then (nat_cmp (is_x i) (is_y i)) (slice_cmp nat_cmp xs ys))

-- bytes that neither come first are the same
pub same_bytes : (xs ys : List ℕ) → slice_cmp nat_cmp xs ys ≡ Equal → xs ≡ ys
same_bytes xs ys tie = (bytes_decides xs ys).0 (sym (is_eq-slice_cmp xs ys) ∙ ap is_eq tie)

-- ---- handles

pub orders_as_numbers : (a b : Handle) → OrdersAsNumbers a b
unfolding handle_bytes
orders_as_numbers a b is_a is_b =
    let last = number_order a.key.igen b.key.igen [] [] is_a.igen is_b.igen ∙ then-equal (nat_cmp a.key.igen b.key.igen) in
    let middle = number_order a.key.ino b.key.ino (big_bytes 8 a.key.igen) (big_bytes 8 b.key.igen) is_a.ino is_b.ino ∙ ap (ordering_then (nat_cmp a.key.ino b.key.ino)) last in
    number_order a.fsid b.fsid (big_bytes 8 a.key.ino ++ big_bytes 8 a.key.igen) (big_bytes 8 b.key.ino ++ big_bytes 8 b.key.igen) is_a.fsid is_b.fsid
    ∙ ap (ordering_then (nat_cmp a.fsid b.fsid)) middle

pub reads_back : (h : Handle) → IsHandle h → ReadsBack h
unfolding handle_bytes
reads_back h is = record {
  size = refl;
  fsid = big_number-reads_back 8 h.fsid (big_bytes 8 h.key.ino ++ big_bytes 8 h.key.igen) is.fsid;
  ino = big_number-reads_back 8 h.key.ino (big_bytes 8 h.key.igen) is.ino;
  igen = big_number-reads_back 8 h.key.igen [] is.igen;
}

pub one_handle : (a b : Handle) → OneHandle a b
one_handle a b is_a is_b same =
    let of_a = reads_back a is_a in
    let of_b = reads_back b is_b in
    let fsid : a.fsid ≡ b.fsid = sym of_a.fsid ∙ ap (big_number 8) same ∙ of_b.fsid in
    let ino : a.key.ino ≡ b.key.ino = sym of_a.ino ∙ ap (λ (l : List ℕ). big_number 8 (drop 8 l)) same ∙ of_b.ino in
    let igen : a.key.igen ≡ b.key.igen = sym of_a.igen ∙ ap (λ (l : List ℕ). big_number 8 (drop 16 l)) same ∙ of_b.igen in
    λ i. record { fsid = fsid i; key = record { ino = ino i; igen = igen i } }
