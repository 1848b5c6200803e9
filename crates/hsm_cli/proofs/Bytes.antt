-- Bytes that are read and written in pieces.
use Rattle.std.proofs.Common.{◌≡◌, ℕ, length-drop, length-append, ◌+◌, ◌-◌, ◌≤◌, List, ◌++◌, length, take, drop, Option, Some, None, IfSome, sym}
use Rattle.std.proofs.Common.{◌∙◌, ap, append_assoc, append-nil, arith, subst}
use Rattle.std.proofs.lemmas.List.{take-append-le, take_all}
use Rattle.std.proofs.Math.Seq.{take-add, take-length}
use Rattle.std.specs.Io.KnownBytes.{Consumes, Appends, IsAtEnd}
use Rattle.hsm_cli.specs.Sources.{most_read, script_bytes, ReadsMore, GivesMore, GivesFirst}

-- what was read so far, and then more
pub read_on : (old mid new : Option (List ℕ)) (bytes more : List ℕ) → Consumes old mid bytes → Consumes mid new more → Consumes old new (bytes ++ more)
read_on None mid new bytes more h k = tt
read_on (Some all) None new bytes more h k = absurd h
read_on (Some all) (Some rest) None bytes more h k = absurd k
read_on (Some all) (Some rest) (Some left) bytes more h k = rw append_assoc (rw k at h)

-- all was read, of at most n bytes
whole : (n : ℕ) (old new : Option (List ℕ)) (bytes : List ℕ) → Consumes old new bytes → IsAtEnd new → length bytes ≤ n → IfSome old (λ all. bytes ≡ take n all)
whole n None new bytes h e le = tt
whole n (Some all) None bytes h e le = absurd h
whole n (Some all) (Some left) bytes h e le =
    let is : all ≡ bytes = rw (h, e) (append-nil bytes) in
    rw is (sym (take_all n bytes le))

pub read_whole : (old mid new : Option (List ℕ)) (bytes longer : List ℕ) (n : ℕ) → Consumes old mid bytes → ReadsMore mid new bytes longer n → n ≡ 0 → IfSome old (λ all. longer ≡ script_bytes all)
read_whole old mid new bytes longer n h more none =
    whole most_read old new longer (rw more.longer_by (read_on old mid new bytes more.more h more.consumed)) (more.ended none) more.within

-- or n bytes
enough : (n : ℕ) (old mid : Option (List ℕ)) (bytes : List ℕ) → Consumes old mid bytes → length bytes ≡ n → IfSome old (λ all. bytes ≡ take n all)
enough n None mid bytes h is = tt
enough n (Some all) None bytes h is = absurd h
enough n (Some all) (Some rest) bytes h is =
    let fits : n ≤ length bytes = omega (arith, is) in
    let within : length bytes ≤ n = omega (arith, is) in
    rw (h, take-append-le) (sym (take_all n bytes within))

pub read_enough : (old mid : Option (List ℕ)) (bytes : List ℕ) → Consumes old mid bytes → length bytes ≡ most_read → IfSome old (λ all. bytes ≡ script_bytes all)
read_enough old mid bytes h is = enough most_read old mid bytes h is

-- what was read so far, and then more that wasn't kept
pub gives_part : (old mid new : Option (List ℕ)) (bytes : List ℕ) → Consumes old mid bytes → GivesMore mid new bytes → GivesFirst old new
gives_part old mid new bytes h more = record {
  bytes = bytes ++ more.more;
  consumed = read_on old mid new bytes more.more h more.consumed;
  within = rw (length-append bytes more.more) more.within;
}

-- what was written so far, and then more
pub written_on : (old mid new : Option (List ℕ)) (bytes more : List ℕ) → Appends old mid bytes → Appends mid new more → Appends old new (bytes ++ more)
written_on None mid new bytes more h k = tt
written_on (Some xs) None new bytes more h k = absurd h
written_on (Some xs) (Some ys) None bytes more h k = absurd k
written_on (Some xs) (Some ys) (Some zs) bytes more h k = k ∙ ap (λ w. w ++ more) h ∙ append_assoc xs bytes more

-- one piece more of a list is written
pub written_more : (old mid new : Option (List ℕ)) (bytes : List ℕ) (done count : ℕ) → done ≤ length bytes → count ≤ length bytes - done
    → Appends old mid (take done bytes) → Appends mid new (take count (take (length bytes - done) (drop done bytes))) → Appends old new (take (done + count) bytes)
written_more old mid new bytes done count le within h k =
    let whole : take (length bytes - done) (drop done bytes) ≡ drop done bytes = rw (← length-drop done bytes) (take-length (drop done bytes)) in
    let P : List ℕ → Type 0 = Appends old new in
    subst P (sym (take-add done count bytes)) (written_on old mid new (take done bytes) (take count (drop done bytes)) h (rw whole at k))
