-- Runs of calls of a file.
use Rattle.std.proofs.Common.{◌≡◌, inl, inr, ⊎_elim, ℕ, ◌+◌, ◌-◌, ◌≤◌, List, [], ◌++◌, length, take, drop, refl, sym, ◌∙◌, ap, subst, arith, length-drop}
use Rattle.std.proofs.lemmas.List.{take_at, drop_at, drop-drop, length-take-le, take-append-le, take_all}
use borrow.Rule.Slice.PartMut.{put_mid, post_of}
use Rattle.std.proofs.Math.Seq.{take-add}
use Rattle.disk_model.specs.Images.{part, IsFreed, IsWritten, Follows, Within}
use Rattle.disk_model.specs.Calls.{Elapses}
use Rattle.disk_model.proofs.Parts.{freed_none, freed_again, freed_wider}
use Rattle.hosts.specs.declared.positioned.PositionedFile as file
use Rattle.hosts.specs.FileCalls.{Stays, Frees}

-- ---- time

-- a call, and then another, after which a crash may leave what it might have left before
elapses_on : (a b c : ℕ) (past mid since : ℕ → List ℕ → Type 0) (left now : List ℕ → Type 0) → Within now left → Elapses a b past mid left → Elapses b c mid since now → Elapses a c past since now
elapses_on a b c past mid since left now still first then = record {
  later = omega (arith, first.later, then.later);
  nothing_else = λ t i le is. ⊎_elim (λ was. ⊎_elim (λ p. inl p) (λ l. inr (still i l)) (first.nothing_else t i le was)) (λ n. inr n) (then.nothing_else t i (omega (arith, le, first.later)) is);
  keeps = λ t i le p. then.keeps t i (omega (arith, le, first.later)) (first.keeps t i le p);
}

-- ---- a range of a file

part_add : (c : List ℕ) (at n k : ℕ) → part c at (n + k) ≡ part c at n ++ part c (at + n) k
unfolding part
part_add c at n k = take-add n k (drop at c) ∙ ap (λ (l : List ℕ). take n (drop at c) ++ take k l) (drop-drop n at c)

-- the bytes that are read so far, and then more behind them, in the form that goals have
pub read_more : (c buf more : List ℕ) (at done room count : ℕ) → done ≤ length buf → count ≤ length more → take done buf ≡ part c at done → take count more ≡ part c (at + done) count → take (done + count) (put_mid done room buf more) ≡ part c at (done + count)
read_more c buf more at done room count le within so_far got =
    let front : length (take done buf) ≡ done = length-take-le done buf le in
    let tail : List ℕ = more ++ post_of done room buf in
    take-add done count (take done buf ++ tail)
    ∙ ap (λ (l : List ℕ). l ++ take count (drop done (take done buf ++ tail))) (take_at (take done buf) tail done front ∙ so_far)
    ∙ ap (λ (l : List ℕ). part c at done ++ take count l) (drop_at (take done buf) tail done front)
    ∙ ap (λ (l : List ℕ). part c at done ++ l) (take-append-le count more (post_of done room buf) within ∙ got)
    ∙ sym (part_add c at done count)

pub read_none : (c : List ℕ) (at : ℕ) → [] ≡ part c at 0
unfolding part
read_none c at = refl

-- the first bytes are written, and any may be in the rest of the range
pub record HasFront (at : ℕ) (bytes : List ℕ) (done : ℕ) (old new : List ℕ) : Type 0 where
  pub freed : IsFreed at (length bytes) old new
  pub there : part new at done ≡ take done bytes

pub front_none : (at : ℕ) (bytes c : List ℕ) → HasFront at bytes 0 c c
unfolding part
front_none at bytes c = record { freed = freed_none at (length bytes) c; there = refl }

-- what is left to write, in the form that goals have
abbrev pub rest : List ℕ → ℕ → List ℕ
rest bytes done = take (length bytes - done) (drop done bytes)

rest_is : (bytes : List ℕ) (done : ℕ) → rest bytes done ≡ drop done bytes
rest_is bytes done = take_all (length bytes - done) (drop done bytes) (omega (arith, length-drop done bytes))

pub length-rest : (bytes : List ℕ) (done : ℕ) → length (rest bytes done) ≡ length bytes - done
length-rest bytes done = ap length (rest_is bytes done) ∙ length-drop done bytes

front_drop : (at : ℕ) (bytes : List ℕ) (done count : ℕ) (a b c : List ℕ) → done ≤ length bytes → count ≤ length bytes - done → HasFront at bytes done a b → IsWritten (at + done) (take count (drop done bytes)) b c → HasFront at bytes (done + count) a c
front_drop at bytes done count a b c le within front written =
    let long : length (take count (drop done bytes)) ≡ count = length-take-le count (drop done bytes) (omega (arith, within, length-drop done bytes)) in
    record {
      freed = freed_again at (length bytes) a b c front.freed (freed_wider (at + done) (length (take count (drop done bytes))) at (length bytes) b c (omega arith) (omega (arith, le, within, long)) written.freed);
      there =
          part_add c at done count
          ∙ ap (λ (l : List ℕ). l ++ part c (at + done) count) (written.freed.below at done (omega arith) ∙ front.there)
          ∙ ap (λ (l : List ℕ). take done bytes ++ l) (subst (λ (n : ℕ). part c (at + done) n ≡ take count (drop done bytes)) long written.there)
          ∙ sym (take-add done count bytes);
    }

pub front_more : (at : ℕ) (bytes : List ℕ) (done count : ℕ) (old mid new : List ℕ → Type 0) → done ≤ length bytes → count ≤ length (rest bytes done)
    → Follows (HasFront at bytes done) old mid → Follows (IsWritten (at + done) (take count (rest bytes done))) mid new → Follows (HasFront at bytes (done + count)) old new
front_more at bytes done count old mid new le within so_far more c is =
    let d = more c is in
    let e = so_far d.0 d.1 in
    let written : IsWritten (at + done) (take count (drop done bytes)) d.0 c = subst (λ (l : List ℕ). IsWritten (at + done) (take count l) d.0 c) (rest_is bytes done) d.2 in
    (e.0, e.1, front_drop at bytes done count e.0 d.0 c le (omega (arith, within, length-rest bytes done)) e.2 written)

pub front_kept : (at : ℕ) (bytes : List ℕ) (done n : ℕ) (old mid new : List ℕ → Type 0) → done + n ≤ length bytes → Follows (HasFront at bytes done) old mid → Follows (IsFreed (at + done) n) mid new → Follows (HasFront at bytes done) old new
front_kept at bytes done n old mid new within so_far frees c is =
    let d = frees c is in
    let e = so_far d.0 d.1 in (
      e.0,
      e.1,
      record {
        freed = freed_again at (length bytes) e.0 d.0 c e.2.freed (freed_wider (at + done) n at (length bytes) d.0 c (omega arith) (omega (arith, within)) d.2);
        there = d.2.below at done (omega arith) ∙ e.2.there;
      },
    )

-- ---- one run after another

module _ {F : Type 0} (g : file.Ghosts F) where
  pub stays_idle : (f : F) → Stays g f f
  stays_idle f = record {
    given = (λ c is. is, λ c is. is);
    crash = (λ c is. is, λ c is. is);
    time = record { later = omega arith; nothing_else = λ t c le is. inl is; keeps = λ t c le is. is };
  }

  pub stays_on : (a b c : F) → Stays g a b → Stays g b c → Stays g a c
  stays_on a b c first then = record {
    given = (λ i is. first.given.0 i (then.given.0 i is), λ i is. then.given.1 i (first.given.1 i is));
    crash = (λ i is. first.crash.0 i (then.crash.0 i is), λ i is. then.crash.1 i (first.crash.1 i is));
    time = elapses_on (g.moment a) (g.moment b) (g.moment c) (g.left_since a) (g.left_since b) (g.left_since c) (g.may_leave b) (g.may_leave c) then.crash.1 first.time then.time;
  }

  pub frees_idle : (at n : ℕ) (f : F) → Frees g at n f f
  frees_idle at n f = record {
    given = λ c is. (c, is, freed_none at n c);
    crash = λ c is. (c, is, freed_none at n c);
    still = λ c is. is;
    time = record { later = omega arith; nothing_else = λ t c le is. inl is; keeps = λ t c le is. is };
  }

  freed_on : (at n from k : ℕ) (old mid new : List ℕ → Type 0) → at ≤ from → from + k ≤ at + n → Follows (IsFreed at n) old mid → Follows (IsFreed from k) mid new → Follows (IsFreed at n) old new
  freed_on at n from k old mid new le to first then c is =
      let d = then c is in
      let e = first d.0 d.1 in (e.0, e.1, freed_again at n e.0 d.0 c e.2 (freed_wider from k at n d.0 c le to d.2))

  pub frees_on : (at n from k : ℕ) (a b c : F) → at ≤ from → from + k ≤ at + n → Frees g at n a b → Frees g from k b c → Frees g at n a c
  frees_on at n from k a b c le to first then = record {
    given = freed_on at n from k (g.gives a) (g.gives b) (g.gives c) le to first.given then.given;
    crash = freed_on at n from k (g.may_leave a) (g.may_leave b) (g.may_leave c) le to first.crash then.crash;
    still = λ i is. then.still i (first.still i is);
    time = elapses_on (g.moment a) (g.moment b) (g.moment c) (g.left_since a) (g.left_since b) (g.left_since c) (g.may_leave b) (g.may_leave c) then.still first.time then.time;
  }
