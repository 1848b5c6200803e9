-- Laws on the blocks that are used and free.
use Rattle.std.proofs.Common.{◌≡◌, ℕ, ◌+◌, ◌<◌, List, length, take, get_or, Bool, true, false, refl, sym, ◌∙◌, subst, arith}
use Rattle.std.specs.Prelude.{replicate}
use Rattle.std.specs.List.{All}
use Rattle.std.specs.List.Sorted.{IsStrictlyIncreasing}
use Rattle.std.proofs.lemmas.Bool.{false≢true, false_from_ne_true}
use Rattle.std.proofs.lemmas.List.{get_or-replicate, get_or_default, length-replicate}
use Rattle.std.proofs.lemmas.List.Elements.{All-take, All-weaker}
use Rattle.block_space.specs.Space.{Space, marked, free}
use Rattle.block_space.specs.Laws.{IsFree, OthersAreFree, TakenAreFree, ListedAreFree, MarksAreMembers, MarksForgetOrder, MarksJoin, TakeAddsOthers}
use Rattle.block_space.specs.Laws.{ReleaseLeavesOthers, ReleaseLeaves, ReleaseUndoesTake}
use Rattle.block_space.proofs.Members.{has, All-has, All-from_has, Distinct-apart, Distinct-without, Distinct-append, Ascend-take}
use Rattle.block_space.proofs.Members.{Distinct-from_Ascend, Increasing-from_Ascend}
use Rattle.block_space.proofs.Marks.{length-marked, get_or-marked, marked-append, marked_same, release_marked, unmarked_others, unmarked-marked}
use Rattle.block_space.proofs.Frees.{Ascend-free_in, unused, listed, count-marked, count-unused}

pub others_are_free : (total : ℕ) (blocks : List ℕ) → OthersAreFree total blocks
others_are_free total blocks distinct below =
    count-marked 0 blocks (replicate total false) distinct (λ b h. get_or-replicate total b false true (All-has (λ c. c < total) blocks b below h)) ∙ count-unused 0 total

pub listed_are_free : (s : Space) → ListedAreFree s
listed_are_free s = record {
  each = All-from_has (IsFree s) (free s) (λ b h.
      let u = unused 0 b s.current s.durable h in
      let e : u.place ≡ b = omega arith in
      let P : ℕ → Type 0 = λ c. IsFree s c in
      subst P e (record { within = u.within; current = u.current; durable = u.durable }));
  once = Distinct-from_Ascend 0 (free s) (Ascend-free_in 0 s.current s.durable);
  all = λ b f. let e : 0 + b ≡ b = omega arith in rw (← e) (listed 0 b s.current s.durable f.current f.durable);
}

pub taken_are_free : (s : Space) (n : ℕ) → TakenAreFree s n
taken_are_free s n = record {
  each = All-take (IsFree s) n (free s) (listed_are_free s).each;
  once = Distinct-from_Ascend 0 (take n (free s)) (Ascend-take 0 n (free s) (Ascend-free_in 0 s.current s.durable));
}

pub taken_within : (s : Space) (n : ℕ) → All (λ b. b < length s.current) (take n (free s))
taken_within s n = All-weaker (IsFree s) (λ b. b < length s.current) (λ b f. f.within) (take n (free s)) (taken_are_free s n).each

pub taken_increases : (s : Space) (n : ℕ) → IsStrictlyIncreasing (take n (free s))
taken_increases s n = Increasing-from_Ascend 0 (take n (free s)) (Ascend-take 0 n (free s) (Ascend-free_in 0 s.current s.durable))

pub marks_are_members : (total : ℕ) (blocks : List ℕ) (b : ℕ) → MarksAreMembers total blocks b
marks_are_members total blocks b l =
    let in_list : b < length (replicate total false) = omega (arith, length-replicate total false) in
    get_or-marked blocks (replicate total false) b in_list ∙ rw (get_or-replicate total b false false l) refl

pub marks_forget_order : (total : ℕ) (xs ys : List ℕ) → MarksForgetOrder total xs ys
marks_forget_order total xs ys same = marked_same xs ys (replicate total false) (λ b l. same b)

pub marks_join : (total : ℕ) (xs ys : List ℕ) → MarksJoin total xs ys
marks_join total xs ys = marked-append xs ys (replicate total false)

pub take_adds_others : (total : ℕ) (blocks : List ℕ) (durable : List Bool) (n : ℕ) → TakeAddsOthers total blocks durable n
take_adds_others total blocks durable n distinct =
    let s : Space = record { current = marked blocks (replicate total false); durable = durable } in
    let taken = taken_are_free s n in
    Distinct-append blocks (take n (free s)) distinct taken.once (λ b h.
    false_from_ne_true (has b (take n (free s))) (λ is.
    let f = All-has (IsFree s) (take n (free s)) b taken.each is in
    let l : b < total = let w = f.within in omega (arith, length-marked blocks (replicate total false), length-replicate total false) in
    let m = marks_are_members total blocks b l in
    let unused : get_or s.current b false ≡ false = get_or_default s.current b false true f.within ∙ f.current in
    false≢true (sym unused ∙ m ∙ h)))

pub release_leaves_others : (total : ℕ) (xs : List ℕ) (b : ℕ) (ys : List ℕ) → ReleaseLeavesOthers total xs b ys
release_leaves_others total xs b ys distinct l = (release_marked xs b ys (replicate total false) (get_or-replicate total b false false l) (Distinct-apart xs b ys distinct), Distinct-without xs b ys distinct)

pub releases-leave : (total : ℕ) (xs bs ys : List ℕ) → ReleaseLeaves total xs bs ys
releases-leave total xs bs ys others = unmarked_others xs bs ys (replicate total false) (λ b l. get_or-replicate total b false false (omega (arith, length-replicate total false))) others

pub release_undoes_take : (flags : List Bool) (blocks : List ℕ) → ReleaseUndoesTake flags blocks
release_undoes_take flags blocks unused = unmarked-marked blocks flags unused
