-- What is true of the slots after each call.
use Rattle.std.proofs.Common.{◌≡◌, ℕ, ◌+◌, ◌-◌, ◌<◌, ◌≤◌, true, false, cond, eqb, length, get_or, set, replicate, All, Option, None, Some, is_some}
use Rattle.std.proofs.Common.{IsSome, MatchOption, refl, sym, ◌∙◌, arith}
use Rattle.std.specs.Option.{option_map, SomeIff}
use Rattle.std.proofs.lemmas.Bool.{eqb-true, false≢true, cond_both}
use Rattle.std.proofs.lemmas.Bool.Decides.{nat_tests}
use Rattle.std.proofs.lemmas.Grind.{common_steps}
use Rattle.std.proofs.lemmas.List.{get_or_read, length-set, length-replicate}
use Rattle.hsm_types.specs.Callers.{IsCallerNumber}
use Rattle.hsm_types.specs.Limits.{callers}
use Rattle.hsm_types.specs.Messages.{is_lawful}
use Rattle.hsm_types.specs.declared.dm.Response.{Response}
use Rattle.hsm_types.specs.declared.keys.Token.{Token}
use Rattle.hsm_types.specs.Keyed.{set_at}
use Rattle.access_park.specs.declared.access.Access.{Access}
use Rattle.access_park.specs.Laws.{CountsWaiting}
use Rattle.access_park.specs.Pending.{is_token, holds, has_lawful_answer, given, answered, nobody, waiting_in, NobodyHolds, HoldsAlone, IsNewToken}
use Rattle.access_park.specs.Pending.{IsPark, Slots, access_of, IsTable}
use Rattle.access_park.proofs.Answering.{park-answered, answered-alone}
use Rattle.access_park.proofs.Counting.{waiting-nobody, counts_waiting}

-- ---- nobody waits

none_there : (n k : ℕ) → get_or {A = Option Access} (replicate n None) k None ≡ None
none_there n k = grind (arith, common_steps)

pub access_of-empty : (n : ℕ) → access_of (replicate n None) ≡ nobody
unfolding access_of
access_of-empty n = λ k c. none_there n c k

pub table-empty : (n : ℕ) → n ≡ callers + 1 → IsTable (replicate n None) 0
table-empty n is = record {
  full = length-replicate n None ∙ is;
  counted = rw (access_of-empty n) (sym waiting-nobody);
  park = rw (access_of-empty n) (record { callers = λ c h. absurd (false≢true h); once = λ t c d h. absurd (false≢true h); lawful = λ c. refl });
}

-- ---- one caller's access is another

module _ (pending : ℕ → Option Access) (c : ℕ) (p : Option Access) (is : IsPark pending) (caller : IsSome p → IsCallerNumber c) (new : (t : Token) → holds t p ≡ true → NobodyHolds t pending) (lawful : has_lawful_answer p ≡ true) where
  callers_set : (d : ℕ) → IsSome (set_at c p pending d) → IsCallerNumber d
  callers_set d h = let old = is.callers d in grind (arith, nat_tests)

  once_set : (t : Token) (d e : ℕ) → holds t (set_at c p pending d) ≡ true → holds t (set_at c p pending e) ≡ true → d ≡ e
  once_set t d e one other =
      let old = is.once t d e in
      let none = new t in
      grind (arith, nat_tests)

  park-set_at : IsPark (set_at c p pending)
  park-set_at = record {
    callers = callers_set;
    once = once_set;
    lawful = λ d. cond_both (eqb d c) p (pending d) (λ q. has_lawful_answer q ≡ true) (λ _. lawful) (λ _. is.lawful d);
  }

new_token : (token : Option Token) (pending : ℕ → Option Access) → IsNewToken token pending → (t : Token) → is_token t token ≡ true → NobodyHolds t pending
new_token None pending new t h = absurd (false≢true h)
new_token (Some u) pending new t h = rw (eqb-true u.0 t.0 h) at new

held : (t : Token) (p : Option Access) → holds t p ≡ true → IsSome p
held t None h = absurd (false≢true h)
held t (Some a) h = refl

-- ---- the slots and what they show

pub nobody_holds : (t : Token) (slots : Slots) → All (λ slot. holds t slot ≡ false) slots → NobodyHolds t (access_of slots)
unfolding access_of
nobody_holds t slots all c = let here = all c None in grind (arith, common_steps)

pub access_of-holds : (t : Token) (slots : Slots) (c : ℕ) → holds t (get_or slots c None) ≡ true → holds t (access_of slots c) ≡ true
unfolding access_of
access_of-holds t slots c has = has

shown : (slots : Slots) (c : ℕ) (p : Option Access) → c < length slots → (d : ℕ) → access_of (set slots c p) d ≡ set_at c p (access_of slots) d
unfolding access_of
shown slots c p within d = grind (arith, nat_tests, common_steps)

access_of-set : (slots : Slots) (c : ℕ) (p : Option Access) → c < length slots → access_of (set slots c p) ≡ set_at c p (access_of slots)
access_of-set slots c p within = λ k d. shown slots c p within d k

module _ (slots : Slots) (waiting c : ℕ) (is : IsTable slots waiting) where
  counts : CountsWaiting (access_of slots)
  counts = counts_waiting (access_of slots)

  pub few_wait : waiting ≤ callers
  few_wait = rw is.counted counts.few

  there : IsCallerNumber c → c < length slots
  there caller = rw is.full (omega arith)

  table-set : (p : Option Access) (count : ℕ) → IsCallerNumber c → count ≡ waiting_in (set_at c p (access_of slots)) → IsPark (set_at c p (access_of slots)) → IsTable (set slots c p) count
  table-set p count caller counted park = let shows = access_of-set slots c p (there caller) in record {
    full = length-set slots c p ∙ is.full;
    counted = rw shows counted;
    park = rw shows park;
  }

  module _ (caller : IsCallerNumber c) where
    -- what is read there is the caller's access
    pub access_of-read : (p : Option Access) → p ≡ get_or slots c p → p ≡ access_of slots c
    unfolding access_of
    access_of-read p read = get_or_read slots c p (there caller) read None

    pub slots-set : (p : Option Access) → access_of (set slots c p) ≡ set_at c p (access_of slots)
    slots-set p = access_of-set slots c p (there caller)

    pub table-park : (a : Access) → access_of slots c ≡ None → IsNewToken a.token (access_of slots) → has_lawful_answer (Some a) ≡ true → IsTable (set slots c (Some a)) (waiting + 1)
    table-park a idle new lawful =
        table-set (Some a) (waiting + 1) caller (rw is.counted (sym (counts.parked c a caller idle))) (park-set_at (access_of slots) c (Some a) is.park (λ _. caller) (new_token a.token (access_of slots) new) lawful)

    pub one_at_most : cond (is_some (access_of slots c)) 1 0 ≤ waiting
    one_at_most = let change = counts.ended c caller in omega (arith, is.counted)

    pub table-end : IsTable (set slots c None) (waiting - cond (is_some (access_of slots c)) 1 0)
    table-end =
        let change = counts.ended c caller in
        table-set None (waiting - cond (is_some (access_of slots c)) 1 0) caller (omega (arith, is.counted)) (park-set_at (access_of slots) c None is.park (λ h. absurd (false≢true h)) (λ t h. absurd (false≢true h)) refl)

  module _ (t : Token) (r : Response) (lawful : is_lawful r ≡ true) (has : holds t (access_of slots c) ≡ true) where
    pub holder : IsCallerNumber c
    holder = is.park.callers c (held t (access_of slots c) has)

    alone : HoldsAlone t c (access_of slots)
    alone = (has, λ d too. is.park.once t d c too has)

    pub found_at : (found : Option ℕ) → SomeIff found (IsCallerNumber c) c → MatchOption found (NobodyHolds t (access_of slots)) (λ d. HoldsAlone t d (access_of slots))
    found_at None is_none = absurd (is_none holder)
    found_at (Some d) is_some = rw is_some.1 alone

    pub slots-answered : access_of (set slots c (option_map (given r) (access_of slots c))) ≡ (λ d. answered t r (access_of slots d))
    slots-answered = access_of-set slots c (option_map (given r) (access_of slots c)) (there holder) ∙ answered-alone t r (access_of slots) c alone

    pub table-answered : IsTable (set slots c (option_map (given r) (access_of slots c))) waiting
    table-answered =
        let same = answered-alone t r (access_of slots) c alone in
        table-set (option_map (given r) (access_of slots c)) waiting holder (rw same (is.counted ∙ sym (counts.kept t r))) (rw same (park-answered t r (access_of slots) lawful is.park))
