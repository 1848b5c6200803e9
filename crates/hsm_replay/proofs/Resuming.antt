-- Resumes while they go on: of the callers with lower numbers exactly those whose accesses may go on have resumed.
use Rattle.std.proofs.Common.{◌≡◌, ◌⊎◌, ◌<◌, ◌≤◌, ◌+◌, ◌∙◌, ℕ, ◌∷◌, ◌++◌, [], Bool, List, Contains, inl, inr, refl, sym, ap, ap₂, subst}
use Rattle.std.proofs.Common.{append-nil, arith, nat_lt, cond, map}
use Rattle.std.specs.Cmp.{nat_cmp_is}
use Rattle.std.specs.declared.cmp.Ordering.TheVariants.{Less}
use Rattle.std.specs.List.{AllByRecursion}
use Rattle.std.specs.List.Sorted.{IsStrictlySortedBy}
use Rattle.std.specs.Map.{keys_of}
use Rattle.std.specs.Ordering.{nat_cmp}
use Rattle.std.specs.Prelude.{All, filter}
use Rattle.std.proofs.lemmas.Bool.{cases_lt, le-ltb, lt-ltb}
use Rattle.std.proofs.lemmas.List.Elements.{All-nil, All-head, All-tail, All-push, All-weaker, All-contains}
use Rattle.std.proofs.lemmas.List.Elements.{Contains-append_left, Contains-push, Contains-push_cases, filter-append, recursion_from_All}
use Rattle.std.proofs.lemmas.List.{map-append}
use Rattle.hsm_types.specs.Callers.{IsCallerNumber}
use Rattle.hsm_types.specs.Limits.{callers}
use Rattle.plain_model.specs.declared.entries.Action.TheVariants.{Resume}
use Rattle.plain_model.specs.declared.entries.Actor.TheVariants.{Caller}
use Rattle.plain_model.specs.declared.entries.Answer.{Answer}
use Rattle.plain_model.specs.declared.entries.Entry.{Entry}
use Rattle.deeds.specs.Deeds.{Deed, entries_of, StopsNothing}
use Rattle.deeds.specs.Given.{Given, given_behind}
use Rattle.hsm_replay.specs.Deeds.{MayResumeBy, IsResumeCut}
use Rattle.hsm_replay.specs.Parts.{AreResumes, ResumesInTurn, entries_below, resume_of}
use Rattle.hsm_replay.specs.Stopped.{Ending, IsEventCut, AreResumesCut}

-- ---- numbers in order

abbrev IsUp : ℕ → ℕ → Type 0
IsUp key caller = nat_cmp key caller ≡ Less

all_pushed : (key : ℕ) (xs : List ℕ) (caller : ℕ) → AllByRecursion (IsUp key) xs → IsUp key caller → AllByRecursion (IsUp key) (xs ++ caller ∷ [])
all_pushed key [] caller each last = (last, tt)
all_pushed key (x ∷ xs) caller each last = (each.0, all_pushed key xs caller each.1 last)

sorted_push : (xs : List ℕ) (caller : ℕ) → IsStrictlySortedBy nat_cmp xs → AllByRecursion (λ (key : ℕ). key < caller) xs → IsStrictlySortedBy nat_cmp (xs ++ caller ∷ [])
unfolding IsStrictlySortedBy
sorted_push [] caller sorted below = (tt, tt)
sorted_push (x ∷ xs) caller sorted below = (all_pushed x xs caller sorted.0 (sym (nat_cmp_is x caller Less below.0)), sorted_push xs caller sorted.1 below.1)

sorted_none : IsStrictlySortedBy nat_cmp []
unfolding IsStrictlySortedBy
sorted_none = tt

below_on : (number key : ℕ) → key < number → key < number + 1
below_on number key less = omega arith

-- it is a lower one, or that one
below_or : (number caller : ℕ) → caller < number + 1 → (caller < number) ⊎ (caller ≡ number)
below_or number caller less = by (cases_lt caller number)
  where
    by : (caller < number) ⊎ (number ≤ caller) → (caller < number) ⊎ (caller ≡ number)
    by (inl before) = inl before
    by (inr from) = inr (omega (arith, less, from))

-- ---- what was told

keys_more : (told : List (ℕ × Answer)) (x : ℕ × Answer) → keys_of (told ++ x ∷ []) ≡ keys_of told ++ x.0 ∷ []
keys_more told x = map-append (λ (e : ℕ × Answer). e.0) told (x ∷ [])

-- all of them have lower numbers
lower_all : (number : ℕ) (told : List (ℕ × Answer)) → All (λ (key : ℕ). key < number) (keys_of told) → filter (λ (x : ℕ × Answer). nat_lt x.0 number) told ≡ told
lower_all number [] all = refl
lower_all number (x ∷ told) all = ap₂ (λ (b : Bool) (l : List (ℕ × Answer)). cond b (x ∷ l) l) (lt-ltb x.0 number (All-head (λ (key : ℕ). key < number) x.0 (keys_of told) all)) (lower_all number told (All-tail (λ (key : ℕ). key < number) x.0 (keys_of told) all))

entries_all : (number : ℕ) (told : List (ℕ × Answer)) → All (λ (key : ℕ). key < number) (keys_of told) → entries_below number told ≡ entries_of (map resume_of told)
entries_all number told all = ap (λ (l : List (ℕ × Answer)). entries_of (map resume_of l)) (lower_all number told all)

-- the last has no lower number
entries_more : (caller : ℕ) (told : List (ℕ × Answer)) (x : ℕ × Answer) → caller ≤ x.0 → entries_below caller (told ++ x ∷ []) ≡ entries_below caller told
entries_more caller told x from = ap (λ (l : List (ℕ × Answer)). entries_of (map resume_of l))
    (filter-append (λ (y : ℕ × Answer). nat_lt y.0 caller) told (x ∷ [])
    ∙ ap (λ (b : Bool). filter (λ (y : ℕ × Answer). nat_lt y.0 caller) told ++ cond b (x ∷ []) []) (le-ltb x.0 caller from)
    ∙ append-nil (filter (λ (y : ℕ × Answer). nat_lt y.0 caller) told))

keys_in : (told : List (ℕ × Answer)) (x : ℕ × Answer) (caller : ℕ) → Contains (keys_of told) caller → Contains (keys_of (told ++ x ∷ [])) caller
keys_in told x caller at = subst (λ (l : List ℕ). Contains l caller) (sym (keys_more told x)) (Contains-append_left (keys_of told) (x.0 ∷ []) caller at)

key_last : (told : List (ℕ × Answer)) (x : ℕ × Answer) → Contains (keys_of (told ++ x ∷ [])) x.0
key_last told x = subst (λ (l : List ℕ). Contains l x.0) (sym (keys_more told x)) (Contains-push (keys_of told) x.0)

keys_before : (told : List (ℕ × Answer)) (x : ℕ × Answer) (caller : ℕ) → caller < x.0 → Contains (keys_of (told ++ x ∷ [])) caller → Contains (keys_of told) caller
keys_before told x caller before at = by (Contains-push_cases (keys_of told) x.0 caller (subst (λ (l : List ℕ). Contains l caller) (keys_more told x) at))
  where
    by : Contains (keys_of told) caller ⊎ (x.0 ≡ caller) → Contains (keys_of told) caller
    by (inl within) = within
    by (inr same) = absurd (omega (arith, before, same))

-- ---- one after the other

module _ (MayGoOn : List Entry → ℕ → Type 0) (given : Given) where
  -- callers below that number have resumed, exactly those who may
  pub record ResumesTo (number : ℕ) (deeds : List Deed) : Type 0 where
    pub told : List (ℕ × Answer)
    pub parted : deeds ≡ map resume_of told
    pub numbers : All IsCallerNumber (keys_of told)
    pub ascend : IsStrictlySortedBy nat_cmp (keys_of told)
    pub served : All (λ (x : ℕ × Answer). StopsNothing x.1) told
    pub below : All (λ (key : ℕ). key < number) (keys_of told)
    pub ready : (caller : ℕ) → IsCallerNumber caller → caller < number → ResumesInTurn MayGoOn given.history told caller

  pub resumes_none : ResumesTo 1 []
  resumes_none = record {
    told = [];
    parted = refl;
    numbers = All-nil IsCallerNumber;
    ascend = sorted_none;
    served = All-nil (λ (x : ℕ × Answer). StopsNothing x.1);
    below = All-nil (λ (key : ℕ). key < 1);
    ready = λ caller is less. absurd (omega (arith, is.0, less));
  }

  pub resumes_all : (deeds : List Deed) → ResumesTo (callers + 1) deeds → AreResumes MayGoOn given deeds
  resumes_all deeds so = record {
    told = so.told;
    parted = so.parted;
    numbers = so.numbers;
    ascend = so.ascend;
    ready = λ caller is. so.ready caller is (omega (arith, is.1));
    served = so.served;
  }

  module _ (number : ℕ) (deeds : List Deed) (so : ResumesTo number deeds) where
    -- what is behind them all
    entries_so : given.history ++ entries_below number so.told ≡ (given_behind deeds given).history
    entries_so = ap (λ (es : List Entry). given.history ++ es) (entries_all number so.told so.below ∙ sym (ap entries_of so.parted))

    still_below : All (λ (key : ℕ). key < number + 1) (keys_of so.told)
    still_below = All-weaker (λ (key : ℕ). key < number) (λ (key : ℕ). key < number + 1) (below_on number) (keys_of so.told) so.below

    -- the caller of that number may not
    pub resumes_skip : (MayGoOn (given_behind deeds given).history number → ⊥) → ResumesTo (number + 1) deeds
    resumes_skip not_it = record {
      told = so.told;
      parted = so.parted;
      numbers = so.numbers;
      ascend = so.ascend;
      served = so.served;
      below = still_below;
      ready = λ caller is less. by caller is (below_or number caller less);
    }
      where
        own : ResumesInTurn MayGoOn given.history so.told number
        own = (
          λ at. let wrong : number < number = All-contains (λ (key : ℕ). key < number) (keys_of so.told) number so.below at in absurd (omega (arith, wrong)),
          λ may. absurd (not_it (subst (λ (es : List Entry). MayGoOn es number) entries_so may)),
        )

        by : (caller : ℕ) → IsCallerNumber caller → (caller < number) ⊎ (caller ≡ number) → ResumesInTurn MayGoOn given.history so.told caller
        by caller is (inl before) = so.ready caller is before
        by caller is (inr same) = subst (λ (c : ℕ). ResumesInTurn MayGoOn given.history so.told c) (sym same) own

    module _ (may : MayGoOn (given_behind deeds given).history number) (is : IsCallerNumber number) where
      numbers_push : All IsCallerNumber (keys_of so.told ++ number ∷ [])
      numbers_push = All-push IsCallerNumber (keys_of so.told) number so.numbers is

      ascend_push : IsStrictlySortedBy nat_cmp (keys_of so.told ++ number ∷ [])
      ascend_push = sorted_push (keys_of so.told) number so.ascend (recursion_from_All (λ (key : ℕ). key < number) (keys_of so.told) so.below)

      below_push : All (λ (key : ℕ). key < number + 1) (keys_of so.told ++ number ∷ [])
      below_push = All-push (λ (key : ℕ). key < number + 1) (keys_of so.told) number still_below (omega arith)

      may_here : MayGoOn (given.history ++ entries_below number so.told) number
      may_here = subst (λ (es : List Entry). MayGoOn es number) (sym entries_so) may

      -- it may, and has
      pub resumes_on : (told : Answer) → StopsNothing told → ResumesTo (number + 1) (deeds ++ resume_of (number, told) ∷ [])
      resumes_on told served = record {
        told = all;
        parted = ap (λ (ds : List Deed). ds ++ resume_of x ∷ []) so.parted ∙ sym (map-append resume_of so.told (x ∷ []));
        numbers = subst (λ (l : List ℕ). All IsCallerNumber l) (sym (keys_more so.told x)) numbers_push;
        ascend = subst (λ (l : List ℕ). IsStrictlySortedBy nat_cmp l) (sym (keys_more so.told x)) ascend_push;
        served = All-push (λ (y : ℕ × Answer). StopsNothing y.1) so.told x so.served served;
        below = subst (λ (l : List ℕ). All (λ (key : ℕ). key < number + 1) l) (sym (keys_more so.told x)) below_push;
        ready = λ caller is less. by caller is (below_or number caller less);
      }
        where
          x : ℕ × Answer
          x = (number, told)

          all : List (ℕ × Answer)
          all = so.told ++ x ∷ []

          behind_it : (caller : ℕ) → caller ≤ number → given.history ++ entries_below caller all ≡ given.history ++ entries_below caller so.told
          behind_it caller from = ap (λ (es : List Entry). given.history ++ es) (entries_more caller so.told x from)

          earlier : (caller : ℕ) → caller < number → ResumesInTurn MayGoOn given.history so.told caller → ResumesInTurn MayGoOn given.history all caller
          earlier caller before turn = (
            λ at. subst (λ (es : List Entry). MayGoOn es caller) (sym (behind_it caller (omega (arith, before)))) (turn.0 (keys_before so.told x caller before at)),
            λ may. keys_in so.told x caller (turn.1 (subst (λ (es : List Entry). MayGoOn es caller) (behind_it caller (omega (arith, before))) may)),
          )

          own : ResumesInTurn MayGoOn given.history all number
          own = (
            λ at. subst (λ (es : List Entry). MayGoOn es number) (sym (behind_it number (omega arith))) may_here,
            λ may. key_last so.told x,
          )

          by : (caller : ℕ) → IsCallerNumber caller → (caller < number) ⊎ (caller ≡ number) → ResumesInTurn MayGoOn given.history all caller
          by caller is (inl before) = earlier caller before (so.ready caller is before)
          by caller is (inr same) = subst (λ (c : ℕ). ResumesInTurn MayGoOn given.history all c) (sym same) own

      -- it may, and was stopped
      pub resumes_cut : (ending : Ending) (last : List Deed) → IsEventCut (Caller number) Resume ending last → AreResumesCut MayGoOn given ending (deeds ++ last)
      resumes_cut ending last cut = record {
        told = so.told;
        caller = number;
        last = last;
        parted = ap (λ (ds : List Deed). ds ++ last) so.parted;
        numbers = numbers_push;
        ascend = ascend_push;
        ready = so.ready;
        may = may_here;
        served = so.served;
        cut = cut;
      }

  -- ---- as each call says it

  pub resume_next : (number : ℕ) (deeds more : List Deed) → ResumesTo number deeds → MayResumeBy MayGoOn number (given_behind deeds given) more → ResumesTo (number + 1) (deeds ++ more)
  resume_next number deeds more so (inl none) =
      subst (λ (ds : List Deed). ResumesTo (number + 1) (deeds ++ ds)) (sym none.1) (subst (λ (ds : List Deed). ResumesTo (number + 1) ds) (sym (append-nil deeds)) (resumes_skip number deeds so none.0))
  resume_next number deeds more so (inr one) = subst (λ (ds : List Deed). ResumesTo (number + 1) (deeds ++ ds)) (sym one.1.3) (resumes_on number deeds so one.0 one.1.1 one.1.0 one.1.2)

  pub resume_cut : (number : ℕ) (ending : Ending) (deeds last : List Deed) → ResumesTo number deeds → IsResumeCut MayGoOn number (given_behind deeds given) ending last → AreResumesCut MayGoOn given ending (deeds ++ last)
  resume_cut number ending deeds last so cut = resumes_cut number deeds so cut.1 cut.0 ending last cut.2
