-- Accesses and the answers that they get.
use Rattle.std.proofs.Common.{◌≡◌, ◌≢◌, ℕ, true, false, Option, None, Some, is_some, refl, sym, ◌∙◌, arith}
use Rattle.std.specs.Option.{option_map}
use Rattle.std.proofs.lemmas.Bool.{true_from_ne_false, cond-false}
use Rattle.std.proofs.lemmas.Bool.Decides.{nat_tests}
use Rattle.hsm_types.specs.Messages.{is_lawful}
use Rattle.hsm_types.specs.declared.dm.Response.{Response}
use Rattle.hsm_types.specs.declared.keys.Token.{Token}
use Rattle.hsm_types.specs.Keyed.{set_at}
use Rattle.access_park.specs.declared.access.Access.{Access}
use Rattle.access_park.specs.Laws.{AnswersOne}
use Rattle.access_park.specs.Pending.{holds, has_lawful_answer, given, answered, NobodyHolds, HoldsAlone, IsPark}

module _ (t : Token) (r : Response) where
  pub some-answered : (p : Option Access) → is_some (answered t r p) ≡ is_some p
  some-answered None = refl
  some-answered (Some a) = grind (arith, nat_tests)

  holds-answered : (u : Token) (p : Option Access) → holds u (answered t r p) ≡ holds u p
  holds-answered u None = refl
  holds-answered u (Some a) = grind (arith, nat_tests)

  lawful-answered : (p : Option Access) → is_lawful r ≡ true → has_lawful_answer p ≡ true → has_lawful_answer (answered t r p) ≡ true
  lawful-answered None lawful h = refl
  lawful-answered (Some a) lawful h = grind (arith, nat_tests)

  answered-other : (p : Option Access) → holds t p ≡ false → answered t r p ≡ p
  answered-other p off = cond-false (holds t p) (option_map (given r) p) p off

  module _ (pending : ℕ → Option Access) where
    pub park-answered : is_lawful r ≡ true → IsPark pending → IsPark (λ c. answered t r (pending c))
    park-answered lawful is = record {
      callers = λ c h. is.callers c (sym (some-answered (pending c)) ∙ h);
      once = λ u c d one other. is.once u c d (sym (holds-answered u (pending c)) ∙ one) (sym (holds-answered u (pending d)) ∙ other);
      lawful = λ c. lawful-answered (pending c) lawful (is.lawful c);
    }

    pub answered-nobody : NobodyHolds t pending → pending ≡ (λ c. answered t r (pending c))
    answered-nobody none = λ k c. sym (answered-other (pending c) (none c)) k

    changed : (c : ℕ) → answered t r (pending c) ≢ pending c → holds t (pending c) ≡ true
    changed c change = true_from_ne_false (holds t (pending c)) (λ off. change (answered-other (pending c) off))

    module _ (c : ℕ) (alone : HoldsAlone t c pending) where
      at : (d : ℕ) → set_at c (option_map (given r) (pending c)) pending d ≡ answered t r (pending d)
      at d = let has = alone.0 in let only = alone.1 d in grind (arith, nat_tests)

      pub answered-alone : set_at c (option_map (given r) (pending c)) pending ≡ (λ d. answered t r (pending d))
      answered-alone = λ k d. at d k

pub answers_one : (pending : ℕ → Option Access) → AnswersOne pending
answers_one pending is t r c d one other = is.once t c d (changed t r pending c one) (changed t r pending d other)
