-- Passes that end, one after the other.
use Rattle.std.proofs.Common.{◌≡◌, ◌||◌, ◌<◌, ℕ, Bool, true, false, List, [], ◌∷◌, length, Option, Some, None, refl, ap, sym, ◌∙◌, subst, arith}
use Rattle.std.specs.Prelude.{All, IfSome}
use Rattle.std.proofs.lemmas.List.Elements.{All-cons}
use mathlib.Core.List.{IsPrefix}
use Rattle.call_seats.specs.declared.views.Mark.{Mark}
use Rattle.call_seats.specs.Views.{longer, made_by}
use Rattle.call_seats.specs.Passes.{IsOf, Knowledge, SawOneList, met}
use Rattle.call_seats.proofs.Beginnings.{longer_whole_left, prefix_self}

-- ---- one that ends

module _ (whole p : Knowledge) (right : whole.right ≡ true) (saw : SawOneList whole p) where
  begins : IsPrefix p.seen whole.seen
  begins = saw.first_all right

  longest : longer whole.seen p.seen ≡ whole.seen
  longest = longer_whole_left whole.seen p.seen whole.seen refl begins

  pub whole_still : (met whole p).0 ≡ whole
  whole_still = λ i. record whole { right = (ap (λ (b : Bool). b || p.right) right ∙ sym right) i; seen = longest i }

  pub told_all : (met whole p).1 ≡ record p { right = false; seen = whole.seen }
  told_all = λ i. record p { right = false; seen = longest i }

  pub is_of : made_by (met whole p).1.number (met whole p).1.seen ≡ (met whole p).1.made → IsOf whole.seen p
  is_of owns = record { begins = begins; made = sym (ap (λ (k : Knowledge). made_by k.number k.seen) told_all) ∙ owns ∙ ap (λ (k : Knowledge). k.made) told_all }

-- ---- all of them

-- the pen's pass is as it was, where it has the right
pub record IsWhole (pen : Option Knowledge) (whole : Knowledge) : Type 0 where
  pub kept : (p : Knowledge) → pen ≡ Some p → p.right ≡ true → whole ≡ p

-- each pass is told of, if those that are left are
pub record HaveTold (pen : Option Knowledge) (passes rest : List Knowledge) : Type 0 where
  pub told : (p : Knowledge) → pen ≡ Some p → p.right ≡ true → All (IsOf p.seen) rest → All (IsOf p.seen) passes

pub whole_first : (pen : Option Knowledge) (q : Knowledge) → pen ≡ Some q → IsWhole pen q
whole_first pen q is = record { kept = λ p is_p right. cc (is, is_p) }

pub told_first : (pen : Option Knowledge) (passes rest : List Knowledge) → rest ≡ passes → HaveTold pen passes rest
told_first pen passes rest same = record { told = λ p is right all. subst (λ (l : List Knowledge). All (IsOf p.seen) l) same all }

pub whole_on : (pen : Option Knowledge) (old new : Knowledge) → IsWhole pen old → (old.right ≡ true → new ≡ old) → IsWhole pen new
whole_on pen old new so_far still = record { kept = λ p is right. let same = so_far.kept p is right in still (ap (λ (k : Knowledge). k.right) same ∙ right) ∙ same }

pub told_on : (pen : Option Knowledge) (passes items rest : List Knowledge) (q whole : Knowledge) → IsWhole pen whole → HaveTold pen passes items → items ≡ q ∷ rest → (whole.right ≡ true → IsOf whole.seen q) → HaveTold pen passes rest
told_on pen passes items rest q whole so_far told next one = record {
  told = λ p is right all.
      let same = so_far.kept p is right in
      let mine : IsOf p.seen q = subst (λ (k : Knowledge). IsOf k.seen q) same (one (ap (λ (k : Knowledge). k.right) same ∙ right)) in
      told.told p is right (subst (λ (l : List Knowledge). All (IsOf p.seen) l) (sym next) (All-cons (IsOf p.seen) q rest mine all));
}

none_left : (items : List Knowledge) → length items ≡ 0 → items ≡ []
none_left [] none = refl
none_left (q ∷ items) none = absurd (omega arith)

pub all_told : (pen : Option Knowledge) (passes items : List Knowledge) → HaveTold pen passes items → length items ≡ 0 → IfSome pen (λ p. p.right ≡ true → All (IsOf p.seen) passes)
all_told None passes items so_far none = tt
all_told (Some p) passes items so_far none = λ right. so_far.told p refl right (subst (λ (l : List Knowledge). All (IsOf p.seen) l) (sym (none_left items none)) (λ k d lt. absurd (omega arith)))
