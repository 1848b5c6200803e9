-- Choices by tests.
use Rattle.std.proofs.Common.{◌≡◌, Bool, true, false, cond, Option, Some, None, refl}

pub neither : (b c : Bool) → cond b true c ≡ false → (b ≡ false) × (c ≡ false)
neither true c e = cc
neither false c e = (refl, e)

pub none_of : {X : Type 0} (b : Bool) (x : X) (o : Option X) → cond b (Some x) o ≡ None → (b ≡ false) × (o ≡ None)
none_of true x o e = cc
none_of false x o e = (refl, e)

-- two tests that can't both hold can be made in either order
pub other_order : {X : Type 0} (b c : Bool) (u v w : X) → (b ≡ true → c ≡ true → ⊥) → cond b u (cond c v w) ≡ cond c v (cond b u w)
other_order true true u v w apart = absurd (apart refl refl)
other_order true false u v w apart = refl
other_order false c u v w apart = refl
