-- What holds by the outcome of a call.
use Rattle.std.specs.Prelude.{◌≡◌, false, Option, Some, None, IfSome, Result, Ok, Err, IsOk, IsErr, is_err, OnOk, OnErr}

module _ {T E P : Type 0} where
  pub on_ok : {Q : Type 0} (r : Result T E) → (P → Q) → OnOk r P → OnOk r Q
  on_ok (Ok x) f p = f p
  on_ok (Err e) f p = tt

  pub on_err : {Q : Type 0} (r : Result T E) → (P → Q) → OnErr r P → OnErr r Q
  on_err (Ok x) f p = tt
  on_err (Err e) f p = f p

  -- what holds either way
  pub either : (r : Result T E) → OnOk r P → OnErr r P → P
  either (Ok x) p q = p
  either (Err e) p q = q

module _ {T : Type 0} {P Q : T → Type 0} where
  pub if_some : (o : Option T) → ((x : T) → P x → Q x) → IfSome o P → IfSome o Q
  if_some (Some x) f p = f x p
  if_some None f p = tt

pub ok_not_err : {T E : Type 0} (r : Result T E) → IsErr r → IsOk r → ⊥
ok_not_err (Ok x) failed done = cc
ok_not_err (Err e) failed done = cc

module _ {T E : Type 0} (P : Type 0) where
  pub no_ok : (r : Result T E) → IsErr r → OnOk r P
  no_ok (Ok x) failed = absurd cc
  no_ok (Err e) failed = tt

  pub no_err : (r : Result T E) → is_err r ≡ false → OnErr r P
  no_err (Ok x) done = tt
  no_err (Err e) done = absurd cc
