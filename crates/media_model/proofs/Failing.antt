-- What an append leaves that is to fail.
use Rattle.std.proofs.Common.{◌≡◌, inl, inr, ℕ, List, take, Option, None, Some, Result, Err, refl, sym, subst, arith}
use Rattle.media_model.specs.Objects.{MayAdd, Follows, Alike}
use Rattle.media_model.specs.Memory.{Held, AreObjects, with_object}
use Rattle.media_model.specs.Faults.{Faulty, failed_call, kept_in, FailsAppend}
use Rattle.media_model.specs.declared.drive.DriveRefusal.{DriveRefusal}
use Rattle.media_model.specs.declared.drive.DriveRefusal.TheVariants.{Failed, Memory}
use Rattle.media_model.proofs.Holding.{Keeps, change-keeps, change-adds, same-keeps, other-alike, same-alike}

kept-adds : (v : ℕ) (bytes : List ℕ) (kept : Option ℕ) (old : Held) → Follows (MayAdd bytes) (AreObjects old v) (AreObjects (kept_in v bytes kept old) v)
kept-adds v bytes None old now given = (now, given, inl refl)
kept-adds v bytes (Some n) old now given = let p = change-adds v (take n bytes) old now given in (p.0, p.1, inr (n, p.2))

kept-keeps : (v : ℕ) (bytes : List ℕ) (kept : Option ℕ) (old : Held) → Keeps old (kept_in v bytes kept old)
kept-keeps v bytes None old = same-keeps old old refl
kept-keeps v bytes (Some n) old = change-keeps v (with_object (take n bytes)) old (λ x is. omega arith)

kept-others : (v w : ℕ) (bytes : List ℕ) (kept : Option ℕ) (old : Held) → (w ≡ v → ⊥) → Alike (AreObjects old w) (AreObjects (kept_in v bytes kept old) w)
kept-others v w bytes None old apart = same-alike w old old refl
kept-others v w bytes (Some n) old apart = other-alike v w (with_object (take n bytes)) old apart

module _ (result : Result ℕ DriveRefusal) (v : ℕ) (bytes : List ℕ) (kept : Option ℕ) (old new : Faulty) (a : FailsAppend result v bytes kept old new) where
  -- there was no memory, or it failed
  cases : (P : Result ℕ DriveRefusal → Faulty → Type 0) → P (Err Memory) old → P (Err Failed) (record (failed_call old) { held = kept_in v bytes kept old.held }) → P result new
  cases P lacks fails = by a
    where
      by : FailsAppend result v bytes kept old new → P result new
      by (inl m) = subst (λ r. P r new) (sym m.0) (subst (P (Err Memory)) (sym m.3) lacks)
      by (inr f) = subst (λ r. P r new) (sym f.0) (subst (P (Err Failed)) (sym f.1) fails)

  pub fails-follows : Follows (MayAdd bytes) (AreObjects old.held v) (AreObjects new.held v)
  fails-follows = cases (λ r d. Follows (MayAdd bytes) (AreObjects old.held v) (AreObjects d.held v)) (λ now given. (now, given, inl refl)) (kept-adds v bytes kept old.held)

  pub fails-keeps : Keeps old.held new.held
  fails-keeps = cases (λ r d. Keeps old.held d.held) (same-keeps old.held old.held refl) (kept-keeps v bytes kept old.held)

  pub fails-others : (w : ℕ) → (w ≡ v → ⊥) → Alike (AreObjects old.held w) (AreObjects new.held w)
  fails-others w apart = cases (λ r d. Alike (AreObjects old.held w) (AreObjects d.held w)) (same-alike w old.held old.held refl) (kept-others v w bytes kept old.held apart)
