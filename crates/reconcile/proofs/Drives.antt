-- Drives one of which is asked at a time.
use Rattle.std.proofs.Common.{◌≡◌, inl, inr, ℕ, zero, suc, ◌<◌, ◌%◌, List, [], ◌∷◌, length, get_or, Option, Some, IfSome, refl, sym, ap, subst, ◌∙◌, arith}
use Rattle.std.proofs.lemmas.Option.{slice_get-get_or}
use Rattle.std.specs.Prelude.{slice_get, slice_set, map}
use Rattle.disk_model.specs.Calls.{RoseByOne, raised}
use Rattle.media_model.specs.Objects.{Objects}
use Rattle.media_model.specs.declared.drive.Drive as drive
use Rattle.volume_shelf.specs.Shelf.{Reads}
use Rattle.volume_shelf.proofs.Running.{idle, reads_on}
use Rattle.reconcile.specs.Classes.{Tells, AreTold, AreRead, AreQuiet, raised_at, ClassesRefused}
use Rattle.reconcile.specs.Steps.{DriveRefused}
use Rattle.reconcile.specs.declared.refusals.ReconcileRefusal.{ReconcileRefusal}
use Rattle.reconcile.specs.declared.refusals.ReconcileRefusal.TheVariants.{Failed, Memory}

module _ {D : Type 0} (g : drive.Ghosts D) where
  pub none_read : (ds : List D) → AreRead g ds ds
  none_read [] = tt
  none_read (d ∷ ds) = (idle g d, none_read ds)

  pub read_on : (a b c : List D) → AreRead g a b → AreRead g b c → AreRead g a c
  read_on [] [] [] first then = tt
  read_on [] [] (z ∷ zs) first then = absurd then
  read_on [] (y ∷ ys) c first then = absurd first
  read_on (x ∷ xs) [] c first then = absurd first
  read_on (x ∷ xs) (y ∷ ys) [] first then = absurd then
  read_on (x ∷ xs) (y ∷ ys) (z ∷ zs) first then = (reads_on g x y z first.0 then.0, read_on xs ys zs first.1 then.1)

  pub read_length : (a b : List D) → AreRead g a b → length b ≡ length a
  read_length [] [] read = refl
  read_length [] (y ∷ ys) read = absurd read
  read_length (x ∷ xs) [] read = absurd read
  read_length (x ∷ xs) (y ∷ ys) read = ap suc (read_length xs ys read.1)

  read_one : (ds : List D) (k : ℕ) (x y : D) → slice_get ds k ≡ Some x → Reads g x y → AreRead g ds (slice_set ds k y)
  read_one [] k x y is reads = tt
  read_one (d ∷ ds) zero x y is reads = (subst (λ (o : D). Reads g o y) (sym (same d x is)) reads, none_read ds)
    where
      same : (d x : D) → Some d ≡ Some x → d ≡ x
      same d x e = cc
  read_one (d ∷ ds) (suc k) x y is reads = (idle g d, read_one ds k x y is reads)

  quiet_one : (ds : List D) (k : ℕ) (x y : D) → slice_get ds k ≡ Some x → g.fault_count y ≡ g.fault_count x → AreQuiet g ds (slice_set ds k y)
  quiet_one [] k x y is quiet = refl
  quiet_one (d ∷ ds) zero x y is quiet = ap (λ (n : ℕ). n ∷ map g.fault_count ds) (quiet ∙ ap g.fault_count (sym (same d x is)))
    where
      same : (d x : D) → Some d ≡ Some x → d ≡ x
      same d x e = cc
  quiet_one (d ∷ ds) (suc k) x y is quiet = ap (λ (l : List ℕ). g.fault_count d ∷ l) (quiet_one ds k x y is quiet)

  -- the drive of that number has counted one fault more
  raised_one : (ds : List D) (k : ℕ) (x y : D) → slice_get ds k ≡ Some x → RoseByOne (g.fault_count x) (g.fault_count y) → map g.fault_count (slice_set ds k y) ≡ raised_at k (map g.fault_count ds)
  raised_one [] k x y is once = refl
  raised_one (d ∷ ds) zero x y is once = ap (λ (n : ℕ). n ∷ map g.fault_count ds) (once ∙ ap (λ (o : D). raised (g.fault_count o)) (sym (same d x is)))
    where
      same : (d x : D) → Some d ≡ Some x → d ≡ x
      same d x e = cc
  raised_one (d ∷ ds) (suc k) x y is once = ap (λ (l : List ℕ). g.fault_count d ∷ l) (raised_one ds k x y is once)

  -- ---- what is told stays

  tells_on : (v : ℕ) (o : Objects) (x y : D) → Reads g x y → Tells g x v o → Tells g y v o
  tells_on v o x y reads (inl given) = inl ((reads.same v).1 o given)
  tells_on v o x y reads (inr none) = inr (reads.volumes.has v ∙ none.0, none.1)

  some_read : (v : ℕ) (o : Objects) (a b : List D) (k : ℕ) → AreRead g a b → IfSome (slice_get a k) (λ d. Tells g d v o) → IfSome (slice_get b k) (λ d. Tells g d v o)
  some_read v o [] [] k read tells = tt
  some_read v o [] (y ∷ ys) k read tells = absurd read
  some_read v o (x ∷ xs) [] k read tells = absurd read
  some_read v o (x ∷ xs) (y ∷ ys) zero read tells = tells_on v o x y read.0 tells
  some_read v o (x ∷ xs) (y ∷ ys) (suc k) read tells = some_read v o xs ys k read.1 tells

  pub told_on : (volumes : ℕ) (a b : List D) (told : ℕ → Objects) → AreRead g a b → AreTold g volumes a told → AreTold g volumes b told
  told_on volumes a b told read are = record {
    each = λ v below. subst (λ (n : ℕ). IfSome (slice_get b (v % n)) (λ d. Tells g d v (told v))) (sym (read_length a b read)) (some_read v (told v) a b (v % length a) read (are.each v below));
  }

  -- ---- the drive of a volume is asked, and left as y

  module _ (v : ℕ) (ds : List D) (d y : D) (some : 0 < length ds) where
    within : v % length ds < length ds
    within = omega arith

    there : slice_get ds (v % length ds) ≡ Some (get_or ds (v % length ds) d)
    there = slice_get-get_or ds (v % length ds) d within

    pub one_read : Reads g (get_or ds (v % length ds) d) y → AreRead g ds (slice_set ds (v % length ds) y)
    one_read reads = read_one ds (v % length ds) (get_or ds (v % length ds) d) y there reads

    pub one_quiet : g.fault_count y ≡ g.fault_count (get_or ds (v % length ds) d) → AreQuiet g ds (slice_set ds (v % length ds) y)
    one_quiet quiet = quiet_one ds (v % length ds) (get_or ds (v % length ds) d) y there quiet

    pub one_tells : (volumes : ℕ) (told : ℕ → Objects) → v < volumes → AreTold g volumes ds told → Tells g (get_or ds (v % length ds) d) v (told v)
    one_tells volumes told below are = subst (λ (o : Option D). IfSome o (λ x. Tells g x v (told v))) there (are.each v below)

    pub one_refuses : (volumes : ℕ) (why : ReconcileRefusal) → v < volumes → DriveRefused g v (get_or ds (v % length ds) d) y why → ClassesRefused g volumes ds (slice_set ds (v % length ds) y) why
    one_refuses volumes (Failed volume) below refused = rw (refused.0) (below, raised_one ds (v % length ds) (get_or ds (v % length ds) d) y there refused.1)
    one_refuses volumes Memory below refused = tt

  -- a refusal after more was read without a fault
  pub refused_on : (volumes : ℕ) (a b c : List D) (why : ReconcileRefusal) → AreRead g a b → AreQuiet g a b → ClassesRefused g volumes b c why → ClassesRefused g volumes a c why
  refused_on volumes a b c (Failed v) read quiet refused =
      let counts : map g.fault_count c ≡ raised_at (v % length a) (map g.fault_count b) = subst (λ (n : ℕ). map g.fault_count c ≡ raised_at (v % n) (map g.fault_count b)) (read_length a b read) refused.1 in
      (refused.0, subst (λ (l : List ℕ). map g.fault_count c ≡ raised_at (v % length a) l) quiet counts)
  refused_on volumes a b c Memory read quiet refused = tt
