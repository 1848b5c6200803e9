-- How a call ends that only looked at files.
use Rattle.std.proofs.Common.{◌≡◌, ℕ, None, refl, ◌∙◌, ap, subst, sym}
use Rattle.std.specs.Prelude.{Result, Ok, Err}
use Rattle.std.specs.Result.{IsErrOf, IsErrAnd}
use Rattle.std.proofs.lemmas.Result.{err_from_is_err_and}
use Rattle.disk_model.specs.declared.device.Disk as disk
use Rattle.snapshot_text.specs.declared.refusal.MetaRefusal.{MetaRefusal}
use Rattle.snapshot_text.specs.declared.refusal.MetaRefusal.TheVariants.{Memory}
use Rattle.file_store.specs.Changes.{Ends}
use Rattle.file_store.specs.Looks.{Looks}
use Rattle.file_store.specs.Stores.{Store as FileStore}
use Rattle.file_store.proofs.Ended.{ends_done}

-- the same error, whatever was to be given
same_error : (S T : Type 0) (x y : MetaRefusal) → IsErrOf {T = T} (Err x) y → IsErrOf {T = S} (Err x) y
same_error S T x y is = ap (λ (z : MetaRefusal). Err z) cc

module _ {D S T : Type 0} (g : disk.Ghosts D) (old new : FileStore D) where
  pub looked : (x : S) (y : T) → Looks g old (Ok x) new → (n : ℕ) → Ends g old n None (Ok y) new
  looked x y looks n =
      let is = looks.ends n in
      ends_done g old new n None is.proceeds y refl is.working (is.faults.counts.quiet (λ failed. cc))

  -- there was no memory for what was to become of it
  lacked : (x : S) → Looks g old (Ok x) new → (n : ℕ) → Ends {T = T} g old n None (Err Memory) new
  lacked x looks n =
      let is = looks.ends n in
      record {
        judged = tt;
        refused = λ part e. absurd cc;
        unchanged = λ part e. absurd cc;
        working = tt;
        memory = λ e. (looks.held, is.working);
        faults = record { closes = λ e. absurd cc; counts = record { once = λ e. absurd cc; quiet = λ e. is.faults.counts.quiet (λ failed. cc) } };
        proceeds = is.proceeds;
      }

  -- the look itself has failed
  failed : (why : MetaRefusal) → Looks {T = S} g old (Err why) new → (n : ℕ) → Ends {T = T} g old n None (Err why) new
  failed why looks n =
      let is = looks.ends n in
      record {
        judged = tt;
        refused = λ part e. is.refused part (same_error S T why _ e);
        unchanged = λ part e. is.unchanged part (same_error S T why _ e);
        working = tt;
        memory = λ e. is.memory (same_error S T why _ e);
        faults = record {
          closes = λ e. is.faults.closes (same_error S T why _ e);
          counts = record { once = λ e. is.faults.counts.once (same_error S T why _ e); quiet = λ e. is.faults.counts.quiet (λ failed. e (same_error T S why _ failed)) };
        };
        proceeds = is.proceeds;
      }

  -- by the result that says so
  pub look_lacked : (x : S) (r : Result T MetaRefusal) → Looks g old (Ok x) new → IsErrAnd r (λ why. why ≡ Memory) → (n : ℕ) → Ends g old n None r new
  look_lacked x r looks is n =
      let p = err_from_is_err_and r is in
      subst (λ (y : Result T MetaRefusal). Ends g old n None y new) (sym (p.1 ∙ ap (λ (e : MetaRefusal). Err e) p.2)) (lacked x looks n)

  pub look_failed : (why : MetaRefusal) (r : Result T MetaRefusal) → Looks {T = S} g old (Err why) new → IsErrAnd r (λ e. e ≡ why) → (n : ℕ) → Ends g old n None r new
  look_failed why r looks is n =
      let p = err_from_is_err_and r is in
      subst (λ (y : Result T MetaRefusal). Ends g old n None y new) (sym (p.1 ∙ ap (λ (e : MetaRefusal). Err e) p.2)) (failed why looks n)
