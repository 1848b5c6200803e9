-- What is found of an entry's object.
use Rattle.std.proofs.Common.{◌≡◌, ℕ, ◌<◌, ◌%◌, List, length, get_or, Option, Result, Ok, Err, IfOk, IfErr, ◌∙◌, sym}
use Rattle.std.proofs.lemmas.Bool.{lt-ltb}
use Rattle.std.specs.Prelude.{slice_set}
use Rattle.hsm_types.specs.Stubs.{entry_place}
use Rattle.hsm_types.specs.declared.stubs.Fingerprint.{Fingerprint}
use Rattle.hsm_types.specs.declared.stubs.StubEntry.{StubEntry}
use Rattle.media_model.specs.Objects.{Objects}
use Rattle.media_model.specs.declared.drive.Drive as drive
use Rattle.reconcile.specs.Classes.{Tells, ClassesRefused}
use Rattle.reconcile.specs.Steps.{print_at, print_on, IsFound, DriveRefused}
use Rattle.reconcile.specs.declared.refusals.ReconcileRefusal.{ReconcileRefusal}
use Rattle.reconcile.proofs.Drives.{one_tells, one_refuses}

module _ {D : Type 0} (g : drive.Ghosts D) (volumes : ℕ) (ds : List D) (d y : D) (e : StubEntry) (some : 0 < length ds) (below : (entry_place e).volume < volumes) where
  pub is_found : (r : Result (Option Fingerprint) ReconcileRefusal) → IfOk r (λ found. (o : Objects) → Tells g (get_or ds ((entry_place e).volume % length ds) d) (entry_place e).volume o → found ≡ print_at e o) → IfOk r (IsFound g volumes ds e)
  is_found (Ok found) tells = record {
    told = λ told are.
        let on : print_on volumes told e ≡ print_at e (told (entry_place e).volume) = rw (lt-ltb (entry_place e).volume volumes below) in
        tells (told (entry_place e).volume) (one_tells g (entry_place e).volume ds d y some volumes told below are) ∙ sym on;
  }
  is_found (Err why) tells = tt

  pub is_refused : (r : Result (Option Fingerprint) ReconcileRefusal) → IfErr r (DriveRefused g (entry_place e).volume (get_or ds ((entry_place e).volume % length ds) d) y) → IfErr r (ClassesRefused g volumes ds (slice_set ds ((entry_place e).volume % length ds) y))
  is_refused (Ok found) refused = tt
  is_refused (Err why) refused = one_refuses g (entry_place e).volume ds d y some volumes why below refused
