use Rattle.std.proofs.Common.{◌∙◌, ◌+◌, ◌∷◌, [], ℕ, Bool, Some, None, nat_eq, refl, subst, sym, ap, length-append}
use Rattle.std.specs.Prelude.{if◌then◌else◌}
use Rattle.std.specs.List.{list_any}
use Rattle.media_model.specs.Memory.{no_objects}
use Rattle.media_model.specs.Faults.{Faulty}
use Rattle.media_model.specs.Sharing.{IsNew}
use Rattle.media_model.proofs.Places.{each_more}
use Rattle.media_model.proofs.sharing.mem_drives.Goals as goal

pub loop-number-preserved : goal.loop-number-preserved
loop-number-preserved c =
    let d : Faulty = c.in_ok-new.field-0 in
    let is : IsNew c.loop-number.number c.args.drives c.args.volumes c.args.capacity d = record { room = c.in_ok-new.ensures.capacity; unfailed = rw c.in_ok-new.ensures.made refl; shares = λ v. c.in_ok-new.ensures.volumes v ∙ ap (λ (b : Bool). if b then Some no_objects else None) (ap (list_any (nat_eq v)) c.deref.ensures.value ∙ c.in_ok-shared.ensures v) } in
    rw c.in_ok-push.ensures.items (length-append c.loop-number.all.items (d ∷ []) ∙ ap (λ (n : ℕ). n + 1) c.loop-number.invariant.0, each_more (λ n x. IsNew n c.args.drives c.args.volumes c.args.capacity x) c.loop-number.all.items d c.loop-number.invariant.1 (subst (λ (n : ℕ). IsNew n c.args.drives c.args.volumes c.args.capacity d) (sym c.loop-number.invariant.0) is))
