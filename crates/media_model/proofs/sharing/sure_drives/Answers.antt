use Rattle.std.proofs.Common.{◌≡◌, ◌∙◌, ◌+◌, ◌∷◌, [], ℕ, Bool, Option, Some, None, IfSome, nat_eq, refl, subst, sym, ap, length-append, rules}
use Rattle.std.proofs.lemmas.List.{length-map}
use Rattle.std.proofs.lemmas.Option.{slice_get-map}
use Rattle.std.specs.Prelude.{if◌then◌else◌, slice_get}
use Rattle.std.specs.Option.{option_map}
use Rattle.std.specs.List.{list_any}
use Rattle.media_model.specs.Memory.{Held, no_objects}
use Rattle.media_model.specs.Faults.{Faulty}
use Rattle.media_model.specs.Sharing.{IsNew, never_failing}
use Rattle.media_model.proofs.Places.{each_more}
use Rattle.media_model.proofs.sharing.sure_drives.Goals as goal

pub loop-number-preserved : goal.loop-number-preserved
loop-number-preserved c =
    let d : Held = c.in_ok-new.field-0 in
    let is : IsNew c.loop-number.number c.args.drives c.args.volumes c.args.capacity (never_failing d) = record { room = c.in_ok-new.ensures.capacity; unfailed = refl; shares = λ v. c.in_ok-new.ensures.volumes v ∙ ap (λ (b : Bool). if b then Some no_objects else None) (ap (list_any (nat_eq v)) c.deref.ensures.value ∙ c.in_ok-shared.ensures v) } in
    rw c.in_ok-push.ensures.items (length-append c.loop-number.all.items (d ∷ []) ∙ ap (λ (n : ℕ). n + 1) c.loop-number.invariant.0, each_more (λ n x. IsNew n c.args.drives c.args.volumes c.args.capacity (never_failing x)) c.loop-number.all.items d c.loop-number.invariant.1 (subst (λ (n : ℕ). IsNew n c.args.drives c.args.volumes c.args.capacity (never_failing d)) (sym c.loop-number.invariant.0) is))

-- one of the drives, as one of those that may fail
one : (P : Faulty → Type 0) (held : Option Held) → IfSome held (λ x. P (never_failing x)) → IfSome (option_map never_failing held) P
one P None is = tt
one P (Some x) is = is

pub returns : goal.returns
returns c = let ends : c.loop-number.number ≡ c.args.drives = search rules in record {
  count = length-map c.loop-number.all.items never_failing ∙ c.loop-number.invariant.0 ∙ ends;
  each = λ number. subst (λ (x : Option Faulty). IfSome x (IsNew number c.args.drives c.args.volumes c.args.capacity)) (sym (slice_get-map never_failing c.loop-number.all.items number)) (one (IsNew number c.args.drives c.args.volumes c.args.capacity) (slice_get c.loop-number.all.items number) (c.loop-number.invariant.1 number));
}
