-- New drives in memory, as a host would hand out empty volumes.
use Rattle.std.proofs.Common.{◌≡◌, ◌∙◌, ◌<◌, ◌%◌, ℕ, Bool, true, List, map, Option, None, Some, IfSome, refl, sym, ap, subst, arith}
use Rattle.std.specs.Prelude.{slice_get, is_some, if◌then◌else◌}
use Rattle.std.specs.Option.{option_map}
use Rattle.std.proofs.lemmas.Bool.Decides.{nat_tests}
use Rattle.std.proofs.lemmas.List.{length-map}
use Rattle.std.proofs.lemmas.Option.{slice_get-map}
use Rattle.media_model.specs.Faults.{Faulty}
use Rattle.media_model.specs.Memory.{AreObjects, Held, Volume, has_volume, no_objects, volume_in}
use Rattle.media_model.specs.Objects.{Objects}
use Rattle.media_model.specs.Sharing.{AreNew, IsNew, is_shared, never_failing}
use Rattle.media_model.specs.contracts.sure.SureDriveDrive.TheImpl as sure
use Rattle.hosts.specs.Hosts.{AreHanded}
use Rattle.hosts.proofs.HandingOut.{each_place, if_some, new_has_only}
use Rattle.hsm_cli.specs.Deeds.{without_objects}

unmapped : {X Y : Type 0} (f : X → Y) (P : Y → Type 0) (o : Option X) → IfSome (option_map f o) P → IfSome o (λ x. P (f x))
unmapped f P None is = tt
unmapped f P (Some x) is = is

shared : (drives volumes v : ℕ) → v < volumes → is_shared (v % drives) drives volumes v ≡ true
shared drives volumes v within = grind (arith, nat_tests, within)

module _ (drives volumes capacity : ℕ) (ds : List Held) (new : AreNew drives volumes capacity (map never_failing ds)) where
  each : (number : ℕ) → IfSome (slice_get ds number) (λ d. IsNew number drives volumes capacity (never_failing d))
  each number = unmapped never_failing (IsNew number drives volumes capacity) (slice_get ds number) (subst (λ (o : Option Faulty). IfSome o (IsNew number drives volumes capacity)) (slice_get-map never_failing ds number) (new.each number))

  empty : (number v : ℕ) (d : Held) → is_shared number drives volumes v ≡ true → IsNew number drives volumes capacity (never_failing d) → volume_in v d ≡ Some no_objects
  empty number v d is is_new = is_new.shares v ∙ ap (λ (b : Bool). if b then Some no_objects else None) is

  pub new_handed : AreHanded sure.ghosts without_objects drives volumes capacity ds
  new_handed = record {
    count = sym (length-map ds never_failing) ∙ new.count;
    counted = each_place (λ number d. IsNew number drives volumes capacity (never_failing d)) (λ d. 0 ≡ 0) (λ number d is_new. refl) ds each;
    room = each_place (λ number d. IsNew number drives volumes capacity (never_failing d)) (λ d. d.capacity ≡ capacity) (λ number d is_new. is_new.room) ds each;
    has = λ v within. if_some (λ d. IsNew (v % drives) drives volumes capacity (never_failing d)) (λ d. has_volume v d ≡ true) (λ d is_new. ap (λ (o : Option Volume). is_some o) (empty (v % drives) v d (shared drives volumes v within) is_new)) (slice_get ds (v % drives)) (each (v % drives));
    only = λ number. if_some (λ d. IsNew number drives volumes capacity (never_failing d)) (λ d. (v : ℕ) → has_volume v d ≡ true → (v < volumes) × (v % drives ≡ number)) (λ d is_new. new_has_only number drives volumes capacity (never_failing d) is_new) (slice_get ds number) (each number);
    there = λ v o within none. if_some (λ d. IsNew (v % drives) drives volumes capacity (never_failing d)) (λ d. AreObjects d v o)
        (λ d is_new. ap (λ (x : Option Volume). option_map (λ (y : Volume). y.objects) x) (empty (v % drives) v d (shared drives volumes v within) is_new) ∙ ap (λ (y : Objects). Some y) (sym none)) (slice_get ds (v % drives)) (each (v % drives));
  }
