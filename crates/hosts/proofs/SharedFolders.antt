-- The volumes of drives that share a folder.
use Rattle.std.proofs.Common.{◌≡◌, ◌<◌, ◌%◌, ℕ, true, ◌==◌, List, IfSome, ap, sym, ◌∙◌, arith}
use Rattle.std.proofs.lemmas.Bool.Decides.{nat_tests}
use Rattle.std.specs.Prelude.{slice_get, nat_lt}
use Rattle.std.specs.List.{AllByRecursion}
use Rattle.folder_drive.specs.Folders.{Folder, has_volume}
use Rattle.hosts.specs.Files.{AreShared}
use Rattle.hosts.proofs.HandingOut.{both_of, each_place, if_some}

module _ (drives volumes capacity : ℕ) where
  -- the drive of that number
  abbrev IsDrive : ℕ → Folder → Type 0
  IsDrive number d = d ≡ record { number = number; drives = drives; volumes = volumes; capacity = capacity; faults = 0 }

  has_own : (v : ℕ) (d : Folder) → v < volumes → IsDrive (v % drives) d → has_volume d v ≡ true
  has_own v d within is =
      let own : has_volume (record { number = v % drives; drives = drives; volumes = volumes; capacity = capacity; faults = 0 }) v ≡ true = grind (arith, nat_tests, within) in
      ap (λ (x : Folder). has_volume x v) is ∙ own

  has_only_own : (number v : ℕ) (d : Folder) → IsDrive number d → has_volume d v ≡ true → (v < volumes) × (v % drives ≡ number)
  has_only_own number v d is has =
      let both = both_of (nat_lt v volumes) (v % drives == number) (sym (ap (λ (x : Folder). has_volume x v) is) ∙ has) in
      (grind (arith, nat_tests, both.0), grind (arith, nat_tests, both.1))

  module _ (ds : List Folder) (shared : AreShared drives volumes capacity ds) where
    pub shared-counted : AllByRecursion (λ (d : Folder). d.faults ≡ 0) ds
    shared-counted = each_place IsDrive (λ (d : Folder). d.faults ≡ 0) (λ number d is. ap (λ (x : Folder). x.faults) is) ds shared.each

    pub shared-room : AllByRecursion (λ (d : Folder). d.capacity ≡ capacity) ds
    shared-room = each_place IsDrive (λ (d : Folder). d.capacity ≡ capacity) (λ number d is. ap (λ (x : Folder). x.capacity) is) ds shared.each

    pub shared-has : (v : ℕ) → v < volumes → IfSome (slice_get ds (v % drives)) (λ (d : Folder). has_volume d v ≡ true)
    shared-has v within = if_some (IsDrive (v % drives)) (λ (d : Folder). has_volume d v ≡ true) (λ d is. has_own v d within is) (slice_get ds (v % drives)) (shared.each (v % drives))

    pub shared-only : (number : ℕ) → IfSome (slice_get ds number) (λ (d : Folder). (v : ℕ) → has_volume d v ≡ true → (v < volumes) × (v % drives ≡ number))
    shared-only number = if_some (IsDrive number) (λ (d : Folder). (v : ℕ) → has_volume d v ≡ true → (v < volumes) × (v % drives ≡ number)) (λ d is v has. has_only_own number v d is has) (slice_get ds number) (shared.each number)
