-- The parts of a file after a record that nothing refuses: what stays true of them.
use Rattle.std.proofs.Common.{◌≡◌, ℕ, ◌+◌, ◌≤◌, ◌↔◌, length, Option, None, Some, ◌∷◌, [], refl, ap, arith}
use Rattle.std.specs.Prelude.{MatchOption, Result, Err}
use Rattle.std.specs.List.{AllByRecursion}
use Rattle.hsm_types.specs.Attributes.{bytes_of_attributes}
use Rattle.hsm_types.specs.Kept.{Kept}
use Rattle.hsm_types.specs.Refusals.{first_refusal}
use Rattle.hsm_types.specs.Regions.{regions_refusal}
use Rattle.hsm_types.specs.declared.dm.DmRefusal.{DmRefusal}
use Rattle.hsm_types.specs.declared.dm.DmRefusal.TheVariants.{Memory}
use Rattle.hsm_types.specs.declared.stores.Geometry.{Geometry}
use Rattle.snapshot_text.specs.declared.file_parts.FileParts.{FileParts}
use Rattle.snapshot_text.specs.declared.file_parts.Others.{Others}
use Rattle.journal_records.specs.declared.records.Record.{Record}
use Rattle.journal_records.specs.declared.records.Record.TheVariants.{Regions, SetAttr, DropAttr, Stub}
use Rattle.snapshot_text.specs.declared.refusal.MetaRefusal.{MetaRefusal}
use Rattle.snapshot_text.specs.declared.refusal.MetaRefusal.TheVariants as meta
use Rattle.snapshot_text.specs.Parts.{kept_in, parts_after, IsNamed}
use Rattle.snapshot_text.specs.FileRecords.{part_refusal}
use Rattle.snapshot_text.specs.Refusals.{refused_as}
use Rattle.snapshot_text.proofs.KeptBounds.{eight-with, eight-without, fewer-without, setting-fits}

first-none : (a b : Option DmRefusal) → first_refusal (a ∷ b ∷ []) ≡ None → a ≡ None
first-none a b none = grind arith

pub within-after : (r : Record) (x : FileParts) (others : Others) (geometry : Geometry) → part_refusal r others geometry (kept_in x) ≡ None
    → others.attributes + bytes_of_attributes x.attributes ≤ geometry.attributes → others.attributes + bytes_of_attributes (parts_after r x).attributes ≤ geometry.attributes
within-after (SetAttr ino name value) x others geometry none few = setting-fits name value others.attributes geometry.attributes x.attributes none
within-after (DropAttr ino name) x others geometry none few = omega (arith, few, fewer-without name x.attributes)
within-after (Stub ino j None) x others geometry none few = few
within-after (Stub ino j (Some stub)) x others geometry none few = few
within-after r x others geometry none few = few

pub regions-after : (r : Record) (x : FileParts) (others : Others) (geometry : Geometry) → part_refusal r others geometry (kept_in x) ≡ None
    → regions_refusal geometry.limits x.regions ≡ None → regions_refusal geometry.limits (parts_after r x).regions ≡ None
regions-after (Regions ino regions) x others geometry none lawful = first-none _ _ none
regions-after (Stub ino j None) x others geometry none lawful = lawful
regions-after (Stub ino j (Some stub)) x others geometry none lawful = lawful
regions-after r x others geometry none lawful = lawful

pub eight-after : (r : Record) (x : FileParts) → IsNamed r → AllByRecursion (λ a. length a.0.0 ≡ 8) x.attributes → AllByRecursion (λ a. length a.0.0 ≡ 8) (parts_after r x).attributes
eight-after (SetAttr ino name value) x named old = eight-with name value x.attributes old named
eight-after (DropAttr ino name) x named old = eight-without name x.attributes old
eight-after (Stub ino j None) x named old = old
eight-after (Stub ino j (Some stub)) x named old = old
eight-after r x named old = old

-- ---- what refuses a record, as the store tells it

-- want of memory is no part's own
part-own : (r : Record) (others : Others) (geometry : Geometry) (k : Kept) → part_refusal r others geometry k ≡ Some Memory → ⊥
part-own (Regions ino regions) others geometry k is = grind arith
part-own (SetAttr ino name value) others geometry k is = grind arith
part-own (DropAttr ino name) others geometry k is = grind arith
part-own (Stub ino j None) others geometry k is = cc
part-own (Stub ino j (Some stub)) others geometry k is = grind arith
part-own r others geometry k is = cc

told : (why : DmRefusal) → (why ≡ Memory → ⊥) → refused_as why ≡ meta.Part why
told Memory other = absurd (other refl)
told why other = refl

refusal-told : (o : Option DmRefusal) (why : DmRefusal) → (o ≡ Some Memory → ⊥) → MatchOption o (why ≡ Memory) (λ cause. why ≡ cause) → (cause : DmRefusal) → (refused_as why ≡ meta.Part cause) ↔ (o ≡ Some cause)
refusal-told None why own is cause = rw is (λ h. cc, λ h. cc)
refusal-told (Some c) why own is cause = let one = told c (λ m. own (rw m refl)) in rw (is, one) (λ h. cc, λ h. cc)

pub refused-after : (r : Record) (others : Others) (geometry : Geometry) (k : Kept) (why : DmRefusal) → MatchOption (part_refusal r others geometry k) (why ≡ Memory) (λ cause. why ≡ cause)
    → (cause : DmRefusal) → (refused_as why ≡ meta.Part cause) ↔ (part_refusal r others geometry k ≡ Some cause)
refused-after r others geometry k why is = refusal-told (part_refusal r others geometry k) why (part-own r others geometry k) is

pub err_on : {T E : Type 0} (e v : E) (P : Type 0) → (e ≡ v) ↔ P → ◌≡◌ {A = Result T E} (Err e) (Err v) ↔ P
err_on e v P h = (λ is. let same : e ≡ v = cc in h.0 same, λ p. ap (λ x. Err x) (h.1 p))
