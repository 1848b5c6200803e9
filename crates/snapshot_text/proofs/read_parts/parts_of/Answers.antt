use Rattle.std.proofs.Common.{refl, arith}
use Rattle.snapshot_text.specs.declared.snapshot.ReadRefusal.TheVariants.{Corrupt}
use Rattle.snapshot_text.proofs.ReadParts.{told_err}
use Rattle.snapshot_text.proofs.read_parts.parts_of.Goals as goal

pub of-requires-clause-blocks : goal.of-requires-clause-blocks
of-requires-clause-blocks c = rw c.as_slice.ensures.value c.requires.blocks

pub returns-in_err-places-clause-corrupt : goal.returns-in_err-places-clause-corrupt
returns-in_err-places-clause-corrupt c = λ is may. let told = c.from_residual.ensures.1 in grind arith

pub returns-in_err-regions-clause-corrupt : goal.returns-in_err-regions-clause-corrupt
returns-in_err-regions-clause-corrupt c = λ is may.
    let no = c.in_err-regions.ensures.corrupt (told_err c.from_residual-in_err-regions.result c.in_err-regions.field-0.0 Corrupt c.from_residual-in_err-regions.ensures.1 is) in
    let no_regions = rw c.replace-spelled.ensures.value at no in
    let lawful = may.regions in
    grind arith

pub returns-in_err-stubs-clause-corrupt : goal.returns-in_err-stubs-clause-corrupt
returns-in_err-stubs-clause-corrupt c = λ is may.
    c.in_err-stubs.ensures.corrupt (told_err c.from_residual-in_err-stubs.result c.in_err-stubs.field-0.0 Corrupt c.from_residual-in_err-stubs.ensures.1 is)
    (rw (c.in_ok-places.ensures, c.as_slice.ensures.value, c.in_ok-regions.ensures.ok, c.replace-spelled.ensures.value, c.as_slice-entries.ensures.value) may.stubs) (rw c.as_slice-entries.ensures.value may.few_stubs)

pub returns-in_err-attributes-clause-corrupt : goal.returns-in_err-attributes-clause-corrupt
returns-in_err-attributes-clause-corrupt c = λ is may.
    c.in_err-attributes.ensures.corrupt (told_err c.from_residual-in_err-attributes.result c.in_err-attributes.field-0.0 Corrupt c.from_residual-in_err-attributes.ensures.1 is)
    (rw c.replace-named.ensures.value may.attributes) (rw c.replace-named.ensures.value may.few)

pub returns-clause-made : goal.returns-clause-made
returns-clause-made c =
    rw (c.in_ok-places.ensures, c.as_slice.ensures.value, c.in_ok-regions.ensures.ok, c.replace-spelled.ensures.value, c.in_ok-stubs.ensures.ok, c.as_slice-entries.ensures.value, c.in_ok-attributes.ensures.ok, c.replace-named.ensures.value) refl

pub returns-clause-kept : goal.returns-clause-kept
returns-clause-kept c = record {
  regions = rw c.replace-spelled.ensures.value at c.in_ok-regions.ensures.lawful;
  attributes = rw c.replace-named.ensures.value at c.in_ok-attributes.ensures.lawful;
  few = rw c.replace-named.ensures.value at c.in_ok-attributes.ensures.within;
  stubs = rw (c.in_ok-places.ensures, c.as_slice.ensures.value, c.in_ok-regions.ensures.ok, c.replace-spelled.ensures.value, c.as_slice-entries.ensures.value) at c.in_ok-stubs.ensures.lawful;
  few_stubs = rw c.as_slice-entries.ensures.value at c.in_ok-stubs.ensures.within;
}

pub returns-clause-lawful : goal.returns-clause-lawful
returns-clause-lawful c = record {
  regions = let lawful = rw c.replace-spelled.ensures.value at c.in_ok-regions.ensures.lawful in grind arith;
  attributes = rw (c.in_ok-attributes.ensures.ok, c.replace-named.ensures.value) at c.in_ok-attributes.ensures.attributes;
  eight = rw (c.in_ok-attributes.ensures.ok, c.replace-named.ensures.value) at c.in_ok-attributes.ensures.eight;
}

pub returns-clause-numbers : goal.returns-clause-numbers
returns-clause-numbers c = rw (c.in_ok-stubs.ensures.ok, c.as_slice-entries.ensures.value) at c.in_ok-stubs.ensures.fits
