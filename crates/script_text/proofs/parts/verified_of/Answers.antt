use Rattle.call_forms.specs.declared.parts.PartKind.TheVariants as kinds
use Rattle.call_forms.specs.Parts.{verified_in}
use Rattle.script_text.proofs.DataParts.{data_few}
use Rattle.script_text.proofs.Parting.{none_made}
use Rattle.script_text.proofs.parts.verified_of.Goals as goal

pub returns-in_default : goal.returns-in_default
returns-in_default c x h same =
    none_made kinds.Verified c.args.text.now (λ ps seed k is. (rw c.in_default.is at c.in_ok-bytes.ensures) (record { bytes = verified_in ps; seed = seed }) k.0 is) x h same

pub of-requires : goal.of-requires
of-requires c =
    let read = rw c.in-Some.is at c.in_ok-bytes.ensures in
    data_few c.in-Some.field-0.seed c.in-Some.field-0.bytes read.0 (rw read.1 at c.requires)
