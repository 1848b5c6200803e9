use Rattle.call_forms.specs.declared.parts.PartKind.TheVariants as kinds
use Rattle.call_forms.specs.Parts.{data_in}
use Rattle.script_text.proofs.Parting.{none_made}
use Rattle.script_text.proofs.parts.data_of.Goals as goal

pub returns-in_default : goal.returns-in_default
returns-in_default c x h same =
    none_made kinds.Data c.args.text.now (λ ps seed k is. (rw c.in_default.is at c.in_ok-bytes.ensures) (record { bytes = data_in ps; seed = seed }) k is) x h same
