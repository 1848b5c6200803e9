use Rattle.std.proofs.Common.{ap, sym, ◌∙◌, arith}
use Rattle.journal_records.specs.Reading.{record_at}
use Rattle.journal_records.proofs.StandingRecords.{rest_is, behind, stands, none_stands, one_stands, fails_bad}
use Rattle.journal_records.proofs.reading.read.Goals as goal

pub overflow_sub-result : goal.overflow_sub-result
overflow_sub-result c =
    behind c.args.bytes.now c.args.place (c.in-Ok.record, c.in-Ok.rest.now) (λ i. omega (arith, c.type_inv.bytes i)) (ap record_at (sym (rest_is c.args.bytes.now c.args.place)) ∙ c.in-Ok.ensures)

pub returns-in-Ok-clause-read : goal.returns-in-Ok-clause-read
returns-in-Ok-clause-read c =
    stands c.args.bytes.now c.args.place (c.in-Ok.record, c.in-Ok.rest.now) (λ i. omega (arith, c.type_inv.bytes i)) c.requires (ap record_at (sym (rest_is c.args.bytes.now c.args.place)) ∙ c.in-Ok.ensures)

pub returns-in-Ok-clause-no_other : goal.returns-in-Ok-clause-no_other
returns-in-Ok-clause-no_other c = λ s next there.
    one_stands c.args.bytes.now c.args.place _ s _ next
    (stands c.args.bytes.now c.args.place (c.in-Ok.record, c.in-Ok.rest.now) (λ i. omega (arith, c.type_inv.bytes i)) c.requires (ap record_at (sym (rest_is c.args.bytes.now c.args.place)) ∙ c.in-Ok.ensures)) there

pub returns-in-Err-Bad-clause-bad : goal.returns-in-Err-Bad-clause-bad
returns-in-Err-Bad-clause-bad c = λ at is. (cc, none_stands c.args.bytes.now c.args.place (ap record_at (sym (rest_is c.args.bytes.now c.args.place)) ∙ fails_bad _ _ c.in-Err-Bad.field-0-is c.in-Err-Bad.ensures))
