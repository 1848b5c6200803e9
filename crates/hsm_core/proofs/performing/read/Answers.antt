use Rattle.std.proofs.Common.{ℕ, List, ◌∙◌, ap}
use Rattle.hsm_types.specs.declared.calls.Reply.TheVariants.{Data}
use Rattle.hsm_core.proofs.Looking.{looked, look_lacked, look_failed}
use Rattle.hsm_core.proofs.performing.read.Goals as goal

pub returns-in_err-bytes-clause-ends : goal.returns-in_err-bytes-clause-ends
returns-in_err-bytes-clause-ends g c = look_failed g.D.Disk c.args.files.now c.read.new.self c.in_err-bytes.field-0.0 c.from_residual.result c.in_err-bytes.ensures.looks c.from_residual.ensures.1

pub returns-in_err-again-clause-ends : goal.returns-in_err-again-clause-ends
returns-in_err-again-clause-ends g c = look_lacked g.D.Disk c.args.files.now c.read.new.self c.in_ok-bytes.bytes c.from_residual-in_err-again.result c.in_ok-bytes.ensures.looks c.from_residual-in_err-again.ensures.1

pub returns-clause-reply : goal.returns-clause-reply
returns-clause-reply g c =
    let shown = c.in_ok-bytes.ensures.bytes in
    (shown.0, shown.1, (ap (λ (bytes : List ℕ). Data bytes) shown.2, ap (λ (bytes : List ℕ). Data bytes) (c.in_ok-again.ensures.cases ∙ shown.2)))

pub returns-clause-ends : goal.returns-clause-ends
returns-clause-ends g c = looked g.D.Disk c.args.files.now c.read.new.self c.in_ok-bytes.bytes _ c.in_ok-bytes.ensures.looks
