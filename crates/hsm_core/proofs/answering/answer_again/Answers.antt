use Rattle.std.proofs.Common.{refl, sym, ◌∙◌, ap}
use Rattle.std.specs.Option.{option_copied}
use Rattle.hsm_core.proofs.Refused.{idle_replied, still_replied}
use Rattle.hsm_core.proofs.answering.answer_again.Goals as goal

pub returns-in_default-clause-replied : goal.returns-in_default-clause-replied
returns-in_default-clause-replied g c =
    idle_replied g.D.Disk c.args.files.now c.args.number c.args.stamps.now.entries c.args.service.now c.args.caller c.requires.working c.requires.idle c.refused.result
    (sym c.pending.ensures.access ∙ ap option_copied c.in_default.is) c.refused.ensures

pub returns-in-Some-None-clause-replied : goal.returns-in-Some-None-clause-replied
returns-in-Some-None-clause-replied g c =
    still_replied g.D.Disk c.args.files.now c.args.number c.args.stamps.now.entries c.args.service.now c.args.caller c.requires.working c.requires.idle c.in-Some.access.now c.in-Some-None.token _
    (sym c.pending.ensures.access ∙ ap option_copied c.in-Some.is) c.in-Some-None.is-0 c.in-Some-None.is-1 (refl, refl)

pub returns-clause-replied : goal.returns-clause-replied
returns-clause-replied g c = c.go_on.ensures.replied
