use Rattle.std.proofs.Common.{sym, ◌∙◌}
use Rattle.hsm_types.specs.declared.calls.CallRefusal.TheVariants.{Waiting}
use Rattle.hsm_core.proofs.Refused.{copied_some, copied_none, waiting_replied, refused_replied}
use Rattle.hsm_core.proofs.Syncs.{never_synced, where_synced}
use Rattle.hsm_core.proofs.answering.answer.Goals as goal

pub returns-then-is_some-clause-replied : goal.returns-then-is_some-clause-replied
returns-then-is_some-clause-replied g c =
    waiting_replied g.D.Disk c.args.files.now c.args.number c.args.stamps.now.entries c.args.service.now c.args.caller c.requires.working c.requires.idle c.args.access.now.call c.refused.result
    (copied_some c.pending.result _ c.pending.ensures.access (sym c.is_some.ensures ∙ c.if-is_some.true)) c.refused.ensures

pub returns-then-is_some-clause-synced : goal.returns-then-is_some-clause-synced
returns-then-is_some-clause-synced g c = never_synced c.args.access.now.call Waiting c.refused.result.0 c.refused.ensures.0

pub returns-in-Ok-clause-replied : goal.returns-in-Ok-clause-replied
returns-in-Ok-clause-replied g c = c.begin.ensures.replied

pub returns-in-Ok-clause-synced : goal.returns-in-Ok-clause-synced
returns-in-Ok-clause-synced g c = where_synced _ c.args.access.now.call c.begin.result c.begin.ensures.synced

pub returns-in-Err-clause-replied : goal.returns-in-Err-clause-replied
returns-in-Err-clause-replied g c =
    refused_replied g.D.Disk c.args.files.now c.args.number c.args.stamps.now.entries c.args.service.now c.args.caller c.requires.working c.requires.idle c.args.access.now.call c.in-Err.why c.refused-in-Err.result
    (copied_none c.pending.result _ c.pending.ensures.access (sym c.is_some.ensures ∙ c.if-is_some.false)) c.in-Err.ensures.judged c.refused-in-Err.ensures

pub returns-in-Err-clause-synced : goal.returns-in-Err-clause-synced
returns-in-Err-clause-synced g c = never_synced c.args.access.now.call c.in-Err.why c.refused-in-Err.result.0 c.refused-in-Err.ensures.0
