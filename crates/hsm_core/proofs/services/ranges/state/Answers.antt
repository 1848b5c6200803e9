use Rattle.hsm_core.proofs.Moved.{entry_len}
use Rattle.hsm_core.proofs.services.ranges.state.Goals as goal

pub returns-clause-len : goal.returns-clause-len
returns-clause-len g c = entry_len _ c.args.files.now.held c.args.key c.args.segment c.meta.ensures.files
