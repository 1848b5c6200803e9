use Rattle.file_store.specs.Stores.{superblock_of}
use Rattle.hsm_core.proofs.Serving.{stopped_by_session}
use Rattle.hsm_core.proofs.services.scope.judge_scope.Goals as goal

pub returns-in-Err-clause-judged : goal.returns-in-Err-clause-judged
returns-in-Err-clause-judged g c stamps number =
    stopped_by_session (superblock_of c.args.files.now) c.args.files.now.held stamps c.args.service.now number c.args.sid c.args.scope c.in-Err.why c.in-Err.ensures.judged
