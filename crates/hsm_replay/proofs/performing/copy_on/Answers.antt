use Rattle.hsm_replay.proofs.OnDrives.{copy_comes, copy_lacks}
use Rattle.hsm_replay.proofs.performing.copy_on.Goals as goal

pub returns-clause-copied : goal.returns-clause-copied
returns-clause-copied g c = copy_comes g.M.Drive c.args.drive.now c.copy-answer.new.drive c.args.volume c.args.handle.now c.args.segment c.args.bytes.now c.fingerprint.result c.fingerprint.ensures c.copy-answer.result
    (c.copy-answer.ensures.answer, c.copy-answer.ensures.grows, c.copy-answer.ensures.quiet) c.copied.result c.copied.ensures.copied

pub returns-clause-stopped : goal.returns-clause-stopped
returns-clause-stopped g c = copy_lacks g.M.Drive c.args.drive.now c.copy-answer.new.drive c.args.volume c.args.handle.now c.args.segment c.args.bytes.now c.fingerprint.result c.fingerprint.ensures c.copy-answer.result
    (c.copy-answer.ensures.answer, c.copy-answer.ensures.grows, c.copy-answer.ensures.quiet) c.copied.result c.copied.ensures.stopped
