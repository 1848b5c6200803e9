use Rattle.hsm_replay.proofs.OnDrives.{fetch_comes, fetch_lacks}
use Rattle.hsm_replay.proofs.performing.fetch_on.Goals as goal

pub returns-clause-fetched : goal.returns-clause-fetched
returns-clause-fetched g c = fetch_comes g.M.Drive c.args.drive.now c.fetch.new.drive c.args.entry.now c.fetch.result (c.fetch.ensures.answer, c.fetch.ensures.reads, c.fetch.ensures.quiet) c.fetched.result c.fetched.ensures.fetched

pub returns-clause-stopped : goal.returns-clause-stopped
returns-clause-stopped g c = fetch_lacks g.M.Drive c.args.drive.now c.fetch.new.drive c.args.entry.now c.fetch.result (c.fetch.ensures.answer, c.fetch.ensures.reads, c.fetch.ensures.quiet) c.fetched.result c.fetched.ensures.stopped
