use Rattle.std.proofs.Common.{get_or, refl}
use Rattle.std.specs.Map.{keys_of}
use Rattle.block_cache.proofs.Runs.{err_then}
use Rattle.block_cache.proofs.Used.{stopped_at}
use Rattle.block_cache.proofs.loading.load_run.Goals as goal

pub returns-in_default-clause-stopped : goal.returns-in_default-clause-stopped
returns-in_default-clause-stopped g c = (0, c.requires.some, refl, c.requires.absent 0 c.requires.some)

pub returns-clause-stopped : goal.returns-clause-stopped
returns-clause-stopped g c =
    let run = c.args.run.now in
    err_then c.put_run.result (stopped_at (get_or run 0 0) run (keys_of c.args.blocks.now.entries) (keys_of c.put_run.new.blocks.entries) c.requires.neighbours c.requires.absent) c.put_run.ensures.begun
