use Rattle.std.proofs.Common.{sym, subst, arith}
use Rattle.std.specs.Map.{keys_of}
use Rattle.block_cache.specs.Cached.{Cache, AreIn, AreShown, cached_blocks}
use Rattle.block_cache.proofs.Runs.{ok_then}
use Rattle.block_cache.proofs.Used.{used_all_in}
use Rattle.block_cache.proofs.cache.BlockCache.load.Goals as goal

pub returns-clause-used : goal.returns-clause-used
returns-clause-used g c = rw (sym c.self.view_is) c.load_all.ensures.keys

pub returns-clause-cached : goal.returns-clause-cached
returns-clause-cached g c =
    let bs = c.args.blocks.now in
    ok_then c.load_all.result (λ is. subst (AreIn bs) (sym is) (used_all_in bs (keys_of c.self.inside.blocks.entries) (omega (arith, c.requires.few)))) c.load_all.ensures.keys

pub returns-clause-stopped : goal.returns-clause-stopped
returns-clause-stopped g c = rw (sym c.self.view_is) c.load_all.ensures.stopped

pub returns-clause-fresh : goal.returns-clause-fresh
returns-clause-fresh g c fresh content gives =
    let L = c.load_all.ensures in
    let before = L.reads.1.0 content gives in
    L.shown content before (subst (λ (s : Cache). AreShown s.at content s.entries) (sym c.self.view_is) (fresh content before))

pub returns-clause-there : goal.returns-clause-there
returns-clause-there g c are = c.load_all.ensures.there (subst (λ (s : Cache). AreIn c.args.blocks.now (cached_blocks s)) (sym c.self.view_is) are)
