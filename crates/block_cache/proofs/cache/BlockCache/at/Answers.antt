use Rattle.std.proofs.Common.{◌≤◌, ℕ, List, nat_eq, length, subst, arith}
use Rattle.std.specs.List.{IsDistinct}
use Rattle.std.proofs.lemmas.List.{length-map}
use Rattle.block_cache.specs.Cached.{Cache, cached_blocks}
use Rattle.block_cache.proofs.cache.BlockCache.at.Goals as goal

pub returns-clause-few : goal.returns-clause-few
returns-clause-few c =
    let es = c.self.inside.blocks.entries in
    subst (λ (s : Cache). length (cached_blocks s) ≤ 256) c.self.view_is (omega (arith, length-map es (λ (e : ℕ × List ℕ). e.0), c.len-count.ensures.valid.1, c.self.invariant.0))

pub returns-clause-once : goal.returns-clause-once
returns-clause-once c = subst (λ (s : Cache). IsDistinct nat_eq (cached_blocks s)) c.self.view_is c.len-count.ensures.valid.0
