use Rattle.std.proofs.Common.{◌∙◌, ℕ, List, nat_eq, sym, ap, subst}
use Rattle.std.specs.Map.{keys_of}
use Rattle.lru.specs.LruCache.{LruCache}
use Rattle.lru.proofs.CallerLemmas.{Contains-remove_entry}
use Rattle.block_cache.specs.Cached.{Cache, AreBlocks, cached_blocks, without}
use Rattle.block_cache.proofs.Used.{gone_after, keys_removed}
use Rattle.block_cache.proofs.cache.BlockCache.forget.Goals as goal

pub invariant_of-self : goal.invariant_of-self
invariant_of-self c = (
  ap (λ (l : LruCache ℕ (List ℕ)). l.cap) c.pop.ensures.entries ∙ c.self.invariant.0,
  subst (λ (l : LruCache ℕ (List ℕ)). AreBlocks l.entries) (sym c.pop.ensures.entries) (λ e d. c.self.invariant.1 e (Contains-remove_entry (nat_eq c.args.block) c.self.inside.blocks.entries e d)),
  c.self.invariant.2,
)

pub returns-clause-rest : goal.returns-clause-rest
returns-clause-rest c =
    ap (λ (l : LruCache ℕ (List ℕ)). keys_of l.entries) c.pop.ensures.entries ∙ keys_removed c.args.block c.self.inside.blocks.entries
    ∙ ap (λ (s : Cache). without c.args.block (cached_blocks s)) c.self.view_is

pub returns-clause-gone : goal.returns-clause-gone
returns-clause-gone c = rw c.pop.ensures.entries (gone_after c.args.block c.self.inside.blocks.entries c.len-count.ensures.valid.0)
