use Rattle.std.proofs.Common.{◌∙◌, sym, nat_eq, ap, Option, List, ℕ}
use Rattle.std.specs.Option.{is_some}
use Rattle.lru.proofs.CallerLemmas.{Contains-lookup}
use Rattle.block_cache.specs.Cached.{Cache, cached_blocks, has}
use Rattle.block_cache.proofs.Used.{lookup_has}
use Rattle.block_cache.proofs.cache.BlockCache.peek.Goals as goal

pub returns-in-Some-clause-there : goal.returns-in-Some-clause-there
returns-in-Some-clause-there c = ap (λ (o : Option (List ℕ)). is_some o) c.in-Some.ensures ∙ lookup_has c.args.block c.self.inside.blocks.entries ∙ ap (λ (s : Cache). has c.args.block (cached_blocks s)) c.self.view_is

pub returns-in-None-clause-there : goal.returns-in-None-clause-there
returns-in-None-clause-there c = ap (λ (o : Option (List ℕ)). is_some o) c.in-None.ensures ∙ lookup_has c.args.block c.self.inside.blocks.entries ∙ ap (λ (s : Cache). has c.args.block (cached_blocks s)) c.self.view_is

pub returns-in-Some-clause-size : goal.returns-in-Some-clause-size
returns-in-Some-clause-size c = let e = Contains-lookup (nat_eq c.args.block) c.self.inside.blocks.entries c.in-Some.bytes.now (sym c.in-Some.ensures) in rw c.as_slice.ensures (c.self.invariant.1 (e.0, c.in-Some.bytes.now) e.1)
