use Rattle.std.proofs.Common.{◌∙◌, ℕ, Option, take, drop, sym, ap}
use Rattle.block_cache.specs.Lent.{cached_block}
use Rattle.block_cache.proofs.PartLists.{zeros_cut}
use Rattle.block_cache.proofs.lending.lend.Goals as goal

pub returns-in-None : goal.returns-in-None
returns-in-None c = zeros_cut c.args.start c.args.len c.requires.within ∙ ap (λ (p : Option ℕ). take c.args.len (drop c.args.start (cached_block c.args.cache.now p))) (sym c.in-None.is)
