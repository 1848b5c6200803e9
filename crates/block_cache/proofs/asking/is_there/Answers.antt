use Rattle.std.proofs.Common.{◌∙◌}
use Rattle.block_cache.proofs.Asked.{hole_there, there_told, told_so}
use Rattle.block_cache.proofs.asking.is_there.Goals as goal

pub returns-in-Some : goal.returns-in-Some
returns-in-Some c = there_told c.args.cache.now c.args.place c.in-Some.block c.is_some.result c.in-Some.is (c.is_some.ensures ∙ c.peek.ensures.there)

pub returns-in-None : goal.returns-in-None
returns-in-None c = told_so (hole_there c.args.cache.now c.args.place c.in-None.is)
