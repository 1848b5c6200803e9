use Rattle.std.proofs.Common.{◌∙◌, get_or, sym, arith}
use Rattle.std.specs.Map.{keys_of}
use Rattle.block_cache.proofs.Used.{first_absent, first_neighbour, lookup_has, one_more_absent, one_more_neighbour}
use Rattle.block_cache.proofs.loading.count_neighbours.Goals as goal

pub loop-index-init : goal.loop-index-init
loop-index-init c = record {
  next = first_neighbour c.args.wanted.now c.requires.some;
  gone = first_absent c.args.wanted.now (keys_of c.args.blocks.now.entries) c.requires.some;
}

pub loop-index-preserved : goal.loop-index-preserved
loop-index-preserved c =
    let bs = c.args.wanted.now in
    let i = c.loop-index.index in
    let es = c.args.blocks.now.entries in
    record {
      next = one_more_neighbour (get_or bs 0 0) i bs c.loop-index-test.true c.loop-index.invariant.next (omega (arith, c.if-from-index.false, c.from.ensures, c.from-in-loop-index.ensures));
      gone = λ un. one_more_absent i bs (keys_of es) c.loop-index-test.true (c.loop-index.invariant.gone un) (sym (lookup_has (get_or bs i 0) es) ∙ sym c.contains.ensures ∙ c.if-contains.false);
    }
