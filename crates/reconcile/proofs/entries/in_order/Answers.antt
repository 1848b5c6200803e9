use Rattle.std.proofs.Common.{◌≡◌, subst, List, arith, rules}
use Rattle.std.proofs.lemmas.Grind.{common_steps}
use Rattle.std.proofs.lemmas.List.Sorted.{IsNonDecreasingBy-from_sort_by_key}
use Rattle.hsm_types.specs.declared.stubs.StubEntry.{StubEntry}
use Rattle.reconcile.specs.Classes.{entries_of}
use Rattle.reconcile.specs.Steps.{place, InOrder}
use Rattle.reconcile.proofs.entries.in_order.Goals as goal

pub returns : goal.returns
returns c =
    let all : c.loop-row.entries.items ≡ entries_of c.args.table.now = grind (arith, common_steps) in
    let done : InOrder c.loop-row.entries.items c.sort_unstable_by_key.new.self.items = record {
      same = c.sort_unstable_by_key.ensures.permutation;
      ascending = IsNonDecreasingBy-from_sort_by_key place _ c.sort_unstable_by_key.ensures.sorted (λ a r q k. search rules);
    } in
    subst (λ (given : List StubEntry). InOrder given c.sort_unstable_by_key.new.self.items) all done
