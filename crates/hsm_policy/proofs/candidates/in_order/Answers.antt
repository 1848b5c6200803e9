use Rattle.std.proofs.Common.{◌≡◌, subst, List, arith, rules}
use Rattle.std.proofs.lemmas.Grind.{common_steps}
use Rattle.std.proofs.lemmas.List.Sorted.{answers_always}
use Rattle.hsm_policy.specs.declared.candidates.Candidate.{Candidate}
use Rattle.hsm_policy.specs.Candidates.{candidates, rank, InOrder}
use Rattle.hsm_policy.proofs.candidates.in_order.Goals as goal

pub returns : goal.returns
returns c =
    let all : c.loop-row.found.items ≡ candidates c.args.table.now = grind (arith, common_steps) in
    let done : InOrder c.loop-row.found.items c.sort_by_key.new.self.items = record {
      same = c.in_ok-sort_by_key.ensures.permutation;
      ascending = c.in_ok-sort_by_key.ensures.sorted rank (answers_always _ _ _ (λ f a r g h. search rules));
      stable = c.in_ok-sort_by_key.ensures.stable rank (answers_always _ _ _ (λ f a r g h. search rules));
    } in
    subst (λ (given : List Candidate). InOrder given c.sort_by_key.new.self.items) all done
