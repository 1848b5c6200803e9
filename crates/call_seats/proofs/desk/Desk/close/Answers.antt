use Rattle.std.proofs.Common.{◌≡◌, List, length, ap, subst, arith, rules}
use Rattle.std.specs.Prelude.{All}
use Rattle.std.specs.Vec.Iter.{into_iter_items}
use Rattle.std.proofs.lemmas.List.Elements.{All-tail}
use Rattle.call_seats.specs.Passes.{Knowledge}
use Rattle.call_seats.proofs.Ending.{all_told, told_first, told_on, whole_first, whole_on}
use Rattle.call_seats.proofs.desk.Desk.close.Goals as goal

pub loop-pass-init : goal.loop-pass-init
loop-pass-init c = search (rules, whole_first, told_first)

pub loop-pass-preserved : goal.loop-pass-preserved
loop-pass-preserved c =
    let so_far = c.loop-pass.invariant in
    let next = c.in-Some-pass.ensures.steps in
    let pen = c.args.pen.pass in
    let rest = into_iter_items c.next.new.self in
    record {
      left = omega (arith, so_far.left, next.1, ap length next.0);
      at = c.end-whole.ensures.table;
      same = All-tail (λ (q : Knowledge). q.table ≡ c.args.self.table) c.in-Some-pass.pass rest (subst (λ (l : List Knowledge). All (λ (q : Knowledge). q.table ≡ c.args.self.table) l) next.0 so_far.same);
      whole = whole_on pen c.loop-pass.whole c.end-whole.result so_far.whole c.end-whole.ensures.kept;
      told = told_on pen c.args.passes _ rest c.in-Some-pass.pass c.loop-pass.whole so_far.whole so_far.told next.0 c.end-whole.ensures.told;
    }

pub returns : goal.returns
returns c = search (rules, all_told)
