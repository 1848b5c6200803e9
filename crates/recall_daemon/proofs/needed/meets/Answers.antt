use Rattle.std.proofs.Common.{arith}
use Rattle.std.proofs.lemmas.Bool.Decides.{nat_tests}
use Rattle.recall_daemon.proofs.Meeting.{met, has_met}
use Rattle.recall_daemon.proofs.needed.meets.Goals as goal

pub returns-then-to-from : goal.returns-then-to-from
returns-then-to-from c = (λ is. absurd cc, λ has. let m = met c.args.from c.args.to c.args.segment has in absurd (omega (arith, m.some)))

pub returns-then-number-from : goal.returns-then-number-from
returns-then-number-from c = (λ is. absurd cc, λ has. let m = met c.args.from c.args.to c.args.segment has in absurd (omega (arith, m.first)))

pub returns : goal.returns
returns c = (
  λ is. has_met c.args.from c.args.to c.args.segment (record { some = c.if-to-from.false; first = omega arith; last = grind (arith, nat_tests, is) }),
  λ has. let m = met c.args.from c.args.to c.args.segment has in let last = m.last in grind (arith, nat_tests, last),
)
