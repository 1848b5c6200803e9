use Rattle.std.proofs.Common.{◌∙◌, ap}
use Rattle.atomic_table.specs.Table.{Me}
use Rattle.call_seats.specs.declared.views.View.{View}
use Rattle.call_seats.specs.Views.{dealing}
use Rattle.call_seats.proofs.Dealing.{next_dealt}
use Rattle.call_seats.proofs.desk.Desk.new.Goals as goal

pub loop-count-preserved : goal.loop-count-preserved
loop-count-preserved c =
    let so_far = c.loop-count.invariant in
    let deal = c.deal-seat.ensures in
    record {
      at = deal.at.0;
      first = deal.left ∙ ap (λ (m : Me (Unit {0}) View). (dealing m.0, m.1)) so_far.first;
      dealt = next_dealt _ c.loop-count.count c.loop-count.dealt.items c.push.new.self.items c.loop-count.first.me c.deal-seat.result so_far.dealt so_far.first deal.at.1.same deal.right c.in_ok-push.ensures.items;
    }
