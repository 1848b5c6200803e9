use Rattle.std.proofs.Common.{◌≡◌, List, ap, sym, subst}
use mathlib.Core.List.{IsPrefix}
use Rattle.call_seats.specs.Passes.{Knowledge}
use Rattle.call_seats.specs.Views.{longer}
use Rattle.call_seats.specs.declared.views.Mark.{Mark}
use Rattle.call_seats.proofs.Beginnings.{longer_by, prefix_self, prefix_trans}
use Rattle.thread_tests.proofs.passing.call_after.Goals as goal

pub returns : goal.returns
returns g c =
    let first = c.args.first.seen in
    let told : IsPrefix first (longer first c.args.second.seen) = longer_by (λ (ms : List Mark). IsPrefix first ms) first c.args.second.seen (λ shorter. c.meet-second.ensures.list.first shorter) (λ longer. prefix_self first) in
    prefix_trans first c.meet-second.result.1.seen c.call.result.1.seen (subst (λ (ms : List Mark). IsPrefix first ms) (sym (ap (λ (two : Knowledge × Knowledge). two.1.seen) c.meet-second.ensures.met)) told) c.call.ensures.begins
