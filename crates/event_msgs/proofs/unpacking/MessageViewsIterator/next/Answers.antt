use Rattle.std.proofs.Common.{map, ap}
use Rattle.event_msgs.specs.Views.{shown}
use Rattle.event_msgs.proofs.Walks.{is_left, walk_ends, walk_steps}
use Rattle.event_msgs.proofs.unpacking.MessageViewsIterator.next.Goals as goal

pub returns-in_err-view-clause-steps : goal.returns-in_err-view-clause-steps
returns-in_err-view-clause-steps c =
    let left = is_left c.self.inside.left.now c.args.self.now c.self.view_is c.self.invariant.0 c.self.invariant.1 in
    let none = walk_ends c.self.inside.left.now c.args.self.now c.message_at.result left c.in_err-view.was c.message_at.ensures in
    let ended = ap (map shown) none in
    rw c.from_residual.ensures (ended, ended)

pub invariant_of-self : goal.invariant_of-self
invariant_of-self c =
    let left = is_left c.self.inside.left.now c.args.self.now c.self.view_is c.self.invariant.0 c.self.invariant.1 in
    let step = walk_steps c.self.inside.left.now c.args.self.now c.in_ok-view.view c.in_ok-view.left left c.in_ok-view.ensures in
    (step.each, step.bytes)

pub returns-clause-steps : goal.returns-clause-steps
returns-clause-steps c =
    let left = is_left c.self.inside.left.now c.args.self.now c.self.view_is c.self.invariant.0 c.self.invariant.1 in
    (walk_steps c.self.inside.left.now c.args.self.now c.in_ok-view.view c.in_ok-view.left left c.in_ok-view.ensures).steps

pub returns-clause-goes : goal.returns-clause-goes
returns-clause-goes c =
    let left = is_left c.self.inside.left.now c.args.self.now c.self.view_is c.self.invariant.0 c.self.invariant.1 in
    let step = walk_steps c.self.inside.left.now c.args.self.now c.in_ok-view.view c.in_ok-view.left left c.in_ok-view.ensures in
    record { on = λ _. (tt, tt, step.fewer); keeps = tt; rests = λ _. tt }
