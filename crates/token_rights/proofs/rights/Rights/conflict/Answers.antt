use Rattle.std.proofs.Common.{◌≡◌, false, not, ◌&&◌, sym, ap, ◌∙◌, rules}
use Rattle.std.proofs.lemmas.Bool.{and_from, and_left, and_right}
use Rattle.std.specs.Prelude.{filter}
use Rattle.std.specs.List.{find}
use Rattle.hsm_types.specs.Rights.{same_token, excludes}
use Rattle.token_rights.proofs.Looking.{blocks, on_file, find-on_file, found, passed, none-found}
use Rattle.token_rights.proofs.rights.Rights.conflict.Goals as goal
use Rattle.token_rights.proofs.rights.Rights.conflict.Goals.{else-ne-via-then-ne+else-excludes, else-ne-via-else-ne}

pub loop-holding-init : goal.loop-holding-init
loop-holding-init c =
    let part : c.range-holding-items.result ≡ filter (λ e. on_file c.args.key e.0) c.self.inside.by_file.entries = rw (c.new.ensures.start, c.new.ensures.end) at (c.range-holding-items.ensures.between (search rules)) in
    rw (← c.self.view_is)
    (find-on_file c.args.key c.args.need c.args.own c.self.inside.by_file.entries c.self.invariant.tokens ∙ ap (find (blocks c.args.need c.args.own)) (sym (c.into_iter-holding-iterator.ensures.into_iter_gives ∙ part)))

pub returns-then-excludes-clause-token : goal.returns-then-excludes-clause-token
returns-then-excludes-clause-token c =
    found c.args.key c.args.need c.args.own c.args.self.now c.loop-holding.holding-iterator c.loop-holding.invariant (c.in-Some.holding.now, c.in-Some.right.now) c.next.new.self c.in-Some.ensures.steps
    (and_from (not (same_token c.in-Some.holding.now.token c.args.own)) (excludes c.args.need c.in-Some.right.now) (sym c.if-ne.ensures) (sym c.if-excludes.ensures))

pub loop-holding-preserved : goal.loop-holding-preserved
loop-holding-preserved c =
    let other = not (same_token c.in-Some.holding.now.token c.args.own) in
    let high = excludes c.args.need c.in-Some.right.now in
    let free : (other && high) ≡ false = elim c.else-ne.branch [
      | else-ne-via-then-ne+else-excludes w ↦ and_right other high (sym w.excludes.ensures ∙ w.if-excludes.false)
      | else-ne-via-else-ne w ↦ and_left other high (sym c.ne.ensures ∙ w.if-ne.false)
    ] in
    passed c.args.key c.args.need c.args.own c.args.self.now c.loop-holding.holding-iterator c.loop-holding.invariant (c.in-Some.holding.now, c.in-Some.right.now) c.next.new.self c.in-Some.ensures.steps free

pub returns-clause-token : goal.returns-clause-token
returns-clause-token c = none-found c.args.key c.args.need c.args.own c.args.self.now c.loop-holding.holding-iterator c.loop-holding.invariant c.in-None.ensures.steps.0
