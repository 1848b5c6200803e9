use Rattle.drill_script.proofs.Lawful.{drill_lawful}
use Rattle.drill_script.proofs.Turning.{drill_made}
use Rattle.drill_script.proofs.script.drill_script.Goals as goal

pub new-requires-2 : goal.new-requires-2
new-requires-2 c =
    let made = drill_made c.args.n _ _ _ _ _ _ c.new-lines.ensures.items c.in_ok-push.ensures.items c.in_ok-push-2.ensures.items c.in_ok-push_creates.ensures c.new.ensures c.in_ok-push_turns.ensures in
    rw made (drill_lawful c.args.n)

pub returns : goal.returns
returns c =
    rw c.new-2.ensures (drill_made c.args.n _ _ _ _ _ _ c.new-lines.ensures.items c.in_ok-push.ensures.items c.in_ok-push-2.ensures.items c.in_ok-push_creates.ensures c.new.ensures c.in_ok-push_turns.ensures)
