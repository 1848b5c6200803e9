use Rattle.std.proofs.Common.{refl, sym, ap}
use Rattle.plain_model.specs.declared.entries.Entry.{Entry}
use Rattle.hsm_threads.proofs.Holding.{held_first}
use Rattle.hsm_threads.proofs.held.Held.new.Goals as goal

pub invariant_of-result : goal.invariant_of-result
invariant_of-result g c = (held_first g.N.Named.opened c.args.hsm c.requires.named c.requires.empty, (_, c.requires.pen, record { at = refl; right = refl; seen = sym c.requires.empty }))
