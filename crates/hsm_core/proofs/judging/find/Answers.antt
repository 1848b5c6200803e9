use Rattle.std.proofs.Common.{sym, ◌∙◌}
use Rattle.hsm_core.proofs.NamedFiles.{found_live}
use Rattle.hsm_core.proofs.judging.find.Goals as goal

pub size-requires : goal.size-requires
size-requires g c = (found_live c.args.name.now c.args.files.now.held.files c.in-Some.key (sym c.find.ensures ∙ c.in-Some.is)).1

pub returns-in-Some-clause-target : goal.returns-in-Some-clause-target
returns-in-Some-clause-target g c =
    let found = found_live c.args.name.now c.args.files.now.held.files c.in-Some.key (sym c.find.ensures ∙ c.in-Some.is) in
    record { key = found.0; live = found.1; size = c.size.ensures.size; limit = c.size.ensures.countable }
