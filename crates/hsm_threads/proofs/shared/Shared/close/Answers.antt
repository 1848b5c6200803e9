use Rattle.std.proofs.Common.{◌≡◌, ◌∙◌, sym, rules}
use Rattle.std.specs.Prelude.{IsTrue}
use Rattle.hsm_threads.proofs.Publishing.{all_published}
use Rattle.hsm_threads.proofs.shared.Shared.close.Goals as goal

pub close-requires-clause-all : goal.close-requires-clause-all
close-requires-clause-all g c = let all : IsTrue c.has_all.result = search rules in c.has_all.ensures.0 all

pub close-requires-clause-same : goal.close-requires-clause-same
close-requires-clause-same g c = λ k d less. c.requires.tables k d less ∙ sym c.args.self.at

pub returns-clause-all : goal.returns-clause-all
returns-clause-all g c = let all : IsTrue c.has_all.result = search rules in c.has_all.ensures.0 all

pub returns-clause-published : goal.returns-clause-published
returns-clause-published g c = all_published g.N.Named.table c.close-hsm.result.0.history c.close-hsm.result.1.pass c.args.passes c.close-hsm.ensures.pen c.close.ensures
