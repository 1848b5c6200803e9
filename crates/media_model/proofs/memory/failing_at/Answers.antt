use Rattle.std.proofs.Common.{◌∙◌, nat_eq, rules, tests}
use Rattle.std.proofs.lemmas.Iterator.{YieldsList-from_slice}
use Rattle.std.proofs.lemmas.Iterator.Search.{find_from_yields_List}
use Rattle.media_model.specs.declared.memory.FailingCall.{FailingCall}
use Rattle.media_model.proofs.memory.failing_at.Goals as goal

pub returns : goal.returns
returns c = c.copied.ensures ∙ find_from_yields_List (λ (call : FailingCall). nat_eq call.number c.args.number) _ _ c.find.result c.find.ensures.ran (YieldsList-from_slice c.args.failing.now cc) (λ x b q k. search (rules, tests))
