use Rattle.std.proofs.Common.{sym, ap, ◌∙◌, nat_eq}
use Rattle.std.proofs.lemmas.Result.{on_err_weaker}
use Rattle.std.proofs.lemmas.Map.Steps.{set_value_same}
use Rattle.std.specs.Map.{set_value}
use Rattle.media_model.proofs.sure.push.Goals as goal

pub returns-in-Some-clause-err : goal.returns-in-Some-clause-err
returns-in-Some-clause-err c = on_err_weaker c.push.result (λ e. (c.get_mut.follows.holds c.push.new.self).0 ∙ ap (set_value (nat_eq c.args.volume) c.args.volumes.now.entries) e ∙ set_value_same (nat_eq c.args.volume) c.args.volumes.now.entries c.in-Some.found.now (sym c.in-Some.ensures.value)) c.push.ensures.err
