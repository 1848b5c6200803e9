use Rattle.std.proofs.Common.{◌≡◌, ℕ, pos, Option, Some, IfSome, IfNone, refl, subst}
use Rattle.toml.specs.Data.{Data}
use Rattle.toml.proofs.Views.{table_get}
use Rattle.hsm_policy.specs.Documents.{number_or}
use Rattle.hsm_policy.proofs.reading.said_at.Goals as goal

pub returns-in-Some : goal.returns-in-Some
returns-in-Some c =
    let found = table_get c.get.result c.args.name.now c.args.document.now.entries c.get.ensures.value in
    let here = rw c.in-Some.is at found in
    record {
      some = subst (λ (value : Option Data). IfSome c.whole.result (λ n. number_or c.args.normal value ≡ Some (pos n))) here c.whole.ensures.some;
      none = subst (λ (value : Option Data). IfNone c.whole.result ((n : ℕ) → ¬ (number_or c.args.normal value ≡ Some (pos n)))) here c.whole.ensures.none;
    }

pub returns-in-None : goal.returns-in-None
returns-in-None c =
    let found = table_get c.get.result c.args.name.now c.args.document.now.entries c.get.ensures.value in
    let here = rw c.in-None.is at found in
    record { some = rw (← here) refl; none = tt }
