use Rattle.std.proofs.Common.{ap, sym, ◌∙◌}
use Rattle.hsm_types.specs.Rights.{holding, right_or_null}
use Rattle.std.specs.Option.{option_copied}
use Rattle.token_rights.proofs.Indexed.{lookup-is_at}
use Rattle.token_rights.proofs.rights.Rights.query.Goals as goal

pub returns-in-Some-clause-right : goal.returns-in-Some-clause-right
returns-in-Some-clause-right c =
    rw (← c.self.view_is) (ap right_or_null (ap option_copied (sym c.in-Some.is) ∙ c.get.ensures.value ∙ lookup-is_at (holding c.args.token c.args.key) c.self.inside.by_file.entries))
