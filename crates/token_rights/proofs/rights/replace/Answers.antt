use Rattle.std.proofs.Common.{◌≡◌, ap, sym, ◌∙◌}
use Rattle.hsm_types.specs.Rights.{holding, right_or_null, right_of}
use Rattle.std.specs.Option.{option_copied_mut}
use Rattle.hsm_types.specs.declared.dm.Right.TheVariants.{Null}
use Rattle.token_rights.proofs.Indexed.{lookup-is_at, set-is-with}
use Rattle.token_rights.proofs.rights.replace.Goals as goal

pub returns-in-Some : goal.returns-in-Some
returns-in-Some c = (c.get_mut.follows.holds c.args.right).0 ∙ set-is-with c.args.token c.args.key c.args.right c.args.by_file.now.entries c.get_mut.ensures.ordered c.requires

pub returns-in_default : goal.returns-in_default
returns-in_default c =
    let none : right_of c.args.token c.args.key c.args.by_file.now.entries ≡ Null = ap right_or_null (sym (lookup-is_at (holding c.args.token c.args.key) c.args.by_file.now.entries) ∙ sym c.get_mut.ensures.value ∙ ap option_copied_mut c.in_default.is) in
    absurd (c.requires none)
