use Rattle.std.proofs.Common.{◌≡◌, ◌<◌, ◌^◌, None, rules}
use Rattle.hsm_types.specs.Rights.{right_of, too_low}
use Rattle.hsm_types.specs.declared.dm.Right.TheVariants.{Shared, Excl}
use Rattle.hsm_types.proofs.Righted.{downgraded-rights}
use Rattle.token_rights.proofs.Indexed.{indexed-replaced, high_enough, some_right-held}
use Rattle.token_rights.proofs.rights.Rights.downgrade.Goals as goal

pub replace-requires : goal.replace-requires
replace-requires c =
    some_right-held Excl (right_of c.args.token c.args.key c.self.inside.by_file.entries) (λ same. cc) (rw (c.self.view_is, ← c.query.ensures.right) c.in_ok-check_reaches.ensures)

pub invariant_of-self : goal.invariant_of-self
invariant_of-self c =
    let rights = c.self.inside.by_file.entries in
    let judged : too_low Excl (right_of c.args.token c.args.key rights) ≡ None = rw (c.self.view_is, ← c.query.ensures.right) c.in_ok-check_reaches.ensures in
    let small : c.args.token.0 < 2 ^ 64 = search rules in
    rw c.replace.ensures
    (indexed-replaced c.args.token c.args.key rights c.self.inside.by_token.keys c.self.invariant Shared
    (downgraded-rights c.args.token c.args.key rights c.self.invariant.are (high_enough Excl (right_of c.args.token c.args.key rights) judged)) small
    (some_right-held Excl (right_of c.args.token c.args.key rights) (λ same. cc) judged))
