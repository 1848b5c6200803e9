use Rattle.std.proofs.Common.{◌≡◌, ◌<◌, ◌^◌, None, true, sym, ◌∙◌, rules}
use Rattle.std.specs.BTreeSet.{Updates}
use Rattle.std.specs.BTreeMap.{get}
use Rattle.hsm_types.specs.Rights.{holding, holding_cmp, with_right}
use Rattle.token_rights.specs.Indices.{held, held_cmp}
use Rattle.token_rights.proofs.Indexed.{lookup-is_at, indexed-with, indexed-back, given-rights}
use Rattle.token_rights.proofs.rights.Rights.give.Goals as goal

pub invariant_of-self-then-is_err : goal.invariant_of-self-then-is_err
invariant_of-self-then-is_err c =
    let put : Updates held_cmp c.self.inside.by_token c.insert.new.self (held c.args.token c.args.key) true = search rules in
    let none : get holding_cmp c.self.inside.by_file (holding c.args.token c.args.key) ≡ None = search rules in
    let same : c.insert-2.new.self.entries ≡ c.self.inside.by_file.entries = search rules in
    rw same
    (indexed-back c.args.token c.args.key c.self.inside.by_file.entries c.self.inside.by_token.keys c.self.invariant c.insert.new.self.keys c.remove-removed.new.self.keys (sym (lookup-is_at (holding c.args.token c.args.key) c.self.inside.by_file.entries) ∙ none) put.0 c.remove-removed.ensures.updates.0)

pub invariant_of-self-else-is_err : goal.invariant_of-self-else-is_err
invariant_of-self-else-is_err c =
    let put : Updates held_cmp c.self.inside.by_token c.insert.new.self (held c.args.token c.args.key) true = search rules in
    let entries : c.insert-2.new.self.entries ≡ with_right c.args.token c.args.key c.args.right c.self.inside.by_file.entries = search rules in
    let small : c.args.token.0 < 2 ^ 64 = search rules in
    rw entries
    (indexed-with c.args.token c.args.key c.self.inside.by_file.entries c.self.inside.by_token.keys c.self.invariant c.args.right c.insert.new.self.keys
    (given-rights c.args.token c.args.key c.args.right c.self.inside.by_file.entries c.self.invariant.are (rw c.self.view_is c.requires.higher) (rw c.self.view_is c.requires.free)) small put.0)
