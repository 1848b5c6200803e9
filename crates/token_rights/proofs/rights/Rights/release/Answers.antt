use Rattle.std.proofs.Common.{◌∙◌}
use Rattle.token_rights.proofs.Indexed.{without-is_at, indexed-without}
use Rattle.token_rights.proofs.rights.Rights.release.Goals as goal

pub invariant_of-self : goal.invariant_of-self
invariant_of-self c =
    rw (c.remove-right.ensures.entries ∙ without-is_at c.args.token c.args.key c.self.inside.by_file.entries)
    (indexed-without c.args.token c.args.key c.self.inside.by_file.entries c.self.inside.by_token.keys c.self.invariant c.remove-held.new.self.keys c.remove-held.ensures.updates.0)
