use Rattle.std.proofs.Common.{[], ◌∷◌}
use Rattle.hsm_types.specs.Refusals.{first_refusal}
use Rattle.hsm_types.specs.Rights.{right_of, conflict, busy, too_low, with_right}
use Rattle.hsm_types.specs.declared.dm.Right.TheVariants.{Shared, Excl}
use Rattle.dm_service.specs.Tables.{Tables}
use Rattle.dm_service.proofs.Righted.{ended_kept, upgraded_kept}
use Rattle.dm_service.proofs.service.DmService.upgrade.Goals as goal

abbrev before : goal.After-upgrade → Tables
before c = record { sessions = c.self.inside.sessions; tokens = c.self.inside.tokens; rights = c.self.inside.rights; park = c.self.inside.park }

pub invariant_of-self : goal.invariant_of-self
invariant_of-self c =
    ended_kept (before c) c.self.inside.open_tokens c.self.invariant c.args.token c.args.key c.upgrade.result _
    (first_refusal (too_low Shared (right_of c.args.token c.args.key c.self.inside.rights) ∷ busy (conflict c.args.key Excl c.args.token c.self.inside.rights) ∷ []))
    (with_right c.args.token c.args.key Excl c.self.inside.rights) c.upgrade.new.self
    (upgraded_kept (before c) c.self.inside.open_tokens c.self.invariant c.args.token c.args.key) c.upgrade.ensures.judged c.upgrade.ensures.after c.upgrade.ensures.err
