use Rattle.hsm_types.specs.Rights.{right_of, too_low, with_right}
use Rattle.hsm_types.specs.declared.dm.Right.TheVariants.{Shared, Excl}
use Rattle.dm_service.specs.Tables.{Tables}
use Rattle.dm_service.proofs.Righted.{ended_kept, downgraded_kept}
use Rattle.dm_service.proofs.service.DmService.downgrade.Goals as goal

abbrev before : goal.After-downgrade → Tables
before c = record { sessions = c.self.inside.sessions; tokens = c.self.inside.tokens; rights = c.self.inside.rights; park = c.self.inside.park }

pub invariant_of-self : goal.invariant_of-self
invariant_of-self c =
    ended_kept (before c) c.self.inside.open_tokens c.self.invariant c.args.token c.args.key c.downgrade.result _ (too_low Excl (right_of c.args.token c.args.key c.self.inside.rights))
    (with_right c.args.token c.args.key Shared c.self.inside.rights) c.downgrade.new.self
    (downgraded_kept (before c) c.self.inside.open_tokens c.self.invariant c.args.token c.args.key) c.downgrade.ensures.judged c.downgrade.ensures.after c.downgrade.ensures.err
