use Rattle.std.proofs.Common.{◌≡◌, true, ap, ◌∙◌}
use Rattle.hsm_types.specs.Rights.{conflict, busy, requested}
use Rattle.dm_service.specs.Tables.{Tables, is_open}
use Rattle.dm_service.proofs.Righted.{ended_kept, requested_kept}
use Rattle.dm_service.proofs.service.DmService.request.Goals as goal

abbrev before : goal.After-request → Tables
before c = record { sessions = c.self.inside.sessions; tokens = c.self.inside.tokens; rights = c.self.inside.rights; park = c.self.inside.park }

pub invariant_of-self : goal.invariant_of-self
invariant_of-self c =
    let opened : is_open c.self.inside.sessions c.args.token.0 ≡ true = ap (λ (t : Tables). is_open t.sessions c.args.token.0) c.self.view_is ∙ c.requires in
    ended_kept (before c) c.self.inside.open_tokens c.self.invariant c.args.token c.args.key c.request.result _ (busy (conflict c.args.key c.args.right c.args.token c.self.inside.rights))
    (requested c.args.token c.args.key c.args.right c.self.inside.rights) c.request.new.self
    (requested_kept (before c) c.self.inside.open_tokens c.self.invariant c.args.token c.args.key c.args.right opened) c.request.ensures.judged c.request.ensures.after c.request.ensures.err
