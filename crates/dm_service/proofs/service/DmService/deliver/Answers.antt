use Rattle.std.proofs.Common.{◌≡◌, [], ◌∷◌, None, refl, subst}
use Rattle.std.specs.Prelude.{OnOk}
use Rattle.hsm_types.specs.Refusals.{first_refusal}
use Rattle.hsm_types.specs.Sessions.{dead_session, none_fits, queue_of}
use Rattle.hsm_types.specs.declared.dm.DmCall.TheVariants.{GetEvents}
use Rattle.plain_model.specs.State.{noted}
use Rattle.plain_model.specs.Services.{dm_state_where}
use Rattle.dm_service.specs.Tables.{Tables, awaited_in, seen, AreKept}
use Rattle.dm_service.specs.Services.{any_superblock}
use Rattle.dm_service.proofs.Served.{changed_by, ok_judged}
use Rattle.dm_service.proofs.service.DmService.deliver.Goals.{After-deliver}
use Rattle.dm_service.proofs.service.DmService.deliver.Goals as goal

abbrev before : After-deliver → Tables
before c = record { sessions = c.self.inside.sessions; tokens = c.self.inside.tokens; rights = c.self.inside.rights; park = c.self.inside.park }

abbrev after : After-deliver → Tables
after c = record { sessions = c.deliver.new.sessions; tokens = c.self.inside.tokens; rights = c.self.inside.rights; park = c.self.inside.park }

left : (c : After-deliver)
    → OnOk c.deliver.result (noted (seen (after c)) ≡ dm_state_where None any_superblock (seen (before c)) c.args.sid (GetEvents c.args.max c.args.room)) × AreKept (after c) c.self.inside.open_tokens × (awaited_in (after c) ≡ awaited_in (before c))
left c =
    changed_by (before c) (after c) c.self.inside.open_tokens c.self.invariant c.args.sid (GetEvents c.args.max c.args.room) refl refl refl refl c.deliver.result
    (ok_judged c.deliver.result (first_refusal (dead_session c.args.sid c.self.inside.sessions ∷ none_fits c.args.room (queue_of c.args.sid c.self.inside.sessions) ∷ [])) c.deliver.ensures.judged)
    c.deliver.ensures.after c.deliver.ensures.err

pub invariant_of-self : goal.invariant_of-self
invariant_of-self c = (left c).1

pub returns-clause-after : goal.returns-clause-after
returns-clause-after c = subst (λ (t : Tables). OnOk c.deliver.result (noted (seen (after c)) ≡ dm_state_where None any_superblock (seen t) c.args.sid (GetEvents c.args.max c.args.room))) c.self.view_is (left c).0

pub returns-clause-counted : goal.returns-clause-counted
returns-clause-counted c = subst (λ (t : Tables). awaited_in (after c) ≡ awaited_in t) c.self.view_is (left c).2
