use Rattle.std.proofs.Common.{◌≡◌, None, refl, subst}
use Rattle.std.specs.Prelude.{OnOk}
use Rattle.hsm_types.specs.Sessions.{creation_refusal, next_sid}
use Rattle.hsm_types.specs.declared.keys.Sid.{Sid}
use Rattle.hsm_types.specs.declared.dm.DmCall.TheVariants.{CreateSession}
use Rattle.plain_model.specs.State.{noted}
use Rattle.plain_model.specs.Services.{dm_state_where}
use Rattle.dm_service.specs.Tables.{Tables, awaited_in, seen, AreKept}
use Rattle.dm_service.specs.Services.{any_superblock}
use Rattle.dm_service.proofs.Served.{changed_by, ok_alone, ok_first}
use Rattle.dm_service.proofs.service.DmService.assume.Goals.{After-create}
use Rattle.dm_service.proofs.service.DmService.assume.Goals as goal

abbrev before : After-create → Tables
before c = record { sessions = c.self.inside.sessions; tokens = c.self.inside.tokens; rights = c.self.inside.rights; park = c.self.inside.park }

abbrev after : After-create → Tables
after c = record { sessions = c.create.new.self; tokens = c.self.inside.tokens; rights = c.self.inside.rights; park = c.self.inside.park }

left : (c : After-create) (sid : Sid)
    → OnOk c.create.result (noted (seen (after c)) ≡ dm_state_where None any_superblock (seen (before c)) sid (CreateSession c.args.old c.args.info)) × AreKept (after c) c.self.inside.open_tokens × (awaited_in (after c) ≡ awaited_in (before c))
left c sid =
    let none = ok_first (creation_refusal c.args.old c.args.info c.self.inside.sessions ≡ None) (λ sid. sid ≡ next_sid c.self.inside.sessions) c.create.result c.create.ensures.made in
    changed_by (before c) (after c) c.self.inside.open_tokens c.self.invariant sid (CreateSession c.args.old c.args.info) refl refl refl refl c.create.result
    (ok_alone c.create.result (creation_refusal c.args.old c.args.info c.self.inside.sessions) none) c.create.ensures.after c.create.ensures.err

pub invariant_of-self : goal.invariant_of-self
invariant_of-self c = (left c c.args.old).1

pub returns-clause-after : goal.returns-clause-after
returns-clause-after c sid = subst (λ (t : Tables). OnOk c.create.result (noted (seen (after c)) ≡ dm_state_where None any_superblock (seen t) sid (CreateSession c.args.old c.args.info))) c.self.view_is (left c sid).0

pub returns-clause-counted : goal.returns-clause-counted
returns-clause-counted c = subst (λ (t : Tables). awaited_in (after c) ≡ awaited_in t) c.self.view_is (left c c.args.old).2
