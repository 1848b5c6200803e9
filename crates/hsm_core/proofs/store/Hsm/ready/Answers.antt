use Rattle.std.proofs.Common.{◌+◌, ◌-◌, ◌≡◌, sym, ◌∙◌, ap, subst}
use Rattle.std.specs.Option.{option_copied}
use Rattle.std.specs.Prelude.{is_some, vec_len, vec_capacity}
use Rattle.hsm_types.specs.Messages.{no_token}
use Rattle.hsm_types.specs.Rights.{conflict}
use Rattle.plain_model.specs.Accesses.{need_of}
use Rattle.hsm_types.specs.Keyed.{find_key}
use Rattle.dm_service.specs.Tables.{awaited_in}
use Rattle.hsm_core.specs.Store.{Store}
use Rattle.hsm_core.specs.Ready.{ready, told_ready}
use Rattle.hsm_core.proofs.Readiness.{ready_is}
use Rattle.hsm_core.proofs.store.Hsm.ready.Goals as goal

pub returns-in-Some : goal.returns-in-Some
returns-in-Some g c =
    let s : Store g.row.D.Denot = record { opened = c.self.inside.opened.value; files = c.self.inside.files; stamps = c.self.inside.stamps.entries; tables = c.self.inside.service; history = c.self.inside.history.items; spare = vec_capacity c.self.inside.history - (vec_len c.self.inside.history + awaited_in c.self.inside.service) } in
    c.ready_for.ensures
    ∙ subst (λ (x : Store g.row.D.Denot). told_ready c.self.inside.files.failed (is_some (find_key (λ f. f.key) c.in-Some.access.now.key c.self.inside.files.held.files))
    (conflict c.in-Some.access.now.key (need_of c.in-Some.access.now.call) no_token c.self.inside.service.rights) c.in-Some.access.now.token c.in-Some.access.now.answer ≡ ready x c.args.caller) c.self.view_is
    (sym (ready_is s c.args.caller c.in-Some.access.now (sym c.pending.ensures.access ∙ ap option_copied c.in-Some.is)))
