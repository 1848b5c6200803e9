use Rattle.std.proofs.Common.{◌∙◌, ap, sym, ℕ, List}
use Rattle.hsm_types.specs.declared.daemons.Heard.TheVariants as heard
use Rattle.hsm_types.specs.declared.dm.DmReply.TheVariants.{Packed}
use Rattle.daemon_session.proofs.WaySteps.{found}
use Rattle.daemon_session.proofs.members.Member.on_finding.Goals as goal

pub returns-in-Dm-Packed-clause-ok : goal.returns-in-Dm-Packed-clause-ok
returns-in-Dm-Packed-clause-ok c =
    let is = c.in-Dm-Packed.is ∙ ap heard.Dm (c.in-Dm-Packed.field-0-is ∙ ap (λ (b : List ℕ). Packed b c.in-Dm-Packed.field-0-1) (sym c.as_slice.ensures)) in
    found c.args.self.now c.keep.new.self c.args.told c.args.sid c.args.token c.as_slice.result.now c.in-Dm-Packed.field-0-1 c.requires.0 c.find_next.result c.find_next.new.self c.requires.1 is c.in_ok-keep-in-Dm-Packed.ensures.ok c.find_next.ensures
