use Rattle.std.proofs.Common.{refl, sym, ◌∙◌, ap, subst}
use Rattle.std.specs.Prelude.{Result, Err}
use Rattle.std.proofs.lemmas.Result.{err_from_is_err_and}
use Rattle.hsm_types.specs.declared.calls.CallRefusal.{CallRefusal}
use Rattle.hsm_types.specs.declared.calls.Reply.{Reply}
use Rattle.hsm_types.specs.declared.calls.Reply.TheVariants.{Refused}
use Rattle.dm_service.specs.declared.verdict.Verdict.TheVariants.{Answered, Missing, NoSpace}
use Rattle.snapshot_text.specs.declared.refusal.MetaRefusal.{MetaRefusal}
use Rattle.hsm_core.specs.Outcomes.{IsFinished}
use Rattle.hsm_core.specs.Targets.{key_in}
use Rattle.hsm_core.proofs.Refused.{refused_finished}
use Rattle.hsm_core.proofs.Replying.{completed}
use Rattle.hsm_core.proofs.answering.finish.Goals.{in-NoSpace, in-Missing, in-Answered}
use Rattle.hsm_core.proofs.answering.finish.Goals as goal

pub returns-in_err-replies-in-Complete : goal.returns-in_err-replies-in-Complete
returns-in_err-replies-in-Complete g c =
    let p = err_from_is_err_and c.from_residual.result c.from_residual.ensures.1 in
    subst (λ (r : Result (Reply × Reply) MetaRefusal). IsFinished g.D.Disk c.args.files.now c.args.number c.args.stamps.now.entries (key_in c.args.target) c.args.access.now.call c.args.verdict r c.perform.new.files c.args.stamps.now.entries)
    (sym (p.1 ∙ ap (λ (e : MetaRefusal). Err e) p.2))
    (record { replies = tt; held = tt; stamps = tt; unstamped = refl; answered = λ apart. absurd (apart c.in-Complete.is); ended = c.in_err-replies-in-Complete.ensures.ends })

pub returns-in-Complete : goal.returns-in-Complete
returns-in-Complete g c =
    completed g.D.Disk c.args.files.now c.perform.new.files c.args.number c.args.stamps.now.entries c.note_access.new.stamps.entries c.unwrap.result.key (key_in c.args.target) c.args.access.now.call c.args.verdict
    c.in_ok-replies-in-Complete.replies (sym (ap key_in c.unwrap.ensures)) c.in-Complete.is c.in_ok-replies-in-Complete.ensures.reply c.in_ok-replies-in-Complete.ensures.held c.note_access.ensures c.in_ok-replies-in-Complete.ensures.ends

pub returns : goal.returns
returns g c = elim c.match-verdict.branch [
  | in-NoSpace w ↦ refused_finished g.D.Disk c.args.files.now c.args.number c.args.stamps.now.entries c.requires.working c.requires.idle (key_in c.args.target) c.args.access.now.call c.args.verdict (NoSpace w.in-NoSpace.need w.in-NoSpace.free) c.match-verdict.why c.refused.result w.in-NoSpace.is (λ is. cc) (ap (λ (why : CallRefusal). Refused why) w.why-is) c.refused.ensures
  | in-Missing w ↦ refused_finished g.D.Disk c.args.files.now c.args.number c.args.stamps.now.entries c.requires.working c.requires.idle (key_in c.args.target) c.args.access.now.call c.args.verdict Missing c.match-verdict.why c.refused.result w.in-Missing.is (λ is. cc) (ap (λ (why : CallRefusal). Refused why) w.why-is) c.refused.ensures
  | in-Answered w ↦ refused_finished g.D.Disk c.args.files.now c.args.number c.args.stamps.now.entries c.requires.working c.requires.idle (key_in c.args.target) c.args.access.now.call c.args.verdict (Answered w.in-Answered.response) c.match-verdict.why c.refused.result w.in-Answered.is (λ is. cc) (ap (λ (why : CallRefusal). Refused why) (w.why-is ∙ w.ended_by-why.ensures)) c.refused.ensures
]
