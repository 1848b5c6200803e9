use Rattle.plain_model.specs.declared.entries.Action.TheVariants as action
use Rattle.hsm_threads.proofs.Replies.{happened}
use Rattle.hsm_threads.proofs.shared.Shared.step.Goals as goal
use Rattle.hsm_threads.proofs.shared.Shared.step.Goals.{in-Issue, in-Resume}

pub returns : goal.returns
returns g c =
    elim c.match-step.branch [
      | in-Issue w ↦ rw (w.in-Issue.is, w.reply-is) (happened g.D.Disk g.N.Named.opened c.caller_of-caller.result c.args.pass.number c.caller_of-caller.ensures (action.Issue w.in-Issue.call) w.issue.result.0 c.args.pass w.issue.result.1 _ _ w.issue.ensures)
      | in-Resume w ↦ rw (w.in-Resume.is, w.reply-is) (happened g.D.Disk g.N.Named.opened c.caller_of-caller.result c.args.pass.number c.caller_of-caller.ensures action.Resume w.resume.result.0 c.args.pass w.resume.result.1 _ _ w.resume.ensures)
    ]
