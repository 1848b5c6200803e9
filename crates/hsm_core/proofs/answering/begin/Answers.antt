use Rattle.std.proofs.Common.{sym, ◌∙◌, ap, subst, arith}
use Rattle.dm_service.specs.declared.verdict.Verdict.{Verdict}
use Rattle.hsm_core.specs.Outcomes.{ends, IsFinished}
use Rattle.hsm_core.specs.Targets.{IsMeant}
use Rattle.access_park.specs.Pending.{is_lawful_answer}
use Rattle.hsm_core.proofs.Targets.{answered, posted, not_alone}
use Rattle.hsm_core.proofs.Replying.{every, ends_unless, fresh_answer, issue_waits, issue_blocks, issue_ends, issue_completes, alone_replied}
use Rattle.hsm_core.proofs.answering.begin.Goals as goal

pub returns-in-Post-clause-replied : goal.returns-in-Post-clause-replied
returns-in-Post-clause-replied g c =
    issue_waits g.D.Disk c.args.files.now c.args.number c.args.stamps.now.entries c.args.service.now c.args.caller c.args.access.now c.facts-facts.result c.requires.working c.requires.idle
    c.in-Some.file c.requires.fresh c.requires.none c.requires.lawful (subst (IsMeant c.args.files.now.held.files c.args.access.now.call) c.in-Some.is c.requires.meant) c.facts-facts.ensures.known
    c.in-Post.kind c.wait.new.service c.wait.result (sym c.judge-verdict.ensures ∙ c.in-Post.is) c.wait.ensures.reply c.wait.ensures.after c.wait.ensures.err c.wait.ensures.memory

pub returns-in-Block-clause-replied : goal.returns-in-Block-clause-replied
returns-in-Block-clause-replied g c =
    issue_blocks g.D.Disk c.args.files.now c.args.number c.args.stamps.now.entries c.args.service.now c.args.caller c.args.access.now c.facts-facts.result c.requires.working c.requires.idle
    c.in-Some.file c.requires.fresh c.requires.none c.requires.lawful (subst (IsMeant c.args.files.now.held.files c.args.access.now.call) c.in-Some.is c.requires.meant) c.facts-facts.ensures.known
    c.in-Block.token c.block.new.service c.block.result (sym c.judge-verdict.ensures ∙ c.in-Block.is) c.block.ensures.reply c.block.ensures.after c.block.ensures.err c.block.ensures.memory

pub finish-requires : goal.finish-requires
finish-requires g c = record {
  working = c.requires.working;
  room = λ is. c.requires.room;
  number = c.requires.number;
  idle = c.requires.idle;
  rises = c.requires.rises;
  ends = ends_unless c.judge-verdict.result c.in_default-verdict.not-Post c.in_default-verdict.not-Block;
  complete = λ is.
      issue_completes g.D.Disk c.args.files.now c.args.number c.args.stamps.now.entries c.args.service.now c.args.caller c.args.access.now c.facts-facts.result c.requires.working c.requires.idle
      c.in-Some.file c.requires.fresh c.requires.none c.requires.lawful (subst (IsMeant c.args.files.now.held.files c.args.access.now.call) c.in-Some.is c.requires.meant) c.facts-facts.ensures.known
      c.facts-facts.ensures (sym c.judge-verdict.ensures ∙ is);
  aborted = λ response is. answered _ c.args.access.now.answer c.facts-facts.result c.args.service.now.rights c.args.service.now.sessions c.in-Some.file.key c.args.access.now.call response (sym c.judge-verdict.ensures ∙ is)
      (ap is_lawful_answer (fresh_answer c.args.access.now c.requires.fresh));
}

pub returns-in_default-verdict : goal.returns-in_default-verdict
returns-in_default-verdict g c = record {
  replied = issue_ends g.D.Disk c.args.files.now c.args.number c.args.stamps.now.entries c.args.service.now c.args.caller c.args.access.now c.facts-facts.result c.requires.working c.requires.idle
      c.in-Some.file c.requires.fresh c.requires.none c.requires.lawful (subst (IsMeant c.args.files.now.held.files c.args.access.now.call) c.in-Some.is c.requires.meant) c.facts-facts.ensures.known
      c.finish.result c.finish.new.files c.finish.new.stamps.entries (sym (ap ends c.judge-verdict.ensures) ∙ ends_unless c.judge-verdict.result c.in_default-verdict.not-Post c.in_default-verdict.not-Block)
      (subst (λ (said : Verdict). IsFinished g.D.Disk c.args.files.now c.args.number c.args.stamps.now.entries c.in-Some.file.key c.args.access.now.call said c.finish.result c.finish.new.files c.finish.new.stamps.entries) c.judge-verdict.ensures c.finish.ensures);
  synced = λ is. absurd (not_alone c.args.files.now.held.files c.in-Some.file c.args.access.now.call is (subst (IsMeant c.args.files.now.held.files c.args.access.now.call) c.in-Some.is c.requires.meant));
  room = every c.finish.result (omega arith);
}

pub wait-requires-clause-asks : goal.wait-requires-clause-asks
wait-requires-clause-asks g c =
    (posted _ c.args.access.now.answer c.facts-facts.result c.args.service.now.rights c.args.service.now.sessions c.in-Some.file.key c.args.access.now.call c.in-Post.kind (sym c.judge-verdict.ensures ∙ c.in-Post.is)).1

pub returns-in_default-clause-replied : goal.returns-in_default-clause-replied
returns-in_default-clause-replied g c =
    alone_replied g.D.Disk c.args.files.now c.args.number c.args.stamps.now.entries c.args.service.now c.args.caller c.args.access.now.call c.requires.none c.requires.lawful
    (subst (IsMeant c.args.files.now.held.files c.args.access.now.call) c.in_default.is c.requires.meant) c.perform_alone.result c.perform_alone.new.files c.perform_alone.ensures.reply c.perform_alone.ensures.held c.perform_alone.ensures.ends
