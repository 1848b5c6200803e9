use Rattle.std.specs.Prelude.{codes}
use Rattle.script_text.proofs.DaemonParts.{no_other_verb, no_event_cut}
use Rattle.script_text.proofs.DataParts.{differ}
use Rattle.script_text.proofs.daemons.daemon_line.Goals as goal

pub returns-in_default : goal.returns-in_default
returns-in_default c x h same =
    let of = no_event_cut c.args.verb.now c.args.rest.now x h c.requires same in
    c.in_default.ensures of.daemon tt of.named

pub returns : goal.returns
returns c x h same =
    let no_start = differ c.args.verb.now c.as_slice.result.now (codes "start") c.eq.result c.eq.ensures c.as_slice.ensures c.if-eq.false in
    let no_kill = differ c.args.verb.now c.as_slice-2.result.now (codes "kill") c.eq-2.result c.eq-2.ensures c.as_slice-2.ensures c.if-eq-2.false in
    let no_step = differ c.args.verb.now c.as_slice-3.result.now (codes "step") c.eq-3.result c.eq-3.ensures c.as_slice-3.ensures c.if-eq-3.false in
    no_other_verb c.args.verb.now no_start no_kill no_step (no_event_cut c.args.verb.now c.args.rest.now x h c.requires same).is_verb
