use Rattle.std.proofs.Common.{◌≡◌, ◌∙◌, ◌∷◌, ◌++◌, [], List, sym, ap, subst, rules, append-nil, append_assoc}
use Rattle.std.proofs.lemmas.Result.{err_from_is_err_and}
use Rattle.hsm_system.proofs.AfterEvents.{goes_itself, goes_then, stopped_then}
use Rattle.script_text.specs.declared.lines.Line.{Line}
use Rattle.hsm_replay.specs.Deeds.{IsDoneBy}
use Rattle.hsm_replay.specs.ReadyCallers.{MayGoOn}
use Rattle.marked_history.specs.Settling.{none_run, running_behind, running_by}
use Rattle.hsm_replay.specs.Systems.{running}
use Rattle.hsm_cli.specs.Deeds.{AreOfLines}
use Rattle.hsm_cli.specs.Follows.{SettlesSince}
use Rattle.hsm_cli.proofs.Doing.{lines_cut, lines_none, lines_on, may_same}
use Rattle.hsm_cli.proofs.Following.{running_none, running_push}
use Rattle.hsm_cli.proofs.runs.run_lines.Goals as goal

pub loop-line-init : goal.loop-line-init
loop-line-init g c = record {
  goes_on = goes_itself g.D.Disk _;
  working = c.requires.ready.store.working;
  done = [];
  running = running_none c.args.replay.now c.requires.ready;
  deeds = lines_none g.M.Drive (MayGoOn c.args.replay.now.system.store) c.args.replay.now;
  lawful = search rules;
  left = search rules;
}

pub loop-line-preserved : goal.loop-line-preserved
loop-line-preserved g c =
    let step : c.loop-line.line-iterator ≡ c.in-Some.line ∷ c.next.new.self = search (rules, c.in-Some.ensures.steps) in
    let moves = c.in_ok-line.ensures.moves in
    record {
      goes_on = goes_then g.D.Disk _ _ _ c.loop-line.invariant.goes_on moves.goes_on;
      working = moves.works c.loop-line.invariant.working;
      done = c.loop-line.invariant.done ++ c.in-Some.line ∷ [];
      running = c.in_ok-line.ensures.runs ∙ ap (running_by c.in-Some.line) c.loop-line.invariant.running ∙ sym (running_push c.loop-line.invariant.done c.in-Some.line none_run);
      deeds = lines_on g.M.Drive (MayGoOn c.args.replay.now.system.store) (MayGoOn c.loop-line.replay.system.store) c.loop-line.invariant.done c.in-Some.line c.args.replay.now c.loop-line.replay c.line.new.self
          (may_same c.args.replay.now.system.store c.loop-line.replay.system.store c.requires.ready.store.working c.loop-line.invariant.working c.loop-line.invariant.goes_on.opened) c.loop-line.invariant.deeds c.loop-line.invariant.running
          c.requires.ready c.loop-line.invariant.working (moves.goes_on.opened ∙ c.loop-line.invariant.goes_on.opened) c.in_ok-line.ensures.runs c.in_ok-line.ensures.deeds;
      lawful = (rw step at c.loop-line.invariant.lawful).1;
      left = rw (append_assoc, ← step) c.loop-line.invariant.left;
    }

pub returns-in_err-line-clause-runs : goal.returns-in_err-line-clause-runs
returns-in_err-line-clause-runs g c =
    let p = err_from_is_err_and c.from_residual.result c.from_residual.ensures.1 in
    let runs = c.in_err-line.ensures.moves in
    rw (p.1, p.2) (record { goes_on = goes_then g.D.Disk _ _ _ c.loop-line.invariant.goes_on runs.goes_on; works = λ working. stopped_then g.D.Disk c.args.replay.now.system.store c.loop-line.replay.system.store c.line.new.self.system.store _ c.loop-line.invariant.goes_on c.loop-line.invariant.working (runs.works c.loop-line.invariant.working) })

pub returns-in_err-line-clause-deeds : goal.returns-in_err-line-clause-deeds
returns-in_err-line-clause-deeds g c =
    let p = err_from_is_err_and c.from_residual.result c.from_residual.ensures.1 in
    let step : c.loop-line.line-iterator ≡ c.in-Some.line ∷ c.next.new.self = search (rules, c.in-Some.ensures.steps) in
    rw (p.1, p.2)
    (lines_cut g.M.Drive (MayGoOn c.args.replay.now.system.store) (MayGoOn c.loop-line.replay.system.store) c.loop-line.invariant.done c.in-Some.line c.args.replay.now c.loop-line.replay c.line.new.self
    (may_same c.args.replay.now.system.store c.loop-line.replay.system.store c.requires.ready.store.working c.loop-line.invariant.working c.loop-line.invariant.goes_on.opened) c.loop-line.invariant.deeds c.loop-line.invariant.running
    c.args.lines c.next.new.self _ (sym (rw step at c.loop-line.invariant.left)) c.in_err-line.ensures.deeds)

-- all lines were run

all_lines : (done left lines : List Line) → left ≡ [] → done ++ left ≡ lines → done ≡ lines
all_lines done left lines none all = sym (append-nil done) ∙ ap (λ (ls : List Line). done ++ ls) (sym none) ∙ all

pub returns-clause-running : goal.returns-clause-running
returns-clause-running g c =
    subst (λ (ls : List Line). running c.loop-line.replay ≡ running_behind ls none_run) (all_lines c.loop-line.invariant.done c.loop-line.line-iterator c.args.lines c.in-None.ensures.steps.0 c.loop-line.invariant.left) c.loop-line.invariant.running

pub returns-clause-deeds : goal.returns-clause-deeds
returns-clause-deeds g c =
    subst (λ (ls : List Line). IsDoneBy g.M.Drive (AreOfLines (MayGoOn c.args.replay.now.system.store) (SettlesSince c.args.replay.now) ls) c.args.replay.now c.loop-line.replay)
    (all_lines c.loop-line.invariant.done c.loop-line.line-iterator c.args.lines c.in-None.ensures.steps.0 c.loop-line.invariant.left) c.loop-line.invariant.deeds
