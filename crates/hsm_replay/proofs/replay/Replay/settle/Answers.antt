use Rattle.std.proofs.Common.{◌≡◌, ◌∙◌, ◌<◌, List, length, Ok, Err, sym, subst, arith}
use Rattle.std.proofs.lemmas.Result.{err_from_is_err_and}
use Rattle.plain_model.specs.declared.entries.Entry.{Entry}
use Rattle.hsm_system.specs.Events.{Runs}
use Rattle.hsm_replay.specs.Freshness.{StaysFresh}
use Rattle.hsm_replay.specs.ReadyCallers.{MayGoOn}
use Rattle.hsm_replay.specs.Settled.{EndsQuietly}
use Rattle.hsm_replay.specs.Systems.{Run, running, refreshed}
use Rattle.hsm_replay.proofs.WhichRun.{refreshed_runs}
use Rattle.hsm_replay.proofs.Freshness.{fresh_itself, fresh_on}
use Rattle.hsm_replay.proofs.Joining.{runs_itself, runs_then, runs_with, stops_with}
use Rattle.hsm_replay.proofs.Resting.{settles_rightly}
use Rattle.hsm_replay.proofs.Working.{some_event}
use Rattle.hsm_replay.proofs.DeedRounds.{settle_begun, settle_on, settle_done, settle_stopped}
use Rattle.hsm_replay.proofs.replay.Replay.settle.Goals as goal

pub loop-self-init : goal.loop-self-init
loop-self-init g c = record {
  moves = subst (λ (s : Run g.row.D.Denot g.row.M.Denot). Runs g.D.Disk {T = Unit {0}} (Ok tt) c.args.self.now.system.store s.system.store) (sym c.refresh.ensures.refreshed) (runs_itself g.D.Disk tt c.args.self.now.system.store);
  fresh = subst (λ (s : Run g.row.D.Denot g.row.M.Denot). StaysFresh (refreshed c.args.self.now) s) (sym c.refresh.ensures.refreshed) (fresh_itself (refreshed c.args.self.now));
  runs = subst (λ (s : Run g.row.D.Denot g.row.M.Denot). running s ≡ running c.args.self.now) (sym c.refresh.ensures.refreshed) (refreshed_runs c.args.self.now);
  deeds = settle_begun g.M.Drive c.args.self.now c.refresh.new.self c.refresh.ensures.deeds c.refresh.ensures.refreshed;
}

pub loop-self-preserved : goal.loop-self-preserved
loop-self-preserved g c = record {
  moves = runs_then g.D.Disk tt (Ok tt) _ _ _ c.loop-self.invariant.moves (runs_with g.D.Disk c.in_ok-round.field-0 tt _ _ c.in_ok-round.ensures.moves);
  fresh = fresh_on (refreshed c.args.self.now) c.loop-self.self c.round.new.self c.loop-self.invariant.fresh c.in_ok-round.ensures.fresh;
  runs = c.in_ok-round.ensures.runs ∙ c.loop-self.invariant.runs;
  deeds = settle_on g.M.Drive _ _ _ c.loop-self.invariant.moves.goes_on.opened c.loop-self.invariant.deeds c.in_ok-round.field-0 c.in_ok-round.ensures.deeds c.if-branch.false;
}

pub loop-self-smaller : goal.loop-self-smaller
loop-self-smaller g c =
    let goes = c.in_ok-round.ensures.moves.goes_on in
    let longer : length c.loop-self.self.system.store.history < length c.round.new.self.system.store.history = some_event g.D.Disk g.M.Drive _ _ goes.more goes.history (sym c.in_ok-round.ensures.quiet ∙ c.if-branch.false) in
    omega (arith, longer, c.entries.ensures.few)

pub returns-in_err-round-clause-moves : goal.returns-in_err-round-clause-moves
returns-in_err-round-clause-moves g c =
    let p = err_from_is_err_and c.from_residual.result c.from_residual.ensures.1 in
    rw (p.1, p.2) (runs_then g.D.Disk tt (Err _) _ _ _ c.loop-self.invariant.moves (stops_with g.D.Disk _ _ _ c.in_err-round.ensures.moves))

pub returns-then-branch-clause-moves : goal.returns-then-branch-clause-moves
returns-then-branch-clause-moves g c = runs_then g.D.Disk tt (Ok tt) _ _ _ c.loop-self.invariant.moves (runs_with g.D.Disk c.in_ok-round.field-0 tt _ _ c.in_ok-round.ensures.moves)

pub returns-then-branch-clause-settled : goal.returns-then-branch-clause-settled
returns-then-branch-clause-settled g c =
    let goes = c.loop-self.invariant.moves.goes_on in
    (goes.more, subst (λ (from : List Entry). EndsQuietly from c.round.new.self) goes.history (c.in_ok-round.ensures.deeds.part.1 c.if-branch.true).0)

pub returns-then-branch-clause-runs : goal.returns-then-branch-clause-runs
returns-then-branch-clause-runs g c = c.in_ok-round.ensures.runs ∙ c.loop-self.invariant.runs

pub returns-in_err-round-clause-runs : goal.returns-in_err-round-clause-runs
returns-in_err-round-clause-runs g c = c.in_err-round.ensures.runs ∙ c.loop-self.invariant.runs

pub returns-in_err-round-clause-deeds : goal.returns-in_err-round-clause-deeds
returns-in_err-round-clause-deeds g c =
    let p = err_from_is_err_and c.from_residual.result c.from_residual.ensures.1 in
    rw (p.1, p.2) (settle_stopped g.M.Drive _ _ _ c.loop-self.invariant.moves.goes_on.opened c.loop-self.invariant.deeds _ c.in_err-round.ensures.deeds)

pub returns-then-branch-clause-deeds : goal.returns-then-branch-clause-deeds
returns-then-branch-clause-deeds g c =
    settles_rightly g.D.Disk g.M.Drive (MayGoOn c.args.self.now.system.store) c.args.self.now c.loop-self.self c.round.new.self (settle_done g.M.Drive c.args.self.now c.loop-self.self c.round.new.self c.loop-self.invariant.moves.goes_on.opened c.loop-self.invariant.deeds c.in_ok-round.field-0 c.in_ok-round.ensures.deeds c.if-branch.true)
    (fresh_on (refreshed c.args.self.now) c.loop-self.self c.round.new.self c.loop-self.invariant.fresh c.in_ok-round.ensures.fresh) c.kept.ensures (λ working. c.in_ok-round.ensures.moves.works (c.loop-self.invariant.moves.works working))
