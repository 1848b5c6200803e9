use Rattle.std.proofs.Common.{◌∙◌, ap, refl, sym}
use Rattle.hsm_types.specs.declared.daemons.Act.TheVariants.{Idle}
use Rattle.hsm_types.specs.declared.daemons.Heard.TheVariants.{Nothing}
use Rattle.hsm_core.specs.Store.{Store}
use Rattle.hsm_threads.specs.Steps.{closes}
use Rattle.hsm_threads.proofs.RunDeeds.{call_comes, called_closed, called_opened, called_stop, may_hear_store, rest_comes, rests_on}
use Rattle.hsm_threads.proofs.Stepping.{call_begins}
use Rattle.hsm_threads.proofs.steps.begin.Goals as goal

-- ---- a call

pub call-requires : goal.call-requires
call-requires g c = rw c.in-Dm.is at c.requires.awaits

pub returns-in-Dm-clause-deeds : goal.returns-in-Dm-clause-deeds
returns-in-Dm-clause-deeds g c =
    rw (c.in-Dm.is, c.called.ensures) (call_comes c.args.daemon c.args.system.now c.call.new.self c.in-Dm.sid c.in-Dm.call c.requires.works c.call.result c.call.ensures.deeds c.call.ensures.ends)

pub returns-in-Dm-clause-opened : goal.returns-in-Dm-clause-opened
returns-in-Dm-clause-opened g c = called_opened c.args.daemon c.args.system.now c.call.new.self g.D.Disk c.in-Dm.sid c.in-Dm.call c.call.result c.call.ensures.answered c.call.ensures.stopped

pub returns-in-Dm-clause-closed : goal.returns-in-Dm-clause-closed
returns-in-Dm-clause-closed g c =
    rw c.called.ensures (called_closed c.args.daemon c.args.system.now c.call.new.self g.D.Disk c.in-Dm.sid c.in-Dm.call c.call.result c.call.ensures.answered c.call.ensures.stopped ∙ ap closes (sym (called_stop c.call.result)))

pub returns-in-Dm-clause-begins : goal.returns-in-Dm-clause-begins
returns-in-Dm-clause-begins g c = rw c.called.ensures (call_begins g.D.Disk c.args.daemon c.args.system.now c.call.new.self c.args.act c.in-Dm.sid c.in-Dm.call c.in-Dm.is c.call.result c.call.ensures.answered c.call.ensures.stopped)

-- ---- a rest

pub returns-in-Idle-clause-deeds : goal.returns-in-Idle-clause-deeds
returns-in-Idle-clause-deeds g c = rw c.in-Idle.is (rest_comes c.args.daemon c.args.system.now c.take_in.new.self (c.take_in.ensures.deeds Idle (rw c.in-Idle.is at c.requires.awaits) refl))

pub returns-in-Idle-clause-opened : goal.returns-in-Idle-clause-opened
returns-in-Idle-clause-opened g c = ap (λ (s : Store g.row.D.Denot). s.opened) (may_hear_store c.args.daemon c.args.system.now c.take_in.new.self Nothing c.take_in.result c.take_in.ensures.taken c.take_in.ensures.dropped)

pub returns-in-Idle-clause-closed : goal.returns-in-Idle-clause-closed
returns-in-Idle-clause-closed g c = ap (λ (s : Store g.row.D.Denot). s.files.failed) (may_hear_store c.args.daemon c.args.system.now c.take_in.new.self Nothing c.take_in.result c.take_in.ensures.taken c.take_in.ensures.dropped) ∙ c.requires.works

pub returns-in-Idle-clause-begins : goal.returns-in-Idle-clause-begins
returns-in-Idle-clause-begins g c = (
  c.in-Idle.is,
  rests_on c.args.daemon c.args.system.now c.take_in.new.self c.take_in.result (rw c.in-Idle.is at c.requires.awaits) c.take_in.ensures.taken c.take_in.ensures.dropped,
  may_hear_store c.args.daemon c.args.system.now c.take_in.new.self Nothing c.take_in.result c.take_in.ensures.taken c.take_in.ensures.dropped,
)
