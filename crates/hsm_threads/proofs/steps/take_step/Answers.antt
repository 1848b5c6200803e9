use Rattle.std.proofs.Common.{◌∙◌, Ok, ap, refl}
use Rattle.hsm_core.specs.Store.{Store}
use Rattle.hsm_system.specs.Systems.{System}
use Rattle.hsm_threads.specs.Steps.{IsStepOf}
use Rattle.hsm_threads.specs.declared.steps.Asked.TheVariants.{Nothing}
use Rattle.hsm_threads.proofs.RunDeeds.{begun_step, lacked_open, lacked_step, lacked_store, moved_store, nothing_done}
use Rattle.hsm_threads.proofs.Stepping.{begun_came, lacked_came}
use Rattle.hsm_threads.proofs.steps.take_step.Goals as goal

-- ---- it gives an act

pub begin-requires-clause-works : goal.begin-requires-clause-works
begin-requires-clause-works g c = ap (λ (s : Store g.row.D.Denot). s.files.failed) (moved_store c.args.daemon c.args.system.now c.ask.new.self c.in-Ok-Some.act (rw c.in-Ok-Some.field-0-is at c.in-Ok-Some.ensures.asked)) ∙ c.requires

pub begin-requires-clause-awaits : goal.begin-requires-clause-awaits
begin-requires-clause-awaits g c = (rw c.in-Ok-Some.field-0-is at c.in-Ok-Some.ensures.deeds).1

pub begin-requires-clause-may : goal.begin-requires-clause-may
begin-requires-clause-may g c = (rw c.in-Ok-Some.field-0-is at c.in-Ok-Some.ensures.may)

pub returns-in-Ok-Some-clause-deeds : goal.returns-in-Ok-Some-clause-deeds
returns-in-Ok-Some-clause-deeds g c = begun_step c.args.daemon c.args.system.now c.begin.new.system c.begin.result c.in-Ok-Some.act c.ask.new.self (rw c.in-Ok-Some.field-0-is at c.in-Ok-Some.ensures.deeds).0 c.begin.ensures.deeds

pub returns-in-Ok-Some-clause-came : goal.returns-in-Ok-Some-clause-came
returns-in-Ok-Some-clause-came g c = begun_came g.D.Disk c.args.daemon c.args.system.now c.begin.new.system c.begin.result (c.in-Ok-Some.act, c.ask.new.self, rw c.in-Ok-Some.field-0-is at c.in-Ok-Some.ensures.asked, c.begin.ensures.begins)

pub returns-in-Ok-Some-clause-opened : goal.returns-in-Ok-Some-clause-opened
returns-in-Ok-Some-clause-opened g c = c.begin.ensures.opened ∙ ap (λ (s : Store g.row.D.Denot). s.opened) (moved_store c.args.daemon c.args.system.now c.ask.new.self c.in-Ok-Some.act (rw c.in-Ok-Some.field-0-is at c.in-Ok-Some.ensures.asked))

-- ---- it gives none

pub returns-in-Ok-None-clause-deeds : goal.returns-in-Ok-None-clause-deeds
returns-in-Ok-None-clause-deeds g c = nothing_done c.args.system.now c.ask.new.self (IsStepOf c.args.daemon (Ok Nothing)) refl (rw c.in-Ok-None.field-0-is at c.in-Ok-None.ensures.asked).1

pub returns-in-Ok-None-clause-came : goal.returns-in-Ok-None-clause-came
returns-in-Ok-None-clause-came g c = (rw c.in-Ok-None.field-0-is at c.in-Ok-None.ensures.asked)

pub returns-in-Ok-None-clause-opened : goal.returns-in-Ok-None-clause-opened
returns-in-Ok-None-clause-opened g c = ap (λ (s : System g.row.D.Denot). s.store.opened) (rw c.in-Ok-None.field-0-is at c.in-Ok-None.ensures.asked).1

pub returns-in-Ok-None-clause-closed : goal.returns-in-Ok-None-clause-closed
returns-in-Ok-None-clause-closed g c = ap (λ (s : System g.row.D.Denot). s.store.files.failed) (rw c.in-Ok-None.field-0-is at c.in-Ok-None.ensures.asked).1 ∙ c.requires

-- ---- its machine has no memory

pub returns-in-Err-clause-deeds : goal.returns-in-Err-clause-deeds
returns-in-Err-clause-deeds g c = lacked_step c.args.daemon c.args.system.now c.ask.new.self c.in-Err.why c.in-Err.ensures.lacks.lacks c.in-Err.ensures.lost

pub returns-in-Err-clause-came : goal.returns-in-Err-clause-came
returns-in-Err-clause-came g c = lacked_came g.D.Disk c.args.daemon c.args.system.now c.ask.new.self c.in-Err.why c.in-Err.ensures.lacks

pub returns-in-Err-clause-opened : goal.returns-in-Err-clause-opened
returns-in-Err-clause-opened g c = ap (λ (s : Store g.row.D.Denot). s.opened) (lacked_store c.args.daemon c.args.system.now c.ask.new.self c.in-Err.why c.in-Err.ensures.lacks)

pub returns-in-Err-clause-closed : goal.returns-in-Err-clause-closed
returns-in-Err-clause-closed g c = lacked_open c.args.daemon c.args.system.now c.ask.new.self c.in-Err.why c.in-Err.ensures.lacks c.requires
