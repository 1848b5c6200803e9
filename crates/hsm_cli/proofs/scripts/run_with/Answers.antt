use Rattle.std.proofs.Common.{◌≡◌, ◌∙◌, ℕ, List, [], Option, Some, None, refl, ap, arith}
use Rattle.std.specs.Io.KnownBytes.{Consumes}
use Rattle.hsm_cli.specs.declared.causes.Cause.{Cause}
use Rattle.hsm_cli.specs.declared.causes.Cause.TheVariants.{ScriptRefused, WordsRefused, NotStore, Corrupt, ReadFault, WriteFault, DiskFault}
use Rattle.hsm_cli.specs.declared.causes.Cause.TheVariants.{HostFault, NoMemory}
use Rattle.hsm_cli.specs.Clauses.{HasRead}
use Rattle.hsm_cli.specs.Endings.{IsBeforeReading}
use Rattle.hsm_cli.specs.Follows.{SettlesOn}
use Rattle.hsm_cli.specs.RunObjects.{source_told}
use Rattle.hsm_cli.proofs.Scripted.{ends_for}
use Rattle.hsm_cli.specs.Deeds.{AreDone, AreOfScript, MayGoOnOver}
use Rattle.hsm_cli.proofs.Deeds.{before_reading}
use Rattle.hsm_cli.proofs.Doing.{idle_done, none_done}
use Rattle.hsm_cli.proofs.scripts.run_with.Goals as goal

pub returns-in-Ok-clause-ends : goal.returns-in-Ok-clause-ends
returns-in-Ok-clause-ends g c =
    rw c.close-hsm.ensures.store
    (ends_for _ _ (source_told g.I.Source.left g.I.Source.fault_count c.args.source.now c.run_script-ended.new.source) c.run_script-ended.result (rw c.new-replay.ensures at c.run_script-ended.ensures.ends))

pub returns-in-Ok-clause-failed : goal.returns-in-Ok-clause-failed
returns-in-Ok-clause-failed g c = rw c.close-hsm.ensures.store c.run_script-ended.ensures.failed

pub returns-in-Ok-clause-fault : goal.returns-in-Ok-clause-fault
returns-in-Ok-clause-fault g c = rw c.close-hsm.ensures.store c.run_script-ended.ensures.fault

pub returns-in-Ok-clause-durable : goal.returns-in-Ok-clause-durable
returns-in-Ok-clause-durable g c = rw c.close-hsm.ensures.store c.run_script-ended.ensures.durable

pub returns-in-Ok-clause-untouched : goal.returns-in-Ok-clause-untouched
returns-in-Ok-clause-untouched g c = λ before. c.close-hsm.ensures.store ∙ ap (λ s. s.system.store) (c.run_script-ended.ensures.untouched before) ∙ ap (λ s. s.system.store) c.new-replay.ensures

nothing_read : (left : Option (List ℕ)) → Consumes left left []
nothing_read None = tt
nothing_read (Some bytes) = refl

-- where drives didn't come the source is as it was
unread : {S : Type 0} (left : S → Option (List ℕ)) (faults : S → ℕ) (source : S) (why : Cause) → IsBeforeReading why → HasRead (source_told left faults source source) (Some why)
unread left faults source HostFault before = record { left = refl; faults = refl }
unread left faults source NoMemory before = record { bytes = []; consumed = nothing_read (left source); within = omega arith }
unread left faults source (ScriptRefused line) before = absurd before
unread left faults source WordsRefused before = absurd before
unread left faults source NotStore before = absurd before
unread left faults source (Corrupt place) before = absurd before
unread left faults source ReadFault before = absurd before
unread left faults source WriteFault before = absurd before
unread left faults source DiskFault before = absurd before

pub returns-in-Err-clause-reading : goal.returns-in-Err-clause-reading
returns-in-Err-clause-reading g c = unread g.I.Source.left g.I.Source.fault_count c.args.source.now c.in-Err.why (rw c.in-Err.is at c.requires.ready)

pub returns-in-Ok-clause-deeds : goal.returns-in-Ok-clause-deeds
returns-in-Ok-clause-deeds g c = rw (c.in-Ok.is, c.close-hsm.ensures.store, c.close-hsm.ensures.drives) (rw c.new-replay.ensures at c.run_script-ended.ensures.deeds)

pub returns-in-Err-clause-deeds : goal.returns-in-Err-clause-deeds
returns-in-Err-clause-deeds g c =
    let may = MayGoOnOver (Some c.args.hsm.opened) in
    let settles = SettlesOn (Some c.args.hsm.opened) in
    let lines = AreOfScript c.args.commits (g.I.Source.left c.args.source.now) in
    rw c.in-Err.is (none_done (AreDone may settles lines (Some c.in-Err.why)) (λ deeds. deeds ≡ []) _ c.requires.anew.history (idle_done may settles lines c.in-Err.why (before_reading c.in-Err.why (rw c.in-Err.is at c.requires.ready))) refl)
