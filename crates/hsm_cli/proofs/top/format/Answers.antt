use Rattle.std.proofs.Common.{◌≡◌, ℕ, List, Some, None, refl, sym, ◌∙◌, ap, subst}
use Rattle.disk_model.specs.Moments.{MayBe}
use Rattle.commit_slots.specs.Images.{IsEmptyStore}
use Rattle.hsm_cli.specs.declared.causes.Cause.TheVariants.{DiskFault}
use Rattle.command_words.specs.Commands.{geometry_number, fsid_of}
use Rattle.hsm_cli.proofs.Quiet.{unhanded_quiet, asked_once}
use Rattle.hsm_cli.proofs.Running.{failed_since}
use Rattle.hsm_cli.proofs.top.format.Goals as goal
use Rattle.hsm_cli.proofs.top.format.Goals.{in-Ok-format, in-Err-format}

pub returns-after-format-clause-formatted : goal.returns-after-format-clause-formatted
returns-after-format-clause-formatted g c = λ none.
    let geometry : ℕ = geometry_number c.args.size in
    let fsid : ℕ = fsid_of c.args.path.now in
    elim c.match-format.branch [
      | in-Ok-format w ↦
          let empty : (i : List ℕ) → MayBe g.H.Disk.Disk c.format.new.disk i → IsEmptyStore geometry fsid i
          = λ i may. subst (λ (n : ℕ). IsEmptyStore n fsid i) c.geometry-geometry.ensures (subst (λ (f : ℕ). IsEmptyStore c.geometry-geometry.result f i) c.fsid.ensures (w.in-Ok-format.ensures.formatted i may)) in
          record { disk = c.format.new.disk; back = ap (λ o. o.disk) c.unopened.ensures; empty = empty; recovered = λ i may. c.formatted_is_empty.ensures geometry fsid i (empty i may) }
      | in-Err-format w ↦
          let isnt : None ≡ Some DiskFault = sym none ∙ ap (λ o. o.cause) c.unopened.ensures ∙ w.cause-is in
          absurd cc
    ]

pub returns-after-format-clause-sound : goal.returns-after-format-clause-sound
returns-after-format-clause-sound g c =
    rw c.unopened.ensures
    (λ works none.
    elim c.match-format.branch [
      | in-Ok-format w ↦ w.in-Ok-format.ensures.cause.quiet refl ∙ c.in-Ok.ensures.counted
      | in-Err-format w ↦ absurd (works w.cause-is)
    ])

pub returns-after-format-clause-ends : goal.returns-after-format-clause-ends
returns-after-format-clause-ends g c =
    rw c.unopened.ensures
    (elim c.match-format.branch [
      | in-Ok-format w ↦ rw w.cause-is tt
      | in-Err-format w ↦ rw w.cause-is (failed_since g.H.Disk.Disk (g.H.Disk.Disk.fault_count c.in-Ok.disk) c.format.new.disk c.in-Ok.ensures.counted (w.in-Err-format.ensures.cause.once refl))
    ])

pub returns-after-format-clause-quiet : goal.returns-after-format-clause-quiet
returns-after-format-clause-quiet g c = λ sound. c.in-Ok.ensures.cause.quiet (λ is. cc)

pub returns-in-Err-clause-quiet : goal.returns-in-Err-clause-quiet
returns-in-Err-clause-quiet g c = rw (c.unopened-in-Err.ensures, c.from.ensures) (λ sound. c.in-Err.ensures.cause.quiet (unhanded_quiet c.in-Err.refusal sound))

pub returns-after-format-clause-once : goal.returns-after-format-clause-once
returns-after-format-clause-once g c = asked_once c.make.result _ _ c.make.ensures.cause

pub returns-in-Err-clause-once : goal.returns-in-Err-clause-once
returns-in-Err-clause-once g c = asked_once c.make.result _ _ c.make.ensures.cause
