-- What comes of an answer: what it knows then, how far the pass is, and what it does next.
use Rattle.std.specs.Prelude.{◌≡◌, ℕ, List, [], ◌∷◌, ◌++◌}
use Rattle.hsm_types.specs.declared.daemons.Act.{Act}
use Rattle.hsm_types.specs.declared.daemons.Heard.{Heard}
use Rattle.hsm_types.specs.declared.daemons.Heard.TheVariants as heard
use Rattle.hsm_types.specs.declared.dm.DmRefusal.{DmRefusal}
use Rattle.hsm_types.specs.declared.dm.DmReply.TheVariants as reply
use Rattle.hsm_types.specs.declared.keys.Sid.{Sid}
use Rattle.hsm_policy.specs.Settings.{Numbers}
use Rattle.hsm_policy.specs.declared.picking.Picked.{Picked}
use Rattle.migrate_daemon.specs.declared.verdicts.Verdict.{Verdict}
use Rattle.migrate_daemon.specs.declared.verdicts.Verdict.TheVariants.{Skips, Ends, Again}
use Rattle.migrate_daemon.specs.declared.stages.Turn.{Turn}
use Rattle.migrate_daemon.specs.declared.stages.Work.{Work}
use Rattle.migrate_daemon.specs.Known.{Known, asks_by}
use Rattle.migrate_daemon.specs.Passes.{Pass, Exchange, Passed, IsSkip, IsEnd}
use Rattle.migrate_daemon.specs.Machine.{Machine, StepsOn, MayGive, Stays, SaysNothing}
use Rattle.migrate_daemon.specs.MachineStates.{Standing}
use Rattle.migrate_daemon.specs.Stages.{Stands, asked_for}

-- what a refusal comes to, of that call of a pass
abbrev pub Judges : Work → DmRefusal → Verdict → Type 0
Judges work why Skips = (sid : Sid) (p : Picked) → IsSkip sid p (asked_for sid p work) (reply.Refused why)
Judges work why Ends = (volumes : ℕ) (sid : Sid) (p : Picked) → IsEnd volumes sid p (asked_for sid p work) (heard.Dm (reply.Refused why))
Judges work why Again = (volumes : ℕ) (sid : Sid) (p : Picked) → SaysNothing volumes sid p (asked_for sid p work) (heard.Dm (reply.Refused why))

-- how far the pass is then, and what is done in it
pub record Moves (volumes : ℕ) (before : Pass) (asked : Act) (told : Heard) (after : Pass) : Type 0 where
  pub stays : Stays volumes before asked told after
  pub passes : (talk : List Exchange) → Passed volumes talk before → Passed volumes (talk ++ record { asked = asked; heard = told } ∷ []) after

-- what it gives next, where it knows this
pub record Gives (by : Numbers) (k : Known) (before after : Pass) (asked : Act) (told : Heard) (new : Standing) (turn : Turn) : Type 0 where
  pub limits : new.limits ≡ by
  pub known : new.known ≡ asks_by k turn.act
  pub may : MayGive by k before after asked told turn.act
  pub stands : Stands turn.stage new after turn.act

abbrev pub machine : Standing → Pass → Act → Machine
machine s pass asked = record { limits = s.limits; known = s.known; asked = asked; pass = pass }

pub record Turns (old : Standing) (before : Pass) (asked : Act) (told : Heard) (new : Standing) (after : Pass) (turn : Turn) : Type 0 where
  pub goes : StepsOn (machine old before asked) told turn.act (machine new after turn.act)
  pub stands : Stands turn.stage new after turn.act
