use Rattle.toml.specs.View.{table_view}
use Rattle.hsm_policy.specs.Settings.{Numbers}
use Rattle.hsm_policy.specs.Documents.{SaysSettings}
use Rattle.hsm_policy.proofs.Refusing.{if_none}
use Rattle.hsm_policy.proofs.reading.said.Goals as goal

pub returns-in_err-drives-clause-none : goal.returns-in_err-drives-clause-none
returns-in_err-drives-clause-none c =
    let no_settings : (s : Numbers) → ¬ SaysSettings (table_view c.args.document.now) s =
    λ s says. c.in_err-drives.ensures.none s.drives s.workers says.drives says.workers says.within.drives in
    if_none _ no_settings

pub returns-in_err-volumes-clause-none : goal.returns-in_err-volumes-clause-none
returns-in_err-volumes-clause-none c =
    let no_settings : (s : Numbers) → ¬ SaysSettings (table_view c.args.document.now) s =
    λ s says. c.in_err-volumes.ensures.none s.volumes s.capacity says.volumes says.capacity says.within.volumes in
    if_none _ no_settings

pub returns-in_err-high-clause-none : goal.returns-in_err-high-clause-none
returns-in_err-high-clause-none c =
    let no_settings : (s : Numbers) → ¬ SaysSettings (table_view c.args.document.now) s =
    λ s says. c.in_err-high.ensures.none s.high s.low says.high says.low says.within.limits in
    if_none _ no_settings
