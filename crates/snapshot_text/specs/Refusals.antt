-- Refusals of the parts of a file, as the store tells them.
use Rattle.hsm_types.specs.declared.dm.DmRefusal.{DmRefusal}
use Rattle.hsm_types.specs.declared.dm.DmRefusal.TheVariants.{Memory}
use Rattle.snapshot_text.specs.declared.refusal.MetaRefusal.{MetaRefusal}
use Rattle.snapshot_text.specs.declared.refusal.MetaRefusal.TheVariants as meta

abbrev pub no_memory : MetaRefusal
no_memory = meta.Memory

-- want of memory is no part's own
abbrev pub refused_as : DmRefusal → MetaRefusal
refused_as Memory = no_memory
refused_as why = meta.Part why
