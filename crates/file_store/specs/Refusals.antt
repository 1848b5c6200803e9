-- Which refusal of the layer below closes the store.
use Rattle.std.specs.Prelude.{Bool, true, false}
use Rattle.snapshot_text.specs.declared.refusal.MetaRefusal.{MetaRefusal}
use Rattle.snapshot_text.specs.declared.refusal.MetaRefusal.TheVariants.{Part, Disk, Memory}

-- the store is used no more
abbrev pub is_disk : MetaRefusal → Bool
is_disk (Part why) = false
is_disk Disk = true
is_disk Memory = false
