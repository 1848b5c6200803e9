-- Which histories are legal from a plain map.
use Rattle.std.specs.Prelude.{◌≡◌, List, [], ◌∷◌}
use Rattle.hsm_types.specs.declared.stores.Superblock.{Superblock}
use Rattle.hsm_types.specs.declared.dm.DmCall.{DmCall}
use Rattle.hsm_types.specs.declared.dm.DmCall.TheVariants.{Restore}
use Rattle.hsm_types.specs.declared.dm.DmReply.TheVariants as told
use Rattle.plain_model.specs.declared.entries.Entry.{Entry}
use Rattle.plain_model.specs.declared.entries.Action.{Action}
use Rattle.plain_model.specs.declared.entries.Action.TheVariants.{Dm}
use Rattle.plain_model.specs.declared.entries.Answer.{Answer}
use Rattle.plain_model.specs.declared.entries.Answer.TheVariants.{Dm as Told}
use Rattle.plain_model.specs.Plain.{segment, body_of}
use Rattle.plain_model.specs.Faults.{FaultIsLast}
use Rattle.plain_model.specs.Step.{World, Allows, after}

-- each entry is a step from the world that the entries before it leave, and a fault is the last one
abbrev pub Legal : Superblock → World → List Entry → Type 0
Legal s W [] = Unit {0}
Legal s W (e ∷ es) = Allows s W e × FaultIsLast e es × Legal s (after W e) es

-- the world after all the entries
abbrev pub After : World → List Entry → World
After W [] = W
After W (e ∷ es) = After (after W e) es

-- The bytes that a call brings back are those that the world has at their place.
abbrev pub AreTrueBytes : World → DmCall → Type 0
AreTrueBytes W (Restore token handle j bytes) = bytes ≡ segment j (body_of handle.key W.files)
AreTrueBytes W call = Unit {0}

-- so are those of an entry that was done
abbrev pub BringsTrueBytes : World → Action → Answer → Type 0
BringsTrueBytes W (Dm call) (Told told.Done) = AreTrueBytes W call
BringsTrueBytes W action answer = Unit {0}

-- no two byte lists of one digest stood in for each other
abbrev pub NoClash : World → List Entry → Type 0
NoClash W [] = Unit {0}
NoClash W (e ∷ es) = BringsTrueBytes W e.action e.answer × NoClash (after W e) es
