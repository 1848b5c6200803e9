-- What sessions keep with a file: regions, attributes, and stub entries.
use Rattle.std.specs.Prelude.{List, []}
use Rattle.hsm_types.specs.Attributes.{Attributes}
use Rattle.hsm_types.specs.Stubs.{Stubs}
use Rattle.hsm_types.specs.declared.regions.Region.{Region}

pub record Kept : Type 0 where
  pub regions : List Region
  pub attributes : Attributes
  pub stubs : Stubs

-- with a file that was just made
abbrev pub nothing_kept : Kept
nothing_kept = record { regions = []; attributes = []; stubs = [] }
