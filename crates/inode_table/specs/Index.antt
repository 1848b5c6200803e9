-- A map from names to the keys of files.
use Rattle.std.specs.Prelude.{◌≡◌, ℕ, List}
use Rattle.std.specs.Map.{lookup}
use Rattle.std.specs.Str.{bytes_eq}
use Rattle.std.specs.Global.{Vec}
use Rattle.hsm_types.specs.declared.keys.FileKey.{FileKey}
use Rattle.hsm_types.specs.Listing.{Listed}
use Rattle.inode_table.specs.Listing.{key_named}

-- the map has the key of each file under its name, and no other name
abbrev pub Indexes : List (Vec ℕ × FileKey) → List Listed → Type 0
Indexes entries files = (name : List ℕ) → lookup (λ k. bytes_eq name k.items) entries ≡ key_named name files
