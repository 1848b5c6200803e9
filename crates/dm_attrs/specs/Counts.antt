-- What attributes count.
use Rattle.std.specs.Prelude.{◌≡◌, ℕ, ◌≤◌, ◌^◌}
use Rattle.std.specs.Option.{option_map, unwrap_or}
use Rattle.hsm_types.specs.declared.attributes.AttrName.{AttrName}
use Rattle.hsm_types.specs.Attributes.{Attributes, AreAttributes, value_of, cost_of_value, bytes_of_attributes}

-- what the attribute with that name counts, 0 where there is none
abbrev pub cost_under : AttrName → Attributes → ℕ
cost_under name attrs = unwrap_or (option_map cost_of_value (value_of name attrs)) 0

-- the attributes count so many bytes, which no limit lets pass 2 ^ 32
pub record IsCounted (bytes : ℕ) (attrs : Attributes) : Type 0 where
  pub attributes : AreAttributes attrs
  pub sum : bytes ≡ bytes_of_attributes attrs
  pub few : bytes ≤ 2 ^ 32
