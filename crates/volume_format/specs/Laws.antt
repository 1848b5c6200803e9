-- Laws on the bytes of objects.
use Rattle.std.specs.Prelude.{◌≡◌, ℕ, ◌+◌, List, length, drop}
use Rattle.hsm_types.specs.declared.keys.Handle.{Handle}
use Rattle.volume_format.specs.Objects.{IsObject}

-- the bytes are an object
abbrev pub IsSomeObject : List ℕ → Type 0
IsSomeObject bytes = (h : Handle) × (j : ℕ) × (payload : List ℕ) × IsObject h j payload bytes

-- what an object has is what was written
pub record IsSame (h g : Handle) (i j : ℕ) (p q : List ℕ) : Type 0 where
  pub handle : h ≡ g
  pub segment : i ≡ j
  pub payload : p ≡ q

-- the payload follows the frame
pub record IsFramed (p object : List ℕ) : Type 0 where
  pub size : length object ≡ 72 + length p
  pub payload : drop 72 object ≡ p
