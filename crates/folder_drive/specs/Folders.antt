-- What contracts see of a folder as a drive. Of what lies in it nothing is told.
use Rattle.std.specs.Prelude.{ℕ, ◌%◌, Bool, ◌==◌, ◌&&◌, nat_lt}

pub record Folder : Type 0 where
  -- the drive's number, from 0, of so many
  pub number : ℕ
  pub drives : ℕ
  -- how many volumes all drives have together
  pub volumes : ℕ
  -- how many bytes the objects of a volume may have together
  pub capacity : ℕ
  pub faults : ℕ

-- volumes go round the drives
abbrev pub has_volume : Folder → ℕ → Bool
has_volume d v = nat_lt v d.volumes && (v % d.drives == d.number)
