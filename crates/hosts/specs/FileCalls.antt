-- What calls do to what a file holds.
use Rattle.std.specs.Prelude.{◌≡◌, ℕ, List, length}
use Rattle.disk_model.specs.Images.{IsFreed, Follows, Within, Alike}
use Rattle.disk_model.specs.Calls.{Elapses}
use Rattle.hosts.specs.declared.positioned.PositionedFile as file

-- what the file gives, and what a crash may leave of it, is this long
pub record HasLength {F : Type 0} (g : file.Ghosts F) (n : ℕ) (f : F) : Type 0 where
  pub given : (c : List ℕ) → g.gives f c → length c ≡ n
  pub left : (c : List ℕ) → g.may_leave f c → length c ≡ n

-- It gives what it gave, and a crash may leave what it might have left.
pub record Stays {F : Type 0} (g : file.Ghosts F) (old new : F) : Type 0 where
  pub given : Alike (g.gives old) (g.gives new)
  pub crash : Alike (g.may_leave old) (g.may_leave new)
  pub time : Elapses (g.moment old) (g.moment new) (g.left_since old) (g.left_since new) (g.may_leave new)

-- So it is but for a range, in which any bytes may be.
pub record Frees {F : Type 0} (g : file.Ghosts F) (at n : ℕ) (old new : F) : Type 0 where
  pub given : Follows (IsFreed at n) (g.gives old) (g.gives new)
  pub crash : Follows (IsFreed at n) (g.may_leave old) (g.may_leave new)
  pub still : Within (g.may_leave new) (g.may_leave old)
  pub time : Elapses (g.moment old) (g.moment new) (g.left_since old) (g.left_since new) (g.may_leave new)
