-- How drives go on while they are used: their volumes get objects, and lose none.
use Rattle.std.specs.Prelude.{◌≡◌, ℕ, ◌≤◌, List, [], ◌∷◌, ◌++◌}
use Rattle.media_model.specs.Objects.{Objects, Follows, KeepsVolumes}
use Rattle.media_model.specs.declared.drive.Drive as drive

-- the same objects, and perhaps more behind them
abbrev pub Extends : Objects → Objects → Type 0
Extends old new = (more : Objects) × (new ≡ old ++ more)

module _ {M : Type 0} (g : drive.Ghosts M) where
  -- the same drive, after copies and fetches
  pub record HasGrown (old new : M) : Type 0 where
    pub objects : (v : ℕ) → Follows Extends (g.gives old v) (g.gives new v)
    pub volumes : KeepsVolumes (g.has old) (g.has new) (g.capacity_of old) (g.capacity_of new) (g.lasting old) (g.lasting new)
    pub faults : g.fault_count old ≤ g.fault_count new

  -- the same drives, each after that
  abbrev pub HaveGrown : List M → List M → Type 0
  HaveGrown [] [] = Unit {0}
  HaveGrown (d ∷ ds) (e ∷ es) = HasGrown d e × HaveGrown ds es
  HaveGrown ds es = ⊥
