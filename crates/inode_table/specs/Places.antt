-- Where files stand in the list.
use Rattle.std.specs.Prelude.{◌≡◌, ℕ, zero, suc, List, [], ◌∷◌, true, false, nat_lt}
use Rattle.hsm_types.specs.declared.keys.FileKey.{FileKey}
use Rattle.hsm_types.specs.Keyed.{same_key}
use Rattle.inode_table.specs.declared.entries.FileEntry.{FileEntry}

-- so many files have inodes below that one, and the next file hasn't
abbrev pub Cuts : ℕ → ℕ → List FileEntry → Type 0
Cuts ino zero [] = Unit {0}
Cuts ino zero (f ∷ fs) = nat_lt f.key.ino ino ≡ false
Cuts ino (suc i) [] = ⊥
Cuts ino (suc i) (f ∷ fs) = (nat_lt f.key.ino ino ≡ true) × Cuts ino i fs

-- the file with that key stands at that place
abbrev pub StandsAt : FileKey → ℕ → List FileEntry → Type 0
StandsAt key i [] = ⊥
StandsAt key zero (f ∷ fs) = same_key f.key key ≡ true
StandsAt key (suc i) (f ∷ fs) = (same_key f.key key ≡ false) × StandsAt key i fs
