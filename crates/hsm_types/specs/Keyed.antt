-- Lists of files in the order of their inodes, whatever is kept of each file, and values by number.
use Rattle.std.specs.Prelude.{ℕ, List, [], ◌∷◌, ◌==◌, nat_lt, if◌then◌else◌, Option, Some, None}
pub use Rattle.hsm_types.specs.Handles.{same_key}
use Rattle.hsm_types.specs.declared.keys.FileKey.{FileKey}

-- the file with that key, if there is one
abbrev pub find_key : {F : Type 0} → (F → FileKey) → FileKey → List F → Option F
find_key key k [] = None
find_key key k (f ∷ fs) = if same_key (key f) k then Some f else find_key key k fs

-- the file with that key is changed
abbrev pub change_key : {F : Type 0} → (F → FileKey) → FileKey → (F → F) → List F → List F
change_key key k change [] = []
change_key key k change (f ∷ fs) = if same_key (key f) k then change f ∷ fs else f ∷ change_key key k change fs

-- one file more, by its inode
abbrev pub put_key : {F : Type 0} → (F → FileKey) → F → List F → List F
put_key key g [] = g ∷ []
put_key key g (f ∷ fs) = if nat_lt (key g).ino (key f).ino then g ∷ f ∷ fs else f ∷ put_key key g fs

-- without the file with that key
abbrev pub drop_key : {F : Type 0} → (F → FileKey) → FileKey → List F → List F
drop_key key k [] = []
drop_key key k (f ∷ fs) = if same_key (key f) k then fs else f ∷ drop_key key k fs

-- f with this value at this place
abbrev pub set_at : {V : Type 0} → ℕ → V → (ℕ → V) → ℕ → V
set_at place value f n = if n == place then value else f n
