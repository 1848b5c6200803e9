-- When what a store holds stands for a plain map but for bytes.
use Rattle.std.specs.Prelude.{ℕ, ◌≡◌, ◌*◌, ◌<◌, List, length, map, true, IfSome}
use Rattle.std.specs.List.{AllByRecursion}
use Rattle.hsm_types.specs.Limits.{segment_bytes}
use Rattle.hsm_types.specs.Regions.{covers}
use Rattle.hsm_types.specs.Segments.{segment_len}
use Rattle.hsm_types.specs.Stubs.{stub_at, entry_print}
use Rattle.hsm_types.specs.declared.keys.FileKey.{FileKey}
use Rattle.hsm_types.specs.declared.regions.Region.{Region}
use Rattle.hsm_types.specs.declared.stubs.Stub.{Stub}
use Rattle.plain_model.specs.Plain.{File}
use Rattle.plain_model.specs.Stands.{StandsFor}
use Rattle.plain_model.specs.State.{FileState, State}
use Rattle.plain_model.specs.Step.{World}

-- all of a file but its bytes: its key, its name, and how many they are
pub record Outline : Type 0 where
  pub key : FileKey
  pub name : List ℕ
  pub size : ℕ

abbrev pub outline : File → Outline
outline f = record { key = f.key; name = f.name; size = length f.body }

abbrev pub held_outline : FileState → Outline
held_outline f = record { key = f.key; name = f.name; size = length f.body }

abbrev pub outlines : List File → List Outline
outlines files = map outline files

abbrev pub held_outlines : List FileState → List Outline
held_outlines files = map held_outline files

-- The stub entry of a segment fits a file of that size with these regions: the file has the segment, with as many bytes as the entry says, and where they
-- are away it is covered.
pub record FitsSegment (size : ℕ) (regions : List Region) (j : ℕ) (stub : Stub) : Type 0 where
  pub start : segment_bytes * j < size
  pub len : (entry_print stub.entry).len ≡ segment_len size j
  pub covered : stub.offline ≡ true → covers regions j ≡ true

-- each entry fits the file that has it
abbrev pub FitStubs : FileState → Type 0
FitStubs f = (j : ℕ) → IfSome (stub_at j f.kept.stubs) (FitsSegment (length f.body) f.kept.regions j)

-- The store stands for the world but for bytes: it has as many files as the map, each with its key, its name and its size, and with stub entries that fit;
-- a next generation that is new there; and the same ledger.
pub record StandsButBytes (st : State) (W : World) : Type 0 where
  pub files : held_outlines st.held.files ≡ outlines W.files
  pub stubs : AllByRecursion FitStubs st.held.files
  pub newer : W.last < st.held.next
  pub ledger : st.ledger ≡ W.ledger

-- So it does on any disk, and where the disk tells what it holds it stands for the world.
pub record StandsSeen (Tells : Type 0) (st : State) (W : World) : Type 0 where
  pub outline : StandsButBytes st W
  pub told : Tells → StandsFor st W
