-- What is told of a store as a whole.
use Rattle.std.specs.Prelude.{◌≡◌, ℕ, List, map, sum_by, count_by}
use Rattle.hsm_types.specs.Stubs.{Stubs}
use Rattle.plain_model.specs.Segments.{table_of}
use Rattle.plain_model.specs.State.{FileState, Held}
use Rattle.snapshot_text.specs.Files.{geometry_of}
use Rattle.file_store.specs.Stores.{IsRecovered}
use Rattle.store_summary.specs.declared.summaries.Summary.{Summary}

-- how many segments are offline by these entries
abbrev pub offline_by : Stubs → ℕ
offline_by stubs = count_by (λ x. x.1.offline) stubs

-- how many segments of these files are
abbrev pub offline_of : List FileState → ℕ
offline_of files = sum_by (λ f. offline_by f.kept.stubs) files

-- what is told of a store of that geometry and that id, which holds this under that number; no stamp lasts
abbrev pub summary_of : ℕ → ℕ → ℕ → Held → Summary
summary_of geometry fsid n h = record { number = n; table = table_of (record { geometry = geometry_of geometry; fsid = fsid }) (λ k. 0) h; names = map (λ f. f.name) h.files }

-- Recovery finds a store on the image, and this is told of whatever it finds there.
pub record IsSummary (s : Summary) (image : List ℕ) : Type 0 where
  pub geometry : ℕ
  pub fsid : ℕ
  pub held : Held
  pub found : IsRecovered geometry fsid s.number held image
  pub told : (geometry fsid n : ℕ) (h : Held) → IsRecovered geometry fsid n h image → s ≡ summary_of geometry fsid n h
