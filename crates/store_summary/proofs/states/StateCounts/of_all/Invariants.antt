use Rattle.std.proofs.Common.{◌≡◌, ℕ, ◌*◌, ◌^◌, ◌≤◌, Bool, List, take, count_by}
use Rattle.hsm_types.specs.declared.stubs.Segment.{Segment}
use Rattle.hsm_types.specs.declared.tables.FileRow.{FileRow}
use Rattle.store_summary.specs.Shown.{is_resident, is_sealed, is_offline, all_segments}
use Rattle.store_summary.proofs.states.StateCounts.of_all.Given as goal

-- the number of those in the first n files, of which each has fewer than 2^64
pub record IsCounted (test : Segment → Bool) (files : List FileRow) (n count : ℕ) : Type 0 where
  pub counted : count ≡ count_by test (all_segments (take n files))
  pub few : count ≤ 2 ^ 64 * n

abbrev pub invariant-loop-file : goal.invariant-loop-file
invariant-loop-file l =
    IsCounted is_resident l.files l.file-index l.all.resident × IsCounted is_sealed l.files l.file-index l.all.sealed × IsCounted is_offline l.files l.file-index l.all.offline
