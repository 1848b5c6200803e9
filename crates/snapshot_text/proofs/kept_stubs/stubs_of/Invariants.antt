use Rattle.std.proofs.Common.{◌≡◌, ◌≤◌, ◌++◌, drop, length}
use Rattle.std.specs.List.{AllByRecursion}
use Rattle.hsm_types.specs.Stubs.{FitsFile}
use Rattle.snapshot_text.specs.Files.{NumbersFit, HasNoBlocks}
use Rattle.snapshot_text.proofs.LawfulStubs.{IsEnd}
use Rattle.snapshot_text.proofs.kept_stubs.stubs_of.Given as goal

abbrev pub invariant-loop-entry : goal.invariant-loop-entry
invariant-loop-entry l = record {
  put : l.kept ++ drop l.entry-index l.stubs ≡ l.stubs;
  fit : AllByRecursion (FitsFile l.size l.regions) l.kept;
  away : AllByRecursion (HasNoBlocks l.places) l.kept;
  ends : IsEnd l.before l.kept;
  within : length l.kept ≤ l.limit;
  fits : AllByRecursion NumbersFit l.kept;
}
