use Rattle.std.proofs.Common.{◌≡◌, ◌+◌, ◌^◌, ◌<◌, ◌≤◌, ℕ, get_or}
use Rattle.hsm_types.specs.Stubs.{entry_place}
use Rattle.hsm_types.specs.declared.stubs.StubEntry.{StubEntry}
use Rattle.media_model.specs.Objects.{Objects}
use Rattle.reconcile.specs.Classes.{AreRead, AreTold, AreQuiet}
use Rattle.reconcile.proofs.Walked.{IsWalk}
use Rattle.reconcile.proofs.walking.class_entries.Given as goal

abbrev pub invariant-loop-entry : goal.invariant-loop-entry
invariant-loop-entry g l = record {
  live : l.walk.counts.live ≤ l.entry-index;
  classes : l.walk.counts.held + l.walk.counts.missing + l.walk.counts.altered ≡ l.entry-index;
  short : (k : ℕ) → k < l.entry-index → (d : StubEntry) → (entry_place (get_or l.entries k d)).object < 2 ^ 32;
  counts : (told : ℕ → Objects) → AreTold g.M.Drive l.volumes l.initial.drives told → IsWalk l.volumes told l.entries l.entry-index l.walk;
  reads : AreRead g.M.Drive l.initial.drives l.drives;
  quiet : AreQuiet g.M.Drive l.initial.drives l.drives;
}
