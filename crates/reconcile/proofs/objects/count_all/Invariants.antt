use Rattle.std.proofs.Common.{◌≡◌, ◌*◌, ◌≤◌, ℕ, length, sum_by}
use Rattle.std.specs.List.{range_with_len}
use Rattle.media_model.specs.Objects.{Objects}
use Rattle.reconcile.specs.Classes.{AreRead, AreTold, AreQuiet}
use Rattle.reconcile.proofs.objects.count_all.Given as goal

abbrev pub invariant-loop-volume : goal.invariant-loop-volume
invariant-loop-volume g l = record {
  small : l.count ≤ 4294967295 * l.volume;
  counts : (told : ℕ → Objects) → AreTold g.M.Drive l.volumes l.initial.drives told → l.count ≡ sum_by (λ v. length (told v)) (range_with_len 0 l.volume);
  reads : AreRead g.M.Drive l.initial.drives l.drives;
  quiet : AreQuiet g.M.Drive l.initial.drives l.drives;
}
