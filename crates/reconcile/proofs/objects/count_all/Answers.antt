use Rattle.std.proofs.Common.{◌≡◌, ◌<◌, ◌∙◌, length, sum_by, refl, arith}
use Rattle.std.proofs.lemmas.Result.{err_from_is_err_and}
use Rattle.std.specs.List.{range_with_len}
use Rattle.reconcile.proofs.Drives.{none_read, read_on, one_read, one_quiet, one_tells, one_refuses, told_on, refused_on}
use Rattle.reconcile.proofs.Sums.{sum_up}
use Rattle.reconcile.proofs.objects.count_all.Goals as goal

pub loop-volume-init : goal.loop-volume-init
loop-volume-init g c = record { small = omega arith; counts = λ told are. refl; reads = none_read g.M.Drive c.args.drives.now; quiet = refl }

pub returns-in_err-count_on-clause-refused : goal.returns-in_err-count_on-clause-refused
returns-in_err-count_on-clause-refused g c =
    let p = err_from_is_err_and c.from_residual.result c.from_residual.ensures.1 in
    let ds = c.loop-volume.drives in
    let some : 0 < length ds = omega arith in
    rw (p.1, p.2) (refused_on g.M.Drive c.args.volumes c.args.drives.now ds _ c.in_err-count_on.field-0.0 c.loop-volume.invariant.reads c.loop-volume.invariant.quiet
    (one_refuses g.M.Drive c.loop-volume.volume ds c.index-drives-number.result c.count_on.new.drive some c.args.volumes c.in_err-count_on.field-0.0 c.loop-volume-test.true c.in_err-count_on.ensures.refused))

pub returns-in_err-count_on-clause-reads : goal.returns-in_err-count_on-clause-reads
returns-in_err-count_on-clause-reads g c =
    let ds = c.loop-volume.drives in
    let some : 0 < length ds = omega arith in
    read_on g.M.Drive c.args.drives.now ds _ c.loop-volume.invariant.reads (one_read g.M.Drive c.loop-volume.volume ds c.index-drives-number.result c.count_on.new.drive some c.in_err-count_on.ensures.reads)

pub returns-in_err-count_on-clause-quiet : goal.returns-in_err-count_on-clause-quiet
returns-in_err-count_on-clause-quiet g c =
    let p = err_from_is_err_and c.from_residual.result c.from_residual.ensures.1 in
    let ds = c.loop-volume.drives in
    let some : 0 < length ds = omega arith in
    rw (p.1, p.2) (λ well. one_quiet g.M.Drive c.loop-volume.volume ds c.index-drives-number.result c.count_on.new.drive some (c.in_err-count_on.ensures.quiet well) ∙ c.loop-volume.invariant.quiet)

pub loop-volume-preserved : goal.loop-volume-preserved
loop-volume-preserved g c =
    let ds = c.loop-volume.drives in
    let some : 0 < length ds = omega arith in
    record {
      small = omega arith;
      counts = λ told are.
          let now = told_on g.M.Drive c.args.volumes c.args.drives.now ds told c.loop-volume.invariant.reads are in
          let here = c.in_ok-count_on.ensures.count (told c.loop-volume.volume) (one_tells g.M.Drive c.loop-volume.volume ds c.index-drives-number.result c.count_on.new.drive some c.args.volumes told c.loop-volume-test.true now) in
          let before : c.loop-volume.count ≡ sum_by (λ v. length (told v)) (range_with_len 0 c.loop-volume.volume) = c.loop-volume.invariant.counts told are in
          omega (arith, before, here, c.from.ensures, sum_up (λ v. length (told v)) c.loop-volume.volume);
      reads = read_on g.M.Drive c.args.drives.now ds _ c.loop-volume.invariant.reads (one_read g.M.Drive c.loop-volume.volume ds c.index-drives-number.result c.count_on.new.drive some c.in_ok-count_on.ensures.reads);
      quiet = one_quiet g.M.Drive c.loop-volume.volume ds c.index-drives-number.result c.count_on.new.drive some (c.in_ok-count_on.ensures.quiet (λ e. e)) ∙ c.loop-volume.invariant.quiet;
    }
