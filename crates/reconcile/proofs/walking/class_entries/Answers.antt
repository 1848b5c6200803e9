use Rattle.std.proofs.Common.{◌<◌, ◌^◌, ◌∙◌, ℕ, [], get_or, refl, arith, below_more}
use Rattle.std.proofs.lemmas.List.{get_or_default}
use Rattle.std.proofs.lemmas.Result.{err_from_is_err_and}
use Rattle.hsm_types.specs.Stubs.{entry_at, entry_place}
use Rattle.hsm_types.specs.declared.stubs.StubEntry.{StubEntry}
use Rattle.reconcile.proofs.Drives.{none_read, read_on, told_on, refused_on}
use Rattle.reconcile.proofs.Walked.{walk_starts, walk_on, walk_ends, tallies}
use Rattle.reconcile.proofs.walking.class_entries.Goals as goal

-- an entry that names the first object of all volumes
abbrev nowhere : StubEntry
nowhere = entry_at (record { volume = 0; object = 0 }) (record { len = 0; digest = record { 0 = [] } })

pub loop-entry-init : goal.loop-entry-init
loop-entry-init g c = rw (c.start-walk.ensures) (record {
  live = omega arith;
  classes = omega arith;
  short = λ k below d. absurd (omega arith);
  counts = λ told are. walk_starts c.args.volumes told c.args.entries.now;
  reads = none_read g.M.Drive c.args.drives.now;
  quiet = refl;
})

pub returns-in_err-found-clause-refused : goal.returns-in_err-found-clause-refused
returns-in_err-found-clause-refused g c =
    let p = err_from_is_err_and c.from_residual.result c.from_residual.ensures.1 in
    rw (p.1, p.2) (refused_on g.M.Drive c.args.volumes c.args.drives.now c.loop-entry.drives c.find.new.drives c.in_err-found.field-0.0 c.loop-entry.invariant.reads c.loop-entry.invariant.quiet c.in_err-found.ensures.refused)

pub returns-in_err-found-clause-reads : goal.returns-in_err-found-clause-reads
returns-in_err-found-clause-reads g c = read_on g.M.Drive c.args.drives.now c.loop-entry.drives c.find.new.drives c.loop-entry.invariant.reads c.in_err-found.ensures.reads

pub returns-in_err-found-clause-quiet : goal.returns-in_err-found-clause-quiet
returns-in_err-found-clause-quiet g c =
    let p = err_from_is_err_and c.from_residual.result c.from_residual.ensures.1 in
    rw (p.1, p.2) (λ well. c.in_err-found.ensures.quiet well ∙ c.loop-entry.invariant.quiet)

pub loop-entry-preserved : goal.loop-entry-preserved
loop-entry-preserved g c =
    let xs = c.args.entries.now in
    let i = c.loop-entry.entry-index in
    let was = c.loop-entry.invariant in
    let e : StubEntry = get_or xs i nowhere in
    let one = tallies g.M.Drive c.args.volumes c.loop-entry.drives e c.in_ok-found.found c.loop-entry.walk c.find.new.self i c.in_ok-found.ensures.finds was.live was.classes in
    rw (c.count.ensures, c.print.ensures) (record {
      live = one.0;
      classes = one.1;
      short = below_more (λ (k : ℕ). (d : StubEntry) → (entry_place (get_or xs k d)).object < 2 ^ 32) i was.short (λ d. rw (get_or_default xs i d nowhere c.loop-entry-test.true) (c.in_ok-found.ensures.short));
      counts = λ told are.
          walk_on g.M.Drive c.args.volumes told c.loop-entry.drives (told_on g.M.Drive c.args.volumes c.args.drives.now c.loop-entry.drives told was.reads are) xs i e c.loop-entry-test.true (λ d. get_or_default xs i d nowhere c.loop-entry-test.true) c.requires.ascending was.short c.in_ok-found.ensures.short
          c.loop-entry.walk c.find.new.self c.in_ok-found.found (was.counts told are) c.in_ok-found.ensures.finds;
      reads = read_on g.M.Drive c.args.drives.now c.loop-entry.drives c.find.new.drives was.reads c.in_ok-found.ensures.reads;
      quiet = c.in_ok-found.ensures.quiet (λ e. e) ∙ was.quiet;
    })

pub returns-clause-counts : goal.returns-clause-counts
returns-clause-counts g c = λ told are. walk_ends c.args.volumes told c.args.entries.now c.loop-entry.entry-index c.loop-entry.walk c.loop-entry-test.false (c.loop-entry.invariant.counts told are)
