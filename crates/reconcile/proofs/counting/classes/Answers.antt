use Rattle.std.proofs.Common.{◌≡◌, ◌∙◌, List, length, ap, subst}
use Rattle.std.proofs.lemmas.List.Sorted.{length_permutation}
use Rattle.std.proofs.lemmas.Result.{err_from_is_err_and}
use Rattle.hsm_types.specs.declared.stubs.StubEntry.{StubEntry}
use Rattle.reconcile.specs.Classes.{class_counts, entries_of}
use Rattle.reconcile.proofs.Drives.{none_read, read_on, told_on, refused_on}
use Rattle.reconcile.proofs.Walked.{all_counts}
use Rattle.reconcile.proofs.counting.classes.Goals as goal

pub returns-in_err-entries-clause-reads : goal.returns-in_err-entries-clause-reads
returns-in_err-entries-clause-reads g c = none_read g.M.Drive c.args.drives.now

pub returns-in_err-counts-clause-refused : goal.returns-in_err-counts-clause-refused
returns-in_err-counts-clause-refused g c =
    let p = err_from_is_err_and c.from_residual-in_err-counts.result c.from_residual-in_err-counts.ensures.1 in
    rw (p.1, p.2) (refused_on g.M.Drive c.args.volumes c.args.drives.now c.count_all.new.drives c.class_entries.new.drives c.in_err-counts.field-0.0 c.in_ok-objects.ensures.reads (c.in_ok-objects.ensures.quiet (λ e. e)) c.in_err-counts.ensures.refused)

pub returns-in_err-counts-clause-reads : goal.returns-in_err-counts-clause-reads
returns-in_err-counts-clause-reads g c = read_on g.M.Drive c.args.drives.now c.count_all.new.drives c.class_entries.new.drives c.in_ok-objects.ensures.reads c.in_err-counts.ensures.reads

pub returns-clause-counts : goal.returns-clause-counts
returns-clause-counts g c = λ told are.
    let counts = subst (λ (l : List StubEntry). c.in_ok-counts.counts ≡ record (class_counts c.args.volumes told l) { dead = 0 }) c.deref.ensures.value
    (c.in_ok-counts.ensures.counts told (told_on g.M.Drive c.args.volumes c.args.drives.now c.count_all.new.drives told c.in_ok-objects.ensures.reads are)) in
    all_counts c.args.volumes told (entries_of c.args.table.now) c.in_ok-entries.entries.items c.in_ok-objects.objects c.saturating_sub.result c.in_ok-counts.counts c.in_ok-entries.ensures.same (c.in_ok-objects.ensures.count told are) counts c.saturating_sub.ensures

pub returns-clause-entries : goal.returns-clause-entries
returns-clause-entries g c = c.in_ok-counts.ensures.entries ∙ ap (λ (l : List StubEntry). length l) c.deref.ensures.value ∙ length_permutation (entries_of c.args.table.now) c.in_ok-entries.entries.items c.in_ok-entries.ensures.same

pub returns-clause-reads : goal.returns-clause-reads
returns-clause-reads g c = read_on g.M.Drive c.args.drives.now c.count_all.new.drives c.class_entries.new.drives c.in_ok-objects.ensures.reads c.in_ok-counts.ensures.reads

pub returns-in_err-counts-clause-quiet : goal.returns-in_err-counts-clause-quiet
returns-in_err-counts-clause-quiet g c =
    let p = err_from_is_err_and c.from_residual-in_err-counts.result c.from_residual-in_err-counts.ensures.1 in
    rw (p.1, p.2) (λ well. c.in_err-counts.ensures.quiet well ∙ c.in_ok-objects.ensures.quiet (λ e. e))

pub returns-clause-quiet : goal.returns-clause-quiet
returns-clause-quiet g c = λ well. c.in_ok-counts.ensures.quiet (λ e. e) ∙ c.in_ok-objects.ensures.quiet (λ e. e)
