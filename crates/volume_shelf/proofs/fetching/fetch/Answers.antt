use Rattle.std.proofs.Common.{◌∙◌, sym}
use Rattle.std.proofs.lemmas.Result.{err_from_is_err_and}
use Rattle.volume_shelf.proofs.FetchSteps.{there_if_told, step_refused, ended}
use Rattle.volume_shelf.proofs.Running.{reads_on}
use Rattle.volume_shelf.proofs.fetching.fetch.Goals as goal
use Rattle.hsm_types.specs.Stubs.{entry_place, entry_print}

pub returns-in_err-compare-clause-answer : goal.returns-in_err-compare-clause-answer
returns-in_err-compare-clause-answer g c =
    let p = err_from_is_err_and c.from_residual.result c.from_residual.ensures.1 in
    rw (p.1, p.2) (step_refused g.M.Drive c.args.entry.now c.in-Ok.len c.faults-begun.result c.args.drive.now c.payload_len.new.drive c.compare.new.drive c.faults-begun.ensures
    (there_if_told _ _ _ _ (rw c.place-place.ensures at c.in-Ok.ensures.cause)) c.in-Ok.ensures.reads (rw c.place-place.ensures at c.in-Ok.ensures.told) c.in_err-compare.field-0.0 c.in_err-compare.ensures.refused)

pub returns-in_err-compare-clause-reads : goal.returns-in_err-compare-clause-reads
returns-in_err-compare-clause-reads g c = reads_on g.M.Drive c.args.drive.now c.payload_len.new.drive c.compare.new.drive c.in-Ok.ensures.reads c.in_err-compare.ensures.reads

pub returns-clause-answer : goal.returns-clause-answer
returns-clause-answer g c =
    let both = reads_on g.M.Drive c.args.drive.now c.payload_len.new.drive c.compare.new.drive c.in-Ok.ensures.reads c.in_ok-compare.ensures.reads in
    ended g.M.Drive c.args.entry.now (entry_print c.args.entry.now).len c.faults-begun.result c.args.drive.now c.compare.new.drive c.read_whole.new.drive c.faults-begun.ensures
    (there_if_told _ _ _ _ (rw c.place-place.ensures at c.in-Ok.ensures.cause)) both
    (λ o given.
    let told = (rw c.place-place.ensures at c.in-Ok.ensures.told) o given in
    (told.0, sym (c.in_ok-compare.ensures.alike o ((c.in-Ok.ensures.reads.same (entry_place c.args.entry.now).volume).1 o given) told.0 told.1) ∙ told.1))
    c.read_whole.result c.read_whole.ensures.print c.read_whole.ensures.bytes c.read_whole.ensures.refused

pub returns-clause-reads : goal.returns-clause-reads
returns-clause-reads g c = reads_on g.M.Drive c.args.drive.now c.compare.new.drive c.read_whole.new.drive
    (reads_on g.M.Drive c.args.drive.now c.payload_len.new.drive c.compare.new.drive c.in-Ok.ensures.reads c.in_ok-compare.ensures.reads) c.read_whole.ensures.reads
