use Rattle.std.proofs.Common.{◌∙◌, ap, subst, ℕ, ◌+◌, length, drop}
use Rattle.std.proofs.lemmas.Result.{err_from_is_err_and}
use Rattle.hsm_types.specs.Stubs.{print_of, entry_at}
use Rattle.hsm_types.specs.declared.stubs.Fingerprint.{Fingerprint}
use Rattle.hsm_types.specs.declared.stubs.StubEntry.{StubEntry}
use Rattle.volume_shelf.specs.Shelf.{CopyRefused}
use Rattle.volume_shelf.specs.Steps.{Prints, IsUnlike}
use Rattle.volume_shelf.proofs.Running.{copied, unlike, reads_on, grows_on}
use Rattle.volume_shelf.proofs.copying.copy.Goals as goal

pub returns-in_err-number-clause-answer : goal.returns-in_err-number-clause-answer
returns-in_err-number-clause-answer g c =
    let p = err_from_is_err_and c.from_residual.result c.from_residual.ensures.1 in
    rw (p.1, p.2) (subst (λ (n : ℕ). CopyRefused g.M.Drive c.args.volume n (print_of c.args.bytes.now) c.args.drive.now c.put.new.drive c.in_err-number.field-0.0)
    (ap length c.as_slice.ensures ∙ c.in-Ok.ensures.size) (c.in_err-number.ensures.answer (print_of c.args.bytes.now)))

pub returns-in_err-compare-clause-answer : goal.returns-in_err-compare-clause-answer
returns-in_err-compare-clause-answer g c =
    let p = err_from_is_err_and c.from_residual-in_err-compare.result c.from_residual-in_err-compare.ensures.1 in
    let apart = subst (λ (b : ℕ). IsUnlike g.M.Drive c.args.volume c.in_ok-number.number (print_of c.args.bytes.now) b c.put.new.drive c.compare.new.drive c.in_err-compare.field-0.0) c.faults-begun.ensures
    (subst (λ (w : Fingerprint). IsUnlike g.M.Drive c.args.volume c.in_ok-number.number w c.faults-begun.result c.put.new.drive c.compare.new.drive c.in_err-compare.field-0.0) c.fingerprint-print.ensures c.in_err-compare.ensures.unlike) in
    let payload = c.payload_follows.ensures c.args.handle.now c.args.segment c.args.bytes.now c.in-Ok.object c.in-Ok.ensures.grammar in
    rw (p.1, p.2) (unlike g.M.Drive c.args.volume c.in_ok-number.number (72 + length c.args.bytes.now) c.args.bytes.now c.as_slice.result.now c.args.drive.now c.put.new.drive c.compare.new.drive c.in_err-compare.field-0.0
    (ap length c.as_slice.ensures ∙ c.in-Ok.ensures.size) (ap (drop 72) c.as_slice.ensures ∙ payload.payload) (λ d v sure there. g.met.M.Drive.sure_tells sure d v there)
    c.in_ok-number.ensures.answer c.in_ok-number.ensures.grows (c.in_ok-number.ensures.quiet (λ none. none)) c.in_err-compare.ensures.reads apart)

pub returns-in_err-compare-clause-grows : goal.returns-in_err-compare-clause-grows
returns-in_err-compare-clause-grows g c = grows_on g.M.Drive c.args.volume c.args.drive.now c.put.new.drive c.compare.new.drive c.in_ok-number.ensures.grows c.in_err-compare.ensures.reads

pub returns-in_err-make_last-clause-grows : goal.returns-in_err-make_last-clause-grows
returns-in_err-make_last-clause-grows g c = grows_on g.M.Drive c.args.volume c.args.drive.now c.put.new.drive c.make_last.new.drive c.in_ok-number.ensures.grows
    (reads_on g.M.Drive c.put.new.drive c.compare.new.drive c.make_last.new.drive c.in_ok-compare.ensures.reads c.in_err-make_last.ensures.reads)

pub returns-clause-grows : goal.returns-clause-grows
returns-clause-grows g c = grows_on g.M.Drive c.args.volume c.args.drive.now c.put.new.drive c.make_last.new.drive c.in_ok-number.ensures.grows
    (reads_on g.M.Drive c.put.new.drive c.compare.new.drive c.make_last.new.drive c.in_ok-compare.ensures.reads c.in_ok-make_last.ensures.reads)

pub returns-clause-answer : goal.returns-clause-answer
returns-clause-answer g c =
    let told = subst (Prints g.M.Drive c.args.volume c.in_ok-number.number c.put.new.drive) c.fingerprint-print.ensures c.in_ok-compare.ensures.same in
    let named : Fingerprint → StubEntry = λ p. entry_at (record { volume = c.args.volume; object = c.in_ok-number.number }) p in
    rw c.new.ensures (copied g.M.Drive c.args.volume c.in_ok-number.number c.args.segment c.args.handle.now c.args.bytes.now c.as_slice.result.now c.args.drive.now c.put.new.drive c.compare.new.drive c.make_last.new.drive (named c.fingerprint-print.result)
    (c.as_slice.ensures ∙ c.in-Ok.ensures.bytes) (ap length c.as_slice.ensures ∙ c.in-Ok.ensures.size) (ap named c.fingerprint-print.ensures)
    c.in_ok-number.ensures.answer c.in_ok-compare.ensures.reads told c.in_ok-make_last.ensures.reads c.in_ok-make_last.ensures.lasts)
