use Rattle.std.proofs.Common.{refl}
use Rattle.std.proofs.lemmas.Result.{err_from_is_err_and}
use Rattle.snapshot_text.specs.Parts.{kept_in}
use Rattle.snapshot_text.proofs.PartsAfter.{within-after, regions-after, eight-after, refused-after}
use Rattle.snapshot_text.proofs.PartsAfter.{err_on}
use Rattle.snapshot_text.proofs.file_parts.FileParts.apply.Goals as goal

pub returns-in_err-change-clause-refused : goal.returns-in_err-change-clause-refused
returns-in_err-change-clause-refused c = λ why.
    let p = err_from_is_err_and c.from_residual.result c.from_residual.ensures.1 in
    rw (p.1, p.2) (err_on _ _ _ (refused-after c.args.change c.args.others c.args.geometry (kept_in c.args.self.now) c.in_err-change.field-0.0 c.in_err-change.ensures.refused why))

pub returns : goal.returns
returns c =
    let none = c.in_ok-change.ensures.judged in
    let taken = c.in_ok-change.ensures.taken in
    record {
      judged = none;
      taken = taken;
      refused = λ why. (λ done. cc, λ some. cc);
      no_disk = λ is. cc;
      sure = λ is. refl;
      within = λ few. rw taken (within-after c.args.change c.args.self.now c.args.others c.args.geometry none few);
      regions = λ lawful. rw taken (regions-after c.args.change c.args.self.now c.args.others c.args.geometry none lawful);
      eight = λ old. rw taken (eight-after c.args.change c.args.self.now c.in_ok-change.ensures.names old);
      numbers = c.in_ok-change.ensures.numbers;
      err = tt;
    }
