use Rattle.std.proofs.Common.{◌≡◌, List, ℕ, length, sym, ◌∙◌, ap, subst, arith}
use Rattle.std.proofs.lemmas.List.{with_items_is}
use Rattle.disk_model.specs.Images.{part}
use Rattle.meta_journal.specs.declared.lists.Batch.{Batch}
use Rattle.meta_journal.specs.Texts.{IsReading}
use Rattle.meta_journal.specs.Steps.{Journal}
use Rattle.meta_journal.proofs.Readings.{one_reading}
use Rattle.meta_journal.proofs.scanning.scan.Given.{Over}
use Rattle.meta_journal.proofs.scanning.scan.Goals.{After-front_of}
use Rattle.meta_journal.proofs.scanning.scan.Goals as goal

buffer_long : (g : Over) (c : After-front_of g) → length c.deref_mut.result.now ≡ c.args.len
buffer_long g c = omega (arith, c.deref_mut.ensures.len, c.in-Ok.ensures.len, c.in-Ok.bytes.ok.0)

journal_is : (g : Over) (c : After-front_of g) (image : List ℕ) → g.D.Disk.gives c.args.disk.now image → c.deref.result.now ≡ part image c.args.at c.args.len
journal_is g c image given =
    c.deref.ensures.value ∙ with_items_is c.in-Ok.bytes c.read_at.new.buf (omega (arith, c.read_at.auto.buf, buffer_long g c, c.in-Ok.ensures.len, c.in-Ok.bytes.ok.0))
    ∙ c.in-Ok-read_at.ensures.bytes image given ∙ ap (λ (n : ℕ). part image c.args.at n) (buffer_long g c)

pub returns-clause-read : goal.returns-clause-read
returns-clause-read g c = λ image given.
    let d = (goal.at.returns-clause-read g c).After-front_of in
    subst (λ (batches : List Batch). IsReading (part image c.args.at c.args.len) c.args.at c.args.number batches c.unstaged-journal.result.used c.in-Ok-front_of.front.bad) (sym c.new-batches.ensures)
    (subst (λ (l : List ℕ). IsReading l c.args.at c.args.number c.in-Ok-front_of.front.batches.items c.unstaged-journal.result.used c.in-Ok-front_of.front.bad) (journal_is g d image given)
    (subst (λ (used : ℕ). IsReading c.deref.result.now c.args.at c.args.number c.in-Ok-front_of.front.batches.items used c.in-Ok-front_of.front.bad) (sym (ap (λ (j : Journal). j.used) c.unstaged-journal.ensures)) c.in-Ok-front_of.ensures.read))

pub returns-clause-no_other_reading : goal.returns-clause-no_other_reading
returns-clause-no_other_reading g c = λ image given batches used bad read.
    let d = (goal.at.returns-clause-no_other_reading g c).After-front_of in
    let once = one_reading c.deref.result.now (omega (arith, c.deref.ensures.len, buffer_long g d, c.read_at.auto.buf, c.in-Ok.ensures.len, c.requires.short)) c.args.at c.args.number _ batches _ used _ bad c.in-Ok-front_of.ensures.read
    (subst (λ (l : List ℕ). IsReading l c.args.at c.args.number batches used bad) (sym (journal_is g d image given)) read) in
    (c.new-batches.ensures ∙ once.0, ap (λ (j : Journal). j.used) c.unstaged-journal.ensures ∙ once.1, once.2)
