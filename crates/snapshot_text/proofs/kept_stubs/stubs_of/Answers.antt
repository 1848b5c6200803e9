use Rattle.std.proofs.Common.{ℕ, ◌+◌, ◌++◌, [], ◌∷◌, get_or, true, false, sym, ap, ◌∙◌, append_assoc, length-append, arith}
use Rattle.std.specs.List.{AllByRecursion}
use Rattle.std.proofs.lemmas.List.{drop_more}
use Rattle.hsm_types.specs.Stubs.{Stubs, FitsFile, entry_at}
use Rattle.hsm_types.specs.declared.stubs.Stub.{Stub}
use Rattle.snapshot_text.specs.Files.{NumbersFit, HasNoBlocks}
use Rattle.snapshot_text.specs.FileValidity.{is_above}
use Rattle.snapshot_text.proofs.EachOf.{all-both}
use Rattle.snapshot_text.proofs.LawfulStubs.{ends-more, lawful-at}
use Rattle.snapshot_text.proofs.kept_stubs.stubs_of.Goals as goal
use Rattle.snapshot_text.proofs.kept_stubs.stubs_of.Goals.{then-not-is_above-via-then-not-is_above, then-not-is_above-via-else-not-is_above+then-not-is_lawful}

abbrev no_entry : ℕ × Stub
no_entry = (0, record { entry = entry_at (record { volume = 0; object = 0 }) (record { len = 0; digest = record { 0 = [] } }); offline = false })

pub loop-entry-preserved : goal.loop-entry-preserved
loop-entry-preserved c =
    let so_far = c.loop-entry.invariant in
    let kept = c.loop-entry.kept in
    let x = get_or c.args.stubs.now c.loop-entry.entry-index no_entry in
    let lawful = c.is_lawful.ensures.0 c.if-not-is_lawful.false in
    let more = λ (P : ℕ × Stub → Type 0) (each : AllByRecursion P kept) (here : P x). all-both P kept (x ∷ []) each (here, tt) in
    rw c.in_ok-put.ensures.ok (record {
      put = append_assoc kept (x ∷ []) _ ∙ rw (← drop_more c.args.stubs.now c.loop-entry.entry-index no_entry c.loop-entry-test.true) so_far.put;
      fit = more (FitsFile c.args.size c.args.regions.now) so_far.fit lawful.0;
      away = more (HasNoBlocks c.args.places.now) so_far.away lawful.1;
      ends = ends-more x.0 x.1 kept ((so_far.ends x.0).0 (sym c.is_above.ensures ∙ c.if-not-is_above.false));
      within = omega (arith, length-append kept (x ∷ []), c.in_ok-put.ensures.few);
      fits = more NumbersFit so_far.fits c.in_ok-put.ensures.fits;
    })

pub returns-then-not-is_above-clause-corrupt : goal.returns-then-not-is_above-clause-corrupt
returns-then-not-is_above-clause-corrupt c = λ is are few.
    let so_far = c.loop-entry.invariant in
    let x = get_or c.args.stubs.now c.loop-entry.entry-index no_entry in
    let all = sym so_far.put ∙ ap (λ (r : Stubs). c.loop-entry.kept ++ r) (drop_more c.args.stubs.now c.loop-entry.entry-index no_entry c.loop-entry-test.true) in
    let passes = lawful-at c.args.size c.args.regions.now c.args.places.now c.loop-entry.kept x _ c.loop-entry.before (rw all at are) so_far.ends in
    elim c.then-not-is_above.branch [
      | then-not-is_above-via-then-not-is_above w ↦ let fails = sym c.is_above.ensures ∙ w.if-not-is_above.true in absurd cc
      | then-not-is_above-via-else-not-is_above+then-not-is_lawful w ↦ let holds = w.is_lawful.ensures.1 passes.0 in let fails = w.if-not-is_lawful.true in absurd cc
    ]
