use Rattle.std.proofs.Common.{sym, ◌∙◌, ap, subst}
use Rattle.std.proofs.lemmas.Result.{err_from_is_err_and}
use Rattle.meta_store.specs.Records.{after_all}
use Rattle.meta_store.specs.Catalogs.{AreLengths}
use Rattle.meta_store.specs.Meta.{Meta}
use Rattle.meta_store.proofs.AppliedRecords.{told_on}
use Rattle.meta_store.proofs.CommitTurns.{stores_nothing}
use Rattle.meta_store.proofs.store.MetaStore.apply.Goals.{After-geometry-geometry}
use Rattle.meta_store.proofs.store.MetaStore.apply.Goals as goal

pub returns-in_err-apply_all-clause-any_moment : goal.returns-in_err-apply_all-clause-any_moment
returns-in_err-apply_all-clause-any_moment g c = stores_nothing g.D.Disk _ _ _ c.requires.backs (g.met.D.Disk.only_now c.args.disk.now)

pub returns-in_err-apply_all-clause-refused : goal.returns-in_err-apply_all-clause-refused
returns-in_err-apply_all-clause-refused g c = λ why.
    let p = err_from_is_err_and c.from_residual.result c.from_residual.ensures.1 in
    rw (p.1, p.2, ← c.self.view_is) (told_on _ _ _ (c.in_err-apply_all.ensures.refused why))

pub returns-in_err-apply_all-clause-err : goal.returns-in_err-apply_all-clause-err
returns-in_err-apply_all-clause-err g c =
    let p = err_from_is_err_and c.from_residual.result c.from_residual.ensures.1 in
    rw (p.1, c.in_err-apply_all.ensures.err) c.self.view_is

pub invariant_of-self-2 : goal.invariant_of-self-2
invariant_of-self-2 g c =
    let now = subst AreLengths (sym (c.in_ok-apply_all.ensures.taken ∙ ap (λ (m : Meta). after_all c.args.records m.current) c.self.view_is)) c.requires.lengths in
    let geometry = c.in_ok-apply_all.ensures.geometry in
    (record { number = c.self.invariant.0.number; catalog = c.self.invariant.0.catalog; geometry = geometry ∙ c.self.invariant.0.geometry; lengths = c.self.invariant.0.lengths; now = now }, c.self.invariant.1 ∙ sym geometry)

pub returns-clause-any_moment : goal.returns-clause-any_moment
returns-clause-any_moment g c = stores_nothing g.D.Disk _ _ _ c.requires.backs (g.met.D.Disk.only_now c.args.disk.now)

pub returns-clause-lawful : goal.returns-clause-lawful
returns-clause-lawful g c = record { stored = (invariant_of-self-2 g (goal.at.returns-clause-lawful g c).After-geometry-geometry).0; current = c.geometry-geometry.ensures.valid }
