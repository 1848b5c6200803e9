use Rattle.file_store.proofs.Names.{rules, ◌≡◌, ◌-◌, ℕ, refl, arith, sym, ◌∙◌, ap, min, length, bytes_of, affected_held, Err, None, Some, Kept}
use Rattle.std.specs.Prelude.{max}
use Rattle.hsm_types.specs.Segments.{segments_in}
use Rattle.hsm_types.specs.declared.dm.DmRefusal.{DmRefusal}
use Rattle.hsm_types.specs.Stubs.{any_unpunched}
use Rattle.plain_model.specs.Effects.{Punches}
use Rattle.plain_model.specs.Services.{kept_of}
use Rattle.snapshot_text.specs.declared.refusal.MetaRefusal.TheVariants.{Part}
use Rattle.file_store.proofs.PunchEnds.{punch_end}
use Rattle.std.proofs.lemmas.Result.{err_from_is_err_and}
use Rattle.file_store.proofs.Ended.{ends_as, refused_first}
use Rattle.file_store.proofs.WithBodies.{live-held}
use Rattle.file_store.proofs.store.FileStore.punch.Given.{Over}
use Rattle.file_store.proofs.store.FileStore.punch.Goals.{After-min-last, After-max-end}
use Rattle.file_store.proofs.store.FileStore.punch.Goals as goal

last_is : (g : Over) (c : After-min-last g) → c.min-last.result ≡ min c.args.to (segments_in (length (bytes_of c.args.key c.args.self.now.held.files)))
last_is g c = let least : c.min-last.result ≡ min c.args.to c.segments_in.result = search rules in least ∙ ap (min c.args.to) (c.segments_in.ensures.count ∙ ap segments_in c.size.ensures.size)

end_is : (g : Over) (c : After-max-end g) → c.max-end.result ≡ max c.args.from (min c.args.to (segments_in (length (bytes_of c.args.key c.args.self.now.held.files))))
end_is g c = let most : c.max-end.result ≡ max c.args.from c.min-last.result = search rules in most ∙ ap (max c.args.from) (last_is g (goal.at.After-max-end g c).After-min-last)

-- the segments of both ranges are the same
same_judged : (kept : Kept) (from to end : ℕ) → end ≡ max from to → any_unpunched kept.regions kept.stubs from end ≡ any_unpunched kept.regions kept.stubs from to
same_judged kept from to end is = let count : end - from ≡ to - from = omega arith in rw count refl

pub returns-in_err-punch : goal.returns-in_err-punch
returns-in_err-punch g c =
    let at = (goal.at.returns-in_err-punch g c).After-max-end in
    let kept = kept_of c.args.key c.args.self.now.held.files in
    let refused : (why : DmRefusal) → c.in_err-punch.field-0.0 ≡ Part why → any_unpunched kept.regions kept.stubs c.args.from c.max-end.result ≡ Some why =
    λ why is. rw (c.inode-ino.ensures.kept, ← c.self.view_is, ← c.catalog.ensures.catalog) (c.in_err-punch.ensures.refused why (ap (λ e. Err e) is)) in
    let p = err_from_is_err_and c.from_residual.result c.from_residual.ensures.1 in
    rw (p.1, p.2) record {
      changed = record {
        held = tt;
        ends = refused_first c.has_failed-failed.ensures.idle c.requires.working _ c.in_err-punch.field-0.0 refl (λ is. c.in_err-punch.ensures.no_disk (ap (λ e. Err e) is))
            (λ why is. sym (same_judged kept c.args.from _ c.max-end.result (end_is g at)) ∙ refused why is);
      };
    }

pub returns : goal.returns
returns g c =
    let at = (goal.at.returns g c).After-max-end in
    let kept = kept_of c.args.key c.args.self.now.held.files in
    let live = live-held c.self.invariant.0 c.args.key (rw (← c.self.view_is) at c.requires.live) in
    let judged : any_unpunched kept.regions kept.stubs c.args.from c.max-end.result ≡ None = rw (c.inode-ino.ensures.kept, ← c.self.view_is, ← c.catalog.ensures.catalog) c.in_ok-punch.ensures.judged in
    let ends : affected_held (Punches c.args.from c.max-end.result) c.args.key c.args.self.now.held.files ≡ affected_held (Punches c.args.from c.args.to) c.args.key c.args.self.now.held.files =
    rw (← c.self.view_is) (punch_end c.self.inside.bodies.items c.self.inside.meta c.self.invariant.0 c.args.key live c.args.from c.args.to c.max-end.result (rw (← c.self.view_is) at c.requires.start) (rw (← c.self.view_is) at (end_is g at))) in
    record { changed = record { held = rw (← ends) c.let_go.ensures.changed.held; ends = ends_as (sym judged ∙ same_judged kept c.args.from _ c.max-end.result (end_is g at)) c.let_go.ensures.changed.ends } }
