use Rattle.std.proofs.Common.{refl, sym, ◌∙◌, ap, subst}
use Rattle.commit_slots.specs.Places.{other}
use Rattle.meta_store.specs.Meta.{Meta, Backs}
use Rattle.meta_store.proofs.CommitTurns.{stores_nothing, place_on, HasSwitched, Commits, commits}
use Rattle.meta_store.proofs.store.MetaStore.commit.Given.{Over}
use Rattle.meta_store.proofs.store.MetaStore.commit.Goals.{After-store}
use Rattle.meta_store.proofs.store.MetaStore.commit.Goals as goal

done : (g : Over) (c : After-store g) → Commits g.D.Disk c.args.disk.now c.store.new.disk c.args.self.now c.args.number (HasSwitched g.D.Disk c.args.disk.now c.store.new.disk c.self.inside.slots.geometry c.self.inside.slots.slot c.deref.result.now)
done g c = subst (λ (m : Meta). Commits g.D.Disk c.args.disk.now c.store.new.disk m c.args.number (HasSwitched g.D.Disk c.args.disk.now c.store.new.disk c.self.inside.slots.geometry c.self.inside.slots.slot c.deref.result.now)) c.self.view_is
    (commits g.D.Disk _ _ _ (record { stored = c.self.invariant.0; current = c.in-Ok.ensures.lawful }) (subst (Backs g.D.Disk c.args.disk.now) (sym c.self.view_is) c.requires.backs) c.args.number c.requires.number _ c.self.invariant.1 _
    (c.deref.ensures.value ∙ c.in-Ok.ensures.spelled) (rw c.deref.ensures.value c.in-Ok.ensures.short) c.store.ensures.any_moment)

pub returns-in-Ok-store-clause-any_moment : goal.returns-in-Ok-store-clause-any_moment
returns-in-Ok-store-clause-any_moment g c = (done g (goal.at.returns-in-Ok-store-clause-any_moment g c).After-store).turns

pub returns-clause-any_moment : goal.returns-clause-any_moment
returns-clause-any_moment g c = (done g (goal.at.returns-clause-any_moment g c).After-store).turns

pub returns-in_default-clause-any_moment : goal.returns-in_default-clause-any_moment
returns-in_default-clause-any_moment g c = stores_nothing g.D.Disk _ _ _ c.requires.backs (g.met.D.Disk.only_now c.args.disk.now)

pub returns-in-Ok-store-clause-stored : goal.returns-in-Ok-store-clause-stored
returns-in-Ok-store-clause-stored g c = (done g (goal.at.returns-in-Ok-store-clause-stored g c).After-store).stores c.in-Ok-store.ensures.stored

pub returns-in-Ok-store-clause-backs : goal.returns-in-Ok-store-clause-backs
returns-in-Ok-store-clause-backs g c =
    (done g (goal.at.returns-in-Ok-store-clause-backs g c).After-store).backs c.in-Ok-store.ensures.stored _ (ap (λ s. place_on s.slot) c.in-Ok-store.ensures.slot ∙ ap (λ (m : Meta). place_on (other m.place.slot)) c.self.view_is)
    (ap (λ (m : Meta). m.fsid) c.self.view_is) refl (c.of.ensures ∙ ap (λ (m : Meta). m.current) c.self.view_is)
