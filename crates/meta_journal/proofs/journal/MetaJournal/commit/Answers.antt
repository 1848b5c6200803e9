use Rattle.std.proofs.Common.{◌≡◌, ℕ, ◌+◌, ◌<◌, ◌≤◌, ◌^◌, length, take, refl, sym, ◌∙◌, ap, subst, arith, length-take-le}
use Rattle.std.proofs.lemmas.List.{with_items_is}
use Rattle.std.specs.Vec.{with_items}
use Rattle.meta_journal.specs.Steps.{Journal, HasRoom}
use Rattle.meta_journal.proofs.Committing.{room, seen_same, seen_after, turns_for, adds_for}
use Rattle.meta_journal.proofs.journal.MetaJournal.commit.Given.{Over}
use Rattle.meta_journal.proofs.journal.MetaJournal.commit.Goals.{After-deref}
use Rattle.meta_journal.proofs.journal.MetaJournal.commit.Goals as goal

fits : (g : Over) (c : After-deref g) → c.self.inside.used + (18 + (c.self.inside.size + 0)) ≤ length c.self.inside.bytes.items
fits g c = room c.self.inside.bytes.items c.self.inside.at c.self.inside.used c.self.inside.count c.self.inside.size 0 c.args.self.now c.self.invariant c.self.view_is (c.if-not-fits.ensures.0 refl)

long : (g : Over) (c : After-deref g) → length c.put_frame.new.bytes ≡ length c.self.inside.bytes.items
long g c = c.put_frame.ensures.len ∙ ap length c.deref_mut.ensures.value

items_are : (g : Over) (c : After-deref g) → (with_items c.self.inside.bytes c.put_frame.new.bytes).items ≡ c.put_frame.new.bytes
items_are g c = with_items_is c.self.inside.bytes c.put_frame.new.bytes (omega (arith, long g c, c.self.inside.bytes.ok.0))

buffer_is : (g : Over) (c : After-deref g) → c.deref.result.now ≡ c.put_frame.new.bytes
buffer_is g c = c.deref.ensures.value ∙ items_are g c

few : (g : Over) (c : After-deref g) → c.self.inside.count < 2 ^ 32
few g c = omega (arith, c.self.invariant.few, fits g c, c.self.invariant.short)

body_is : (g : Over) (c : After-deref g) → length (take (17 + c.self.inside.size) c.deref.result.now) ≡ 17 + c.self.inside.size
body_is g c = length-take-le (17 + c.self.inside.size) c.deref.result.now (omega (arith, ap length (buffer_is g c), long g c, fits g c))

pub put_batch-requires-clause-fits : goal.put_batch-requires-clause-fits
put_batch-requires-clause-fits g c =
    let d = (goal.at.put_batch-requires-clause-fits g c).After-deref in
    omega (arith, body_is g d, fits g d, c.requires.there, ap (λ (j : Journal). j.at) c.self.view_is, ap (λ (j : Journal). j.len) c.self.view_is)

pub put_batch-requires-clause-place : goal.put_batch-requires-clause-place
put_batch-requires-clause-place g c =
    let d = (goal.at.put_batch-requires-clause-place g c).After-deref in
    omega (arith, fits g d, c.requires.there, c.len-whole.ensures, c.len-whole.type_inv, ap (λ (j : Journal). j.at) c.self.view_is, ap (λ (j : Journal). j.len) c.self.view_is)

pub invariant_of-self-2 : goal.invariant_of-self-2
invariant_of-self-2 g c =
    let d = (goal.at.invariant_of-self-2 g c).After-deref in
    subst (λ (len : ℕ). HasRoom len (c.self.inside.used + (17 + c.self.inside.size)) 0 0) (sym (ap length (items_are g d) ∙ long g d))
    (record { room = omega (arith, fits g d); short = c.self.invariant.short; fits = λ some. absurd (omega arith); few = omega arith })

pub returns-clause-any_moment : goal.returns-clause-any_moment
returns-clause-any_moment g c =
    let d = (goal.at.returns-clause-any_moment g c).After-deref in
    turns_for c.self.inside.at c.self.inside.used c.self.inside.count c.self.inside.size c.args.number c.self.inside.bytes.items _ _ _ c.args.self.now c.self.invariant c.self.view_is
    c.deref_mut.ensures.value (buffer_is g d) (long g d) c.put_frame.ensures.framed (c.if-not-fits.ensures.0 refl) (few g d) g.D.Disk _ _ c.put_batch.ensures.any_moment

pub returns-in_default-clause-any_moment : goal.returns-in_default-clause-any_moment
returns-in_default-clause-any_moment g c =
    let d = (goal.at.returns-in_default-clause-any_moment g c).After-deref in
    turns_for c.self.inside.at c.self.inside.used c.self.inside.count c.self.inside.size c.args.number c.self.inside.bytes.items _ _ _ c.args.self.now c.self.invariant c.self.view_is
    c.deref_mut.ensures.value (buffer_is g d) (long g d) c.put_frame.ensures.framed (c.if-not-fits.ensures.0 refl) (few g d) g.D.Disk _ _ c.put_batch.ensures.any_moment

pub returns-clause-stored : goal.returns-clause-stored
returns-clause-stored g c = λ image may.
    let d = (goal.at.returns-clause-stored g c).After-deref in
    let old = c.in-Ok.ensures.stored image may in (
      old.0,
      old.1,
      adds_for c.self.inside.at c.self.inside.used c.self.inside.count c.self.inside.size c.args.number c.self.inside.bytes.items _ _ _ c.args.self.now c.self.invariant c.self.view_is
          c.deref_mut.ensures.value (buffer_is g d) (long g d) c.put_frame.ensures.framed (c.if-not-fits.ensures.0 refl) (few g d) old.0 image old.2,
    )

pub returns-clause-after : goal.returns-clause-after
returns-clause-after g c =
    let d = (goal.at.returns-clause-after g c).After-deref in
    seen_after c.self.inside.at c.self.inside.used c.self.inside.count c.self.inside.size c.args.number c.self.inside.bytes.items c.deref_mut.result.now c.put_frame.new.bytes c.deref.result.now c.args.self.now c.self.invariant c.self.view_is _ (items_are g d) (long g d)

pub returns-in_default-clause-same : goal.returns-in_default-clause-same
returns-in_default-clause-same g c =
    let d = (goal.at.returns-in_default-clause-same g c).After-deref in
    seen_same c.self.inside.at c.self.inside.used c.self.inside.count c.self.inside.size _ c.deref_mut.result.now c.self.inside.bytes.items c.put_frame.new.bytes c.args.self.now (items_are g d) (long g d) c.put_frame.ensures.kept c.deref_mut.ensures.value c.self.view_is
