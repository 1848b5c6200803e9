use Rattle.std.proofs.Common.{◌≡◌, ℕ, ◌+◌, ◌++◌, length, refl, sym, ◌∙◌, ap, subst, arith}
use Rattle.std.proofs.lemmas.List.{with_items_is}
use Rattle.std.specs.Vec.{with_items}
use Rattle.disk_model.specs.Images.{part}
use Rattle.meta_journal.specs.Steps.{HasRoom}
use Rattle.meta_journal.proofs.Framing.{staged_more}
use Rattle.meta_journal.proofs.Committing.{room, seen_more}
use Rattle.meta_journal.proofs.journal.MetaJournal.append.Goals.{After-overwrite}
use Rattle.meta_journal.proofs.journal.MetaJournal.append.Goals as goal

staged : (c : After-overwrite) → (length c.overwrite.new.content ≡ length c.self.inside.bytes.items) × (part c.overwrite.new.content 16 (c.self.inside.size + length c.args.bytes.now) ≡ part c.self.inside.bytes.items 16 c.self.inside.size ++ c.args.bytes.now)
staged c = staged_more c.self.inside.bytes.items _ c.overwrite.new.content c.args.bytes.now c.self.inside.size _ c.deref_mut.ensures.value refl (omega (arith, room c.self.inside.bytes.items c.self.inside.at c.self.inside.used c.self.inside.count c.self.inside.size (length c.args.bytes.now) c.args.self.now c.self.invariant c.self.view_is (c.if-not-fits.ensures.0 refl))) c.overwrite.ensures

items_are : (c : After-overwrite) → (with_items c.self.inside.bytes c.overwrite.new.content).items ≡ c.overwrite.new.content
items_are c = with_items_is c.self.inside.bytes c.overwrite.new.content (omega (arith, (staged c).0, c.self.inside.bytes.ok.0))

pub overwrite-requires : goal.overwrite-requires
overwrite-requires c = omega (arith, room c.self.inside.bytes.items c.self.inside.at c.self.inside.used c.self.inside.count c.self.inside.size (length c.args.bytes.now) c.args.self.now c.self.invariant c.self.view_is (c.if-not-fits.ensures.0 refl), ap length c.deref_mut.ensures.value)

pub invariant_of-self : goal.invariant_of-self
invariant_of-self c =
    let d = (goal.at.invariant_of-self c).After-overwrite in
    subst (λ (len : ℕ). HasRoom len c.self.inside.used (c.self.inside.count + 1) (c.self.inside.size + length c.args.bytes.now)) (sym (ap length (items_are d) ∙ (staged d).0))
    (record { room = c.self.invariant.room; short = c.self.invariant.short; fits = λ some. room c.self.inside.bytes.items c.self.inside.at c.self.inside.used c.self.inside.count c.self.inside.size (length c.args.bytes.now) c.args.self.now c.self.invariant c.self.view_is (c.if-not-fits.ensures.0 refl); few = omega (arith, c.self.invariant.few, c.requires.some) })

pub returns-clause-staged : goal.returns-clause-staged
returns-clause-staged c =
    let d = (goal.at.returns-clause-staged c).After-overwrite in
    seen_more c.self.inside.at c.self.inside.used c.self.inside.count c.self.inside.size _ c.self.inside.bytes.items c.overwrite.new.content c.args.bytes.now c.args.self.now (items_are d) (staged d) c.self.view_is
