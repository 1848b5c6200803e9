use Rattle.std.proofs.Common.{◌≡◌, ◌∙◌, ◌<◌, ◌≤◌, ℕ, List, Some, length, get_or, sym, ap, subst}
use Rattle.extent_map.specs.declared.extents.Extent.{Extent}
use Rattle.extent_map.specs.Extents.{is_entry_of, CutsExtents}
use Rattle.extent_map.proofs.Places.{place_there, place_none, set_there, insert_there}
use Rattle.extent_map.proofs.extents.put.Goals.{After-stands_at}
use Rattle.extent_map.proofs.extents.put.Goals as goal

cuts : (c : After-stands_at) → CutsExtents c.args.entry.ino c.args.entry.block c.count_before-index.result c.args.entries.now.items
cuts c = subst (λ (k : ℕ). CutsExtents c.args.entry.ino k c.count_before-index.result c.args.entries.now.items) c.from.ensures
    (subst (λ (l : List Extent). CutsExtents c.args.entry.ino c.from.result c.count_before-index.result l) c.as_slice.ensures.value c.count_before-index.ensures.cuts)

there : (c : After-stands_at) (d : Extent) → c.count_before-index.result < length c.args.entries.now.items → c.stands_at.result ≡ is_entry_of c.args.entry.ino c.args.entry.block (get_or c.args.entries.now.items c.count_before-index.result d)
there c d = subst (λ (l : List Extent). c.count_before-index.result < length l → c.stands_at.result ≡ is_entry_of c.args.entry.ino c.args.entry.block (get_or l c.count_before-index.result d)) c.as_slice-2.ensures.value (c.stands_at.ensures.there d)

pub returns-then-stands_at-clause-old : goal.returns-then-stands_at-clause-old
returns-then-stands_at-clause-old c =
    let e = c.args.entry in
    let es = c.args.entries.now.items in
    let n = c.count_before-index.result in
    let old = c.index-old.result.now in
    let s = (goal.at.returns-then-stands_at-clause-old c).After-stands_at in
    let lt = subst (λ (l : List Extent). n < length l) c.as_slice-2.ensures.value (c.stands_at.ensures.within c.if-stands_at.true) in
    ap (λ (x : Extent). Some x.at) c.index-old.ensures ∙ sym (place_there e.ino e.block n es old (cuts s) lt (sym (there s old lt) ∙ c.if-stands_at.true))

pub returns-then-stands_at-clause-items : goal.returns-then-stands_at-clause-items
returns-then-stands_at-clause-items c =
    let e = c.args.entry in
    let es = c.args.entries.now.items in
    let n = c.count_before-index.result in
    let s = (goal.at.returns-then-stands_at-clause-items c).After-stands_at in
    let lt = subst (λ (l : List Extent). n < length l) c.as_slice-2.ensures.value (c.stands_at.ensures.within c.if-stands_at.true) in
    set_there e n es e (cuts s) lt (sym (there s e lt) ∙ c.if-stands_at.true)

pub unwrap-requires : goal.unwrap-requires
unwrap-requires c =
    let e = c.args.entry in
    let s = (goal.at.unwrap-requires c).After-stands_at in
    c.insert.ensures.succeeds (c.requires.room (place_none e.ino e.block c.count_before-index.result c.args.entries.now.items e c.requires.order (cuts s) (λ lt. sym (there s e lt) ∙ c.if-stands_at.false)))

pub returns-clause-old : goal.returns-clause-old
returns-clause-old c =
    let e = c.args.entry in
    let s = (goal.at.returns-clause-old c).After-stands_at in
    sym (place_none e.ino e.block c.count_before-index.result c.args.entries.now.items e c.requires.order (cuts s) (λ lt. sym (there s e lt) ∙ c.if-stands_at.false))

pub returns-clause-items : goal.returns-clause-items
returns-clause-items c =
    let e = c.args.entry in
    let es = c.args.entries.now.items in
    let n = c.count_before-index.result in
    let s = (goal.at.returns-clause-items c).After-stands_at in
    let within = subst (λ (l : List Extent). n ≤ length l) c.as_slice.ensures.value c.count_before-index.ensures.within in
    c.insert.ensures.items ∙ rw c.unwrap.ensures (insert_there e n es e (cuts s) within (λ lt. sym (there s e lt) ∙ c.if-stands_at.false))
