use Rattle.std.proofs.Common.{◌≤◌, sym, arith}
use Rattle.extent_map.proofs.Ranges.{cuts_ordered, filter_cut, without_cut, narrow_none, narrow_same}
use Rattle.extent_map.proofs.extents.range.Goals as goal

pub returns-then-to-from-clause-inside : goal.returns-then-to-from-clause-inside
returns-then-to-from-clause-inside c = sym (narrow_none c.args.ino c.args.from c.args.to c.args.entries.now c.if-to-from.true)

pub returns-then-to-from-clause-outside : goal.returns-then-to-from-clause-outside
returns-then-to-from-clause-outside c = narrow_same c.args.ino c.args.from c.args.to c.args.entries.now c.if-to-from.true

pub returns-clause-order : goal.returns-clause-order
returns-clause-order c =
    cuts_ordered c.args.ino c.args.from c.args.to c.count_before-first.result c.count_before-last.result c.args.entries.now (omega (arith, c.if-to-from.false)) c.count_before-first.ensures.within
    c.count_before-first.ensures.cuts c.count_before-last.ensures.cuts

pub returns-clause-inside : goal.returns-clause-inside
returns-clause-inside c =
    let wide : c.args.from ≤ c.args.to = omega (arith, c.if-to-from.false) in
    let order = cuts_ordered c.args.ino c.args.from c.args.to c.count_before-first.result c.count_before-last.result c.args.entries.now wide c.count_before-first.ensures.within c.count_before-first.ensures.cuts c.count_before-last.ensures.cuts in
    sym (filter_cut c.args.ino c.args.from c.args.to c.count_before-first.result c.count_before-last.result c.args.entries.now wide c.count_before-first.ensures.cuts c.count_before-last.ensures.cuts order)

pub returns-clause-outside : goal.returns-clause-outside
returns-clause-outside c =
    let wide : c.args.from ≤ c.args.to = omega (arith, c.if-to-from.false) in
    let order = cuts_ordered c.args.ino c.args.from c.args.to c.count_before-first.result c.count_before-last.result c.args.entries.now wide c.count_before-first.ensures.within c.count_before-first.ensures.cuts c.count_before-last.ensures.cuts in
    without_cut c.args.ino c.args.from c.args.to c.count_before-first.result c.count_before-last.result c.args.entries.now wide c.count_before-first.ensures.cuts c.count_before-last.ensures.cuts order
