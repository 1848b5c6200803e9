use Rattle.std.proofs.Common.{◌∙◌, sym, arith}
use Rattle.extent_map.proofs.Ranges.{first_there, first_none}
use Rattle.extent_map.proofs.extents.first_within.Goals as goal

pub returns-then-index-entries : goal.returns-then-index-entries
returns-then-index-entries c =
    sym (first_none c.args.ino c.args.from c.args.to c.count_before-index.result c.args.entries.now (record { ino = 0; block = 0; at = 0 }) c.requires c.count_before-index.ensures.cuts (λ lt. absurd (omega (arith, lt, c.if-index-entries.true))))

pub returns-then-precedes : goal.returns-then-precedes
returns-then-precedes c =
    sym (first_there c.args.ino c.args.from c.args.to c.count_before-index.result c.args.entries.now (record { ino = 0; block = 0; at = 0 }) c.count_before-index.ensures.cuts c.if-index-entries.false (sym c.precedes.ensures ∙ c.if-precedes.true))

pub returns-else-precedes : goal.returns-else-precedes
returns-else-precedes c =
    sym (first_none c.args.ino c.args.from c.args.to c.count_before-index.result c.args.entries.now (record { ino = 0; block = 0; at = 0 }) c.requires c.count_before-index.ensures.cuts (λ lt. sym c.precedes.ensures ∙ c.if-precedes.false))
