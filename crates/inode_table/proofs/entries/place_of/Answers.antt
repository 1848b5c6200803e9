use Rattle.std.proofs.Common.{sym, ◌∙◌, [], arith}
use Rattle.inode_table.proofs.PlacesOfFiles.{cuts-stands, cuts-absent}
use Rattle.inode_table.proofs.entries.place_of.Goals as goal
use Rattle.inode_table.proofs.entries.place_of.Goals.{else-place-entries-via-then-place-entries+else-eq, else-place-entries-via-else-place-entries}

pub returns-then-eq-clause-place : goal.returns-then-eq-clause-place
returns-then-eq-clause-place c = cuts-stands c.args.key c.place_for-place.result c.index-entries-place.result c.args.entries.now c.place_for-place.ensures.place c.if-place-entries.true (sym c.eq.ensures ∙ c.if-eq.true)

pub returns-else-place-entries-clause-place : goal.returns-else-place-entries-clause-place
returns-else-place-entries-clause-place c =
    elim c.else-place-entries.branch [
      | else-place-entries-via-then-place-entries+else-eq w ↦ cuts-absent 1 c.args.key c.place_for-place.result w.index-entries-place.result c.args.entries.now c.requires c.place_for-place.ensures.place (λ lt. sym w.eq.ensures ∙ w.if-eq.false)
      | else-place-entries-via-else-place-entries w ↦ cuts-absent 1 c.args.key c.place_for-place.result (record { key = c.args.key; name = []; size = 0 }) c.args.entries.now c.requires c.place_for-place.ensures.place (λ lt. absurd (omega arith))
    ]
