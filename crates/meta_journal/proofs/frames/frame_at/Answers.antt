use Rattle.std.proofs.Common.{inl, inr, ◌+◌, arith}
use Rattle.meta_journal.proofs.Pieces.{range_part}
use Rattle.meta_journal.proofs.Fields.{stands_read, bad_read}
use Rattle.meta_journal.proofs.frames.frame_at.Goals.{then-size-journal-via-then-size-journal, then-size-journal-via-else-size-journal+then-number-last, then-size-journal-via-else-size-journal+else-number-last+then-number-gt-LAST_NUMBER}
use Rattle.meta_journal.proofs.frames.frame_at.Goals as goal

pub returns-then-size-journal-clause-read : goal.returns-then-size-journal-clause-read
returns-then-size-journal-clause-read c =
    bad_read c.args.journal.now (λ i. omega (arith, c.type_inv.journal i)) c.args.place c.args.last _ _ _ _ _ _ c.requires.at c.requires.open
    (range_part c.args.journal.now (c.args.place + 1) (c.args.place + 5) 4 (omega arith)) (range_part c.args.journal.now (c.args.place + 5) (c.args.place + 13) 8 (omega arith)) (range_part c.args.journal.now (c.args.place + 13) (c.args.place + 17) 4 (omega arith))
    c.read_u32-size.ensures c.read_u64-number.ensures c.read_u32-count.ensures c.requires.short
    (elim c.then-size-journal.branch [
      | then-size-journal-via-then-size-journal w ↦ inl (omega (arith, w.if-size-journal.true, c.if-journal-place-le-FRAME.false))
      | then-size-journal-via-else-size-journal+then-number-last w ↦ inr (inl (omega (arith, w.if-number-last.true)))
      | then-size-journal-via-else-size-journal+else-number-last+then-number-gt-LAST_NUMBER w ↦ inr (inr (omega (arith, w.if-number-gt-LAST_NUMBER.true)))
    ])

pub returns-clause-read : goal.returns-clause-read
returns-clause-read c = stands_read c.args.journal.now (λ i. omega (arith, c.type_inv.journal i)) c.args.place c.args.last _ _ _ _ _ _ c.requires.at c.requires.open
    (range_part c.args.journal.now (c.args.place + 1) (c.args.place + 5) 4 (omega arith)) (range_part c.args.journal.now (c.args.place + 5) (c.args.place + 13) 8 (omega arith)) (range_part c.args.journal.now (c.args.place + 13) (c.args.place + 17) 4 (omega arith))
    c.read_u32-size.ensures c.read_u64-number.ensures c.read_u32-count.ensures
    (omega (arith, c.if-size-journal.false, c.if-journal-place-le-FRAME.false)) (omega (arith, c.if-number-last.false)) (omega (arith, c.if-number-gt-LAST_NUMBER.false)) (omega (arith, c.read_u32-count.type_inv))
