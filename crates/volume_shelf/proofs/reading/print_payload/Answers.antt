use Rattle.volume_shelf.proofs.Pieces.{next_piece, all_pieces}
use Rattle.volume_shelf.proofs.Running.{reads_on}
use Rattle.volume_shelf.proofs.reading.print_payload.Goals as goal

pub add_piece-requires-clause-within : goal.add_piece-requires-clause-within
add_piece-requires-clause-within g c = c.pieces.invariant.within

pub returns-in_err-add_piece-clause-reads : goal.returns-in_err-add_piece-clause-reads
returns-in_err-add_piece-clause-reads g c = reads_on g.M.Drive c.args.drive.now c.pieces.drive _ c.pieces.invariant.reads c.in_err-add_piece.ensures.reads

pub returns-then-branch-eq0-clause-reads : goal.returns-then-branch-eq0-clause-reads
returns-then-branch-eq0-clause-reads g c = reads_on g.M.Drive c.args.drive.now c.pieces.drive _ c.pieces.invariant.reads c.in_ok-add_piece.ensures.reads

pub returns-then-branch-eq0-clause-told : goal.returns-then-branch-eq0-clause-told
returns-then-branch-eq0-clause-told g c =
    let done = c.in_ok-add_piece.ensures in
    let both = reads_on g.M.Drive c.args.drive.now c.pieces.drive c.add_piece.new.drive c.pieces.invariant.reads done.reads in
    let after = next_piece g.M.Drive c.args.volume c.args.object c.args.len c.args.drive.now c.pieces.drive c.add_piece.new.drive c.pieces.pieces c.add_piece.new.pieces c.in_ok-add_piece.field-0 c.pieces.invariant done.reads both done.quiet done.counted done.within done.adds in
    all_pieces g.M.Drive c.args.volume c.args.object c.args.len c.args.drive.now c.add_piece.new.drive c.add_piece.new.pieces c.fingerprint-then-branch-eq0.result after c.fingerprint-then-branch-eq0.ensures
    (λ o given there is. done.ends c.if-branch-eq0.true o ((c.pieces.invariant.reads.same c.args.volume).1 o given) there is)

pub pieces-preserved : goal.pieces-preserved
pieces-preserved g c =
    let done = c.in_ok-add_piece.ensures in
    let both = reads_on g.M.Drive c.args.drive.now c.pieces.drive c.add_piece.new.drive c.pieces.invariant.reads done.reads in
    next_piece g.M.Drive c.args.volume c.args.object c.args.len c.args.drive.now c.pieces.drive c.add_piece.new.drive c.pieces.pieces c.add_piece.new.pieces c.in_ok-add_piece.field-0 c.pieces.invariant done.reads both done.quiet done.counted done.within done.adds
