use Rattle.std.proofs.lemmas.Result.{IfOk-weaker}
use Rattle.volume_shelf.specs.Steps.{Prints}
use Rattle.volume_shelf.proofs.Running.{reads_on}
use Rattle.volume_shelf.proofs.copying.read_back.Goals as goal

pub returns-clause-prints : goal.returns-clause-prints
returns-clause-prints g c = IfOk-weaker c.print_payload.result _ (Prints g.M.Drive c.args.volume c.args.object c.args.drive.now)
    (λ print told o given there. told o ((c.in_ok-len.ensures.reads.same c.args.volume).1 o given) there (c.in_ok-len.ensures.told o given there)) c.print_payload.ensures.told

pub returns-clause-reads : goal.returns-clause-reads
returns-clause-reads g c = reads_on g.M.Drive c.args.drive.now c.len_or_none.new.drive c.print_payload.new.drive c.in_ok-len.ensures.reads c.print_payload.ensures.reads
