use Rattle.std.proofs.Common.{sym}
use Rattle.hsm_core.proofs.Summaries.{names_more}
use Rattle.hsm_core.proofs.inspecting.names_of.Goals as goal

pub loop-index-preserved : goal.loop-index-preserved
loop-index-preserved c =
    names_more c.args.catalog.now.files c.loop-index.index _ c.loop-index.names.items c.push.new.self.items c.in_ok-clone.field-0 (sym (rw c.unwrap-size.ensures at c.file.ensures)) c.in_ok-push.ensures.items c.in_ok-clone.ensures.cases c.loop-index.invariant
