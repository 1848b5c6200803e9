use Rattle.std.proofs.Common.{◌≡◌, ◌++◌, drop}
use Rattle.event_text.specs.Render.{text_of}
use Rattle.event_text.proofs.transcript.render.Given as goal

abbrev pub invariant-loop-entry : goal.invariant-loop-entry
invariant-loop-entry l = l.out.items ++ text_of (drop l.entry-index l.history) ≡ text_of l.history
