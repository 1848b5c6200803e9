-- How a run ends, from how its parts end.
use Rattle.std.proofs.Common.{[], Option, Some, None, IfErr, Result, Ok, Err}
use Rattle.hsm_cli.specs.declared.causes.Cause.{Cause}
use Rattle.hsm_cli.specs.declared.causes.Cause.TheVariants.{ScriptRefused, WordsRefused, NotStore, Corrupt, ReadFault, WriteFault, DiskFault}
use Rattle.hsm_cli.specs.declared.causes.Cause.TheVariants.{HostFault, NoMemory}
use Rattle.hsm_cli.specs.RunObjects.{SinkTold}
use Rattle.hsm_cli.specs.Clauses.{IsBeforeRun}
use Rattle.hsm_cli.specs.Endings.{cause_in, WritingEnds, first_of}

-- No transcript ends a run before it began.
pub before_run : (sink : SinkTold) (ran : Option Cause) (written : Result (Unit {0}) Cause) → IfErr written (WritingEnds sink) → IsBeforeRun (first_of ran (cause_in written)) → IsBeforeRun ran
before_run sink None (Ok y) writes before = before
before_run sink (Some why) (Ok y) writes before = before
before_run sink ran (Err NoMemory) writes before = absurd before
before_run sink None (Err WriteFault) writes before = absurd before
before_run sink (Some why) (Err WriteFault) writes before = before
before_run sink ran (Err (ScriptRefused line)) writes before = absurd writes
before_run sink ran (Err WordsRefused) writes before = absurd writes
before_run sink ran (Err NotStore) writes before = absurd writes
before_run sink ran (Err (Corrupt place)) writes before = absurd writes
before_run sink ran (Err ReadFault) writes before = absurd writes
before_run sink ran (Err DiskFault) writes before = absurd writes
before_run sink ran (Err HostFault) writes before = absurd writes
