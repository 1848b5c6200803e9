-- What the service says to an access that it judges.
use Rattle.std.specs.Prelude.{Option, Some, None}
use Rattle.std.specs.Option.{option_map}
use Rattle.hsm_types.specs.declared.calls.CallRefusal.TheVariants.{Aborted, Media as Faulted}
use Rattle.hsm_types.specs.declared.dm.Response.TheVariants.{Abort, Media}
use Rattle.plain_model.specs.Verdict.{Blocks, Posts, Lacks, Judgement, Ends, Rules}
use Rattle.dm_service.specs.declared.verdict.Verdict.{Verdict}
use Rattle.dm_service.specs.declared.verdict.Verdict.TheVariants.{Answered, Missing, Block, Post, NoSpace, Complete}

-- an access ends by an abort or a fault of a medium, or because its file is gone; else a ruling decides
abbrev pub verdict_of : Option Judgement → Verdict
verdict_of None = Complete
verdict_of (Some (Ends (Aborted error))) = Answered (Abort error)
verdict_of (Some (Ends (Faulted fault))) = Answered (Media fault)
verdict_of (Some (Ends why)) = Missing
verdict_of (Some (Rules (Blocks t))) = Block t
verdict_of (Some (Rules (Posts kind))) = Post kind
verdict_of (Some (Rules (Lacks need free))) = NoSpace need free

-- what a rule says, where it applies
abbrev pub said : Option Judgement → Option Verdict
said j = option_map (λ x. verdict_of (Some x)) j
