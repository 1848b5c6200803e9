use Rattle.std.proofs.Common.{ap, length, arith}
use Rattle.std.specs.Option.{option_to_list}
use Rattle.file_body.proofs.Runs.{length_blocks}
use Rattle.file_body.proofs.touches.TouchedBlocks.count.Goals as goal

pub returns-in-Some : goal.returns-in-Some
returns-in-Some c = omega (arith, ap length c.self.view_is, length_blocks c.self.inside.old_end c.self.inside.first c.self.inside.count, ap (λ o. length (option_to_list o)) c.in-Some.is)

pub returns-in-None : goal.returns-in-None
returns-in-None c = omega (arith, ap length c.self.view_is, length_blocks c.self.inside.old_end c.self.inside.first c.self.inside.count, ap (λ o. length (option_to_list o)) c.in-None.is)
