use Rattle.std.proofs.Common.{arith}
use Rattle.std.proofs.lemmas.Bool.Decides.{nat_tests}
use Rattle.std.proofs.lemmas.Nat.Bits.{and_pow}
use Rattle.managed_regions.proofs.meeting.is_flagged.Goals as goal

pub returns-in-Write : goal.returns-in-Write
returns-in-Write c = rw c.in-Write.is (grind (arith, nat_tests, and_pow c.args.region.flags 1))

pub returns-in-Truncate : goal.returns-in-Truncate
returns-in-Truncate c = rw c.in-Truncate.is (grind (arith, nat_tests, and_pow c.args.region.flags 2))
