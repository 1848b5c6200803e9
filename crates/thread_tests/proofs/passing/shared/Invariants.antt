use Rattle.std.proofs.Common.{[], Some}
use Rattle.hsm_policy.specs.Settings.{standard}
use Rattle.thread_tests.proofs.passing.shared.Given as goal

abbrev pub ghosts-share : goal.ghosts-share
ghosts-share g a = record { opened = Some a.hsm.opened; table = a.desk.table; limits = standard; lines = λ c. [] }
