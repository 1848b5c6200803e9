use Rattle.std.proofs.Common.{[], Some}
use Rattle.call_lists.specs.Lines.{left_of}
use Rattle.thread_tests.proofs.running.run_lists.Given as goal

abbrev pub ghosts-run_named : goal.ghosts-run_named
ghosts-run_named g a = record { opened = Some a.hsm.opened; table = record { words = 0; slots = 0; views_name = 0; atom = 0; block = 0; offset = 0; slot_names = [] }; limits = a.settings; lines = left_of a.lists }
