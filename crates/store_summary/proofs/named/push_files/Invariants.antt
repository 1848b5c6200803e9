use Rattle.std.proofs.Common.{◌≡◌, ◌++◌, drop, map}
use Rattle.std.specs.List.{flat_map}
use Rattle.store_summary.specs.Named.{named}
use Rattle.store_summary.specs.Shown.{file_line}
use Rattle.store_summary.proofs.named.push_files.Given as goal

abbrev pub invariant-loop-file : goal.invariant-loop-file
invariant-loop-file l = l.out.items ++ flat_map file_line (map named (drop l.file-index l.files)) ≡ l.fn.out.items ++ flat_map file_line (map named l.files)
