-- A file and its name, as references have them.
use Rattle.std.specs.Prelude.{ℕ, List}
use Rattle.hsm_types.specs.declared.tables.FileRow.{FileRow}
use Rattle.store_summary.specs.declared.named.Named.{Named}

abbrev pub named : Named → FileRow × List ℕ
named f = (f.row.now, f.name.now)
