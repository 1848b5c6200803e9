use Rattle.std.proofs.Common.{◌-◌}
use Rattle.file_body.proofs.segment_lists.+bring.Given as goal

abbrev pub decreases-bring : goal.decreases-bring
decreases-bring l = l.to - l.from
