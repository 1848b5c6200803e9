use Rattle.std.proofs.Common.{◌∙◌}
use Rattle.dm_attrs.proofs.Counting.{lookup-is_at}
use Rattle.dm_attrs.proofs.attrs.DmAttrs.get.Goals as goal

pub returns : goal.returns
returns c = rw (← c.self.view_is) (c.get.ensures.value ∙ lookup-is_at c.args.name c.self.inside.by_name.entries)
