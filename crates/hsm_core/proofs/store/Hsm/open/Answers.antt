use Rattle.std.proofs.Common.{◌+◌, ◌-◌, sym, ◌∙◌, ap, arith}
use Rattle.meta_store.specs.Meta.{Meta}
use Rattle.std.specs.Prelude.{vec_len, vec_capacity}
use Rattle.dm_service.specs.Tables.{awaited_in}
use Rattle.file_store.specs.Stores.{superblock_of}
use Rattle.hsm_core.specs.Store.{Store}
use Rattle.hsm_core.proofs.Runs.{HasRun-opened, new_awaited, new_lasts}
use Rattle.hsm_core.proofs.Packing.{none_packed}
use Rattle.hsm_core.proofs.Safety.{safe_opened}
use Rattle.hsm_core.proofs.store.Hsm.open.Goals as goal

pub invariant_of-result : goal.invariant_of-result
invariant_of-result g c =
    let s : Store g.row.D.Denot = record { opened = c.of.result.value; files = c.in-Ok-open.files; stamps = c.new-in-Ok-open.result.entries; tables = c.in-Ok.service; history = c.new-in-Ok-open-2.result.items; spare = vec_capacity c.new-in-Ok-open-2.result - (vec_len c.new-in-Ok-open-2.result + awaited_in c.in-Ok.service) } in (
      HasRun-opened g.D.Disk s c.of.ensures c.in-Ok-open.ensures.found.1 c.new-in-Ok-open-2.ensures.items c.new-in-Ok-open.ensures.empty c.in-Ok.ensures c.in-Ok-open.ensures.lawful.opening,
      safe_opened g.D.Disk s c.of.ensures c.new-in-Ok-open-2.ensures.items c.in-Ok-open.ensures.found.1 c.in-Ok-open.ensures.found.0 c.in-Ok-open.ensures.durable (g.met.D.Disk.only_now c.in-Ok-open.files.disk),
      c.number.ensures.number ∙ ap (λ (m : Meta). m.number) c.meta.ensures.meta ∙ sym (ap (λ f. f.meta.number) c.of.ensures),
      c.number.ensures.within,
      omega (arith, new_awaited c.in-Ok.service c.in-Ok.ensures),
      new_lasts (superblock_of c.of.result.value).geometry.limits c.in-Ok.service c.in-Ok.ensures,
      none_packed _ _ _ c.new-in-Ok-open-2.ensures.items,
    )
