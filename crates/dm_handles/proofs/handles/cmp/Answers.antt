use Rattle.std.proofs.Common.{◌≡◌, sym, ap, ◌∙◌}
use Rattle.std.proofs.lemmas.Cmp.{tied_itself, nat_list_cmp_total}
use Rattle.std.specs.Ordering.{nat_cmp}
use Rattle.std.specs.Cmp.Lexicographic.{slice_cmp}
use Rattle.hsm_types.specs.declared.keys.Handle.{Handle}
use Rattle.hsm_types.specs.Handles.{handle_bytes}
use Rattle.dm_handles.proofs.Orders.{same_bytes, one_handle}
use Rattle.dm_handles.proofs.handles.cmp.Goals as goal

pub returns-clause-equal : goal.returns-clause-equal
returns-clause-equal c =
    let a = c.args.a.now in
    let b = c.args.b.now in
    let compared : c.cmp.result ≡ slice_cmp nat_cmp (handle_bytes a) (handle_bytes b) = c.cmp.ensures ∙ (λ i. slice_cmp nat_cmp (c.to_bytes.ensures.bytes i) (c.to_bytes-2.ensures.bytes i)) in (
      λ tie. one_handle a b c.to_bytes.ensures.numbers c.to_bytes-2.ensures.numbers (same_bytes (handle_bytes a) (handle_bytes b) (sym compared ∙ tie)),
      λ same. compared ∙ ap (λ (h : Handle). slice_cmp nat_cmp (handle_bytes a) (handle_bytes h)) (sym same) ∙ tied_itself nat_list_cmp_total (handle_bytes a),
    )
