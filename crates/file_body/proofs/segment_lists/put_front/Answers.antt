use Rattle.std.proofs.Common.{◌≡◌, ◌∙◌, ◌-◌, ◌++◌, ℕ, List, length, ap, ap₂, arith}
use Rattle.std.specs.Prelude.{replicate}
use Rattle.std.proofs.lemmas.List.{take-replicate}
use Rattle.hsm_types.specs.Limits.{segment_bytes}
use Rattle.hsm_types.specs.declared.limits.TheConstants.{BLOCK_BYTES}
use Rattle.file_body.proofs.segment_lists.put_front.Goals as goal

pub returns : goal.returns
returns c =
    let size : length c.split_at_mut-front.result.1.now ≡ BLOCK_BYTES - length c.args.bytes.now = omega (arith, c.split_at_mut-front.ensures.back_len, c.requires.block) in
    ap₂ (λ (a b : List ℕ). a ++ b) c.copy_from_slice.ensures.after
    (c.copy_from_slice-2.ensures.after ∙ take-replicate _ segment_bytes 0 (omega (arith, size)) ∙ ap (λ n. replicate n 0) size)
