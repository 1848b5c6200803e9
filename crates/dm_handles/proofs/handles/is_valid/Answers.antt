use Rattle.std.proofs.Common.{◌≡◌, refl, sym, ap, ◌∙◌, inl, inr}
use Rattle.byteorder.specs.Endian.{big_number}
use Rattle.dm_handles.proofs.Orders.{reads_back}
use Rattle.dm_handles.proofs.handles.is_valid.Goals as goal

pub returns-then-h-fsid-clause-bad : goal.returns-then-h-fsid-clause-bad
returns-then-h-fsid-clause-bad c =
    let reads : big_number 8 c.args.bytes.now ≡ c.from_slice-h.result.fsid = ap (big_number 8) (sym c.from_slice-h.ensures.bytes) ∙ (reads_back c.from_slice-h.result c.from_slice-h.ensures.numbers).fsid in
    (λ _. inr (λ same. c.if-h-fsid.true (sym reads ∙ same)), λ _. refl)

pub returns-clause-bad : goal.returns-clause-bad
returns-clause-bad c =
    let reads : big_number 8 c.args.bytes.now ≡ c.from_slice-h.result.fsid = ap (big_number 8) (sym c.from_slice-h.ensures.bytes) ∙ (reads_back c.from_slice-h.result c.from_slice-h.ensures.numbers).fsid in (
      λ failed. absurd cc,
      λ cause. elim cause [ inl short ↦ absurd (short c.if-bytes-ne-HANDLE_BYTES.false) | inr other ↦ absurd (other (reads ∙ c.if-h-fsid.false)) ],
    )
