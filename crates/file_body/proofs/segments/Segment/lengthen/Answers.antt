use Rattle.std.proofs.Common.{◌≡◌, ℕ, ◌+◌, ◌++◌, length, true, false, sym, ◌∙◌, ap, arith}
use Rattle.std.specs.Prelude.{replicate, vec_len}
use Rattle.std.proofs.lemmas.List.{length-replicate}
use Rattle.file_body.specs.HeldBodies.{HeldSegment}
use Rattle.file_body.specs.Contents.{held}
use Rattle.file_body.proofs.Contents.{zeros_grown, bytes_grown}
use Rattle.file_body.proofs.segments.Segment.lengthen.Goals as goal
use Rattle.file_body.proofs.segments.Segment.lengthen.Goals.{in-Here+in_ok-resize-in-Here, in-Away}

pub returns-clause-ok : goal.returns-clause-ok
returns-clause-ok c =
    let grown : HeldSegment → HeldSegment = λ s. record { bytes = s.bytes ++ replicate c.args.count 0; away = s.away } in
    elim c.match-self.branch [
      | in-Here+in_ok-resize-in-Here w ↦
          let old = ap held (sym w.in-Here.is) ∙ c.self.view_is in
          let has : vec_len w.in-Here.bytes ≡ length w.in-Here.bytes.items = omega (arith, w.in-Here.bytes.ok) in
          let end : c.len.result + c.args.count ≡ vec_len w.in-Here.bytes + c.args.count = omega (arith, has, c.len.ensures, ap (λ s. length s.bytes) old) in
          ap (λ i. held i.content) w.self-inside-is
          ∙ (ap (λ n. record { bytes = n; away = false }) (w.in_ok-resize-in-Here.ensures.items ∙ bytes_grown (c.len.result + c.args.count) (vec_len w.in-Here.bytes) c.args.count w.in-Here.bytes.items has end)
          ∙ ap grown old)
      | in-Away w ↦
          let old = ap held (sym w.in-Away.is) ∙ c.self.view_is in
          let end : c.len.result + c.args.count ≡ w.in-Away.zeros + c.args.count = omega (arith, c.len.ensures, ap (λ s. length s.bytes) old, length-replicate {A = ℕ} w.in-Away.zeros 0) in
          ap (λ i. held i.content) w.self-inside-is
          ∙ (ap (λ n. record { bytes = n; away = true }) (zeros_grown (c.len.result + c.args.count) c.args.count w.in-Away.zeros end) ∙ ap grown old)
    ]
