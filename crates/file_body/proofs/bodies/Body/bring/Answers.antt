use Rattle.std.proofs.Common.{◌≡◌, ℕ, ⊎_elim, ◌++◌, true, length, take, drop, sym, ◌∙◌, ap, subst, arith}
use Rattle.std.specs.List.{concat}
use Rattle.std.proofs.lemmas.Bool.{true≢false, cases_eq}
use Rattle.std.proofs.lemmas.List.{take_at}
use Rattle.file_body.specs.HeldBodies.{AreZeros, HeldBody, pieces, is_away, stands_away}
use Rattle.plain_model.specs.Plain.{segment as segment_of}
use Rattle.file_body.proofs.HeldLists.{held_of, zeros_of}
use Rattle.file_body.proofs.Outcomes.{on_ok, on_err}
use Rattle.file_body.proofs.bodies.Body.bring.Goals as goal

-- all segments are written back
whole : (c : goal.After-self-1) → take c.self.inside.segments.len (c.bring.new.segments ++ drop (length c.bring.new.segments) c.self.inside.segments.items) ≡ c.bring.new.segments
whole c = take_at c.bring.new.segments _ _ (omega (arith, c.bring.auto.segments, ap length c.as_mut_slice.ensures.value, c.self.inside.segments.ok.0))

-- which segments are away before any comes
was : (c : goal.After-self-1) (j : ℕ) → stands_away c.as_mut_slice.result.now j ≡ is_away c.args.self.now j
was c j = ap (λ l. stands_away l j) c.as_mut_slice.ensures.value ∙ ap (λ b. is_away b j) c.self.view_is

pub returns-clause-ok : goal.returns-clause-ok
returns-clause-ok c =
    on_ok c.bring.result
    (λ here. (rw (whole c) (ap concat (c.bring.ensures.pieces ∙ ap pieces c.as_mut_slice.ensures.value) ∙ ap (λ b. b.bytes) c.self.view_is), rw (whole c) (here c.args.segment (omega arith) (omega arith))))
    c.bring.ensures.here

pub returns-clause-zeros : goal.returns-clause-zeros
returns-clause-zeros c =
    on_ok c.bring.result
    (λ zeros gone.
    let items = c.self.inside.segments.items in
    let segment = c.args.segment in
    let now : stands_away items segment ≡ true = ap (λ b. is_away b segment) c.self.view_is ∙ gone in
    subst (λ (b : HeldBody). AreZeros (segment_of segment b.bytes)) c.self.view_is (zeros_of items c.self.invariant.0 segment now (zeros segment (omega arith) (omega arith) now)))
    (rw c.as_mut_slice.ensures.value at c.bring.ensures.zeros)

pub returns-clause-keeps : goal.returns-clause-keeps
returns-clause-keeps c =
    on_ok c.bring.result
    (λ here j gone.
    let now : stands_away c.bring.new.segments j ≡ true = ap (λ l. stands_away l j) (sym (whole c)) ∙ gone in
    ⊎_elim
    (λ (q : j ≡ c.args.segment). absurd (true≢false (sym now ∙ here j (omega arith) (omega arith))))
    (λ (q : j ≡ c.args.segment → ⊥). sym (was c j) ∙ (sym (c.bring.ensures.others j (λ low high. q (omega arith))) ∙ now))
    (cases_eq j c.args.segment))
    c.bring.ensures.here

pub returns-clause-others : goal.returns-clause-others
returns-clause-others c = λ j other. rw (whole c) (c.bring.ensures.others j (λ low high. other (omega arith)) ∙ was c j)

pub returns-clause-err : goal.returns-clause-err
returns-clause-err c =
    on_err c.bring.result
    (λ (same : c.bring.new.segments ≡ c.as_mut_slice.result.now). rw (whole c) (ap held_of (same ∙ c.as_mut_slice.ensures.value) ∙ c.self.view_is))
    c.bring.ensures.err

pub returns-clause-here : goal.returns-clause-here
returns-clause-here c = λ here.
    let done = c.bring.ensures.enough (λ j low high. let at : j ≡ c.args.segment = omega arith in was c j ∙ (ap (λ i. is_away c.args.self.now i) at ∙ here)) in
    (done.0, rw (whole c) (ap held_of (done.1 ∙ c.as_mut_slice.ensures.value) ∙ c.self.view_is))
