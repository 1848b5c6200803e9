use Rattle.std.proofs.Common.{◌≡◌, ℕ, List, ◌-◌, ◌/◌, ◌++◌, length, take, drop, sym, ◌∙◌, ap, subst, arith, length-append, length-take}
use Rattle.std.specs.Prelude.{replicate, IsOk}
use Rattle.std.specs.List.{concat}
use Rattle.std.proofs.lemmas.Bool.{true≢false}
use Rattle.std.proofs.lemmas.List.{take_at}
use Rattle.std.proofs.lemmas.Result.{err_from_is_err_and}
use Rattle.hsm_types.specs.Limits.{segment_bytes}
use Rattle.file_body.specs.Segments.{IsCut}
use Rattle.file_body.specs.HeldBodies.{AreHere, pieces, is_away, stands_away}
use Rattle.file_body.proofs.Outcomes.{on_ok, on_err, ok_not_err, no_ok, no_err}
use Rattle.file_body.proofs.HeldLists.{taken_back}
use Rattle.file_body.proofs.bodies.Body.ready.Goals.{After-bring_range-brought}
use Rattle.file_body.proofs.bodies.Body.ready.Goals as goal

-- which segments are away before any comes
was : (c : After-bring_range-brought) (j : ℕ) → stands_away c.as_mut_slice.result.now j ≡ is_away c.args.self.now j
was c j = ap (λ l. stands_away l j) c.as_mut_slice.ensures.value ∙ (ap (λ b. is_away b j) c.self-2.view_is ∙ c.in_ok-grow.ensures.away j)

-- all segments are written back
whole : (c : After-bring_range-brought) → take c.self-2.inside.segments.len (c.bring_range-brought.new.segments ++ drop (length c.bring_range-brought.new.segments) c.self-2.inside.segments.items) ≡ c.bring_range-brought.new.segments
whole c = take_at c.bring_range-brought.new.segments _ _ (omega (arith, c.bring_range-brought.auto.segments, ap length c.as_mut_slice.ensures.value, c.self-2.inside.segments.ok.0))

-- where all are here none has to come
none_comes : (c : After-bring_range-brought) → AreHere c.args.start c.args.end c.args.self.now → IsOk c.bring_range-brought.result × (c.bring_range-brought.new.segments ≡ c.as_mut_slice.result.now)
none_comes c here = c.bring_range-brought.ensures.enough (λ i low high. was c (i / segment_bytes) ∙ here i low high)

-- nothing of them was changed
pieces_stay : (c : After-bring_range-brought) → pieces (take c.self-2.inside.segments.len (c.bring_range-brought.new.segments ++ drop (length c.bring_range-brought.new.segments) c.self-2.inside.segments.items)) ≡ pieces c.self-2.inside.segments.items
pieces_stay c = ap pieces (whole c) ∙ (c.bring_range-brought.ensures.pieces ∙ ap pieces c.as_mut_slice.ensures.value)

-- the length before they grew
old_is : (c : After-bring_range-brought) → c.len-old.result ≡ length c.args.self.now.bytes
old_is c = c.len-old.ensures ∙ (ap (λ l. length (concat (pieces l))) c.as_slice.ensures.value ∙ ap (λ b. length b.bytes) c.self.view_is)

pub cut-requires-clause-cut : goal.cut-requires-clause-cut
cut-requires-clause-cut c =
    let at = (goal.at.cut-requires-clause-cut c).After-bring_range-brought in
    subst (IsCut segment_bytes) (sym (pieces_stay at)) c.self-2.invariant.0

pub cut-requires-clause-within : goal.cut-requires-clause-within
cut-requires-clause-within c =
    let at = (goal.at.cut-requires-clause-within c).After-bring_range-brought in
    let bytes = ap concat (pieces_stay at) ∙ (ap (λ b. b.bytes) c.self-2.view_is ∙ c.in_ok-grow.ensures.ok) in
    omega (arith, old_is at, ap length bytes, length-append c.args.self.now.bytes (replicate (c.args.end - length c.args.self.now.bytes) 0))

pub cut-requires-clause-short : goal.cut-requires-clause-short
cut-requires-clause-short c =
    let at = (goal.at.cut-requires-clause-short c).After-bring_range-brought in
    omega (arith, ap (λ p. length (concat p)) (pieces_stay at), c.self-2.invariant.1)

pub invariant_of-self : goal.invariant_of-self
invariant_of-self c =
    let at = (goal.at.invariant_of-self c).After-bring_range-brought in
    let before = ap (λ b. length b.bytes) c.self.view_is in
    (c.cut.ensures.cut, omega (arith, ap length c.cut.ensures.bytes, length-take {A = ℕ}, old_is at, before, c.self.invariant.1))

pub invariant_of-self-else-is_err : goal.invariant_of-self-else-is_err
invariant_of-self-else-is_err c =
    let at = (goal.at.invariant_of-self-else-is_err c).After-bring_range-brought in
    (subst (IsCut segment_bytes) (sym (pieces_stay at)) c.self-2.invariant.0, omega (arith, ap (λ p. length (concat p)) (pieces_stay at), c.self-2.invariant.1))

pub returns-in_err-grow : goal.returns-in_err-grow
returns-in_err-grow c =
    let p = err_from_is_err_and c.from_residual.result c.from_residual.ensures.1 in
    rw p.1 (record {
      ok = tt;
      keeps = tt;
      here = tt;
      others = tt;
      same = λ here j. ap (λ b. is_away b j) c.in_err-grow.ensures.err;
      err = c.in_err-grow.ensures.err;
      in_place = λ short here. absurd (true≢false (sym (c.in_err-grow.ensures.enough short).0));
    })

pub returns-then-is_err : goal.returns-then-is_err
returns-then-is_err c =
    let at = (goal.at.returns-then-is_err c).After-bring_range-brought in
    let failed = sym c.is_err.ensures.value ∙ c.if-is_err.true in
    record {
      ok = no_ok _ _ failed;
      keeps = no_ok _ _ failed;
      here = no_ok _ _ failed;
      others = no_ok _ _ failed;
      same = λ here. absurd (ok_not_err _ failed (none_comes at here).0);
      err = on_err c.bring_range-brought.result
          (λ (same : c.bring_range-brought.new.segments ≡ c.as_mut_slice.result.now).
          let grown = take c.self-2.inside.segments.len (c.bring_range-brought.new.segments ++ drop (length c.bring_range-brought.new.segments) c.self-2.inside.segments.items) in
          let back : grown ≡ c.self-2.inside.segments.items = whole at ∙ (same ∙ c.as_mut_slice.ensures.value) in
          let more : List ℕ = replicate (c.args.end - length c.args.self.now.bytes) 0 in
          let before : concat (pieces c.self.inside.segments.items) ≡ c.args.self.now.bytes = ap (λ b. b.bytes) c.self.view_is in
          taken_back c.self.inside.segments.items grown c.cut.new.segments.items c.len-old.result more c.self.invariant.0 c.cut.ensures.cut
          (c.len-old.ensures ∙ ap (λ l. length (concat (pieces l))) c.as_slice.ensures.value)
          (ap (λ l. concat (pieces l)) back ∙ (ap (λ b. b.bytes) c.self-2.view_is ∙ (c.in_ok-grow.ensures.ok ∙ ap (λ b. b ++ more) (sym before))))
          (λ j. ap (λ l. stands_away l j) back ∙ (ap (λ b. is_away b j) c.self-2.view_is ∙ (c.in_ok-grow.ensures.away j ∙ sym (ap (λ b. is_away b j) c.self.view_is))))
          c.cut.ensures.bytes c.cut.ensures.away
          ∙ c.self.view_is)
          c.bring_range-brought.ensures.err;
      in_place = λ short here. (none_comes at here).0;
    }

pub returns-else-is_err : goal.returns-else-is_err
returns-else-is_err c =
    let at = (goal.at.returns-else-is_err c).After-bring_range-brought in
    let done = sym c.is_err.ensures.value ∙ c.if-is_err.false in
    rw (whole at) (record {
      ok = on_ok c.bring_range-brought.result (λ _. ap concat (c.bring_range-brought.ensures.pieces ∙ ap pieces c.as_mut_slice.ensures.value) ∙ (ap (λ b. b.bytes) c.self-2.view_is ∙ c.in_ok-grow.ensures.ok)) c.bring_range-brought.ensures.here;
      keeps = on_ok c.bring_range-brought.result (λ _ j gone. sym (was at j) ∙ c.bring_range-brought.ensures.keeps j gone) c.bring_range-brought.ensures.here;
      here = c.bring_range-brought.ensures.here;
      others = on_ok c.bring_range-brought.result (λ _ j misses. c.bring_range-brought.ensures.others j misses ∙ was at j) c.bring_range-brought.ensures.here;
      same = λ here j. ap (λ l. stands_away l j) (none_comes at here).1 ∙ was at j;
      err = no_err _ _ done;
      in_place = λ short here. (none_comes at here).0;
    })
