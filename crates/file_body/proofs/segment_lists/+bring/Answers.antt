use Rattle.std.proofs.Common.{◌≡◌, ◌<◌, ⊎_elim, [], true, false, get_or, length, sym, ◌∙◌, ap, arith}
use Rattle.std.specs.Prelude.{is_some}
use Rattle.std.proofs.Math.Seq.{map-set_same}
use Rattle.std.proofs.lemmas.Bool.{true≢false, cases_Bool, cases_eq}
use Rattle.file_body.proofs.HeldLists.{no_segment, length-pieces, piece_is, piece_of, away_of, brought-here, brought-others, zeros-first}
use Rattle.file_body.proofs.segment_lists.+bring.Goals as goal

pub returns-in-Some-clause-pieces : goal.returns-in-Some-clause-pieces
returns-in-Some-clause-pieces t c =
    let new : c.in-Some.zeros ≡ record { bytes = (get_or c.args.segments.now c.args.from c.index-segments-from.result).bytes; away = false } = rw c.in-Some.is at c.in_ok-zeros.ensures.zeros in
    map-set_same (λ s. s.bytes) c.bring.new.segments c.args.from c.in-Some.zeros no_segment
    (ap (λ s. s.bytes) new ∙ (piece_of c.args.segments.now c.args.from c.index-segments-from.result (omega arith)
    ∙ (ap (λ p. get_or p c.args.from []) (sym c.in_ok-bring.ensures.pieces) ∙ piece_is c.bring.new.segments c.args.from)))
    ∙ c.in_ok-bring.ensures.pieces

pub returns-in-Some-clause-here : goal.returns-in-Some-clause-here
returns-in-Some-clause-here t c =
    let new : c.in-Some.zeros ≡ record { bytes = (get_or c.args.segments.now c.args.from c.index-segments-from.result).bytes; away = false } = rw c.in-Some.is at c.in_ok-zeros.ensures.zeros in
    let within : c.args.from < length c.bring.new.segments = omega (arith, length-pieces c.args.segments.now, length-pieces c.bring.new.segments, ap length c.in_ok-bring.ensures.pieces) in
    brought-here c.args.segments.now c.bring.new.segments c.args.from c.args.to c.in-Some.zeros within (ap (λ s. s.away) new) c.in_ok-bring.ensures.here

pub returns-in-Some-clause-others : goal.returns-in-Some-clause-others
returns-in-Some-clause-others t c =
    let new : c.in-Some.zeros ≡ record { bytes = (get_or c.args.segments.now c.args.from c.index-segments-from.result).bytes; away = false } = rw c.in-Some.is at c.in_ok-zeros.ensures.zeros in
    let within : c.args.from < length c.bring.new.segments = omega (arith, length-pieces c.args.segments.now, length-pieces c.bring.new.segments, ap length c.in_ok-bring.ensures.pieces) in
    brought-others c.args.segments.now c.bring.new.segments c.args.from c.args.to c.in-Some.zeros within (ap (λ s. s.away) new) (omega arith) c.in_ok-bring.ensures.others

pub returns-in-Some-clause-zeros : goal.returns-in-Some-clause-zeros
returns-in-Some-clause-zeros t c = zeros-first c.args.segments.now c.args.from c.args.to c.index-segments-from.result (omega arith) c.in_ok-zeros.ensures.were c.in_ok-bring.ensures.zeros

pub returns-in-Some-clause-enough : goal.returns-in-Some-clause-enough
returns-in-Some-clause-enough t c = λ here.
    let away : (get_or c.args.segments.now c.args.from c.index-segments-from.result).away ≡ true = c.in_ok-zeros.ensures.away.0 (ap is_some c.in-Some.is) in
    absurd (true≢false (sym away ∙ (away_of c.args.segments.now c.args.from c.index-segments-from.result (omega arith) ∙ here c.args.from (omega arith) (omega arith))))

pub returns-in_default-clause-zeros : goal.returns-in_default-clause-zeros
returns-in_default-clause-zeros t c = zeros-first c.args.segments.now c.args.from c.args.to c.index-segments-from.result (omega arith) c.in_ok-zeros.ensures.were c.in_ok-bring.ensures.zeros

pub returns-in_default-clause-here : goal.returns-in_default-clause-here
returns-in_default-clause-here t c = λ j low high.
    let stays : (get_or c.args.segments.now c.args.from c.index-segments-from.result).away ≡ false =
    ⊎_elim
    (λ (away : (get_or c.args.segments.now c.args.from c.index-segments-from.result).away ≡ true). absurd (true≢false (sym (c.in_ok-zeros.ensures.away.1 away) ∙ ap is_some c.in_default.is)))
    (λ (here : (get_or c.args.segments.now c.args.from c.index-segments-from.result).away ≡ false). here)
    (cases_Bool (get_or c.args.segments.now c.args.from c.index-segments-from.result).away) in
    ⊎_elim
    (λ (q : j ≡ c.args.from).
    rw q (c.in_ok-bring.ensures.others c.args.from (λ from to. omega arith) ∙ (sym (away_of c.args.segments.now c.args.from c.index-segments-from.result (omega arith)) ∙ stays)))
    (λ (q : j ≡ c.args.from → ⊥). c.in_ok-bring.ensures.here j (omega arith) high)
    (cases_eq j c.args.from)
