use Rattle.std.proofs.Common.{◌≡◌, ℕ, ◌/◌, [], ◌∷◌, ◌++◌, length, refl, sym, ◌∙◌, ap, arith, append-nil}
use Rattle.std.specs.Prelude.{replicate, true}
use Rattle.std.specs.List.{concat}
use Rattle.std.proofs.lemmas.List.{length-replicate}
use Rattle.hsm_types.specs.Limits.{segment_bytes}
use Rattle.file_body.specs.HeldBodies.{HeldSegment, pieces}
use Rattle.file_body.proofs.Cuts.{all_full, count_full, concat-append, IsCut-push}
use Rattle.file_body.proofs.HeldLists.{length-pieces, pieces-append, away-push, others-push}
use Rattle.file_body.proofs.segment_lists.lengthen_away.Goals as goal

abbrev gone : ℕ → HeldSegment
gone count = record { bytes = replicate count 0; away = true }

pushed : (c : goal.In_ok-push) → c.push.new.self.items ≡ c.args.segments.now.items ++ gone c.args.count ∷ []
pushed c = rw (← c.away.ensures) (grind arith)

now_are : (c : goal.In_ok-push) → pieces c.push.new.self.items ≡ pieces c.args.segments.now.items ++ replicate c.args.count 0 ∷ []
now_are c = ap pieces (pushed c) ∙ pieces-append c.args.segments.now.items (gone c.args.count ∷ [])

-- the new segment stands behind all others
place : (c : goal.In_ok-push) → length (concat (pieces c.args.segments.now.items)) / segment_bytes ≡ length c.args.segments.now.items
place c = count_full (pieces c.args.segments.now.items) c.requires.cut c.requires.full ∙ length-pieces c.args.segments.now.items

pub returns-clause-ok : goal.returns-clause-ok
returns-clause-ok c =
    ap concat (now_are c) ∙ (concat-append (pieces c.args.segments.now.items) (replicate c.args.count 0 ∷ []) ∙ ap (λ l. concat (pieces c.args.segments.now.items) ++ l) (append-nil (replicate c.args.count 0)))

pub returns-clause-cut : goal.returns-clause-cut
returns-clause-cut c =
    let size = length-replicate {A = ℕ} c.args.count 0 in
    rw (now_are c) (IsCut-push segment_bytes (pieces c.args.segments.now.items) (replicate c.args.count 0) c.requires.cut (all_full (pieces c.args.segments.now.items) c.requires.cut c.requires.full) (omega (arith, size, c.requires.some)) (omega (arith, size, c.requires.most)))

pub returns-clause-away : goal.returns-clause-away
returns-clause-away c = rw (pushed c) (away-push c.args.segments.now.items (gone c.args.count) _ refl (place c))

pub returns-clause-others : goal.returns-clause-others
returns-clause-others c = λ j other. rw (pushed c) (others-push c.args.segments.now.items (gone c.args.count) j (λ at. other (at ∙ sym (place c))))
