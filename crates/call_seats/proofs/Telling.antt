-- Two passes that tell each other, step by step.
use Rattle.std.proofs.Common.{◌≡◌, [], ap, ◌∙◌, subst}
use Rattle.atomic_table.specs.Table.{Me}
use Rattle.call_seats.specs.declared.views.View.{View}
use Rattle.call_seats.specs.Views.{without_right, note_of, joined, informed, answered, Tells}

abbrev pub Held : Type 0
Held = Me (Unit {0}) View

module _ (v w : Held) (told second : Held) (is_told : told ≡ (note_of v.0, [])) (is_second : second ≡ (joined w.0 told.0, w.1)) where
  pub second_informed : second ≡ (informed v.0 w.0, w.1)
  second_informed = is_second ∙ ap (λ (m : Held). (joined w.0 m.0, w.1)) is_told

  pub second_tells : Tells second.0 → Tells (informed v.0 w.0)
  second_tells t = subst (λ (m : Held). Tells m.0) second_informed t

  module _ (looked : Held) (same : looked ≡ second) where
    pub second_left : (left : Held) → left ≡ (without_right looked.0, looked.1) → left ≡ (without_right (informed v.0 w.0), w.1)
    second_left left is_left = is_left ∙ ap (λ (m : Held). (without_right m.0, m.1)) (same ∙ second_informed)

    pub first_answered : (first answer last : Held) → first ≡ (without_right v.0, v.1) → answer ≡ (note_of looked.0, []) → last ≡ (joined first.0 answer.0, first.1) → last ≡ (answered v.0 w.0, v.1)
    first_answered first answer last is_first is_answer is_last =
        let a : answer ≡ (note_of (informed v.0 w.0), []) = is_answer ∙ ap (λ (m : Held). (note_of m.0, [])) (same ∙ second_informed) in
        is_last ∙ (λ i. (joined (is_first i).0 (a i).0, (is_first i).1))
