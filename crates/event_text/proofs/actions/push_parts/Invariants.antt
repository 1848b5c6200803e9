use Rattle.std.proofs.Common.{◌≡◌, ◌++◌, ◌∷◌, drop}
use Rattle.std.specs.List.{flat_map}
use Rattle.call_forms.specs.Parts.{parts_in}
use Rattle.event_text.specs.Render.{part_word}
use Rattle.event_text.proofs.actions.push_parts.Given as goal

abbrev pub invariant-loop-part : goal.invariant-loop-part
invariant-loop-part g l =
    l.out.items ++ flat_map (λ p. 32 ∷ part_word (g.S.Spelling.word l.spelling) p) (parts_in (drop l.part-index l.parts))
    ≡ l.fn.out.items ++ flat_map (λ p. 32 ∷ part_word (g.S.Spelling.word l.spelling) p) (parts_in l.parts)
