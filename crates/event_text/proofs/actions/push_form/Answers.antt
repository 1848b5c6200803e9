use Rattle.std.proofs.Common.{◌≡◌, ℕ, List, ◌∷◌, ◌++◌, ap, ◌∙◌, append_assoc}
use Rattle.std.specs.List.{flat_map}
use Rattle.call_forms.specs.declared.parts.Part.{Part}
use Rattle.call_forms.specs.Parts.{parts_in}
use Rattle.event_text.specs.Render.{part_word}
use Rattle.event_text.proofs.Listing.{on_ok, parts_joined}
use Rattle.event_text.proofs.actions.push_form.Goals as goal

pub returns : goal.returns
returns g c =
    let old : List ℕ = c.args.out.now.items in
    let verb : List ℕ = c.args.verb.now in
    let parts : List Part = parts_in c.args.parts.now in
    let word : List ℕ → List ℕ = g.S.Spelling.word c.args.spelling.now in
    let behind : List ℕ = flat_map (λ (p : Part). 32 ∷ part_word word p) parts in
    let first : c.push.new.out.items ≡ old ++ verb = c.in_ok-push.ensures in
    on_ok c.push_parts.result
    (λ pushed. pushed ∙ ap (λ l. l ++ behind) first ∙ append_assoc old verb behind ∙ ap (λ l. old ++ l) (parts_joined word verb parts))
    c.push_parts.ensures
