use Rattle.std.proofs.Common.{◌≡◌, ℕ, List, ◌∷◌, ◌++◌, sym, ap, ◌∙◌, append_assoc, rules}
use Rattle.std.specs.List.{flat_map}
use Rattle.hsm_types.specs.declared.regions.Region.{Region}
use Rattle.event_text.specs.Render.{region_word, regions_word}
use Rattle.event_text.proofs.Listing.{on_ok, regions_joined}
use Rattle.event_text.proofs.pieces.push_regions.Goals as goal

pub returns-in_ok-push_region-in-Some : goal.returns-in_ok-push_region-in-Some
returns-in_ok-push_region-in-Some c =
    let old : List ℕ = c.args.out.now.items in
    let first : Region = c.in-Some.first.now in
    let more : List Region = c.in-Some.more.now in
    let whole : c.args.regions.now ≡ first ∷ more = search rules in
    let one : c.push_region.new.out.items ≡ old ++ region_word first = c.in_ok-push_region-in-Some.ensures in
    on_ok c.push_more_regions.result
    (λ pushed. pushed ∙ ap (λ l. l ++ flat_map (λ r. 44 ∷ region_word r) more) one ∙ append_assoc old (region_word first) (flat_map (λ r. 44 ∷ region_word r) more) ∙ ap (λ l. old ++ l) (regions_joined first more)
    ∙ ap (λ rs. old ++ regions_word rs) (sym whole))
    c.push_more_regions.ensures
