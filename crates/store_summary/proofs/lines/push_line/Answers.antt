use Rattle.std.proofs.Common.{◌≡◌, ℕ, List, ◌∷◌, ◌++◌, map, codes, ap, ◌∙◌, append_assoc}
use Rattle.std.proofs.lemmas.Result.{on_ok_weaker}
use Rattle.std.specs.Fmt.{decimal}
use Rattle.std.specs.List.{flat_map}
use Rattle.hsm_types.specs.Words.{spaced}
use Rattle.store_summary.proofs.Listing.{numbers_joined}
use Rattle.store_summary.proofs.lines.push_line.Goals as goal

pub returns : goal.returns
returns c =
    let old : List ℕ = c.args.out.now.items in
    let word : List ℕ = c.args.word.now in
    let numbers : List ℕ = c.args.numbers.now in
    let behind : List ℕ = flat_map (λ n. 32 ∷ decimal n) numbers in
    let words : List ℕ = spaced (word ∷ map decimal numbers) in
    let written : c.push_numbers.new.out.items ≡ old ++ words =
    c.in_ok-push_numbers.ensures ∙ ap (λ l. l ++ behind) c.in_ok-push.ensures ∙ append_assoc old word behind ∙ ap (λ l. old ++ l) (numbers_joined word numbers) in
    on_ok_weaker c.push-2.result (λ pushed. pushed ∙ ap (λ l. l ++ codes "\n") written ∙ append_assoc old words (codes "\n")) c.push-2.ensures
