use Rattle.std.proofs.Common.{◌≡◌, ℕ, List, [], ◌∷◌, ◌++◌, codes, ap, ◌∙◌}
use Rattle.std.proofs.lemmas.Result.{on_ok_weaker}
use Rattle.std.specs.Fmt.{decimal}
use Rattle.std.specs.List.{flat_map}
use Rattle.hsm_types.specs.declared.tables.FileRow.{FileRow}
use Rattle.hsm_types.specs.Words.{key_word}
use Rattle.store_summary.specs.Named.{named}
use Rattle.store_summary.specs.Shown.{file_line, line, state_words, states_of}
use Rattle.store_summary.specs.declared.states.StateCounts.{StateCounts}
use Rattle.store_summary.proofs.Listing.{file_joined}
use Rattle.store_summary.proofs.named.push_file.Goals as goal

pub returns : goal.returns
returns c =
    let old : List ℕ = c.args.out.now.items in
    let name : List ℕ = c.args.file.now.name.now in
    let row : FileRow = c.args.file.now.row.now in
    let states : StateCounts = c.of-states.result in
    let size : List ℕ = flat_map (λ n. 32 ∷ decimal n) (c.from.result ∷ []) in
    let key : List ℕ = key_word row.handle.key in
    let counts : List ℕ = flat_map (λ n. 32 ∷ decimal n) (states.resident ∷ states.sealed ∷ states.offline ∷ []) in
    let first : c.push.new.out.items ≡ old ++ name = c.in_ok-push.ensures in
    let sized : c.push_numbers.new.out.items ≡ (old ++ name) ++ size = c.in_ok-push_numbers.ensures ∙ ap (λ l. l ++ size) first in
    let apart : c.push-2.new.out.items ≡ ((old ++ name) ++ size) ++ codes " " = c.in_ok-push-2.ensures ∙ ap (λ l. l ++ codes " ") sized in
    let keyed : c.push_key.new.out.items ≡ (((old ++ name) ++ size) ++ codes " ") ++ key = c.in_ok-push_key.ensures ∙ ap (λ l. l ++ key) apart in
    let counted : c.push_numbers-2.new.out.items ≡ ((((old ++ name) ++ size) ++ codes " ") ++ key) ++ counts = c.in_ok-push_numbers-2.ensures ∙ ap (λ l. l ++ counts) keyed in
    let joined : (((((old ++ name) ++ size) ++ codes " ") ++ key) ++ counts) ++ codes "\n" ≡ old ++ file_line (named c.args.file.now) =
    file_joined (codes " ") (codes "\n") old name (decimal c.from.result) key (decimal states.resident) (decimal states.sealed) (decimal states.offline)
    ∙ ap (λ n. old ++ line (name ∷ decimal n ∷ key ∷ state_words states)) c.from.ensures
    ∙ ap (λ counts. old ++ line (name ∷ decimal row.size ∷ key ∷ state_words counts)) (c.of-states.ensures ∙ ap states_of c.as_slice.ensures) in
    on_ok_weaker c.push-3.result (λ pushed. pushed ∙ ap (λ l. l ++ codes "\n") counted ∙ joined) c.push-3.ensures
