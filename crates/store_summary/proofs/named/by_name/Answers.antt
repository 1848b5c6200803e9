use Rattle.std.proofs.Common.{◌≡◌, ℕ, List, ◌++◌, map, subst, ap, ◌∙◌, rules}
use Rattle.std.proofs.lemmas.List.Sorted.{answers_always, IsPermutation-map}
use Rattle.std.specs.List.{zip}
use Rattle.hsm_types.specs.declared.tables.FileRow.{FileRow}
use Rattle.store_summary.specs.Named.{named}
use Rattle.store_summary.specs.Shown.{InOrder}
use Rattle.store_summary.specs.declared.named.Named.{Named}
use Rattle.store_summary.proofs.Naming.{names_ascend, names_stay}
use Rattle.store_summary.proofs.named.by_name.Goals as goal

pub returns : goal.returns
returns c =
    let files : List Named = c.push_named.new.files.items in
    let sorted : List Named = c.sort_by_key.new.self.items in
    let pairs : List (FileRow × List ℕ) = zip c.args.summary.now.table.files c.args.summary.now.names in
    let done : InOrder (map named files) (map named sorted) = record {
      same = IsPermutation-map named files sorted c.in_ok-sort_by_key.ensures.permutation;
      ascending = names_ascend sorted (c.in_ok-sort_by_key.ensures.sorted (λ (f : Named). f.name) (answers_always _ _ _ (λ f a r g h. search rules)));
      stable = names_stay files sorted (c.in_ok-sort_by_key.ensures.stable (λ (f : Named). f.name) (answers_always _ _ _ (λ f a r g h. search rules)));
    } in
    let given : map named files ≡ pairs =
    c.in_ok-push_named.ensures
    ∙ ap (λ (l : List Named). map named l ++ zip c.as_slice-rows.result.now c.as_slice.result.now) c.in_ok-files.ensures.items
    ∙ ap (λ rows. zip rows c.as_slice.result.now) c.as_slice-rows.ensures
    ∙ ap (λ names. zip c.args.summary.now.table.files names) c.as_slice.ensures in
    subst (λ (given : List (FileRow × List ℕ)). InOrder given (map named sorted)) given done
