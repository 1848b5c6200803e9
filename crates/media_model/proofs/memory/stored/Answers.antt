use Rattle.std.proofs.Common.{◌∙◌, sym, ap, List, ℕ, Option, rules, tests}
use Rattle.std.proofs.lemmas.Iterator.Search.{find_from_yields_List}
use Rattle.std.proofs.lemmas.Iterator.Adapters.{YieldsList-from_rev_slice}
use Rattle.std.specs.Option.{option_map, option_map_or}
use Rattle.media_model.specs.Faults.{is_of}
use Rattle.media_model.specs.declared.memory.Damage.{Damage}
use Rattle.media_model.proofs.memory.stored.Goals as goal

abbrev or_bytes : List ℕ → Option Damage → List ℕ
or_bytes bytes o = option_map_or (λ x. x.bytes) o bytes

pub returns-in-Some-clause-stored : goal.returns-in-Some-clause-stored
returns-in-Some-clause-stored c =
    let found = find_from_yields_List (is_of c.args.volume c.args.object) _ _ c.find.result c.find.ensures.ran (YieldsList-from_rev_slice c.args.damages.now cc) (λ x b q k. search (rules, tests)) in
    c.as_slice.ensures.bytes ∙ ap (or_bytes c.args.bytes.now) (sym (ap (option_map (λ y. y.now)) c.in-Some.is) ∙ found)

pub returns-in-None-clause-stored : goal.returns-in-None-clause-stored
returns-in-None-clause-stored c =
    let found = find_from_yields_List (is_of c.args.volume c.args.object) _ _ c.find.result c.find.ensures.ran (YieldsList-from_rev_slice c.args.damages.now cc) (λ x b q k. search (rules, tests)) in
    ap (or_bytes c.args.bytes.now) (sym (ap (option_map (λ y. y.now)) c.in-None.is) ∙ found)
