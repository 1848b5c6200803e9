use Rattle.std.proofs.Common.{◌≡◌, ◌∙◌, ◌∷◌, ◌++◌, [], List, ap, sym, subst}
use Rattle.std.specs.Prelude.{All}
use Rattle.std.proofs.lemmas.List.Elements.{All-from_recursion}
use Rattle.call_seats.specs.Passes.{Knowledge}
use Rattle.seat_tests.proofs.meeting.give_back.Goals as goal

pub ends-requires-clause-passes : goal.ends-requires-clause-passes
ends-requires-clause-passes c =
    let some : c.in_ok-some.some ≡ c.args.second ∷ [] = c.in_ok-some.ensures ∙ ap (λ (ps : List Knowledge). ps ++ c.args.second ∷ []) (c.from.ensures ∙ c.new.ensures.items) in
    let all : c.in_ok-all.all ≡ c.args.second ∷ c.args.first ∷ [] = c.in_ok-all.ensures ∙ ap (λ (ps : List Knowledge). ps ++ c.args.first ∷ []) some in
    subst (All (λ (p : Knowledge). p.table ≡ c.args.desk.table)) (sym all) (All-from_recursion (λ (p : Knowledge). p.table ≡ c.args.desk.table) (c.args.second ∷ c.args.first ∷ []) (c.requires.2, (c.requires.1, tt)))
