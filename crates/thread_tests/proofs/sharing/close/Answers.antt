use Rattle.std.proofs.Common.{◌≡◌, ◌∷◌, [], List, sym, subst}
use Rattle.std.specs.Prelude.{All}
use Rattle.std.proofs.lemmas.List.Elements.{All-from_recursion}
use Rattle.call_seats.specs.Passes.{Knowledge}
use Rattle.thread_tests.proofs.sharing.close.Goals as goal

pub close-requires-2 : goal.close-requires-2
close-requires-2 g c =
    let at : Knowledge → Type 0 = λ (p : Knowledge). p.table ≡ g.N.Named.table in
    record { tables = subst (All at) (sym c.in-Ok.ensures) (All-from_recursion at (c.args.second ∷ c.args.first ∷ []) (c.requires.tables.1, (c.requires.tables.0, tt))) }
