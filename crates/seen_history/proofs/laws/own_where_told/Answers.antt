use Rattle.std.proofs.Common.{refl, subst}
use Rattle.plain_model.specs.Exact.{IsOwn}
use Rattle.plain_model.specs.State.{Held}
use Rattle.seen_history.proofs.laws.own_where_told.Goals as goal

pub returns : goal.returns
returns c = λ s st actor action answer. (
  λ is. subst (λ (seen : Held). IsOwn s (record st { held = seen }) actor action answer) (is.1.told tt) is.2,
  λ is. (st.held, record { alike = refl; told = λ told. refl }, is),
)
