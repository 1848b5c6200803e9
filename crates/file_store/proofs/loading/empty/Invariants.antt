use Rattle.file_store.proofs.Names.{◌≡◌, no_body, replicate}
use Rattle.file_store.proofs.loading.empty.Given as goal

abbrev pub invariant-loop : goal.invariant-loop
invariant-loop l = l.bodies.items ≡ replicate l.counter no_body
