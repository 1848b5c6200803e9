-- How a store goes on by one call behind the other.
use Rattle.std.proofs.Common.{Result, Ok, Err}
use Rattle.disk_model.specs.declared.device.Disk as disk
use Rattle.hsm_core.specs.Store.{Store}
use Rattle.hsm_system.specs.declared.stops.Stop.{Stop}
use Rattle.hsm_system.specs.Events.{Runs}
use Rattle.hsm_system.proofs.AfterEvents.{goes_itself, goes_then, stopped_then}

module _ {D : Type 0} (g : disk.Ghosts D) where
  pub runs_then : {S T : Type 0} (x : S) (result : Result T Stop) (a b c : Store D) → Runs g (Ok x) a b → Runs g result b c → Runs g result a c
  runs_then x (Ok y) a b c first then = record { goes_on = goes_then g a b c first.goes_on then.goes_on; works = λ working. then.works (first.works working) }
  runs_then x (Err why) a b c first then = record { goes_on = goes_then g a b c first.goes_on then.goes_on; works = λ working. stopped_then g a b c why first.goes_on (first.works working) (then.works (first.works working)) }

  pub runs_itself : {T : Type 0} (x : T) (s : Store D) → Runs g (Ok x) s s
  runs_itself x s = record { goes_on = goes_itself g s; works = λ working. working }

  -- whatever it answers with
  pub runs_with : {S T : Type 0} (x : S) (y : T) (a b : Store D) → Runs g (Ok x) a b → Runs g (Ok y) a b
  runs_with x y a b runs = record { goes_on = runs.goes_on; works = runs.works }

  pub stops_with : {S T : Type 0} (why : Stop) (a b : Store D) → Runs g {T = S} (Err why) a b → Runs g {T = T} (Err why) a b
  stops_with why a b runs = record { goes_on = runs.goes_on; works = runs.works }
