-- What a daemon and its system come to when it was asked for its act.
use Rattle.std.proofs.Common.{◌≡◌, ◌∙◌, Option, Some, None, Result, Ok, Err, inr, sym, ap, subst}
use Rattle.std.specs.Prelude.{IfOk, IfErr, MatchOption}
use Rattle.hsm_types.specs.declared.daemons.Act.{Act}
use Rattle.hsm_types.specs.declared.daemons.Daemon.TheVariants.{Recall, Migrate}
use Rattle.hsm_types.specs.declared.daemons.Heard.{Heard}
use Rattle.recall_daemon.specs.Machine as recall
use Rattle.migrate_daemon.specs.Machine as migrate
use Rattle.hsm_system.specs.Acts.{GivesNone, MovesOn, LacksMemory}
use Rattle.hsm_system.specs.Awaiting.{IsWaiting, awaited_of}
use Rattle.hsm_system.specs.Running.{Recalling, Migrating, Gives, Loses}
use Rattle.hsm_system.specs.Systems.{System}
use Rattle.hsm_system.specs.declared.daemons.Next.{Next}
use Rattle.hsm_system.specs.declared.daemons.Next.TheVariants.{Hears, Waits}
use Rattle.hsm_system.specs.declared.daemons.Running.{Running}
use Rattle.hsm_system.specs.declared.stops.Stop.{Stop}

-- ---- of the daemon

module _ {M : Type 0} (StepsOn : M → Heard → Act → M → Type 0) (o : Option (Running M)) (r : Running M) (runs : o ≡ Some r) (next : Next) where
  pub none_given : IsWaiting r.next × (next ≡ r.next) → Gives StepsOn o None (Some (record { machine = r.machine; next = next }))
  none_given waits = (inr (r, runs, waits.0), ap (λ (n : Next). Some (record { machine = r.machine; next = n })) waits.1 ∙ sym runs)

  pub act_given : (told : Heard) (act : Act) (machine : M) → r.next ≡ Hears told → StepsOn r.machine told act machine → next ≡ Waits (awaited_of act) → Gives StepsOn o (Some act) (Some (record { machine = machine; next = next }))
  act_given told act machine hears goes waits = (r, machine, told, runs, hears, goes, ap (λ (n : Next). Some (record { machine = machine; next = n })) waits)

-- ---- of the system

module _ {D : Type 0} (here old : System D) (same : here ≡ old) where
  pub recall_asked : (after : Option Recalling) (result : Result (Option Act) Stop) → IfOk result (λ given. Gives recall.StepsOn here.recall given after)
      → IfOk result (λ (given : Option Act). MatchOption given (GivesNone Recall old × (record here { recall = after } ≡ old)) (λ (act : Act). MovesOn Recall old act (record here { recall = after })))
  recall_asked after (Ok None) is = (subst (λ (s : System D). GivesNone Recall s) same is.0, ap (λ (o : Option Recalling). record here { recall = o }) is.1 ∙ same)
  recall_asked after (Ok (Some act)) is = subst (λ (s : System D). MovesOn Recall s act (record here { recall = after })) same (is.0, is.1, is.2, is.3, is.4, is.5, ap (λ (o : Option Recalling). record here { recall = o }) is.6)
  recall_asked after (Err why) is = tt

  pub recall_lacks : (after : Option Recalling) (result : Result (Option Act) Stop) → IfErr result (λ why. Loses here.recall why after) → IfErr result (λ (why : Stop). LacksMemory Recall old why (record here { recall = after }))
  recall_lacks after (Ok given) is = tt
  recall_lacks after (Err why) is = subst (λ (s : System D). LacksMemory Recall s why (record here { recall = after })) same (record { runs = is.runs; heard = is.heard; lacks = is.lacks; loses = ap (λ (o : Option Recalling). record here { recall = o }) is.loses })

  pub migrate_asked : (after : Option Migrating) (result : Result (Option Act) Stop) → IfOk result (λ given. Gives migrate.StepsOn here.migrate given after)
      → IfOk result (λ (given : Option Act). MatchOption given (GivesNone Migrate old × (record here { migrate = after } ≡ old)) (λ (act : Act). MovesOn Migrate old act (record here { migrate = after })))
  migrate_asked after (Ok None) is = (subst (λ (s : System D). GivesNone Migrate s) same is.0, ap (λ (o : Option Migrating). record here { migrate = o }) is.1 ∙ same)
  migrate_asked after (Ok (Some act)) is = subst (λ (s : System D). MovesOn Migrate s act (record here { migrate = after })) same (is.0, is.1, is.2, is.3, is.4, is.5, ap (λ (o : Option Migrating). record here { migrate = o }) is.6)
  migrate_asked after (Err why) is = tt

  pub migrate_lacks : (after : Option Migrating) (result : Result (Option Act) Stop) → IfErr result (λ why. Loses here.migrate why after) → IfErr result (λ (why : Stop). LacksMemory Migrate old why (record here { migrate = after }))
  migrate_lacks after (Ok given) is = tt
  migrate_lacks after (Err why) is = subst (λ (s : System D). LacksMemory Migrate s why (record here { migrate = after })) same (record { runs = is.runs; heard = is.heard; lacks = is.lacks; loses = ap (λ (o : Option Migrating). record here { migrate = o }) is.loses })
