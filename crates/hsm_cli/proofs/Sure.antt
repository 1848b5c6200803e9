-- Where the disk tells what it holds, each clause that is said on that condition says the same without it.
use Rattle.std.proofs.Common.{List, [], ◌∷◌, Option, inl, inr, subst}
use Rattle.disk_model.specs.declared.device.Disk as disk
use Rattle.hsm_types.specs.declared.stores.Superblock.{Superblock}
use Rattle.plain_model.specs.declared.entries.Entry.{Entry}
use Rattle.plain_model.specs.declared.entries.Actor.{Actor}
use Rattle.plain_model.specs.declared.entries.Action.{Action}
use Rattle.plain_model.specs.declared.entries.Answer.{Answer}
use Rattle.plain_model.specs.State.{Held, State, just_opened}
use Rattle.plain_model.specs.Exact.{IsOwn, IsAnswer, IsAnswerSeen, Exact, ExactSeen, left_by}
use Rattle.plain_model.proofs.Goods.{run_is_good}
use Rattle.file_store.specs.Stores.{Store}
use Rattle.hsm_cli.specs.declared.outcomes.Outcome.{Outcome}
use Rattle.hsm_cli.specs.Openings.{opened_in, superblock_at, held_at, base_of}
use Rattle.hsm_cli.specs.Clauses.{TellsGiven, IsRunOver, IsGoodOver, LegalityClause}

-- ---- answers

module _ (Told : Type 0) (told : Told) where
  answer_told : (s : Superblock) (st : State) (who : Actor) (what : Action) (answer : Answer) → IsAnswerSeen Told s st who what answer → IsAnswer s st who what answer
  answer_told s st who what answer (inl is) = inl is
  answer_told s st who what answer (inr is) = inr (subst (λ (seen : Held). IsOwn s (record st { held = seen }) who what answer) (is.1.told told) is.2)

  exact_told : (s : Superblock) (st : State) (es : List Entry) → ExactSeen Told s st es → Exact s st es
  exact_told s st [] exact = tt
  exact_told s st (e ∷ es) exact = (answer_told s st e.actor e.action e.answer exact.0, exact.1, exact_told s (left_by s st e.actor e.action e.answer) es exact.2)

  -- a run is a good run
  pub run_told : {D : Type 0} (opened : Option (Store D)) (history : List Entry) → IsRunOver Told opened history → IsGoodOver opened history
  run_told opened history run = run_is_good (superblock_at opened) (base_of opened) (held_at opened) history
      (record { opening = run.opening; exact = exact_told (superblock_at opened) (just_opened (base_of opened) (held_at opened)) history run.exact })

-- ---- the clauses over an outcome

module _ {D M : Type 0} (g : disk.Ghosts D) (o : Outcome D M) (tells : TellsGiven g o.disk) where
  pub legality_told : LegalityClause g o → IsGoodOver (opened_in o) o.history
  legality_told legality = legality.good tells

  -- it is the run's own
  pub from_told : LegalityClause g o → IsGoodOver (opened_in o) o.history
  from_told legality = run_told (TellsGiven g o.disk) tells (opened_in o) o.history legality.from
