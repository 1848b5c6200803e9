-- Which deeds lead from one system to another.
use Rattle.std.specs.Prelude.{◌≡◌, ◌⊎◌, List, [], ◌∷◌, true, false, Result, OnOk, IfErr}
use Rattle.std.specs.Option.{option_map}
use Rattle.hsm_types.specs.declared.daemons.Act.{Act}
use Rattle.hsm_types.specs.declared.daemons.Act.TheVariants as act
use Rattle.hsm_types.specs.declared.daemons.Daemon.{Daemon}
use Rattle.hsm_types.specs.declared.daemons.Heard.TheVariants as heard
use Rattle.hsm_types.specs.declared.dm.DmCall.{DmCall}
use Rattle.hsm_types.specs.declared.dm.DmReply.{DmReply}
use Rattle.hsm_types.specs.declared.keys.Sid.{Sid}
use Rattle.plain_model.specs.Faults.{fault_of}
use Rattle.plain_model.specs.declared.entries.Action.{Action}
use Rattle.plain_model.specs.declared.entries.Actor.{Actor}
use Rattle.plain_model.specs.declared.entries.Answer.{Answer}
use Rattle.hsm_core.specs.Answers.{entry_of}
use Rattle.hsm_core.specs.Store.{Store}
use Rattle.recall_daemon.specs.Machine as recall
use Rattle.migrate_daemon.specs.Machine as migrate
use Rattle.deeds.specs.Deeds.{Deed, Enters, Hears, Breaks, Loses, StopsNothing}
use Rattle.deeds.specs.Leads.{Situation, nothing_done, Leads}
use Rattle.hsm_system.specs.Awaiting.{awaited_by, awaited_of, heard_of}
use Rattle.hsm_system.specs.Lives.{recalls, migrates, living_of}
use Rattle.hsm_system.specs.Systems.{System}
use Rattle.hsm_system.specs.declared.awaited.Outcome.{Outcome}
use Rattle.hsm_system.specs.declared.stops.Stop.{Stop}
use Rattle.hsm_system.specs.declared.stops.Stop.TheVariants as stop

abbrev pub situation_of : {D : Type 0} → System D → Situation recall.Machine migrate.Machine
situation_of s = record { history = s.store.history; recall = option_map living_of s.recall; migrate = option_map living_of s.migrate }

-- What each call of a system promises: the deeds lead from the one to the other, and the settings stay.
pub record Goes {D : Type 0} (deeds : List Deed) (old new : System D) : Type 0 where
  pub limits : new.limits ≡ old.limits
  pub leads : Leads recalls (migrates old.limits) deeds (situation_of old) (situation_of new)

-- some deeds of that kind do
abbrev pub GoesBy : {D : Type 0} → (List Deed → Type 0) → System D → System D → Type 0
GoesBy IsPart old new = (deeds : List Deed) × IsPart deeds × Goes deeds old new

-- All that was done since no daemon ran, on a store with no entries. What a lock keeps is that there are such deeds.
abbrev pub Holds : {D : Type 0} → List Deed → System D → Type 0
Holds deeds s = Leads recalls (migrates s.limits) deeds nothing_done (situation_of s)

-- ---- how a call ends a run

-- the store works, and did before
abbrev pub StillWorks : {D : Type 0} → Store D → Store D → Type 0
StillWorks old new = (old.files.failed ≡ false) × (new.files.failed ≡ false)

-- it worked before, and a fault has closed it
abbrev pub HasClosed : {D : Type 0} → Store D → Store D → Type 0
HasClosed old new = (old.files.failed ≡ false) × (new.files.failed ≡ true)

-- it was closed before by a fault, and all but the room in its history is left as it is
abbrev pub WasClosed : {D : Type 0} → Store D → Store D → Type 0
WasClosed old new = (old.files.failed ≡ true) × (new ≡ record old { spare = new.spare })

-- An event of the call has stopped the run. Where an entry says that the disk failed in it the one deeds were done, and the store is closed from here on; where
-- there is none the others: over a store that was closed before, or for want of memory over one that works on.
abbrev pub EndsBy : {D : Type 0} → Stop → (told untold : List Deed) → System D → System D → Type 0
EndsBy stop.Disk told untold old new = Goes told old new × HasClosed old.store new.store ⊎ Goes untold old new × WasClosed old.store new.store
EndsBy stop.Memory told untold old new = Goes untold old new × StillWorks old.store new.store

-- ---- the deeds of one call

-- the one entry of such an event, with an answer behind which a run goes on
abbrev pub IsEntry : Actor → Action → List Deed → Type 0
IsEntry actor asked deeds = (given : Answer) × StopsNothing given × (deeds ≡ Enters (entry_of actor asked given) ∷ [])

-- the event; where it stops the run the entry of a fault of the disk, or nothing
pub record EntersBy {D T : Type 0} (actor : Actor) (asked : Action) (result : Result T Stop) (old new : System D) : Type 0 where
  pub done : OnOk result (GoesBy (IsEntry actor asked) old new)
  pub works : OnOk result (StillWorks old.store new.store)
  pub stopped : IfErr result (λ why. EndsBy why (Enters (entry_of actor asked (fault_of asked)) ∷ []) [] old new)

-- the daemon hears the answer to its call
abbrev pub HearsReply : {D : Type 0} → Daemon → Sid → DmCall → System D → System D → Type 0
HearsReply daemon sid call old new = (reply : DmReply) × Goes (Hears daemon (act.Dm sid call) (heard.Dm reply) ∷ []) old new

-- its call has stopped the run: with the entry of a fault of the disk, or with none
abbrev pub EndsIn : {D : Type 0} → Daemon → Sid → DmCall → Stop → System D → System D → Type 0
EndsIn daemon sid call why old new = EndsBy why (Breaks daemon sid call ∷ []) (Loses daemon ∷ []) old new

-- The daemon hears the outcome, of an act that such an outcome comes of; or nothing is done.
abbrev pub HearsOf : Daemon → Outcome → List Deed → Type 0
HearsOf daemon outcome deeds = (deeds ≡ []) ⊎ (asked : Act) × (awaited_of asked ≡ awaited_by outcome) × (deeds ≡ Hears daemon asked (heard_of outcome) ∷ [])

-- The daemon loses what it waits for, or nothing is done.
abbrev pub LosesOf : Daemon → List Deed → Type 0
LosesOf daemon deeds = (deeds ≡ []) ⊎ (deeds ≡ Loses daemon ∷ [])
