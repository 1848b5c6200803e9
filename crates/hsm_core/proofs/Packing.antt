-- Buffers stay packed in each event of a store.
use Rattle.std.proofs.Common.{◌≡◌, ◌++◌, [], ◌∷◌, List, inl, inr, refl, ap, subst}
use Rattle.disk_model.specs.declared.device.Disk as disk
use Rattle.hsm_types.specs.declared.dm.DmRefusal.TheVariants as dm
use Rattle.hsm_types.specs.declared.dm.DmReply.TheVariants.{Refused}
use Rattle.hsm_types.specs.declared.stores.Superblock.{Superblock}
use Rattle.plain_model.specs.declared.entries.Action.{Action}
use Rattle.plain_model.specs.declared.entries.Action.TheVariants.{Dm}
use Rattle.plain_model.specs.declared.entries.Actor.{Actor}
use Rattle.plain_model.specs.declared.entries.Actor.TheVariants.{Session}
use Rattle.plain_model.specs.declared.entries.Answer.{Answer}
use Rattle.plain_model.specs.declared.entries.Entry.{Entry}
use Rattle.plain_model.specs.Faults.{fault_of}
use Rattle.plain_model.specs.State.{State, just_opened}
use Rattle.plain_model.specs.Exact.{left_by, state_by}
use Rattle.file_store.specs.Stores.{superblock_of}
use Rattle.hsm_core.specs.Answers.{entry_of, IsAnswer}
use Rattle.hsm_core.specs.Packed.{HandsBy, ArePacked}
use Rattle.hsm_core.specs.Store.{Store, state_of, HasRun}
use Rattle.hsm_core.proofs.HandedOut.{unhanded_refused}

-- a history without entries has no buffers
pub none_packed : (s : Superblock) (st : State) (es : List Entry) → es ≡ [] → ArePacked s st es
none_packed s st es none = rw none tt

-- what is so of a history is so of each beginning
pub packed_first : (s : Superblock) (st : State) (first rest : List Entry) → ArePacked s st (first ++ rest) → ArePacked s st first
packed_first s st [] rest packed = tt
packed_first s st (e ∷ first) rest packed = (packed.0, packed_first s (left_by s st e.actor e.action e.answer) first rest packed.1)

packed_push : (s : Superblock) (st : State) (es : List Entry) (e : Entry) → ArePacked s st es → HandsBy (state_by s st es) e.actor e.action e.answer → ArePacked s st (es ++ e ∷ [])
packed_push s st [] e packed last = (last, tt)
packed_push s st (x ∷ es) e packed last = (packed.0, packed_push s (left_by s st x.actor x.action x.answer) es e packed.1 last)

-- an answer for a fault hands out nothing
fault_hands : (st : State) (actor : Actor) (action : Action) → HandsBy st actor action (fault_of action)
fault_hands st (Session sid) (Dm call) = unhanded_refused st.sessions sid call dm.Disk (Refused dm.Disk) refl
fault_hands st actor action = tt

module _ {D : Type 0} (g : disk.Ghosts D) (old new : Store D) where
  abbrev first : State
  first = just_opened old.opened.meta.number old.opened.held

  abbrev Packed : Store D → Type 0
  Packed s = ArePacked (superblock_of s.opened) (just_opened s.opened.meta.number s.opened.held) s.history

  same_packed : new.opened ≡ old.opened → new.history ≡ old.history → Packed old → Packed new
  same_packed opened history packed = rw (opened, history) packed

  more_packed : (e : Entry) → new.opened ≡ old.opened → new.history ≡ old.history ++ e ∷ [] → Packed old → HandsBy (state_by (superblock_of old.opened) first old.history) e.actor e.action e.answer → Packed new
  more_packed e opened history packed last = rw (opened, history) (packed_push (superblock_of old.opened) first old.history e packed last)

  -- an event that hands out as the rules say
  pub still_packed : (actor : Actor) (action : Action) (given : Answer) → HasRun g old → HandsBy (state_of old) actor action given → IsAnswer g old actor action given new → Packed old → Packed new
  still_packed actor action given has hands (inl closed) packed = same_packed (ap (λ (s : Store D). s.opened) closed.same) (ap (λ (s : Store D). s.history) closed.same) packed
  still_packed actor action given has hands (inr (inl lacks)) packed = same_packed lacks.goes.opened lacks.history packed
  still_packed actor action given has hands (inr (inr (inl failed))) packed =
      more_packed (entry_of actor action (fault_of action)) failed.goes.opened failed.history packed (fault_hands (state_by (superblock_of old.opened) first old.history) actor action)
  still_packed actor action given has hands (inr (inr (inr done))) packed =
      more_packed (entry_of actor action given) done.goes.opened done.history packed (subst (λ (st : State). HandsBy st actor action given) (has.state done.goes.working) hands)
