-- On any disk an answer is exact over what is seen of the files. What is left over that is what is left, but for what is held.
use Rattle.std.proofs.Common.{◌≡◌, inl, inr, refl}
use Rattle.hsm_types.specs.declared.stores.Superblock.{Superblock}
use Rattle.plain_model.specs.declared.entries.Action.{Action}
use Rattle.plain_model.specs.declared.entries.Action.TheVariants.{Dm}
use Rattle.plain_model.specs.declared.entries.Actor.{Actor}
use Rattle.plain_model.specs.declared.entries.Actor.TheVariants.{Session}
use Rattle.plain_model.specs.declared.entries.Answer.{Answer}
use Rattle.plain_model.specs.declared.entries.Answer.TheVariants.{Dm as Told}
use Rattle.plain_model.specs.Exact.{IsAnswer, IsAnswerSeen, left_by}
use Rattle.plain_model.specs.Seen.{blanked}
use Rattle.plain_model.specs.Stands.{InOrder}
use Rattle.plain_model.specs.State.{Held, State}
use Rattle.plain_model.proofs.Alike.{left_alike}
use Rattle.plain_model.proofs.Orders.{still_ordered}
use Rattle.hsm_core.specs.Packed.{HandsBy}

-- the state, with what is seen in place of what is held
abbrev pub over : State → Held → State
over st seen = record st { held = seen }

module _ (s : Superblock) (st : State) (who : Actor) (what : Action) (answer : Answer) where
  -- What it is exact over. There all else that it leaves is the same, as the sessions, the rights and the ledger.
  pub record IsOver : Type 0 where
    pub seen : Held
    pub alike : blanked seen ≡ blanked st.held
    pub exact : IsAnswer s (over st seen) who what answer
    pub left : left_by s st who what answer ≡ over (left_by s (over st seen) who what answer) (left_by s st who what answer).held

  pub is_over : IsAnswerSeen ⊥ s st who what answer → IsOver
  is_over (inl is) = record { seen = st.held; alike = refl; exact = inl is; left = refl }
  is_over (inr is) = record { seen = is.0; alike = is.1.alike; exact = inr is.2; left = left_alike s st is.0 is.1.alike who what answer is.2 }

-- what goes by the tables is so there
pub ordered_over : (st : State) (seen : Held) → InOrder st → InOrder (over st seen)
ordered_over st seen ordered = still_ordered st seen st.stamps st.number st.flags ordered

pub hands_over : (st : State) (seen : Held) (who : Actor) (what : Action) (answer : Answer) → HandsBy st who what answer → HandsBy (over st seen) who what answer
hands_over st seen (Session sid) (Dm call) (Told reply) hands = hands
hands_over st seen who what answer hands = tt
