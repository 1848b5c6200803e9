-- Histories whose answers are just those that the store gives, up to a fault of its disk.
use Rattle.std.specs.Prelude.{ℕ, ◌≡◌, ◌⊎◌, List, [], ◌∷◌, if◌then◌else◌}
use Rattle.hsm_types.specs.declared.stores.Superblock.{Superblock}
use Rattle.hsm_types.specs.declared.calls.Reply.TheVariants.{Done}
use Rattle.hsm_types.specs.declared.dm.DmCall.{DmCall}
use Rattle.hsm_types.specs.declared.dm.DmReply.{DmReply}
use Rattle.hsm_types.specs.declared.dm.DmReply.TheVariants as told
use Rattle.hsm_types.specs.declared.keys.Sid.{Sid}
use Rattle.plain_model.specs.declared.entries.Entry.{Entry}
use Rattle.plain_model.specs.declared.entries.Actor.{Actor}
use Rattle.plain_model.specs.declared.entries.Actor.TheVariants.{Caller, Session}
use Rattle.plain_model.specs.declared.entries.Action.{Action}
use Rattle.plain_model.specs.declared.entries.Action.TheVariants.{Issue, Resume, Dm}
use Rattle.plain_model.specs.declared.entries.Answer.{Answer}
use Rattle.plain_model.specs.declared.entries.Answer.TheVariants.{Call as Replied, Dm as Told}
use Rattle.plain_model.specs.Faults.{is_fault, Acts, IsFault, FaultIsLast}
use Rattle.plain_model.specs.Effects.{change_of}
use Rattle.plain_model.specs.Ledger.{ledger_told}
use Rattle.plain_model.specs.Seen.{IsOfSeen}
use Rattle.plain_model.specs.State.{Held, State, just_opened, noted, changed}
use Rattle.plain_model.specs.Verdict.{reply_to, state_after}
use Rattle.plain_model.specs.Services.{dm_reply_to, dm_state_after}

-- the store's own answer to an event, and what it leaves of the store. To a commit it is done
abbrev pub answer_to : Superblock → State → Actor → Action → Answer
answer_to s st (Caller c) (Issue call) = Replied (reply_to s st c (Issue call))
answer_to s st (Caller c) Resume = Replied (reply_to s st c Resume)
answer_to s st (Session sid) (Dm call) = Told (dm_reply_to s st sid call)
answer_to s st actor action = Replied Done

abbrev pub left_own : Superblock → State → Actor → Action → State
left_own s st (Caller c) (Issue call) = state_after s st c (Issue call)
left_own s st (Caller c) Resume = state_after s st c Resume
left_own s st (Session sid) (Dm call) = dm_state_after s st sid call
left_own s st actor action = noted st

-- What a session's call leaves that was told this: its change, where it wasn't refused
abbrev pub left_told : State → Sid → DmCall → DmReply → State
left_told st sid call (told.Refused why) = noted st
left_told st sid call reply = record (noted (changed (change_of sid call) st)) { ledger = ledger_told st.ledger call reply }

-- What an event leaves that was answered so, for no fault. Bytes decide of a seal alone whether it is refused; so it goes by what was told
abbrev pub left_answered : Superblock → State → Actor → Action → Answer → State
left_answered s st (Session sid) (Dm call) (Told reply) = left_told st sid call reply
left_answered s st actor action answer = left_own s st actor action

abbrev pub IsOwn : Superblock → State → Actor → Action → Answer → Type 0
IsOwn s st actor action answer = Acts actor action × (answer ≡ answer_to s st actor action)

-- the answer to an event is for a fault, or the store's own
abbrev pub IsAnswer : Superblock → State → Actor → Action → Answer → Type 0
IsAnswer s st actor action answer = IsFault actor action answer ⊎ IsOwn s st actor action answer

-- the store after the event. A fault changes nothing
abbrev pub left_by : Superblock → State → Actor → Action → Answer → State
left_by s st actor action answer = if is_fault answer then noted st else left_answered s st actor action answer

-- each answer is the one that the store gives over what the entries before it left, and a fault is the last one
abbrev pub Exact : Superblock → State → List Entry → Type 0
Exact s st [] = Unit {0}
Exact s st (e ∷ es) = IsAnswer s st e.actor e.action e.answer × FaultIsLast e es × Exact s (left_by s st e.actor e.action e.answer) es

-- ---- where the disk may not give back what was written

-- the answer is the one that the store gives over what is seen of its files
abbrev pub IsOwnSeen : Type 0 → Superblock → State → Actor → Action → Answer → Type 0
IsOwnSeen Tells s st actor action answer = IsOfSeen Tells st.held (λ seen. IsOwn s (record st { held = seen }) actor action answer)

abbrev pub IsAnswerSeen : Type 0 → Superblock → State → Actor → Action → Answer → Type 0
IsAnswerSeen Tells s st actor action answer = IsFault actor action answer ⊎ IsOwnSeen Tells s st actor action answer

-- each answer is such over what the entries before it left, and a fault is the last one
abbrev pub ExactSeen : Type 0 → Superblock → State → List Entry → Type 0
ExactSeen Tells s st [] = Unit {0}
ExactSeen Tells s st (e ∷ es) = IsAnswerSeen Tells s st e.actor e.action e.answer × FaultIsLast e es × ExactSeen Tells s (left_by s st e.actor e.action e.answer) es

-- ---- what they leave

-- the store after all the entries
abbrev pub state_by : Superblock → State → List Entry → State
state_by s st [] = st
state_by s st (e ∷ es) = state_by s (left_by s st e.actor e.action e.answer) es

-- what it holds after them, from what it held when it was opened under that number
abbrev pub held_by : Superblock → ℕ → Held → List Entry → Held
held_by s base h es = (state_by s (just_opened base h) es).held
