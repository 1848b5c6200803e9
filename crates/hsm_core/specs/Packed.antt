-- When a history hands out messages as the rules say.
use Rattle.std.specs.Prelude.{List, [], ◌∷◌}
use Rattle.hsm_types.specs.declared.stores.Superblock.{Superblock}
use Rattle.plain_model.specs.declared.entries.Entry.{Entry}
use Rattle.plain_model.specs.declared.entries.Actor.{Actor}
use Rattle.plain_model.specs.declared.entries.Actor.TheVariants.{Session}
use Rattle.plain_model.specs.declared.entries.Action.{Action}
use Rattle.plain_model.specs.declared.entries.Action.TheVariants.{Dm}
use Rattle.plain_model.specs.declared.entries.Answer.{Answer}
use Rattle.plain_model.specs.declared.entries.Answer.TheVariants.{Dm as Told}
use Rattle.plain_model.specs.State.{State}
use Rattle.plain_model.specs.Exact.{left_by}
use Rattle.dm_service.specs.Handing.{HandsOut}

-- what a session is told of messages is of those that it has
abbrev pub HandsBy : State → Actor → Action → Answer → Type 0
HandsBy st (Session sid) (Dm call) (Told reply) = HandsOut st.sessions sid call reply
HandsBy st actor action answer = Unit {0}

-- each buffer of the history is that of its messages, which are those of the sessions as they were before its entry
abbrev pub ArePacked : Superblock → State → List Entry → Type 0
ArePacked s st [] = Unit {0}
ArePacked s st (e ∷ es) = HandsBy st e.actor e.action e.answer × ArePacked s (left_by s st e.actor e.action e.answer) es
