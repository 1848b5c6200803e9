-- What follows of the history: a script's lines over entries alone, and what deeds that follow lines are without.
use Rattle.std.specs.Prelude.{◌≡◌, ◌⊎◌, ℕ, List, [], ◌∷◌, ◌++◌, All, Bool, IfSome}
use Rattle.hsm_types.specs.Callers.{IsCallerNumber}
use Rattle.hsm_types.specs.declared.dm.DmCall.{DmCall}
use Rattle.hsm_types.specs.declared.dm.DmReply.{DmReply}
use Rattle.hsm_types.specs.declared.keys.Sid.{Sid}
use Rattle.plain_model.specs.declared.entries.Action.TheVariants as action
use Rattle.plain_model.specs.declared.entries.Actor.TheVariants.{Caller, Session}
use Rattle.plain_model.specs.declared.entries.Answer.{Answer}
use Rattle.plain_model.specs.declared.entries.Answer.TheVariants as answer
use Rattle.plain_model.specs.declared.entries.Entry.{Entry}
use Rattle.script_text.specs.declared.lines.Line.{Line}
use Rattle.script_text.specs.declared.lines.Line.TheVariants.{Event, Start, Kill, Step, Settle}
use Rattle.deeds.specs.Deeds.{entry_of, Deed, Enters, Hears, Breaks, Loses, call_told, entries_of, StopsNothing}
use Rattle.deeds.specs.Given.{Given}
use Rattle.hsm_replay.specs.Parts as parts

-- ---- entries

-- a session's call
abbrev pub IsDm : Entry → Type 0
IsDm e = (sid : Sid) × (call : DmCall) × (reply : DmReply) × (e ≡ entry_of (Session sid) (action.Dm call) (answer.Dm reply))

-- a caller's resume
abbrev pub IsResume : Entry → Type 0
IsResume e = (caller : ℕ) × (told : Answer) × IsCallerNumber caller × (e ≡ entry_of (Caller caller) action.Resume told)

abbrev pub IsOfSettling : Entry → Type 0
IsOfSettling e = IsResume e ⊎ IsDm e

-- the entries of the line
abbrev pub IsPartOf : Line → List Entry → Type 0
IsPartOf (Event actor asked seed) es = (told : Answer) × (es ≡ entry_of actor asked told ∷ [])
IsPartOf (Start daemon) es = es ≡ []
IsPartOf (Kill daemon) es = es ≡ []
IsPartOf (Step daemon) es = (es ≡ []) ⊎ ((e : Entry) × (es ≡ e ∷ []) × IsDm e)
IsPartOf Settle es = All IsOfSettling es

-- The history falls into parts, one for each line, in order.
abbrev pub Follows : List Line → List Entry → Type 0
Follows [] es = es ≡ []
Follows (line ∷ lines) es = (part : List Entry) × (rest : List Entry) × (es ≡ part ++ rest) × IsPartOf line part × Follows lines rest

-- it does where the deeds follow the lines
abbrev pub FollowsSo : (Entry → Bool) → (List Entry → ℕ → Type 0) → List Line → List Deed → Type 0
FollowsSo quiet MayGoOn lines deeds = (given : Given) → parts.Follows quiet MayGoOn given lines deeds → Follows lines (entries_of deeds)

-- ---- what lines are without

-- each entry of it is one behind which a run goes on, no call is broken, and nothing that a daemon was to hear is lost
abbrev pub IsWhole : Deed → Type 0
IsWhole (Enters e) = StopsNothing e.answer
IsWhole (Hears daemon asked told) = IfSome (call_told asked told) (λ (e : Entry). StopsNothing e.answer)
IsWhole (Breaks daemon sid call) = ⊥
IsWhole (Loses daemon) = ⊥
IsWhole deed = Unit {0}

abbrev pub FollowsWhole : (Entry → Bool) → (List Entry → ℕ → Type 0) → List Line → List Deed → Type 0
FollowsWhole quiet MayGoOn lines deeds = (given : Given) → parts.Follows quiet MayGoOn given lines deeds → All IsWhole deeds
