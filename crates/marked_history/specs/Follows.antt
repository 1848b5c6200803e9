-- When a marked history is that of a script's lines.
use Rattle.std.specs.Prelude.{◌≡◌, ◌⊎◌, ℕ, List, [], ◌∷◌, ◌++◌}
use Rattle.std.specs.List.{AllByRecursion}
use Rattle.hsm_types.specs.Callers.{IsCallerNumber}
use Rattle.hsm_types.specs.declared.daemons.Daemon.{Daemon}
use Rattle.hsm_types.specs.declared.dm.DmCall.{DmCall}
use Rattle.hsm_types.specs.declared.dm.DmReply.{DmReply}
use Rattle.hsm_types.specs.declared.keys.Sid.{Sid}
use Rattle.plain_model.specs.declared.entries.Action.TheVariants.{Resume}
use Rattle.plain_model.specs.declared.entries.Actor.TheVariants.{Caller}
use Rattle.plain_model.specs.declared.entries.Answer.{Answer}
use Rattle.script_text.specs.declared.lines.Line.{Line}
use Rattle.script_text.specs.declared.lines.Line.TheVariants.{Event, Start, Kill, Step, Settle}
use Rattle.hsm_core.specs.Answers.{entry_of}
use Rattle.marked_history.specs.Marks.{Mark, no_daemons, made}

-- a call that the daemon made
abbrev pub IsMadeBy : Daemon → Mark → Type 0
IsMadeBy daemon m = (sid : Sid) × (call : DmCall) × (reply : DmReply) × (m ≡ made daemon sid call reply)

-- a caller's resume
abbrev pub IsResume : Mark → Type 0
IsResume m = (caller : ℕ) × (answer : Answer) × IsCallerNumber caller × (m ≡ no_daemons (entry_of (Caller caller) Resume answer))

-- a step is at most one call
abbrev pub IsStepOf : Daemon → List Mark → Type 0
IsStepOf daemon marks = (marks ≡ []) ⊎ ((m : Mark) × (marks ≡ m ∷ []) × IsMadeBy daemon m)

-- daemons settle by their calls, and callers by resumes
abbrev pub IsOfSettling : Mark → Type 0
IsOfSettling m = ((daemon : Daemon) × IsMadeBy daemon m) ⊎ IsResume m

-- the entries are those of the line: of an event line one, with its actor and its action
abbrev pub IsPartOf : Line → List Mark → Type 0
IsPartOf (Event actor action seed) marks = (answer : Answer) × (marks ≡ no_daemons (entry_of actor action answer) ∷ [])
IsPartOf (Start daemon) marks = marks ≡ []
IsPartOf (Kill daemon) marks = marks ≡ []
IsPartOf (Step daemon) marks = IsStepOf daemon marks
IsPartOf Settle marks = AllByRecursion IsOfSettling marks

-- The history falls into parts, one for each line, in order.
abbrev pub Follows : List Line → List Mark → Type 0
Follows [] marks = marks ≡ []
Follows (line ∷ lines) marks = (part : List Mark) × ((rest : List Mark) × ((marks ≡ part ++ rest) × IsPartOf line part × Follows lines rest))
