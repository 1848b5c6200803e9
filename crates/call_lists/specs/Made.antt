-- Which calls each caller has made.
use Rattle.std.specs.Prelude.{ℕ, ◌≡◌, ◌==◌, Bool, true, false, List, [], ◌∷◌, ◌++◌, Option, Some, None, if◌then◌else◌}
use Rattle.std.specs.List.{filter_map, cons_option}
use Rattle.hsm_types.specs.declared.calls.Call.{Call}
use Rattle.plain_model.specs.declared.entries.Action.{Action}
use Rattle.plain_model.specs.declared.entries.Action.TheVariants.{Issue}
use Rattle.plain_model.specs.declared.entries.Answer.{Answer}
use Rattle.plain_model.specs.declared.entries.Answer.TheVariants.{Call as Replied}
use Rattle.plain_model.specs.declared.entries.Entry.{Entry}
use Rattle.plain_model.specs.Own.{is_caller, own}
use Rattle.plain_model.specs.PlainFold.{is_waiting}
use Rattle.call_lists.specs.Lines.{left_of}
use Rattle.call_lists.specs.declared.lists.CallList.{CallList}

-- ---- by the history

-- a call is made where it isn't refused since another one of its caller waits
abbrev pub call_made : Action → Answer → Option Call
call_made (Issue call) (Replied reply) = if is_waiting reply then None else Some call
call_made action answer = None

abbrev pub call_in : Entry → Option Call
call_in e = call_made e.action e.answer

-- the calls that the caller has made, in their order
abbrev pub calls_of : ℕ → List Entry → List Call
calls_of c es = filter_map call_in (own c es)

-- one entry more adds its call to those of its caller, and leaves those of each other caller
abbrev pub CallsGrow : ℕ → List Entry → Entry → Type 0
CallsGrow c es e = calls_of c (es ++ e ∷ []) ≡ calls_of c es ++ (if is_caller c e.actor then cons_option (call_in e) [] else [])

-- ---- by the lists

-- a call that was taken off the list of its caller and isn't in the history: that at which a run was stopped
pub record Lost : Type 0 where
  pub caller : ℕ
  pub call : Call

abbrev pub lost_by : ℕ → Option Lost → List Call
lost_by c None = []
lost_by c (Some l) = if l.caller == c then l.call ∷ [] else []

-- Each caller has made its lines up to a place, in order and each once, and what is left is behind that. Only a run that was stopped has lost a call, and
-- only one: of its caller it stands at that place.
pub record AreMade (stopped : Bool) (lines : ℕ → List Call) (left : List CallList) (history : List Entry) : Type 0 where
  pub lost : Option Lost
  pub parted : (c : ℕ) → lines c ≡ calls_of c history ++ (lost_by c lost ++ left_of left c)
  pub none : stopped ≡ false → lost ≡ None
